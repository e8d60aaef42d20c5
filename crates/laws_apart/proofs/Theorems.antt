-- Requests that share no table, in either order: docs/RULES.md, "Requests that share no table", for every set, store and pair of requests as received. Assumes nothing.
use Rattle.lists.proofs.Kit.{ℕ, suc, zero, ◌≡◌, refl, sym, ap, ◌∙◌, subst, subst⁻¹, ◌⊎◌, inl, inr, ◌↔◌, Bool, true, false, List, [], ◌∷◌, some, option_some_injective, length, eqb, eqb-true, eqb-false}
use Rattle.writing.specs.declared.Coding.{Coding}
use Rattle.writing.specs.declared.Kind.TheVariants.{Last}
use Rattle.writing.specs.Carrier.{Request}
use Rattle.writing.specs.Settings.{Setting}
use Rattle.read_carrier.proofs.KindLaws.{request_opens}
use Rattle.tables.specs.declared.limits.Limits.{Limits}
use Rattle.tables.specs.Apply.{apply, in_turn}
use Rattle.tables.specs.Forms.{layout}
use Rattle.tables.specs.Store.{StoreOf, Holds}
use Rattle.tables.specs.Tables.{Tables, no_hash}
use Rattle.tables.proofs.AllowedLaws.{forget_allowed}
use Rattle.tables.proofs.Owns.{first, untouched_stays}
use Rattle.shared_texts.proofs.Forms.{layout_one}
use Rattle.requests.specs.Requests.{forget}
use Rattle.station.specs.Taking.{AfterTaking}
use Rattle.laws_taking.specs.Demands.{InTurn, Passes}
use Rattle.laws_taking.proofs.Judging.{any_buffer}
use Rattle.laws_taking.proofs.Theorems.{answered_0, store_stays, store_kept, taken_exactly}
use Rattle.laws_joining.specs.Sending.{Sent}
use Rattle.laws_joining.proofs.OneRequest.{in_turn_of, nothing_kept, request_of, taken_in_turn}
use Rattle.laws_apart.specs.Apart.{Apart, WithoutLast, SumAside}
use Rattle.laws_apart.proofs.Moved.{apart_back, all_textless, sum_kept, Spare, same_sum, no_texts, no_sum, room_after, room_before, same_end}

-- ---- one request

module _ (lim : Limits) where
  -- settings in range with room on other tables are taken in turn there
  ranged : (n : ℕ) (t u t' u' : Tables) (l : List Setting) → InTurn lim n t l u → in_turn (apply lim) l t' ≡ some u' → InTurn lim n t' l u'
  ranged n t u t' u' [] z e = option_some_injective t' u' e
  ranged zero t u t' u' (s ∷ l) z e = absurd z
  ranged (suc n) t u t' u' (s ∷ l) (i, v, a, z) e =
      let (v', a', b') = first lim s l t' u' e in
      (i, v', a', ranged n v u v' u' l z b')

  -- settings without FF keep no hash
  no_hash_after : (l : List Setting) (t u : Tables) → WithoutLast l → in_turn (apply lim) l (forget t) ≡ some u → u.hash ≡ no_hash
  no_hash_after l t u h e = untouched_stays lim l (forget t) u Last e h

  module _ {c : Coding} {l : List Setting} {message : List ℕ} (r : Request c l message) where
    -- a request that was taken somewhere is taken wherever its settings have room
    taken_there : {store store' : List ℕ} {x y : AfterTaking} → StoreOf lim store' → Sent lim message store x → x.answer.number ≡ 0 → Sent lim message store' y
        → (t u : Tables) → Holds lim t store' → in_turn (apply lim) l (forget t) ≡ some u → y.answer.number ≡ 0
    taken_there {store} {store'} {x} {y} k s n s' t u h e =
        let (_, sized, _) = answered_0 lim message store s.reply x s.comes_to n in
        let (w, v, _, z, _) = taken_in_turn lim r s n in
        let p : Passes c lim message store' s'.reply t r.data_bytes
        = record { buffer = s'.long; store_is = k; holds = h; in_size = sized; opens = request_opens (request_of r) } in
        (taken_exactly c lim message store' s'.reply s'.bytes t r.data_bytes p y s'.comes_to).1
        (l, u, r.written, ranged (length l) (forget w) v (forget t) u l z e)

-- a message to one store is answered alike, whatever the reply buffer holds
same_number : (lim : Limits) {message store : List ℕ} {x y : AfterTaking} → Sent lim message store x → Sent lim message store y → x.answer.number ≡ y.answer.number
same_number lim {message} {store} {x} {y} s s' =
    ap (λ a. a.number) (any_buffer lim message store s.reply s'.reply s.long s'.long x y s.comes_to s'.comes_to).answer

-- ---- two requests

module _ (lim : Limits) {c c' : Coding} {a b : List Setting} {one two : List ℕ} (f : Request c a one) (g : Request c' b two) (plain : WithoutLast a) (plain' : WithoutLast b) (apart : Apart a b) {store : List ℕ} where
  -- EITHER ORDER: "where both orders are taken, they end in the same store"; no hash is kept either way
  pub either_order : {x y x' y' : AfterTaking} → Sent lim one store x → Sent lim two x.store y → Sent lim two store x' → Sent lim one x'.store y'
      → x.answer.number ≡ 0 → y.answer.number ≡ 0 → x'.answer.number ≡ 0 → y'.answer.number ≡ 0
      → (y.store ≡ y'.store) × (v : Tables) × Holds lim v y.store × (v.hash ≡ no_hash)
  either_order s q s' q' n m n' m' =
      let (t, u, h, z, k) = taken_in_turn lim f s n in
      let (u₁, v, k₁, y, j) = taken_in_turn lim g q m in
      let (t', u', h', z', k') = taken_in_turn lim g s' n' in
      let (u₂, v', k₂, y', j') = taken_in_turn lim f q' m' in
      let start : t' ≡ t = layout_one lim t' t h'.0 h.0 (sym h'.1 ∙ h.1) in
      let middle : u₁ ≡ u = layout_one lim u₁ u k₁.0 k.0 (sym k₁.1 ∙ k.1) in
      let middle' : u₂ ≡ u' = layout_one lim u₂ u' k₂.0 k'.0 (sym k₂.1 ∙ k'.1) in
      let p : in_turn (apply lim) a (forget t) ≡ some u = in_turn_of lim (length a) (forget t) u a z in
      let p' : in_turn (apply lim) b (forget t) ≡ some u' = subst (λ (x : Tables). in_turn (apply lim) b (forget x) ≡ some u') start (in_turn_of lim (length b) (forget t') u' b z') in
      let kept : forget u ≡ u = nothing_kept u (no_hash_after lim a t u plain p) in
      let kept' : forget u' ≡ u' = nothing_kept u' (no_hash_after lim b t u' plain' p') in
      let d : in_turn (apply lim) b (forget u) ≡ some v = subst (λ (x : Tables). in_turn (apply lim) b (forget x) ≡ some v) middle (in_turn_of lim (length b) (forget u₁) v b y) in
      let d' : in_turn (apply lim) a (forget u') ≡ some v' = subst (λ (x : Tables). in_turn (apply lim) a (forget x) ≡ some v') middle' (in_turn_of lim (length a) (forget u₂) v' a y') in
      let same : v ≡ v' = same_end lim a b (forget t) u v u' v' apart p (subst (λ (x : Tables). in_turn (apply lim) b x ≡ some v) kept d)
      p' (subst (λ (x : Tables). in_turn (apply lim) a x ≡ some v') kept' d') in
      (j.1 ∙ ap (layout lim) same ∙ sym j'.1, v, j, no_hash_after lim b u v plain' d)

module _ (lim : Limits) {c c' : Coding} {a b : List Setting} {one two : List ℕ} (f : Request c a one) (g : Request c' b two) (plain' : WithoutLast b) (apart : Apart a b)
    (free : SumAside lim a b) {store : List ℕ} (is_Is_store : StoreOf lim store) {x y z : AfterTaking} (s : Sent lim one store x) (q : Sent lim two store y) (r : Sent lim one y.store z) where
  -- the second was taken: from its tables to those after it, and back
  module _ (n : y.answer.number ≡ 0) where
    -- the tables of the store, and those after the second
    abbrev run : (t : Tables) × (u : Tables) × Holds lim t store × InTurn lim (length b) (forget t) b u × Holds lim u y.store
    run = taken_in_turn lim g q n

    abbrev t : Tables
    t = run.0

    abbrev u : Tables
    u = run.1

    turn : in_turn (apply lim) b (forget t) ≡ some u
    turn = in_turn_of lim (length b) (forget t) u b run.3

    kept : forget u ≡ u
    kept = nothing_kept u (no_hash_after lim b t u plain' turn)

    there : Spare lim a (forget t) u
    there = by free
      where
        by : SumAside lim a b → Spare lim a (forget t) u
        by (inl h) = no_texts (all_textless a h) run.4.0.texts
        by (inr (inl h)) = same_sum (sym (sum_kept lim b (forget t) u (all_textless b h) turn))
        by (inr (inr h)) = no_sum h

    here : Spare lim a u (forget t)
    here = by free
      where
        by : SumAside lim a b → Spare lim a u (forget t)
        by (inl h) = no_texts (all_textless a h) (forget_allowed lim t run.2.0).texts
        by (inr (inl h)) = same_sum (sum_kept lim b (forget t) u (all_textless b h) turn)
        by (inr (inr h)) = no_sum h

    after : x.answer.number ≡ 0 → z.answer.number ≡ 0
    after e =
        let (w, v, h, k, _) = taken_in_turn lim f s e in
        let same : w ≡ t = layout_one lim w t h.0 run.2.0 (sym h.1 ∙ run.2.1) in
        let p : in_turn (apply lim) a (forget t) ≡ some v = subst (λ (i : Tables). in_turn (apply lim) a (forget i) ≡ some v) same (in_turn_of lim (length a) (forget w) v a k) in
        let (v', d) = room_after lim a b apart (forget t) u turn there p in
        taken_there lim f (store_kept lim two store q.reply is_Is_store y q.comes_to) s e r u v' run.4 (subst⁻¹ (λ (i : Tables). in_turn (apply lim) a i ≡ some v') kept d)

    before : z.answer.number ≡ 0 → x.answer.number ≡ 0
    before e =
        let (w, v, h, k, _) = taken_in_turn lim f r e in
        let same : w ≡ u = layout_one lim w u h.0 run.4.0 (sym h.1 ∙ run.4.1) in
        let p : in_turn (apply lim) a (forget u) ≡ some v = subst (λ (i : Tables). in_turn (apply lim) a (forget i) ≡ some v) same (in_turn_of lim (length a) (forget w) v a k) in
        let (v', d) = room_before lim a b apart (forget t) u turn here (subst (λ (i : Tables). in_turn (apply lim) a i ≡ some v) kept p) in
        taken_there lim f is_Is_store r e s t v' run.2 d

  -- the first is taken after the second exactly if it is taken before it, whether the second was taken or not
  one_of_them : (x.answer.number ≡ 0) ↔ (z.answer.number ≡ 0)
  one_of_them = by (eqb y.answer.number 0) refl
    where
      by : (d : Bool) → eqb y.answer.number 0 ≡ d → (x.answer.number ≡ 0) ↔ (z.answer.number ≡ 0)
      by true e = (after (eqb-true y.answer.number 0 e), before (eqb-true y.answer.number 0 e))
      by false e =
          let stays : y.store ≡ store = store_stays lim two store q.reply y q.comes_to (eqb-false y.answer.number 0 e) in
          let same : x.answer.number ≡ z.answer.number = same_number lim s (subst (λ (i : List ℕ). Sent lim one i z) stays r) in
          (λ h. sym same ∙ h, λ h. same ∙ h)

-- TAKEN BEFORE, AFTER: "either is taken after the other exactly if it is taken before it": both of tables without texts, or one of them, or, where no sum binds, any; x and y are what the
-- requests come to on the store, z what the first comes to after the second, and w the second after the first
pub taken_before_after : (lim : Limits) {c c' : Coding} {a b : List Setting} {one two : List ℕ} → Request c a one → Request c' b two → WithoutLast a → WithoutLast b → Apart a b → SumAside lim a b
    → {store : List ℕ} → StoreOf lim store → {x y z w : AfterTaking} → Sent lim one store x → Sent lim two store y → Sent lim one y.store z → Sent lim two x.store w
    → ((x.answer.number ≡ 0) ↔ (z.answer.number ≡ 0)) × ((y.answer.number ≡ 0) ↔ (w.answer.number ≡ 0))
taken_before_after lim {a = a} {b = b} f g plain plain' apart free is_Is_store s q r p =
    (one_of_them lim f g plain' apart free is_Is_store s q r, one_of_them lim g f plain (apart_back a b apart) (other free) is_Is_store q s p)
  where
    other : SumAside lim a b → SumAside lim b a
    other (inl h) = inr (inl h)
    other (inr (inl h)) = inl h
    other (inr (inr h)) = inr (inr h)
