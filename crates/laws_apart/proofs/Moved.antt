-- Settings on other tables than their own: where they have room on one set of tables, they have it on another. Assumes nothing.
use Rattle.lists.proofs.Kit.{ℕ, ◌+◌, ◌-◌, ◌≡◌, refl, sym, ap, ◌∙◌, subst, subst⁻¹, Bool, true, false, ◌||◌, true≢false, List, [], ◌∷◌, Option, some, option_some_injective, arith}
use borrow.Author.Tests.{eq-eqb}
use Rattle.lists.specs.Every.{All}
use Rattle.lists.proofs.Every.{all_turn}
use Rattle.writing.specs.declared.Kind.{Kind}
use Rattle.writing.specs.declared.Kind.TheVariants.{GroupContacts, IndividualContacts, Lines, Key, QuickTexts, Home, Channels, System, StatusTexts, Group, Individual, LineSlot, Last}
use Rattle.writing.specs.Settings.{Setting, kind}
use Rattle.writing.specs.Writing.{type_byte}
use Rattle.tables.specs.declared.limits.Limits.{Limits}
use Rattle.tables.specs.declared.limits.Texts.{Texts}
use Rattle.tables.specs.declared.limits.Texts.TheVariants.{Placed}
use Rattle.tables.specs.Apply.{and_then, in_turn, with_room, own_after, change, apply}
use Rattle.tables.specs.Owns.{Own, own, put_own, only, touches, Agree}
use Rattle.tables.specs.Tables.{Tables}
use Rattle.tables.specs.Texts.{text_sum, text_size, TextRoom}
use Rattle.tables.proofs.Owns.{alike, own_put, first, untouched_stays, local}
use Rattle.tables.proofs.RoomSentences.{came, apply_change}
use Rattle.shared_texts.proofs.RoomLaws.{apply_exactly, freed, sum_changed}
use Rattle.laws_apart.specs.Apart.{Apart, textless, Textless}

-- ---- which tables

or_right : (a b : Bool) → b ≡ true → (a || b) ≡ true
or_right true b e = refl
or_right false b e = e

-- every setting touches its own table
all_touch : (l : List Setting) → All (λ s. touches l (kind s) ≡ true) l
all_touch [] = tt
all_touch (s ∷ l) = (
  ap (λ (c : Bool). c || touches l (kind s)) (eq-eqb (type_byte (kind s)) (type_byte (kind s)) refl),
  all_turn (λ r. touches l (kind r) ≡ true) (λ r. touches (s ∷ l) (kind r) ≡ true) (λ r h. or_right (only (kind s) (kind r)) (touches l (kind r)) h) l (all_touch l),
)

-- APART BACK: sharing no table goes both ways
pub apart_back : (a b : List Setting) → Apart a b → Apart b a
apart_back a b apart k h = by (touches a k) refl
  where
    by : (c : Bool) → touches a k ≡ c → touches a k ≡ false
    by false e = e
    by true e = absurd (true≢false (sym h ∙ apart k e))

-- ---- tables without texts

-- they take no bytes
no_size : (k : Kind) (x : Own k) → textless k ≡ true → text_size k x ≡ 0
no_size GroupContacts x e = absurd (true≢false (sym e))
no_size IndividualContacts x e = absurd (true≢false (sym e))
no_size Lines x e = absurd (true≢false (sym e))
no_size Key x e = refl
no_size QuickTexts x e = absurd (true≢false (sym e))
no_size Home x e = refl
no_size Channels x e = refl
no_size System x e = refl
no_size StatusTexts x e = absurd (true≢false (sym e))
no_size Group x e = absurd (true≢false (sym e))
no_size Individual x e = absurd (true≢false (sym e))
no_size LineSlot x e = absurd (true≢false (sym e))
no_size Last x e = refl

-- so a setting of such a table leaves the sum
pub all_textless : (l : List Setting) → Textless l → All (λ s. textless (kind s) ≡ true) l
all_textless l h = all_turn (λ s. touches l (kind s) ≡ true) (λ s. textless (kind s) ≡ true) (λ s e. h (kind s) e) l (all_touch l)

module _ (lim : Limits) where
  same_sum_step : (s : Setting) (t u : Tables) → textless (kind s) ≡ true → change lim s t ≡ some u → text_sum u ≡ text_sum t
  same_sum_step s t u h e =
      let a : text_size (kind s) (own (kind s) t) ≡ 0 = no_size (kind s) (own (kind s) t) h in
      let b : text_size (kind s) (own (kind s) u) ≡ 0 = no_size (kind s) (own (kind s) u) h in
      let c : text_sum u ≡ text_sum t - text_size (kind s) (own (kind s) t) + text_size (kind s) (own (kind s) u) = sum_changed lim s t u e in
      omega (arith, a, b, c)

  -- SUM KEPT: and so do such settings in turn
  pub sum_kept : (l : List Setting) (t u : Tables) → All (λ s. textless (kind s) ≡ true) l → in_turn (apply lim) l t ≡ some u → text_sum u ≡ text_sum t
  sum_kept [] t u h e = ap text_sum (sym (option_some_injective t u e))
  sum_kept (s ∷ l) t u h e =
      let (v, a, b) = first lim s l t u e in
      sum_kept l v u h.1 b ∙ same_sum_step s t v h.0 (apply_change lim s t v a)

  -- ---- room on other tables

  -- why texts have room on the others: their sum is the same, or these settings have no texts and the others' had room, or no sum binds
  pub data Spare (l : List Setting) (t t' : Tables) : Type 0 where
    same_sum : text_sum t ≡ text_sum t' → Spare l t t'
    no_texts : All (λ s. textless (kind s) ≡ true) l → TextRoom lim.texts (text_sum t') → Spare l t t'
    no_sum : lim.texts ≡ Placed → Spare l t t'

  module _ (s : Setting) (l : List Setting) (t t' u : Tables) (same : own (kind s) t ≡ own (kind s) t') (e : apply lim s t ≡ some u) where
    -- what it makes of its table there, it makes of it here
    abbrev made : (a : Own (kind s)) × (own_after lim s (own (kind s) t) ≡ some a) × (put_own (kind s) t a ≡ u)
    made = came (put_own (kind s) t) (own_after lim s (own (kind s) t)) u (apply_change lim s t u e)

    abbrev u' : Tables
    u' = put_own (kind s) t' made.0

    changed : change lim s t' ≡ some u'
    changed = ap (with_room (put_own (kind s) t')) (ap (own_after lim s) (sym same) ∙ made.1)

    own_same : own (kind s) u ≡ own (kind s) u'
    own_same = sym (ap (own (kind s)) made.2) ∙ own_put (kind s) t made.0 ∙ sym (own_put (kind s) t' made.0)

    sums : text_sum t ≡ text_sum t' → text_sum u ≡ text_sum u'
    sums h =
        let a : text_size (kind s) (own (kind s) t) ≡ text_size (kind s) (own (kind s) t') = ap (text_size (kind s)) same in
        let b : text_size (kind s) (own (kind s) u) ≡ text_size (kind s) (own (kind s) u') = ap (text_size (kind s)) own_same in
        let c : text_sum u ≡ text_sum t - text_size (kind s) (own (kind s) t) + text_size (kind s) (own (kind s) u) = sum_changed lim s t u (apply_change lim s t u e) in
        let d : text_sum u' ≡ text_sum t' - text_size (kind s) (own (kind s) t') + text_size (kind s) (own (kind s) u') = sum_changed lim s t' u' changed in
        omega (arith, h, a, b, c, d)

    -- a setting that has room on the tables has it on the others, where its own table is the same
    step_moved : Spare (s ∷ l) t t' → (apply lim s t' ≡ some u') × Spare l u u'
    step_moved (same_sum h) =
        (freed lim s t' u' changed (subst (TextRoom lim.texts) (sums h) ((apply_exactly lim s t u).0 e).1), same_sum (sums h))
    step_moved (no_texts h r) =
        let k : TextRoom lim.texts (text_sum u') = subst⁻¹ (TextRoom lim.texts) (same_sum_step s t' u' h.0 changed) r in
        (freed lim s t' u' changed k, no_texts h.1 k)
    step_moved (no_sum h) = (freed lim s t' u' changed (subst⁻¹ (λ (x : Texts). TextRoom x (text_sum u')) h tt), no_sum h)

  -- one setting in turn
  alone : (s : Setting) (t u : Tables) → apply lim s t ≡ some u → in_turn (apply lim) (s ∷ []) t ≡ some u
  alone s t u e = ap (λ (o : Option Tables). and_then o (in_turn (apply lim) [])) e

  -- TURN MOVED: and so have settings in turn, where all their tables are the same
  pub turn_moved : (p : Kind → Bool) (l : List Setting) (t t' u : Tables) → All (λ s. p (kind s) ≡ true) l → Agree p t t' → Spare l t t' → in_turn (apply lim) l t ≡ some u
      → (v : Tables) × (in_turn (apply lim) l t' ≡ some v)
  turn_moved p [] t t' u among g r e = (t', refl)
  turn_moved p (s ∷ l) t t' u among g r e =
      let (w, a, b) = first lim s l t u e in
      let same : own (kind s) t ≡ own (kind s) t' = g (kind s) among.0 in
      let (a', r') = step_moved s l t t' w same a r in
      let w' : Tables = u' s l t t' w same a in
      let (v, d) = turn_moved p l w w' u among.1 (local lim p (s ∷ []) t t' w w' (among.0, tt) g (alone s t w a) (alone s t' w' a')) r' b in
      (v, ap (λ (o : Option Tables). and_then o (in_turn (apply lim) l)) a' ∙ d)

  -- ---- two lists that share no table

  module _ (a b : List Setting) (apart : Apart a b) (t u : Tables) (turn : in_turn (apply lim) b t ≡ some u) where
    -- the second leaves the tables of the first
    pub left_alone : Agree (touches a) t u
    left_alone k h = sym (untouched_stays lim b t u k turn (apart k h))

    -- ROOM MOVED: the first has room before the second exactly if it has room after it, where one of the two has no texts or no sum binds
    pub room_after : Spare a t u → {v : Tables} → in_turn (apply lim) a t ≡ some v → (w : Tables) × (in_turn (apply lim) a u ≡ some w)
    room_after r {v} e = turn_moved (touches a) a t u v (all_touch a) left_alone r e

    pub room_before : Spare a u t → {w : Tables} → in_turn (apply lim) a u ≡ some w → (v : Tables) × (in_turn (apply lim) a t ≡ some v)
    room_before r {w} e = turn_moved (touches a) a u t w (all_touch a) (λ k h. sym (left_alone k h)) r e

  -- EITHER ORDER, of tables: where both orders have room, they end in the same tables
  pub same_end : (a b : List Setting) (t u v u' v' : Tables) → Apart a b → in_turn (apply lim) a t ≡ some u → in_turn (apply lim) b u ≡ some v
      → in_turn (apply lim) b t ≡ some u' → in_turn (apply lim) a u' ≡ some v' → v ≡ v'
  same_end a b t u v u' v' apart p q p' q' = alike v v' (λ k. by k (touches a k) refl (touches b k) refl)
    where
      back : Apart b a
      back = apart_back a b apart

      by : (k : Kind) (c : Bool) → touches a k ≡ c → (d : Bool) → touches b k ≡ d → own k v ≡ own k v'
      by k true h d h' =
          untouched_stays lim b u v k q (apart k h) ∙ local lim (touches a) a t u' u v' (all_touch a) (left_alone a b apart t u' p') p q' k h
      by k false h true h' =
          sym (local lim (touches b) b t u u' v (all_touch b) (left_alone b a back t u p) p' q k h') ∙ sym (untouched_stays lim a u' v' k q' h)
      by k false h false h' =
          untouched_stays lim b u v k q h' ∙ untouched_stays lim a t u k p h ∙ sym (untouched_stays lim b t u' k p' h') ∙ sym (untouched_stays lim a u' v' k q' h)
