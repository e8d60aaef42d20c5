-- After any messages from a start the store is that of the tables after the settings taken, in order. Assumes nothing.
use Rattle.lists.proofs.Kit.{ℕ, zero, suc, ◌≡◌, refl, sym, ap, ◌∙◌, subst, ◌⊎◌, inl, inr, Bool, true, false, List, [], ◌∷◌, ◌++◌, append-nil, Option, option_some_injective, arith, eqb-true, eqb-false, eqb, length}
use Rattle.lists.specs.Bytes.{Bytes}
use Rattle.lists.specs.Ladder.{Answers}
use Rattle.writing.specs.declared.Coding.{Coding}
use Rattle.writing.specs.Settings.{Setting}
use Rattle.writing.specs.Writing.{WrittenAll}
use Rattle.writing.proofs.CanonicalLaws.{has_writing}
use Rattle.read_carrier.proofs.KindLaws.{request_opens, opens_no_query}
use Rattle.tables.specs.declared.limits.Limits.{Limits}
use Rattle.tables.specs.Allowed.{Allowed}
use Rattle.tables.specs.Forms.{Roomy}
use Rattle.tables.specs.Store.{Begun, StoreOf, Holds}
use Rattle.tables.specs.Tables.{Tables, fresh}
use Rattle.tables.proofs.AllowedLaws.{apply_allowed, forget_allowed}
use Rattle.tables.proofs.FreshLaws.{fresh_allowed}
use Rattle.shared_texts.proofs.Forms.{holds_store}
use Rattle.laws_taking.specs.Demands.{InTurn, Passes}
use Rattle.requests.specs.Requests.{forget}
use Rattle.station.specs.Taking.{AfterTaking, AsRequest, AsQuery, Handled, taken}
use Rattle.laws_taking.proofs.Theorems.{answered_0, taken_leaves, taken_exactly, store_stays}
use Rattle.laws_screen.specs.Reached.{Takes, Adds, its_settings, nothing, Reached, from_start, then_message, InOrder}
use Rattle.screen.proofs.AnswerLaws.{one_tables}

-- ---- settings in turn

-- they leave allowed tables
in_turn_allowed : (c : Coding) (lim : Limits) (n : ℕ) (t u : Tables) (l : List Setting) (w : List ℕ) → Allowed lim t → WrittenAll c l w → InTurn lim n t l u → Allowed lim u
in_turn_allowed c lim n t u [] w ok y z = subst (Allowed lim) z ok
in_turn_allowed c lim zero t u (s ∷ l) w ok y z = absurd z
in_turn_allowed c lim (suc n) t u (s ∷ l) w ok (v, r, p, x, y) (i, t', a, z) =
    in_turn_allowed c lim n t' u l r (apply_allowed lim t t' c n s ok i (has_writing c s v x) a) y z

-- and one set of tables
in_turn_one : (lim : Limits) (n : ℕ) (t u v : Tables) (l : List Setting) → InTurn lim n t l u → InTurn lim n t l v → u ≡ v
in_turn_one lim n t u v [] p q = sym p ∙ q
in_turn_one lim zero t u v (s ∷ l) p q = absurd p
in_turn_one lim (suc n) t u v (s ∷ l) (i, t', a, p) (j, t'', b, q) =
    in_turn_one lim n t'' u v l (subst (λ (x : Tables). InTurn lim n x l u) (option_some_injective t' t'' (sym a ∙ b)) p) q

-- IN ORDER ONE: the settings taken leave one set of tables
pub in_order_one : (lim : Limits) (t u v : Tables) (log : List (List Setting)) → InOrder lim t log u → InOrder lim t log v → u ≡ v
in_order_one lim t u v [] p q = sym p ∙ q
in_order_one lim t u v (l ∷ log) (t', a, p) (t'', b, q) =
    in_order_one lim t'' u v log (subst (λ (x : Tables). InOrder lim x log u) (in_turn_one lim (length l) (forget t) t' t'' l a b) p) q

-- one log after another
order_append : (lim : Limits) (t v u : Tables) (log more : List (List Setting)) → InOrder lim t log v → InOrder lim v more u → InOrder lim t (log ++ more) u
order_append lim t v u [] more p q = subst (λ (x : Tables). InOrder lim x more u) (sym p) q
order_append lim t v u (l ∷ log) more (t', a, p) q = (t', a, order_append lim t' v u log more p q)

-- ---- one message

module _ (lim : Limits) (message store reply : List ℕ) (b : Bytes message) (s : StoreOf lim store) (x : AfterTaking) where
  module _ (a : Answers (taken lim message store reply) x) where
    -- a request that is answered 0 is taken
    takes_it : x.answer.number ≡ 0 → (h : Handled lim message store reply x) → AsRequest lim message store reply h.tables x → (l : List Setting) × Takes lim message store reply l
    takes_it n h (c, count, settings, r, _, _, _) =
        let (big, sized, _) = answered_0 lim message store reply x a n in
        let p : Passes c lim message store reply h.tables r.data_bytes
        = record { buffer = big; store_is = s; holds = h.holds; in_size = sized; opens = request_opens r } in
        let (l, u, w, z) = (taken_exactly c lim message store reply b h.tables r.data_bytes p x a).0 n in
        (l, record { coding = c; before = h.tables; after = u; data_bytes = r.data_bytes; passes = p; written = w; in_turn = z })

    -- what takes none leaves the store
    pub nothing_changed : ((l : List Setting) → Takes lim message store reply l → ⊥) → x.store ≡ store
    nothing_changed never = by (eqb x.answer.number 0) refl
      where
        by_kind : x.answer.number ≡ 0 → (h : Handled lim message store reply x) → AsRequest lim message store reply h.tables x ⊎ AsQuery lim message store reply h.tables x → x.store ≡ store
        by_kind n h (inl r) = let (l, k) = takes_it n h r in absurd (never l k)
        by_kind n h (inr (_, _, inl (_, _, e))) = ap (λ (y : AfterTaking). y.store) e
        by_kind n h (inr (_, _, inr (_, e))) = ap (λ (y : AfterTaking). y.store) e

        by : (c : Bool) → eqb x.answer.number 0 ≡ c → x.store ≡ store
        by false e = store_stays lim message store reply x a (eqb-false x.answer.number 0 e)
        by true e =
            let n : x.answer.number ≡ 0 = eqb-true x.answer.number 0 e in
            let (_, _, h) = answered_0 lim message store reply x a n in
            by_kind n h h.comes_to

    -- and what takes settings leaves the tables after them
    pub tables_after : (l : List Setting) (k : Takes lim message store reply l) → Holds lim k.after x.store
    tables_after l k =
        let e = taken_leaves k.coding lim message store reply b k.before k.data_bytes k.passes x a l k.after k.written k.in_turn in (
          in_turn_allowed k.coding lim (length l) (forget k.before) k.after l k.written.settings (forget_allowed lim k.before k.passes.holds.0) k.written.written k.in_turn,
          ap (λ (y : AfterTaking). y.store) e,
        )

    -- ADDS ALWAYS: every message takes settings or nothing
    pub adds_always : (added : List (List Setting)) × Adds lim message store reply added
    adds_always = by (eqb x.answer.number 0) refl
      where
        Goal : Type 0
        Goal = (added : List (List Setting)) × Adds lim message store reply added

        -- a request that is taken is answered 0
        taken_0 : (l : List Setting) → Takes lim message store reply l → x.answer.number ≡ 0
        taken_0 l k = (taken_exactly k.coding lim message store reply b k.before k.data_bytes k.passes x a).1 (l, k.after, k.written, k.in_turn)

        -- answered 0: a request, or a query that matches
        by_kind : x.answer.number ≡ 0 → (h : Handled lim message store reply x) → AsRequest lim message store reply h.tables x ⊎ AsQuery lim message store reply h.tables x → Goal
        by_kind n h (inl r) = let (l, k) = takes_it n h r in (l ∷ [], its_settings k)
        by_kind n h (inr (k, q, _)) = ([], nothing (λ l y. opens_no_query y.passes.opens refl k q))

        by : (c : Bool) → eqb x.answer.number 0 ≡ c → Goal
        by false e = ([], nothing (λ l k. eqb-false x.answer.number 0 e (taken_0 l k)))
        by true e =
            let n : x.answer.number ≡ 0 = eqb-true x.answer.number 0 e in
            let (_, _, h) = answered_0 lim message store reply x a n in
            by_kind n h h.comes_to

-- ---- any messages

-- REACHED: the store is that of the tables after the settings taken, in order
pub reached_holds : (lim : Limits) (log : List (List Setting)) (store : List ℕ) → Reached lim log store → (t : Tables) × Roomy lim × Holds lim t store × InOrder lim fresh log t
reached_holds lim log store (from_start before (inl (_, e))) = absurd (omega (arith, ap (λ (x : Begun). x.number) e))
reached_holds lim log store (from_start before (inr (_, (size, roomy, e)))) = (fresh, roomy, (fresh_allowed lim, ap (λ (x : Begun). x.store) e), refl)
reached_holds lim log store (then_message {log = old} {store = was} {message} {reply} x r b a (its_settings {l} k)) =
    let (t, roomy, holds, order) = reached_holds lim old was r in
    let e : k.before ≡ t = one_tables lim was k.before t k.passes.holds holds in (
      k.after,
      roomy,
      tables_after lim message was reply b k.passes.store_is x a l k,
      order_append lim fresh t k.after old (l ∷ []) order (k.after, subst (λ (y : Tables). InTurn lim (length l) (forget y) l k.after) e k.in_turn, refl),
    )
reached_holds lim log store (then_message {log = old} {store = was} {message} {reply} x r b a (nothing never)) =
    let (t, roomy, holds, order) = reached_holds lim old was r in
    (t, roomy, (holds.0, nothing_changed lim message was reply b (holds_store lim t was roomy holds) x a never ∙ holds.1), subst (λ (y : List (List Setting)). InOrder lim fresh y t) (sym (append-nil old)) order)
