-- What a call may answer of a store: what its tables have there, or that nothing stands there. Assumes nothing.
use Rattle.lists.proofs.Kit.{ℕ, ◌≡◌, refl, sym, ◌∙◌, List, Option, none, some, option_none_ne_some, inr, inl}
use Rattle.lists.specs.Ladder.{Answers}
use Rattle.tables.specs.declared.limits.Limits.{Limits}
use Rattle.tables.specs.Store.{StoreOf, Holds}
use Rattle.tables.specs.Tables.{Tables}
use Rattle.values.specs.Values.{refused, given, asking}

module _ {A : Type 0} (lim : Limits) (what : Tables → Option A) (store : List ℕ) (s : StoreOf lim store) where
  -- it stands there
  pub is_given : (a : A) → ((t : Tables) → Holds lim t store → what t ≡ some a) → Answers (asking lim what store) (given a)
  is_given a e =
      let t = s.store.tables in
      let h : Holds lim t store = (s.store.allowed, s.store.bytes_are) in
      inr (λ n. n s, inr (λ n. option_none_ne_some a (sym (n t h) ∙ e t h), (t, h, a, e t h, refl)))

  -- nothing stands there
  pub is_absent : ((t : Tables) → Holds lim t store → what t ≡ none) → Answers (asking lim what store) (refused 17)
  is_absent e = inr (λ n. n s, inl (e, refl))
