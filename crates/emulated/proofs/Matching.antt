-- Two ladders whose tests hold together, rung for rung, answer alike. Assumes nothing.
use Rattle.lists.proofs.Kit.{sym, subst₂, subst⁻¹, ◌↔◌, inl, inr}
use Rattle.lists.specs.Ladder.{Ladder, rung, foot, Answers}

-- each test of one holds exactly where that of the other does, and what they answer then, and at the foot, has R
pub data Matched {A : Type 0} (R : A → A → Type 0) : Ladder A → Ladder A → Type 1 where
  rungs : {P Q : Type 0} {a b : A} {l m : Ladder A} → P ↔ Q → R a b → Matched R l m → Matched R (rung P a l) (rung Q b m)
  feet : {S T : A → Type 0} → ((x y : A) → S x → T y → R x y) → Matched R (foot S) (foot T)

-- MATCHED: then any two answers have R
pub matched : {A : Type 0} {R : A → A → Type 0} {l m : Ladder A} → Matched R l m → (x y : A) → Answers l x → Answers m y → R x y
matched {R = R} (rungs e r h) x y (inl (_, i)) (inl (_, j)) = subst₂ R (sym i) (sym j) r
matched (rungs e r h) x y (inl (p, _)) (inr (n, _)) = absurd (n (e.0 p))
matched (rungs e r h) x y (inr (n, _)) (inl (q, _)) = absurd (n (e.1 q))
matched (rungs e r h) x y (inr (_, p)) (inr (_, q)) = matched h x y p q
matched (feet h) x y p q = h x y p q

-- what a ladder answers, at each rung and at the foot, has R
pub data Each {A : Type 0} (R : A → Type 0) : Ladder A → Type 1 where
  at_rung : {P : Type 0} {a : A} {l : Ladder A} → R a → Each R l → Each R (rung P a l)
  at_foot : {S : A → Type 0} → ((x : A) → S x → R x) → Each R (foot S)

-- EACH: then any answer has R
pub each : {A : Type 0} {R : A → Type 0} {l : Ladder A} → Each R l → (x : A) → Answers l x → R x
each {R = R} (at_rung r h) x (inl (_, e)) = subst⁻¹ R e r
each (at_rung r h) x (inr (_, p)) = each h x p
each (at_foot h) x p = h x p
