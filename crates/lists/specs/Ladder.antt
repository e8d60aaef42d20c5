-- Refusals in a stated order: a ladder of tests, each with what it answers, and what holds where none of them does.
use Rattle.std.specs.Prelude.{◌≡◌, ◌⊎◌}

pub data Ladder (A : Type 0) : Type 1 where
  rung : Type 0 → A → Ladder A → Ladder A  -- `rung P a l`: where P, the answer is a; else as l says
  foot : (A → Type 0) → Ladder A  -- no test held: an answer that has this

abbrev pub Answers : {A : Type 0} → Ladder A → A → Type 0
Answers (rung P a l) x = (P × (x ≡ a)) ⊎ ((P → ⊥) × Answers l x)
Answers (foot R) x = R x
