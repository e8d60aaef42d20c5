-- Laws on tests that the kit lacks. Assumes nothing.
use Rattle.lists.proofs.Kit.{◌≡◌, refl, Bool, true, false, ◌&&◌, ◌||◌, false≢true}

-- what is not true is false
pub is_false : (b : Bool) → (b ≡ true → ⊥) → b ≡ false
is_false true h = absurd (h refl)
is_false false h = refl

-- both tests of a conjunction pass
pub and_parts : (a b : Bool) → (a && b) ≡ true → (a ≡ true) × (b ≡ true)
and_parts true b h = (refl, h)
and_parts false b h = absurd (false≢true h)

-- a test that fails leaves the other
pub or_rest : (a b : Bool) → b ≡ false → (a || b) ≡ a
or_rest true b e = refl
or_rest false b e = e
