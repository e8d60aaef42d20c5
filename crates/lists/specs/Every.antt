-- Lists of which every element has a property.
use Rattle.std.specs.Prelude.{List, [], ◌∷◌}

-- every element of the list has P
abbrev pub All : {A : Type 0} → (A → Type 0) → List A → Type 0
All P [] = Unit {0}
All P (x ∷ xs) = P x × All P xs
