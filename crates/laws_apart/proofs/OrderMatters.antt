-- A pair of requests with texts whose order matters, at a full area, computed. Assumes nothing.
use Rattle.lists.proofs.Kit.{ℕ, ◌≡◌, refl, List, [], ◌∷◌, Option, none, some}
use Rattle.writing.specs.declared.Operation.TheVariants.{Add, Delete}
use Rattle.writing.specs.Settings.{Setting, quick_texts, status_texts}
use Rattle.tables.specs.Apply.{and_then, in_turn, apply}
use Rattle.tables.specs.Limits.{handheld}
use Rattle.tables.specs.Texts.{text_sum}
use Rattle.shared_texts.proofs.Examples.{units, full}

-- one desk deletes quick text 0, the other gives status code 126 a text of 16 units
deletes : List Setting
deletes = quick_texts Delete (record { index = 0; text = [] } ∷ []) ∷ []

adds : List Setting
unfolding units
adds = status_texts Add (record { index = 126; text = units 16 } ∷ []) ∷ []

-- the bytes of all texts after one list and then the other, from the full area
after_both : List Setting → List Setting → Option ℕ
after_both a b = and_then (and_then (in_turn (apply handheld) a full) (in_turn (apply handheld) b)) (λ t. some (text_sum t))

-- ORDER MATTERS: the delete first, both are taken; the text first, it has no room
order_matters : (after_both deletes adds ≡ some 4082) × (in_turn (apply handheld) adds full ≡ none)
unfolding after_both deletes adds full units
order_matters = (refl, refl)
