-- How what joining answers is packed in one number for C, and what its C function of a set with messages of at most so many bytes answers.
use Rattle.std.specs.Prelude.{ℕ, List, [], ◌∷◌}
use Rattle.lists.specs.Ladder.{Answers}
use Rattle.writing.specs.Fields.{Field, val}
use Rattle.writing.specs.Writing.{flag}
use Rattle.joining.specs.Joins.{Told, joining}
use Rattle.packing.specs.PackedValues.{PacksFields}

-- from the highest bit down: 32 the second request is at fault, 16-31 length, 8-15 failed ID, 0-7 number
abbrev pub join_fields : Told → List Field
join_fields t = flag t.in_second ∷ val 16 t.request_length ∷ val 8 t.failed ∷ val 8 t.number ∷ []

-- an outcome that the contract of joining allows, with its answer packed
pub record AnswersJoin (most : ℕ) (first second buffer buffer_after : List ℕ) (r : ℕ) : Type 0 where
  pub answer : Told
  pub allowed : Answers (joining most first second buffer) (record { answer = answer; buffer = buffer_after })
  pub packs : PacksFields (join_fields answer) r
