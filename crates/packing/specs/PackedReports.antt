-- How what the report call answers is packed in one number for C, and what its C function of a set with limits lim answers.
use Rattle.std.specs.Prelude.{ℕ, List, [], ◌∷◌}
use Rattle.lists.specs.Ladder.{Answers}
use Rattle.writing.specs.Fields.{Field, val}
use Rattle.tables.specs.declared.limits.Limits.{Limits}
use Rattle.reports.specs.Reporting.{Told, reporting}
use Rattle.packing.specs.PackedValues.{PacksFields}

-- from the highest bit down: 16-31 length, 8-15 total, 0-7 number
abbrev pub report_fields : Told → List Field
report_fields t = val 16 t.message_length ∷ val 8 t.total ∷ val 8 t.number ∷ []

-- an outcome that the contract of the report call allows, with its answer packed
pub record AnswersReport (lim : Limits) (query : List ℕ) (index : ℕ) (store buffer buffer_after : List ℕ) (r : ℕ) : Type 0 where
  pub answer : Told
  pub allowed : Answers (reporting lim query index store buffer) (record { answer = answer; buffer = buffer_after })
  pub packs : PacksFields (report_fields answer) r
