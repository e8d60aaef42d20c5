-- How what checking and proposing an update answer is packed in one number for C, and what their C functions of a set with limits lim answer.
use Rattle.std.specs.Prelude.{ℕ, List, [], ◌∷◌}
use Rattle.lists.specs.Ladder.{Answers}
use Rattle.writing.specs.Fields.{Field, val}
use Rattle.writing.specs.Writing.{flag}
use Rattle.tables.specs.declared.limits.Limits.{Limits}
use Rattle.updating.specs.declared.answers.Check.{Check}
use Rattle.updating.specs.declared.answers.Proposal.{Proposal}
use Rattle.updating.specs.Updating.{checked, checking, told, proposing}
use Rattle.packing.specs.PackedValues.{Packed}
use Rattle.packing.specs.Packing.{PacksExport}

-- from the highest bit down: 8 yes, 0-7 number
abbrev pub check_fields : Check → List Field
check_fields c = flag (checked c).says_yes ∷ val 8 (checked c).number ∷ []

-- an answer that the contract of checking allows, packed
abbrev pub AnswersCheck : Limits → (first second message : List ℕ) → ℕ → Type 0
AnswersCheck lim first second message r = Packed (checking lim first second message) check_fields r

-- an outcome that the contract of proposing allows, with its answer packed as that of exporting
pub record AnswersProposal (lim : Limits) (first second buffer buffer_after : List ℕ) (r : ℕ) : Type 0 where
  pub answer : Proposal
  pub allowed : Answers (proposing lim first second buffer) (record { answer = answer; buffer = buffer_after })
  pub packs : PacksExport (told answer) r
