-- One setting of a request after another, on a working copy of the store. No promise cites these.
use Rattle.std.specs.Prelude.{ℕ, ◌≡◌, List, [], drop, Result, Ok, Err}
use Rattle.std.proofs.Math.Option.{some}
use Rattle.writing.specs.declared.Coding.{Coding}
use Rattle.writing.specs.declared.LastFlags.{LastFlags}
use Rattle.writing.specs.Carrier.{result_number}
use Rattle.writing.specs.Ranges.{text_limits, InRange}
use Rattle.writing.specs.Settings.{Setting}
use Rattle.settings.specs.declared.settings.Setting.{Setting as Read}
use Rattle.read_fields.specs.Places.{StandsAt}
use Rattle.settings.specs.Meant.{Meant}
use Rattle.tables.specs.declared.limits.Limits.{Limits}
use Rattle.tables.specs.Allowed.{Allowed}
use Rattle.tables.specs.Apply.{apply}
use Rattle.tables.specs.Forms.{Roomy}
use Rattle.tables.specs.Store.{Works}
use Rattle.tables.specs.Tables.{Tables}
use Rattle.writing.specs.declared.CfgResult.{CfgResult}
use Rattle.requests.specs.declared.run.Taken.{Taken}
use Rattle.requests.specs.declared.run.Fault.{Fault as RunFault}
use Rattle.requests.specs.Judge.{kept, refused}
use Rattle.requests.specs.Requests.{Fault, Judged, item_of, or_else, last_item}
use Rattle.requests.specs.Trying.{SumIs}

-- FF's bits of a setting that was read
abbrev pub FlagsAre : Read → LastFlags → Type 0
FlagsAre r f = (m : List ℕ) (s : Setting) → Meant m r s → f ≡ (or_else (item_of s) (last_item [])).flags

-- a setting in range that stands at a place and had room; the texts held after it take so many bytes
pub record Stepped (c : Coding) (lim : Limits) (left : ℕ) (m : List ℕ) (at next : ℕ) (was : Tables) (after : List ℕ) (f : LastFlags) (sum : ℕ) : Type 0 where
  pub setting : Setting
  pub tables : Tables
  pub range : InRange text_limits left setting
  pub stands : StandsAt c m at next setting
  pub applied : apply lim setting was ≡ some tables
  pub holds : Works lim tables after
  pub summed : SumIs lim sum tables
  pub flags : f ≡ (or_else (item_of setting) (last_item [])).flags

-- what taking the setting at a place answers, on a copy whose texts take so many bytes, which was s and becomes t
abbrev pub StepIs : Coding → Limits → ℕ → List ℕ → ℕ → ℕ → List ℕ → List ℕ → Result Taken CfgResult → Type 0
StepIs c lim left m at sum s t (Ok x) = (was : Tables) → Roomy lim → Works lim was s → SumIs lim sum was → Stepped c lim left m at x.next was t x.flags x.sum
StepIs c lim left m at sum s t (Err result) =
    (was : Tables) → Roomy lim → Works lim was s → SumIs lim sum was → Fault c lim left was (drop at m) (result_number result)

-- all settings counted were taken, and no byte is left; the tables are such as the store may hold
pub record Ran (c : Coding) (lim : Limits) (count : ℕ) (m : List ℕ) (at : ℕ) (was : Tables) (after : List ℕ) (f : LastFlags) : Type 0 where
  pub settings : List Setting
  pub tables : Tables
  pub allowed : Allowed lim tables
  pub judged : Judged c lim count was (drop at m) (kept settings tables)
  pub holds : Works lim tables after
  pub flags : f ≡ (last_item settings).flags

-- what taking the settings from a place on answers, from tables that the store may hold, on a copy that was s and becomes t
abbrev pub RunIs : Coding → Limits → ℕ → List ℕ → ℕ → List ℕ → List ℕ → Result LastFlags RunFault → Type 0
RunIs c lim count m at s t (Ok f) = (was : Tables) → Roomy lim → Allowed lim was → Works lim was s → Ran c lim count m at was t f
RunIs c lim count m at s t (Err e) =
    (was : Tables) → Roomy lim → Allowed lim was → Works lim was s → Judged c lim count was (drop at m) (refused (result_number e.result) e.failed)

-- the same on a copy whose texts take so many bytes, where they share an area
abbrev pub RunFrom : Coding → Limits → ℕ → List ℕ → ℕ → ℕ → List ℕ → List ℕ → Result LastFlags RunFault → Type 0
RunFrom c lim count m at sum s t (Ok f) = (was : Tables) → Roomy lim → Allowed lim was → Works lim was s → SumIs lim sum was → Ran c lim count m at was t f
RunFrom c lim count m at sum s t (Err e) =
    (was : Tables) → Roomy lim → Allowed lim was → Works lim was s → SumIs lim sum was → Judged c lim count was (drop at m) (refused (result_number e.result) e.failed)
