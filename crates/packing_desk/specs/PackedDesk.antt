-- What each C function of the desk emulator answers, packed in one number.
use Rattle.std.specs.Prelude.{ℕ, List, []}
use Rattle.lists.specs.Ladder.{Answers}
use Rattle.station.specs.Answers.{Said}
use Rattle.screen.specs.Rows.{row_named}
use Rattle.screen.specs.Screen.{RowPart}
use Rattle.packing.specs.Packing.{Packs, PacksPart}
use Rattle.plain_log.specs.declared.areas.Started.{Started}
use Rattle.plain_log.specs.Area.{area_begins, area_starting}
use Rattle.plain.specs.Plain.{plain_taken}
use Rattle.plain_rows.specs.PlainRows.{plain_numbering, plain_showing}

-- the number of a start
abbrev pub area_started : Started → ℕ
area_started a = (area_begins a []).number

-- the number that starting answers
abbrev pub AreaStarts : (before after : List ℕ) (r : ℕ) → Type 0
AreaStarts before after r = Answers (area_starting before) (record { number = r; area = after })

-- an outcome that the contract of taking allows, with its answer packed as that of committing
pub record PlainTakes (message area reply area_after reply_after : List ℕ) (r : ℕ) : Type 0 where
  pub answer : Said
  pub allowed : Answers (plain_taken message area reply) (record { answer = answer; store = area_after; reply = reply_after })
  pub packs : Packs answer r

-- the number of a row
abbrev pub PlainNumbers : (table row : ℕ) (area scratch : List ℕ) (r : ℕ) → Type 0
PlainNumbers table row area scratch r = Answers (plain_numbering area scratch (row_named table row)) r

-- an outcome that the contract of a row allows, with its part packed: bit 0 says the scratch
pub record PlainParts (table row : ℕ) (area scratch scratch_after : List ℕ) (r : ℕ) : Type 0 where
  pub number : ℕ
  pub part : RowPart
  pub allowed : Answers (plain_showing area scratch (row_named table row)) (record { number = number; part = part; scratch = scratch_after })
  pub packs : PacksPart part r
