-- What the office's reader answers to a message: docs/RULES.md, "Order of its refusals: 12, 13, 14, 1, 4".
use Rattle.std.specs.Prelude.{ℕ, ◌≡◌, List, []}
use Rattle.lists.specs.Ladder.{Ladder, rung, foot}
use Rattle.writing.specs.Carrier.{InSize, NothingCarried, OtherKind, OtherVersion}
use Rattle.reports.specs.Items.{Item}
use Rattle.reports.specs.Reports.{ReportOf, NoReport}

-- a number, and what the report says
pub record Read : Type 0 where
  pub number : ℕ
  pub total : ℕ
  pub index : ℕ
  pub items : List Item

abbrev pub refused : ℕ → Read
refused n = record { number = n; total = 0; index = 0; items = [] }

pub record Reads (message : List ℕ) (r : Read) : Type 0 where
  pub good : r.number ≡ 0
  pub report : ReportOf r.total r.index r.items message

-- "12, 13, 14, 1 or 4"; the most is the set's largest message
abbrev pub reading : ℕ → List ℕ → Ladder Read
reading most message =
    rung (InSize most message → ⊥) (refused 12)
    (rung (NothingCarried message) (refused 13)
    (rung (OtherKind (◌≡ 3) message) (refused 14)
    (rung (OtherVersion message) (refused 1)
    (rung (NoReport message) (refused 4)
    (foot (Reads message))))))
