-- What the screen's calls answer with no table, for every area, scratch and row: document 02, A12, "answers each row by reading them from the first".
use Rattle.std.specs.Prelude.{ℕ, ◌*◌, ◌≤◌, ◌<◌, ◌≡◌, List, ◌++◌, length, take, drop}
use Rattle.std.proofs.Math.Option.{none, some}
use Rattle.std.specs.Borrow.{Bor}
use Rattle.lists.specs.Ladder.{Ladder, rung, foot, Answers}
use Rattle.writing.specs.Settings.{Text}
use Rattle.tables.specs.Tables.{Tables}
use Rattle.screen.specs.declared.answers.Place.{Place}
use Rattle.screen.specs.declared.answers.Place.TheVariants.{Store, Scratch, Refused as NoPlace}
use Rattle.screen.specs.declared.rows.Refusal.{Refusal}
use Rattle.screen.specs.declared.rows.Refusal.TheVariants.{ScratchSize, NotAStore, Absent}
use Rattle.screen.specs.declared.rows.Row.{Row}
use Rattle.screen.specs.Rows.{Caption, caption, Displays, Display, units, unit_bytes}
use Rattle.screen.specs.Screen.{RowPart, of_store, of_scratch, AfterRow, refusal, refused, leaves}
use Rattle.plain_log.specs.Area.{AreaOf, IsArea}

-- no tables that the requests of this area leave have the row
abbrev pub NoRow : List ℕ → Row → Type 0
NoRow area row = (log : List (List ℕ)) (t : Tables) → AreaOf area log t → caption t row ≡ none

-- "15 for a screen call's scratch", which is 64 bytes; "11 for bytes that aren't such an area"; 17 as on the hand-held
abbrev pub plain_judged : {A : Type 0} → List ℕ → ℕ → Row → (Refusal → A) → (A → Type 0) → Ladder A
plain_judged area room row refuse There =
    rung (room < 64) (refuse ScratchSize)
    (rung (IsArea area → ⊥) (refuse NotAStore)
    (rung (NoRow area row) (refuse Absent)
    (foot There)))

-- the units of the text or of the number stand at the start of the scratch, and its other bytes stay
abbrev pub in_scratch : List ℕ → Text → AfterRow
in_scratch scratch us = record { number = 0; part = of_scratch (2 * length us); scratch = unit_bytes us ++ drop (2 * length us) scratch }

-- the requests leave tables that have the row, and it is shown as on the hand-held, unit for unit
pub record PlainShown (area scratch : List ℕ) (row : Row) (a : AfterRow) : Type 0 where
  pub log : List (List ℕ)
  pub tables : Tables
  pub area_is : AreaOf area log tables
  pub row_is : Caption
  pub there : caption tables row ≡ some row_is
  pub display : Display
  pub shown : Displays row_is display
  pub after : a ≡ in_scratch scratch (units display)

-- what a row comes to
abbrev pub plain_showing : List ℕ → List ℕ → Row → Ladder AfterRow
plain_showing area scratch row = plain_judged area (length scratch) row (λ r. refused (refusal r) scratch) (PlainShown area scratch row)

-- its number alone
abbrev pub plain_numbering : List ℕ → List ℕ → Row → Ladder ℕ
plain_numbering area scratch row = plain_judged area (length scratch) row refusal (λ n. n ≡ 0)

-- how many bytes a part of the scratch has
abbrev pub part_bytes : RowPart → ℕ
part_bytes (of_store start bytes) = 0
part_bytes (of_scratch bytes) = bytes

-- the call that gives the part: it is at the start of the scratch, empty on a refusal
pub record PlainPart (area : List ℕ) (scratch : Bor (List ℕ)) (row : Row) (r : Bor (List ℕ)) : Type 0 where
  pub after : AfterRow
  pub allowed : Answers (plain_showing area scratch.now row) after
  pub place : r.ref_ptr ≡ scratch.ref_ptr
  pub bytes : r.now ≡ take (part_bytes after.part) after.scratch

-- how many bytes of the scratch a place has
abbrev pub bytes_in : Place → ℕ
bytes_in (Store at n) = 0
bytes_in (Scratch n) = n
bytes_in (NoPlace r) = 0

-- the call that says where: its place, which lies in the scratch, and what is left of the scratch
pub record PlainPlaced (area scratch after : List ℕ) (row : Row) (r : Place) : Type 0 where
  pub allowed : Answers (plain_showing area scratch row) (leaves r after)
  pub fits : bytes_in r ≤ length after
