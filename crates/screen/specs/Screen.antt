-- What the screen's two calls answer, for every store, scratch and row: document 01, "Numbers, channels, screen" and "Numbers returned".
use Rattle.std.specs.Prelude.{ℕ, ◌+◌, ◌*◌, ◌≡◌, List, [], ◌++◌, length, take, drop}
use Rattle.std.proofs.Math.Option.{Option, none, some}
use Rattle.std.specs.Borrow.{Bor}
use denote.Ref.{MutBor}
use Rattle.lists.specs.Ladder.{Ladder, Answers}
use Rattle.tables.specs.declared.limits.Limits.{Limits}
use Rattle.tables.specs.Store.{Holds}
use Rattle.tables.specs.Tables.{Tables}
use Rattle.screen.specs.declared.rows.Refusal.{Refusal}
use Rattle.screen.specs.declared.rows.Refusal.TheVariants.{ScratchSize, NotAStore, Absent}
use Rattle.screen.specs.declared.rows.Row.{Row}
use Rattle.screen.specs.Rows.{Caption, caption, Displays, Display, stored, written, units, text_start, unit_bytes, judged}
use Rattle.screen.specs.declared.answers.Answer.{Answer}
use Rattle.screen.specs.declared.answers.Answer.TheVariants.{Shown, Refused}
use Rattle.screen.specs.declared.answers.Place.{Place}
use Rattle.screen.specs.declared.answers.Place.TheVariants.{Store, Scratch, Refused as NoPlace}

-- ---- what is answered and left

-- a part of one of the two slices; that of the scratch is at its start
pub data RowPart : Type 0 where
  of_store : (start bytes : ℕ) → RowPart
  of_scratch : (bytes : ℕ) → RowPart

-- the number, the part, and the scratch afterwards
pub record AfterRow : Type 0 where
  pub number : ℕ
  pub part : RowPart
  pub scratch : List ℕ

-- "15 scratch under 36 bytes"; "11 store not 12,288 bytes, or not a store", 24,576 since A4; "17 screen row absent"
abbrev pub refusal : Refusal → ℕ
refusal ScratchSize = 15
refusal NotAStore = 11
refusal Absent = 17

-- the number of each answer
abbrev pub number : Answer → ℕ
number Shown = 0
number (Refused r) = refusal r

-- "10 to 17 touch no byte of any buffer"; "11 and 15 to 17 from .. screen return .. an empty part"
abbrev pub refused : ℕ → List ℕ → AfterRow
refused n scratch = record { number = n; part = of_store 0 0; scratch = scratch }

-- an answer with a place, and the scratch that it left
abbrev pub leaves : Place → List ℕ → AfterRow
leaves (Store start bytes) scratch = record { number = 0; part = of_store start bytes; scratch = scratch }
leaves (Scratch bytes) scratch = record { number = 0; part = of_scratch bytes; scratch = scratch }
leaves (NoPlace r) scratch = refused (refusal r) scratch

-- the stored text's own part, or the number at the start of the scratch; "Scratch bytes not in a written number stay"
abbrev pub shows : Limits → Tables → List ℕ → Row → Display → AfterRow
shows lim t scratch row (stored us) = record { number = 0; part = of_store (text_start lim t row) (2 * length us); scratch = scratch }
shows lim t scratch row (written us) = record { number = 0; part = of_scratch (2 * length us); scratch = unit_bytes us ++ drop (2 * length us) scratch }

-- the store is that of tables that have the row, and it is shown
pub record RowShown (lim : Limits) (store scratch : List ℕ) (row : Row) (a : AfterRow) : Type 0 where
  pub tables : Tables
  pub holds : Holds lim tables store
  pub row_is : Caption
  pub there : caption tables row ≡ some row_is
  pub display : Display
  pub shown : Displays row_is display
  pub after : a ≡ shows lim tables scratch row display

-- what a row comes to
abbrev pub showing : Limits → List ℕ → List ℕ → Row → Ladder AfterRow
showing lim store scratch row = judged lim store (length scratch) row (λ r. refused (refusal r) scratch) (RowShown lim store scratch row)

-- its number alone
abbrev pub numbering : Limits → List ℕ → List ℕ → Row → Ladder ℕ
numbering lim store scratch row = judged lim store (length scratch) row refusal (λ n. n ≡ 0)

-- ---- the part

-- the bytes of a part, where the store is this and the scratch afterwards that
abbrev pub bytes_of : RowPart → List ℕ → List ℕ → List ℕ
bytes_of (of_store start bytes) store scratch = take bytes (drop start store)
bytes_of (of_scratch bytes) store scratch = take bytes scratch

-- what bytes show of a row: "the whole text", or the number, unit for unit; nothing where there is no row
abbrev pub RowBytes : Option Caption → List ℕ → Type 0
RowBytes none bytes = bytes ≡ []
RowBytes (some c) bytes = (d : Display) × Displays c d × (bytes ≡ unit_bytes (units d))

-- a slice that a call may change, as it was lent: where it points, and its bytes
abbrev pub lent : MutBor (List ℕ) → Bor (List ℕ)
lent slice = record { ref_ptr = slice.ref_ptr; now = slice.now }

-- where the part points: into its slice's block, so many bytes behind the slice's start
abbrev pub points_to : RowPart → Bor (List ℕ) → Bor (List ℕ) → ℕ × ℕ
points_to (of_store start bytes) store scratch = (store.ref_ptr.0, store.ref_ptr.1 + start)
points_to (of_scratch bytes) store scratch = scratch.ref_ptr

-- the call that gives the part: which part of which slice it is, and its bytes
pub record PartGiven (lim : Limits) (store scratch : Bor (List ℕ)) (row : Row) (r : Bor (List ℕ)) : Type 0 where
  pub after : AfterRow
  pub allowed : Answers (showing lim store.now scratch.now row) after
  pub block : r.ref_ptr.0 ≡ (points_to after.part store scratch).0
  pub offset : r.ref_ptr.1 ≡ (points_to after.part store scratch).1
  pub bytes : r.now ≡ bytes_of after.part store.now after.scratch
