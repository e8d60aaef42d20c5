-- How an answer is packed in one number for C, and what each C function of a set with limits lim answers.
use Rattle.std.specs.Prelude.{ℕ, ◌+◌, ◌*◌, ◌≤◌, ◌<◌, ◌≡◌, List, [], Option as Maybe, Some, None}
use Rattle.std.proofs.Math.Option.{Option, none, some}
use Rattle.lists.specs.Ladder.{Answers}
use Rattle.plan.specs.Answers.{Answer, Answered, given, refused}
use Rattle.writing.specs.Writing.{bit}
use Rattle.tables.specs.declared.limits.Limits.{Limits}
use Rattle.tables.specs.Forms.{Roomy}
use Rattle.tables.specs.Store.{starting}
use Rattle.station.specs.Answers.{Said}
use Rattle.station.specs.Judging.{Judges}
use Rattle.station.specs.Taking.{taken}
use Rattle.export.specs.Exportable.{Exportable}
use Rattle.export.specs.Exporting.{Told, exporting}
use Rattle.screen.specs.declared.answers.Place.{Place}
use Rattle.screen.specs.Rows.{row_named}
use Rattle.screen.specs.Screen.{RowPart, of_store, of_scratch, leaves, showing, numbering}
use Rattle.menu.specs.Menu.{Told as ToldCounts, counting}
use Rattle.callers.specs.Callers.{Told as ToldCaller, looking_up}

-- ---- the limits

-- limits under which every place in a store and every length has 16 bits
pub record Packable (lim : Limits) : Type 0 where
  pub roomy : Roomy lim
  pub size : lim.size ≤ 65535
  pub exportable : Exportable lim

-- ---- starting

-- the number that starting answers
abbrev pub Starts : (lim : Limits) (before after : List ℕ) (r : ℕ) → Type 0
Starts lim before after r = Answers (starting lim before) (record { number = r; store = after })

-- ---- judging and committing

-- bits 0-7 number, 8-15 failed ID, 16 send, 17 reboot, 24-31 reply length
abbrev pub packed : Said → ℕ
packed s = s.number + s.failed * 256 + bit s.send * 65536 + bit s.reboot * 131072 + s.reply_length * 16777216

-- each value has its bits
pub record Packs (s : Said) (r : ℕ) : Type 0 where
  pub number : s.number < 256
  pub failed : s.failed < 256
  pub reply_length : s.reply_length < 256
  pub bits : r ≡ packed s

-- an answer and a reply that the contract of judging allows, the answer packed
pub record Judgements (lim : Limits) (message store reply reply_after : List ℕ) (r : ℕ) : Type 0 where
  pub answer : Said
  pub allowed : Judges lim message store reply answer reply_after
  pub packs : Packs answer r

-- an outcome that the contract of committing allows, with its answer packed
pub record Commits (lim : Limits) (message store reply store_after reply_after : List ℕ) (r : ℕ) : Type 0 where
  pub answer : Said
  pub allowed : Answers (taken lim message store reply) (record { answer = answer; store = store_after; reply = reply_after })
  pub packs : Packs answer r

-- ---- exporting

-- bits 0-7 number, 16-31 length
abbrev pub packed_export : Told → ℕ
packed_export t = t.number + t.request_length * 65536

pub record PacksExport (t : Told) (r : ℕ) : Type 0 where
  pub number : t.number < 256
  pub request_length : t.request_length < 65536
  pub bits : r ≡ packed_export t

-- an outcome that the contract of exporting allows, with its answer packed
pub record Exports (lim : Limits) (part : ℕ) (store buffer buffer_after : List ℕ) (r : ℕ) : Type 0 where
  pub answer : Told
  pub allowed : Answers (exporting lim part store buffer) (record { answer = answer; buffer = buffer_after })
  pub packs : PacksExport answer r

-- ---- the menu's counts

-- bits 0-7 number, 16-31 lines, 32-47 channels
abbrev pub packed_counts : ToldCounts → ℕ
packed_counts t = t.number + t.lines * 65536 + t.channels * 4294967296

pub record PacksCounts (t : ToldCounts) (r : ℕ) : Type 0 where
  pub number : t.number < 256
  pub lines : t.lines < 65536
  pub channels : t.channels < 65536
  pub bits : r ≡ packed_counts t

-- an answer that the contract of the counts' call allows, packed
pub record Counts (lim : Limits) (store : List ℕ) (r : ℕ) : Type 0 where
  pub answer : ToldCounts
  pub allowed : Answers (counting lim store) answer
  pub packs : PacksCounts answer r

-- ---- who is calling

-- whether a row has the number: row 0 is a row too
abbrev pub found_of : Option ℕ → ℕ
found_of none = 0
found_of (some r) = 1

-- "a refusal carries no row": its bits are 0
abbrev pub row_of : Option ℕ → ℕ
row_of none = 0
row_of (some r) = r

-- "bits 0-7 number, bit 8 a row has it, 16-31 the row, all others 0"
abbrev pub packed_caller : ToldCaller → ℕ
packed_caller t = t.number + found_of t.row * 256 + row_of t.row * 65536

pub record PacksCaller (t : ToldCaller) (r : ℕ) : Type 0 where
  pub number : t.number < 256
  pub row : row_of t.row < 65536
  pub bits : r ≡ packed_caller t

-- "The lookup answers with the row, or that no row has that number": an answer that its contract allows, packed
pub record LooksUp (lim : Limits) (idtype : ℕ) (digits store : List ℕ) (r : ℕ) : Type 0 where
  pub answer : ToldCaller
  pub allowed : Answers (looking_up lim idtype digits store) answer
  pub packs : PacksCaller answer r

-- ---- the screen's rows

-- whether the row is shown
abbrev pub AnswersNumber : (lim : Limits) (table row : ℕ) (store scratch : List ℕ) (r : ℕ) → Type 0
AnswersNumber lim table row store scratch r = Answers (numbering lim store scratch (row_named table row)) r

-- bit 0: 0 store, 1 scratch; 16-31 offset; 32-47 length
abbrev pub packed_part : RowPart → ℕ
packed_part (of_store start bytes) = start * 65536 + bytes * 4294967296
packed_part (of_scratch bytes) = 1 + bytes * 4294967296

-- the part of a place that the code answers
abbrev pub part_of : Place → RowPart
part_of p = (leaves p []).part

abbrev pub start_of : RowPart → ℕ
start_of (of_store start bytes) = start
start_of (of_scratch bytes) = 0

abbrev pub length_of : RowPart → ℕ
length_of (of_store start bytes) = bytes
length_of (of_scratch bytes) = bytes

pub record PacksPart (p : RowPart) (r : ℕ) : Type 0 where
  pub start : start_of p < 65536
  pub bytes : length_of p < 65536
  pub bits : r ≡ packed_part p

-- an outcome that the contract of a row allows, with its part packed; its number is that of Numbers
pub record AnswersPart (lim : Limits) (table row : ℕ) (store scratch scratch_after : List ℕ) (r : ℕ) : Type 0 where
  pub number : ℕ
  pub part : RowPart
  pub allowed : Answers (showing lim store scratch (row_named table row)) (record { number = number; part = part; scratch = scratch_after })
  pub packs : PacksPart part r

-- ---- conversions

-- a value, or a refusal where there is none
abbrev pub value_or : ℕ → Maybe ℕ → Answer
value_or refusal (Some v) = given v
value_or refusal None = refused refusal

-- bits 0-7 number, 8-39 value
abbrev pub packed_value : Answer → ℕ
packed_value a = a.number + a.value * 256

pub record PacksValue (a : Answer) (r : ℕ) : Type 0 where
  pub number : a.number < 256
  pub value : a.value < 4294967296
  pub bits : r ≡ packed_value a

-- an answer that the contract of a conversion allows, packed
pub record Converts (Has : ℕ → ℕ → Type 0) (refusal x r : ℕ) : Type 0 where
  pub answer : Answer
  pub allowed : Answered Has refusal x answer
  pub packs : PacksValue answer r
