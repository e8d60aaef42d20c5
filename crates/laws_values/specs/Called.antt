-- What the officer presses is what the officer sees: what it means that a row that is shown is called.
use Rattle.std.specs.Prelude.{ℕ, ◌≤◌, ◌≡◌, List, length}
use Rattle.std.proofs.Math.Option.{some}
use Rattle.lists.specs.Ladder.{Answers}
use Rattle.slots.specs.Slots.{written_over}
use Rattle.writing.specs.Settings.{Number, Setting}
use Rattle.tables.specs.declared.limits.Limits.{Limits}
use Rattle.tables.specs.Tables.{GroupMember}
use Rattle.screen.specs.declared.rows.Row.{Row}
use Rattle.screen.specs.declared.rows.Row.TheVariants.{Line, QuickText, StatusText, Group, Individual, GroupContact, IndividualContact, LineSlot, NoTable}
use Rattle.screen.specs.Rows.{Caption, group, line_row, individual_row}
use Rattle.screen.specs.Screen.{RowBytes}
use Rattle.values.specs.declared.answers.Target.{Target}
use Rattle.values.specs.Digits.{AfterDigits, writing_digits}
use Rattle.values.specs.Values.{line_target, group_target, individual_target}
use Rattle.laws_values.specs.Sent.{GroupSent, IndividualSent, LineSlotSent, GroupContactSent, IndividualContactSent, LineSent}

-- one entry, sent so, is what is called; and what is shown is its text or, where that is empty, its number as the screen writes it
pub record OneCalled {A : Type 0} (Sent : A → Type 0) (target : A → Target) (row : A → Caption) (x : Target) (shown : List ℕ) : Type 0 where
  pub entry : A
  pub sent : Sent entry
  pub called : x ≡ target entry
  pub shows : RowBytes (some (row entry)) shown

-- a group that has a row
abbrev pub group_caption : GroupMember → Caption
group_caption g = group g.text g.address

-- the call of the digits, lent 18 bytes or more, answers these for the row, and writes them
abbrev pub Dials : Limits → List ℕ → Row → Number → Type 0
Dials lim store row ds =
    (buffer : List ℕ) (d : AfterDigits) → 18 ≤ length buffer → Answers (writing_digits lim row store buffer) d → d ≡ record { number = 0; count = length ds; buffer = written_over ds buffer }

-- of a row, by its kind, after these settings: the entry was sent for the row's slot or, as rows of lists go by position, for its own key; a line's digits are asked for apart
abbrev pub Called : Limits → List ℕ → List Setting → Row → Target → List ℕ → Type 0
Called lim store l (Line n) = OneCalled (λ m. LineSent l m × Dials lim store (Line n) m.number) line_target line_row
Called lim store l (QuickText n) = λ x shown. ⊥
Called lim store l (StatusText n) = λ x shown. ⊥
Called lim store l (Group i) = OneCalled (GroupSent l i) group_target group_caption
Called lim store l (Individual i) = OneCalled (IndividualSent l i) individual_target individual_row
Called lim store l (GroupContact n) = OneCalled (GroupContactSent l) group_target group_caption
Called lim store l (IndividualContact n) = OneCalled (IndividualContactSent l) individual_target individual_row
Called lim store l (LineSlot i) = OneCalled (λ m. LineSlotSent l i m × Dials lim store (LineSlot i) m.number) line_target line_row
Called lim store l NoTable = λ x shown. ⊥
