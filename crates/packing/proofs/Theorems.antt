-- What firmware may rely on: two answers that a contract allows are equal, and the bits of an answer give its values back. Assumes nothing.
use Rattle.lists.proofs.Kit.{ℕ, ◌/◌, ◌%◌, ◌≤◌, ◌<◌, ◌≡◌, refl, sym, ap, ◌∙◌, List, Option, none, some, arith}
use Rattle.plan.specs.Answers.{Answer}
use Rattle.plan.proofs.AnswerLaws.{One, determined as value_determined}
use Rattle.writing.specs.Writing.{bit}
use Rattle.tables.specs.declared.limits.Limits.{Limits}
use Rattle.tables.specs.Store.{Begun}
use Rattle.tables.proofs.EntryCodes.{bit_small}
use Rattle.tables.proofs.Theorems.{begun_determined}
use Rattle.station.specs.Answers.{Said}
use Rattle.station.specs.Taking.{AfterTaking}
use Rattle.laws_taking.proofs.Determined.{outcome_determined}
use Rattle.export.specs.Exporting.{Told, AfterExport as Exported}
use Rattle.export.proofs.Determined.{outcome_determined as export_determined}
use Rattle.screen.specs.Rows.{row_named}
use Rattle.screen.specs.Screen.{RowPart, of_store, of_scratch, AfterRow as Row}
use Rattle.screen.proofs.Determined.{shown_determined, number_one}
use Rattle.menu.specs.Menu.{Told as ToldCounts}
use Rattle.menu.proofs.Theorems.{counts_one}
use Rattle.callers.specs.Callers.{Told as ToldCaller}
use Rattle.callers.proofs.Theorems.{line_of_one}
use Rattle.packing.specs.Packing.{Starts, packed, Packs, Judgements, Commits, packed_export, PacksExport, Exports, packed_counts, PacksCounts, Counts, found_of, row_of, packed_caller, PacksCaller, LooksUp, AnswersNumber, packed_part, start_of, length_of, PacksPart, AnswersPart, packed_value, PacksValue, Converts}

-- ---- one answer

-- STARTING: one number, and one store afterwards
pub starts_determined : (lim : Limits) (s t u : List ℕ) (r q : ℕ) → Starts lim s t r → Starts lim s u q → (r ≡ q) × (t ≡ u)
starts_determined lim s t u r q x y =
    let e = begun_determined lim s _ _ x y in (ap (λ (a : Begun). a.number) e, ap (λ (a : Begun). a.store) e)

-- COMMITTING: one number, one store and one reply afterwards
pub commits_determined : (lim : Limits) (message store reply s t u v : List ℕ) (r q : ℕ) → Commits lim message store reply s t r → Commits lim message store reply u v q → (r ≡ q) × (s ≡ u) × (t ≡ v)
commits_determined lim message store reply s t u v r q x y =
    let e = outcome_determined lim message store reply _ _ x.allowed y.allowed in (
      x.packs.bits ∙ ap (λ (a : AfterTaking). packed a.answer) e ∙ sym y.packs.bits,
      ap (λ (a : AfterTaking). a.store) e,
      ap (λ (a : AfterTaking). a.reply) e,
    )

-- JUDGING: one number and one reply afterwards
pub judgements_determined : (lim : Limits) (message store reply s t : List ℕ) (r q : ℕ) → Judgements lim message store reply s r → Judgements lim message store reply t q → (r ≡ q) × (s ≡ t)
judgements_determined lim message store reply s t r q x y =
    let i = x.allowed in
    let j = y.allowed in
    let e = outcome_determined lim message store reply _ _ i.allowed j.allowed in (
      x.packs.bits ∙ ap packed (i.says ∙ ap (λ (a : AfterTaking). a.answer) e ∙ sym j.says) ∙ sym y.packs.bits,
      i.writes ∙ ap (λ (a : AfterTaking). a.reply) e ∙ sym j.writes,
    )

-- and those of committing
pub judged_as_committed : (lim : Limits) (message store reply t u v : List ℕ) (r q : ℕ) → Judgements lim message store reply t r → Commits lim message store reply u v q → (r ≡ q) × (t ≡ v)
judged_as_committed lim message store reply t u v r q x y =
    judgements_determined lim message store reply t v r q x
    (record { answer = y.answer; allowed = record { after = _; allowed = y.allowed; says = refl; writes = refl }; packs = y.packs })

-- EXPORTING: one number, and one buffer afterwards
pub exports_determined : (lim : Limits) (part : ℕ) (store buffer s t : List ℕ) (r q : ℕ) → Exports lim part store buffer s r → Exports lim part store buffer t q → (r ≡ q) × (s ≡ t)
exports_determined lim part store buffer s t r q x y =
    let e = export_determined lim part store buffer _ _ x.allowed y.allowed in (
      x.packs.bits ∙ ap (λ (a : Exported). packed_export a.answer) e ∙ sym y.packs.bits,
      ap (λ (a : Exported). a.buffer) e,
    )

-- THE COUNTS: one number
pub counts_determined : (lim : Limits) (store : List ℕ) (r q : ℕ) → Counts lim store r → Counts lim store q → r ≡ q
counts_determined lim store r q x y =
    x.packs.bits ∙ ap packed_counts (counts_one lim store _ _ x.allowed y.allowed) ∙ sym y.packs.bits

-- WHO IS CALLING: one number
pub callers_determined : (lim : Limits) (idtype : ℕ) (digits store : List ℕ) (r q : ℕ) → LooksUp lim idtype digits store r → LooksUp lim idtype digits store q → r ≡ q
callers_determined lim idtype digits store r q x y =
    x.packs.bits ∙ ap packed_caller (line_of_one lim idtype digits store _ _ x.allowed y.allowed) ∙ sym y.packs.bits

-- A ROW'S NUMBER: one
pub numbers_determined : (lim : Limits) (table row : ℕ) (store scratch : List ℕ) (r q : ℕ) → AnswersNumber lim table row store scratch r → AnswersNumber lim table row store scratch q → r ≡ q
numbers_determined lim table row store scratch = number_one lim store scratch (row_named table row)

-- A ROW: one number, and one scratch afterwards
pub shows_determined : (lim : Limits) (table row : ℕ) (store scratch s t : List ℕ) (r q : ℕ) → AnswersPart lim table row store scratch s r → AnswersPart lim table row store scratch t q → (r ≡ q) × (s ≡ t)
shows_determined lim table row store scratch s t r q x y =
    let e = shown_determined lim store scratch (row_named table row) _ _ x.allowed y.allowed in (
      x.packs.bits ∙ ap (λ (a : Row). packed_part a.part) e ∙ sym y.packs.bits,
      ap (λ (a : Row). a.scratch) e,
    )

-- CONVERTING: one number, where each number has one value; plan/proofs/Theorems has that of all seven
pub converts_determined : (Has : ℕ → ℕ → Type 0) → One Has → (refusal x r q : ℕ) → Converts Has refusal x r → Converts Has refusal x q → r ≡ q
converts_determined Has one refusal x r q a b =
    a.packs.bits ∙ ap packed_value (value_determined Has one refusal x a.answer b.answer a.allowed b.allowed) ∙ sym b.packs.bits

-- ---- the values of an answer

-- JUDGING AND COMMITTING: shifts and masks give the values back, and no other bit is set
pub answer_unpacked : (s : Said) (r : ℕ) → Packs s r
    → (r % 256 ≡ s.number) × (r / 256 % 256 ≡ s.failed) × (r / 65536 % 2 ≡ bit s.send) × (r / 131072 % 2 ≡ bit s.reboot) × (r / 262144 % 64 ≡ 0) × (r / 16777216 ≡ s.reply_length)
answer_unpacked s r p =
    let i : bit s.send ≤ 1 = bit_small s.send in
    let j : bit s.reboot ≤ 1 = bit_small s.reboot in
    let n = p.number in
    let f = p.failed in
    let l = p.reply_length in
    let e = p.bits in
    (omega arith, omega arith, omega arith, omega arith, omega arith, omega arith)

-- EXPORTING
pub export_unpacked : (t : Told) (r : ℕ) → PacksExport t r → (r % 256 ≡ t.number) × (r / 256 % 256 ≡ 0) × (r / 65536 ≡ t.request_length)
export_unpacked t r p =
    let n = p.number in
    let l = p.request_length in
    let e = p.bits in
    (omega arith, omega arith, omega arith)

-- THE COUNTS
pub counts_unpacked : (t : ToldCounts) (r : ℕ) → PacksCounts t r
    → (r % 256 ≡ t.number) × (r / 256 % 256 ≡ 0) × (r / 65536 % 65536 ≡ t.lines) × (r / 4294967296 ≡ t.channels)
counts_unpacked t r p =
    let n = p.number in
    let l = p.lines in
    let c = p.channels in
    let e = p.bits in
    (omega arith, omega arith, omega arith, omega arith)

-- whether there is a row has one bit
found_small : (o : Option ℕ) → found_of o ≤ 1
found_small none = omega arith
found_small (some r) = omega arith

-- WHO IS CALLING
pub caller_unpacked : (t : ToldCaller) (r : ℕ) → PacksCaller t r
    → (r % 256 ≡ t.number) × (r / 256 % 2 ≡ found_of t.row) × (r / 512 % 128 ≡ 0) × (r / 65536 % 65536 ≡ row_of t.row) × (r < 4294967296)
caller_unpacked t r p =
    let i : found_of t.row ≤ 1 = found_small t.row in
    let n = p.number in
    let l = p.row in
    let e = p.bits in
    (omega arith, omega arith, omega arith, omega arith, omega arith)

-- which slice a part is of
abbrev pub slice_of : RowPart → ℕ
slice_of (of_store start bytes) = 0
slice_of (of_scratch bytes) = 1

-- A ROW
pub part_unpacked : (p : RowPart) (r : ℕ) → PacksPart p r → (r % 65536 ≡ slice_of p) × (r / 65536 % 65536 ≡ start_of p) × (r / 4294967296 ≡ length_of p)
part_unpacked (of_store start bytes) r p =
    let s = p.start in
    let l = p.bytes in
    let e = p.bits in
    (omega arith, omega arith, omega arith)
part_unpacked (of_scratch bytes) r p =
    let l = p.bytes in
    let e = p.bits in
    (omega arith, omega arith, omega arith)

-- CONVERTING
pub value_unpacked : (a : Answer) (r : ℕ) → PacksValue a r → (r % 256 ≡ a.number) × (r / 256 ≡ a.value)
value_unpacked a r p =
    let n = p.number in
    let v = p.value in
    let e = p.bits in
    (omega arith, omega arith)
