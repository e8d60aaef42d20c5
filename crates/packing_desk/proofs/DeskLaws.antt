-- What a desk emulator may rely on: two answers that a contract allows are equal, and the bits of an answer give its values back. Assumes nothing.
use Rattle.lists.proofs.Kit.{ℕ, ◌+◌, ◌*◌, ◌/◌, ◌%◌, ◌≡◌, sym, ap, ◌∙◌, ◌≢◌, ◌↔◌, inl, inr, List, arith}
use Rattle.lists.proofs.Ladder.{one_answer}
use Rattle.writing.specs.Writing.{bit}
use Rattle.station.specs.Taking.{AfterTaking}
use Rattle.screen.specs.Rows.{row_named}
use Rattle.screen.specs.Screen.{AfterRow}
use Rattle.packing.specs.Packing.{packed, packed_part, start_of, length_of}
use Rattle.packing.proofs.Theorems.{answer_unpacked, slice_of, part_unpacked}
use Rattle.plain_log.specs.Area.{Begun, area_starting}
use Rattle.plain.proofs.Theorems.{plain_determined}
use Rattle.plain_rows.proofs.RowsDetermined.{rows_determined, numbers_determined}
use Rattle.packing_desk.proofs.DeskBits.{InScratch, part_in_scratch, plain_number_same}
use Rattle.packing_desk.specs.PackedDesk.{AreaStarts, PlainTakes, PlainNumbers, PlainParts}

-- ---- one answer

-- STARTING: one number, and one area afterwards
pub area_starts_determined : (s t u : List ℕ) (r q : ℕ) → AreaStarts s t r → AreaStarts s u q → (r ≡ q) × (t ≡ u)
area_starts_determined s t u r q x y =
    let e = one_answer (area_starting s) (λ a b i j. i.1 ∙ sym j.1) _ _ x y in (ap (λ (a : Begun). a.number) e, ap (λ (a : Begun). a.area) e)

-- TAKING: one number, one area and one reply afterwards
pub takes_determined : (message area reply s t u v : List ℕ) (r q : ℕ) → PlainTakes message area reply s t r → PlainTakes message area reply u v q → (r ≡ q) × (s ≡ u) × (t ≡ v)
takes_determined message area reply s t u v r q x y =
    let e = plain_determined message area reply _ _ x.allowed y.allowed in (
      x.packs.bits ∙ ap (λ (a : AfterTaking). packed a.answer) e ∙ sym y.packs.bits,
      ap (λ (a : AfterTaking). a.store) e,
      ap (λ (a : AfterTaking). a.reply) e,
    )

-- A ROW'S NUMBER: one
pub plain_numbers_determined : (table row : ℕ) (area scratch : List ℕ) (r q : ℕ) → PlainNumbers table row area scratch r → PlainNumbers table row area scratch q → r ≡ q
plain_numbers_determined table row area scratch = numbers_determined area scratch (row_named table row)

-- A ROW: one number, and one scratch afterwards
pub plain_parts_determined : (table row : ℕ) (area scratch s t : List ℕ) (r q : ℕ) → PlainParts table row area scratch s r → PlainParts table row area scratch t q → (r ≡ q) × (s ≡ t)
plain_parts_determined table row area scratch s t r q x y =
    let e = rows_determined area scratch (row_named table row) _ _ x.allowed y.allowed in (
      x.packs.bits ∙ ap (λ (a : AfterRow). packed_part a.part) e ∙ sym y.packs.bits,
      ap (λ (a : AfterRow). a.scratch) e,
    )

-- ---- the values of an answer

-- TAKING: shifts and masks give the values back, and no other bit is set
pub take_unpacked : (message area reply s t : List ℕ) (r : ℕ) (x : PlainTakes message area reply s t r)
    → (r % 256 ≡ x.answer.number) × (r / 256 % 256 ≡ x.answer.failed) × (r / 65536 % 2 ≡ bit x.answer.send)
    × (r / 131072 % 2 ≡ bit x.answer.reboot) × (r / 262144 % 64 ≡ 0) × (r / 16777216 ≡ x.answer.reply_length)
take_unpacked message area reply s t r x = answer_unpacked x.answer r x.packs

-- A ROW
pub plain_part_unpacked : (table row : ℕ) (area scratch s : List ℕ) (r : ℕ) (x : PlainParts table row area scratch s r)
    → (r % 65536 ≡ slice_of x.part) × (r / 65536 % 65536 ≡ start_of x.part) × (r / 4294967296 ≡ length_of x.part)
plain_part_unpacked table row area scratch s r x = part_unpacked x.part r x.packs

-- ---- shown or not

-- what is packed is another number than 0 exactly where the row is shown
shown_packed : (a : AfterRow) (r : ℕ) → r ≡ packed_part a.part → InScratch a → (a.number ≡ 0) ↔ (r ≢ 0)
shown_packed a r e (inl (z, n, h, p)) = let q : r ≡ 1 + n * 4294967296 = e ∙ ap packed_part p in (λ _ k. omega arith, λ _. z)
shown_packed a r e (inr (h, p)) = let q : r ≡ 0 = e ∙ ap packed_part p in (λ z. absurd (omega arith), λ k. absurd (k q))

-- SHOWN PART: the row's number is 0 exactly where the other call answers another number than 0
pub plain_shown_part : (table row : ℕ) (area scratch after : List ℕ) (n r : ℕ) → PlainNumbers table row area scratch n → PlainParts table row area scratch after r → (n ≡ 0) ↔ (r ≢ 0)
plain_shown_part table row area scratch after n r x y =
    let a : AfterRow = record { number = y.number; part = y.part; scratch = after } in
    let e : n ≡ y.number = plain_numbers_determined table row area scratch n y.number x (plain_number_same area scratch (row_named table row) a y.allowed) in
    let (to, back) = shown_packed a r y.packs.bits (part_in_scratch area scratch (row_named table row) a y.allowed) in
    (λ z. to (sym e ∙ z), λ k. e ∙ back k)
