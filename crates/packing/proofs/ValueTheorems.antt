-- What firmware may rely on where it asks what stands behind a row, and for the settings: one answer, and its bits give the values back. Assumes nothing.
use Rattle.lists.proofs.Kit.{ℕ, ◌/◌, ◌%◌, ◌<◌, ◌≡◌, sym, ap, ◌∙◌, List, arith}
use Rattle.lists.specs.Ladder.{Ladder, Answers}
use Rattle.writing.specs.declared.HomeNumbers.{HomeNumbers}
use Rattle.writing.specs.declared.SystemCode.{SystemCode}
use Rattle.writing.specs.Canonical.{side_by_side}
use Rattle.writing.specs.Fields.{Field}
use Rattle.writing.specs.Writing.{bit}
use Rattle.tables.specs.declared.limits.Limits.{Limits}
use Rattle.screen.specs.Rows.{row_named}
use Rattle.values.specs.Digits.{AfterDigits, writing_digits}
use Rattle.values.specs.Values.{Asked, entering, tuning, key_asked, home_asked, system_asked}
use Rattle.values.proofs.Theorems.{asked_one, digits_one}
use Rattle.packing.specs.declared.entries.EntryValues.{EntryValues}
use Rattle.packing.specs.declared.fixed.KeyValues.{KeyValues}
use Rattle.packing.specs.PackedValues.{PacksFields, Packed, entry_bits, entry_fields, Enters, digits_fields, WritesDigits, channel_value, channel_fields, Tunes, key_bits, key_fields, AnswersKey, home_bits, home_fields, AnswersHome, system_bits, system_fields, AnswersSystem}
use Rattle.packing.proofs.SideBySide.{read_back}

-- ---- one answer

-- an answer that is one has one number
packed_one : {A : Type 0} (call : Ladder A) (fields : A → List Field) → ((a b : A) → Answers call a → Answers call b → a ≡ b) → (r q : ℕ) → Packed call fields r → Packed call fields q → r ≡ q
packed_one call fields one r q x y = x.packs.bits ∙ ap (λ a. side_by_side (fields a)) (one x.answer y.answer x.allowed y.allowed) ∙ sym y.packs.bits

-- WHAT STANDS BEHIND A ROW: one number
pub entry_determined : (lim : Limits) (table index : ℕ) (store : List ℕ) (r q : ℕ) → Enters lim table index store r → Enters lim table index store q → r ≡ q
entry_determined lim table index store = packed_one (entering lim (row_named table index) store) entry_fields (asked_one lim _ store)

-- ITS DIGITS: one number, and one buffer afterwards
pub digits_determined : (lim : Limits) (table index : ℕ) (store buffer s t : List ℕ) (r q : ℕ) → WritesDigits lim table index store buffer s r → WritesDigits lim table index store buffer t q → (r ≡ q) × (s ≡ t)
digits_determined lim table index store buffer s t r q x y =
    let one = digits_one lim (row_named table index) store buffer in (
      packed_one (writing_digits lim (row_named table index) store buffer) digits_fields one r q x.packed y.packed,
      x.leaves ∙ ap (λ (a : AfterDigits). a.buffer) (one x.packed.answer y.packed.answer x.packed.allowed y.packed.allowed) ∙ sym y.leaves,
    )

-- A CHANNEL: one number
pub channel_determined : (lim : Limits) (position : ℕ) (store : List ℕ) (r q : ℕ) → Tunes lim position store r → Tunes lim position store q → r ≡ q
channel_determined lim position store = packed_one (tuning lim position store) channel_fields (asked_one lim _ store)

-- THE EMERGENCY KEY: one number
pub key_determined : (lim : Limits) (store : List ℕ) (r q : ℕ) → AnswersKey lim store r → AnswersKey lim store q → r ≡ q
key_determined lim store = packed_one (key_asked lim store) key_fields (asked_one lim _ store)

-- THE HOME NUMBERS: one number
pub home_determined : (lim : Limits) (store : List ℕ) (r q : ℕ) → AnswersHome lim store r → AnswersHome lim store q → r ≡ q
home_determined lim store = packed_one (home_asked lim store) home_fields (asked_one lim _ store)

-- THE SYSTEM CODE: one number
pub system_determined : (lim : Limits) (store : List ℕ) (r q : ℕ) → AnswersSystem lim store r → AnswersSystem lim store q → r ≡ q
system_determined lim store = packed_one (system_asked lim store) system_fields (asked_one lim _ store)

-- ---- the values of an answer

-- WHAT STANDS BEHIND A ROW: shifts and masks give the values back, and no other bit is set
pub entry_unpacked : (v : EntryValues) (number r : ℕ) → PacksFields (entry_bits v number) r
    → (r % 256 ≡ number) × (r / 256 % 16777216 ≡ v.address)
    × (r / 4294967296 % 2 ≡ bit v.idtype) × (r / 8589934592 % 2 ≡ bit v.encryption) × (r / 17179869184 % 2 ≡ bit v.emergency)
    × (r / 34359738368 % 4 ≡ v.priority) × (r / 137438953472 % 4 ≡ v.attribute)
    × (r / 549755813888 % 2 ≡ bit v.broadcast) × (r / 1099511627776 % 2 ≡ bit v.ovcm) × (r < 2199023255552)
entry_unpacked v number r p =
    let ((o, (b, (t, (y, (m, (e, (i, (a, (n, _))))))))), small) = read_back (entry_bits v number) r p in
    (omega (arith, n), a, i, e, m, y, t, b, o, small)

-- ITS DIGITS
pub digits_unpacked : (a : AfterDigits) (r : ℕ) → PacksFields (digits_fields a) r → (r % 256 ≡ a.number) × (r / 256 % 256 ≡ a.count) × (r < 65536)
digits_unpacked a r p =
    let ((k, (n, _)), small) = read_back (digits_fields a) r p in
    (omega (arith, n), k, small)

-- A CHANNEL
pub channel_unpacked : (a : Asked ℕ) (r : ℕ) → PacksFields (channel_fields a) r → (r % 256 ≡ a.number) × (r / 256 % 4096 ≡ channel_value a.value) × (r < 1048576)
channel_unpacked a r p =
    let ((c, (n, _)), small) = read_back (channel_fields a) r p in
    (omega (arith, n), c, small)

-- THE EMERGENCY KEY
pub key_unpacked : (v : KeyValues) (number r : ℕ) → PacksFields (key_bits v number) r
    → (r % 256 ≡ number) × (r / 256 % 16777216 ≡ v.address)
    × (r / 4294967296 % 2 ≡ bit v.current) × (r / 8589934592 % 2 ≡ bit v.group) × (r / 17179869184 % 2 ≡ bit v.voice)
    × (r / 34359738368 % 2 ≡ bit v.status) × (r / 68719476736 % 2 ≡ bit v.siren) × (r < 137438953472)
key_unpacked v number r p =
    let ((s, (t, (o, (g, (c, (a, (n, _))))))), small) = read_back (key_bits v number) r p in
    (omega (arith, n), a, c, g, o, t, s, small)

-- THE HOME NUMBERS
pub home_unpacked : (v : HomeNumbers) (number r : ℕ) → PacksFields (home_bits v number) r → (r % 256 ≡ number) × (r / 256 % 512 ≡ v.nzi) × (r / 131072 % 1024 ≡ v.np) × (r < 134217728)
home_unpacked v number r p =
    let ((m, (z, (n, _))), small) = read_back (home_bits v number) r p in
    (omega (arith, n), z, m, small)

-- THE SYSTEM CODE
pub system_unpacked : (v : SystemCode) (number r : ℕ) → PacksFields (system_bits v number) r
    → (r % 256 ≡ number) × (r / 256 % 4096 ≡ v.lai) × (r / 1048576 % 16 ≡ v.la) × (r / 16777216 % 4 ≡ v.roaming) × (r / 67108864 % 2 ≡ bit v.par) × (r < 134217728)
system_unpacked v number r p =
    let ((b, (m, (l, (i, (n, _))))), small) = read_back (system_bits v number) r p in
    (omega (arith, n), i, l, m, b, small)
