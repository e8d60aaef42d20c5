-- What the writers of an export leave in the buffer, step by step.
use Rattle.std.specs.Prelude.{ℕ, ◌+◌, ◌≤◌, ◌<◌, ◌≡◌, List, ◌++◌, length, get_or, take, drop}
use Rattle.std.proofs.Math.Option.{Option}
use Rattle.lists.specs.Every.{All}
use Rattle.slots.specs.Slots.{slot, Present, Listed}
use Rattle.writing.specs.Canonical.{plain, canonical, canonical_all, FitsField}
use Rattle.writing.specs.Ranges.{InNumber}
use Rattle.writing.specs.Settings.{Text, Number, Setting, kind, unicode16}
use Rattle.writing.specs.Writing.{text, number, type_byte, body}
use Rattle.tables.specs.Allowed.{TextOk}
use Rattle.tables.specs.Layout.{text_bytes, digit_bytes}
use Rattle.export_write.specs.declared.writers.Settings.{Settings}

-- the bytes stand in the buffer from `at` on, all others stay, and r is the place after them
pub record Wrote (bytes : List ℕ) (at : ℕ) (before after : List ℕ) (r : ℕ) : Type 0 where
  pub fits : at + length bytes ≤ length before
  pub content : after ≡ take at before ++ (bytes ++ drop (at + length bytes) before)
  pub next : r ≡ at + length bytes

-- what the lent bytes hold, whatever it is, was written at `at`, in at most so many bytes
pub record Writes {A : Type 0} (Held : A → Type 0) (written : A → List ℕ) (at room : ℕ) (before after : List ℕ) (r : ℕ) : Type 0 where
  pub from : at ≤ r
  pub most : r ≤ at + room
  pub wrote : (a : A) → Held a → Wrote (written a) at before after r

-- the lent bytes are those of a, which has P
abbrev pub Kept : {A : Type 0} → (A → Type 0) → (A → List ℕ) → List ℕ → A → Type 0
Kept P f s a = P a × (s ≡ f a)

-- the lent bytes are the slot of an entry that has P, or an empty one
abbrev pub SlotIn : {A : Type 0} → (A → Type 0) → ℕ → (A → List ℕ) → List ℕ → Option A → Type 0
SlotIn P w f s o = Present P o × (s ≡ slot w f o)

-- the lent bytes are a text's, of whatever limit
abbrev pub TextIn : List ℕ → Text → Type 0
TextIn s us = (n : ℕ) × Kept (TextOk n) (text_bytes n) s us

-- a kept text was written: its units, and the end unit
abbrev pub WritesText : (slot : List ℕ) → (at : ℕ) → (before after : List ℕ) → ℕ → Type 0
WritesText slot at before after r = Writes (TextIn slot) (λ us. plain (text unicode16 us)) at (length slot + 2) before after r

-- a kept number was written: its digits, and the end mark
abbrev pub WritesNumber : (digits : List ℕ) → (at : ℕ) → (before after : List ℕ) → ℕ → Type 0
WritesNumber digits at before after r = Writes (Kept InNumber digit_bytes digits) (λ ds. plain (number ds)) at 10 before after r

-- the setting of what the lent bytes hold was written
abbrev pub WritesSetting : {A : Type 0} → (A → Type 0) → (A → Setting) → (at room : ℕ) → (before after : List ℕ) → ℕ → Type 0
WritesSetting Held setting at room before after r = Writes Held (λ a. canonical unicode16 (setting a)) at room before after r

-- a digit of a kept number, 15 past the last
abbrev pub DigitAt : List ℕ → ℕ → ℕ → Type 0
DigitAt s i r = (r < 16) × ((ds : Number) → Kept InNumber digit_bytes s ds → r ≡ get_or ds i 15)

-- the setting whose fields after DataLength were written up to `end` was given its type byte and DataLength
pub record Started (type at end : ℕ) (before after : List ℕ) (r : ℕ) : Type 0 where
  pub same : r ≡ end
  pub setting : (s : Setting) (was : List ℕ) → type_byte (kind s) ≡ type → All FitsField (body unicode16 s)
      → Wrote (plain (body unicode16 s)) (at + 3) was before end → Wrote (canonical unicode16 s) at was after r

-- the lent bytes are the list table of xs, with however many places
abbrev pub ListIn : {A : Type 0} → (A → Type 0) → ℕ → (A → List ℕ) → List ℕ → List A → Type 0
ListIn P w f s xs = (n : ℕ) × Listed P w f n xs s

-- the settings of what the lent bytes hold were written, and counted
pub record WritesAll {A : Type 0} (Held : A → Type 0) (settings : A → List Setting) (at room : ℕ) (before after : List ℕ) (r : Settings) : Type 0 where
  pub writes : Writes Held (λ a. canonical_all unicode16 (settings a)) at room before after r.end
  pub counted : (a : A) → Held a → r.count ≡ length (settings a)

-- the settings of what the lent bytes hold were written behind a request's head, if the bytes are as long as they should be and there is room
abbrev pub WritesTable : {A : Type 0} → (Long : Type 0) → (A → Type 0) → (A → List Setting) → (room : ℕ) → (before after : List ℕ) → Settings → Type 0
WritesTable Long Held settings room before after r = Long × (8 + room ≤ length before) → WritesAll Held settings 8 room before after r
