-- What writing one parameter of a report promises. No promise of a call cites these.
use Rattle.std.specs.Prelude.{ℕ, ◌+◌, ◌≤◌, ◌≡◌, Bool, true, false, List, ◌++◌, length}
use Rattle.std.proofs.Math.Option.{Option}
use Rattle.writing.specs.Canonical.{plain}
use Rattle.writing.specs.Ranges.{HashSize}
use Rattle.writing.specs.Settings.{unicode16}
use Rattle.writing.specs.Writing.{text}
use Rattle.export_write.specs.Writers.{Wrote, Writes, TextIn}
use Rattle.reports.specs.declared.Asked.{Asked}
use Rattle.reports.specs.declared.Asked.TheVariants.{Groups, Individuals, Lines, Key, QuickTexts, Home, Channels, System, StatusTexts, Hash}
use Rattle.reports.specs.Items.{item_bytes}
use Rattle.reports.specs.TableSlots.{EntryOf, EntryOk, InSlot, InPlaces, entry_bytes, item_at, slot_item, slot_width}

-- "least / most bytes": no parameter has more than a quick text's
abbrev pub item_most : ℕ
item_most = 51

-- whatever stands in the slot, its parameter was written at the buffer's start, and nothing where the slot is empty; r is its length
pub record WritesItem (a : Asked) (slot : List ℕ) (place rank : ℕ) (before after : List ℕ) (r : ℕ) : Type 0 where
  pub most : r ≤ item_most
  pub wrote : (o : Option (EntryOf a)) → InSlot a slot o → InPlaces a place → item_most ≤ length before → Wrote (slot_item a place rank o) 0 before after r

-- ---- inner steps

-- there is room for a parameter, and the slot is one of the type's table
abbrev pub Ready : Asked → (slot before : List ℕ) → Type 0
Ready a slot before = (item_most ≤ length before) × (length slot ≡ slot_width a)

-- the slot keeps this entry, in this place
abbrev pub Keeps : (a : Asked) → (place : ℕ) → (slot : List ℕ) → EntryOf a → Type 0
Keeps a place slot x = InPlaces a place × EntryOk a x × (slot ≡ entry_bytes a x)

-- the parameter of the entry that the slot keeps, whatever it is, was written at the buffer's start
abbrev pub WritesEntry : (a : Asked) → (slot : List ℕ) → (place rank : ℕ) → (before after : List ℕ) → ℕ → Type 0
WritesEntry a slot place rank before after r =
    Writes {A = EntryOf a} (λ x. Keeps a place slot x) (λ x. item_bytes (item_at a place rank x)) 0 item_most before after r

-- a head was written at the buffer's start, and behind it the text that the lent bytes keep
abbrev pub WritesHeaded : (head slot : List ℕ) → (before after : List ℕ) → ℕ → Type 0
WritesHeaded head slot before after r = Writes (TextIn slot) (λ us. head ++ plain (text unicode16 us)) 0 (length head + length slot + 2) before after r

-- MayBeEmpty as a test
abbrev pub may_be_empty : Asked → Bool
may_be_empty Groups = true
may_be_empty Individuals = true
may_be_empty Lines = true
may_be_empty Key = false
may_be_empty QuickTexts = true
may_be_empty Home = false
may_be_empty Channels = true
may_be_empty System = false
may_be_empty StatusTexts = true
may_be_empty Hash = false

-- a kept hash of this code ends at r in its slot
abbrev pub ValueEnd : (code r : ℕ) → Type 0
ValueEnd code r = (r ≤ 11) × ((n : ℕ) → HashSize code n → (code ≡ 0 → ⊥) → r ≡ 1 + n)
