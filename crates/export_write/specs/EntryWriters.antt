-- Quick and status texts as the writers see them, and what writing them promises.
use Rattle.std.specs.Prelude.{ℕ, ◌+◌, ◌-◌, ◌*◌, ◌≤◌, ◌<◌, ◌≡◌, false, List, [], ◌∷◌, ◌++◌, map, length, take, drop}
use Rattle.std.proofs.Math.Option.{Option}
use Rattle.slots.specs.Slots.{flat, zeros?, Placed}
use Rattle.writing.specs.declared.Operation.TheVariants.{Replace}
use Rattle.writing.specs.Canonical.{plain}
use Rattle.writing.specs.Settings.{Text, Entry, Setting, quick_texts, status_texts, unicode16}
use Rattle.writing.specs.Writing.{text}
use Rattle.tables.specs.Allowed.{TextOk, QuickOk, StatusOk}
use Rattle.tables.specs.Layout.{text_bytes, quick_bytes, quick_width, status_bytes, status_width, quick_size, status_size}
use Rattle.tables.specs.Limits.{quick_places, status_places}
use Rattle.export_write.specs.declared.entries.TextTable.{TextTable}
use Rattle.export_write.specs.declared.entries.Entries.{Entries}
use Rattle.export_write.specs.declared.writers.Settings.{Settings}
use Rattle.export_write.specs.EntrySettings.{entries, quick_add}
use Rattle.export_write.specs.Writers.{Wrote, Writes, SlotIn, WritesTable, TextIn}

-- an entry's bytes: its index or code, then its text
abbrev pub entry_bytes : Entry → List ℕ
entry_bytes e = e.index ∷ plain (text unicode16 e.text)

-- the entry of a text that stands in a slot behind so many bytes was written
abbrev pub WritesEntry : (index skip : ℕ) → (slot : List ℕ) → (at : ℕ) → (before after : List ℕ) → ℕ → Type 0
WritesEntry index skip slot at before after r =
    Writes (TextIn (drop skip slot)) (λ us. entry_bytes (record { index = index; text = us })) at (length slot - skip + 3) before after r

-- a slot's bytes: some that say that it is used, none for a quick text, then the text
abbrev pub led : List ℕ → ℕ → Text → List ℕ
led lead n us = lead ++ text_bytes n us

-- a text of at most n units, whose slot is not that of an empty place
abbrev pub Shown : List ℕ → ℕ → Text → Type 0
Shown lead n us = TextOk n us × (zeros? (led lead n us) ≡ false)

-- the most bytes of an entry: its index, its text and the end unit
abbrev pub entry_size : TextTable → ℕ
entry_size t = t.width - t.skip + 3

-- the text stands in a slot, every index is a byte, and the table has its places
pub record Indexed (t : TextTable) (region : List ℕ) : Type 0 where
  pub skips : t.skip ≤ t.width
  pub indices : t.first + t.places ≤ 256
  pub long : length region ≡ t.places * t.width

-- of these texts, the entries up to the most were written, and the others stand from the next place on
pub record Entered (t : TextTable) (os : List (Option Text)) (at : ℕ) (before after : List ℕ) (r : Entries) : Type 0 where
  pub wrote : Wrote (flat (map entry_bytes (take t.most (entries t.first os)))) at before after r.end
  pub counted : r.count ≡ length (take t.most (entries t.first os))
  pub rest : drop t.most (entries t.first os) ≡ entries (t.first + r.next) (drop r.next os)

-- the texts of a table were written, whatever they are
pub record EntersAll (t : TextTable) (region : List ℕ) (at : ℕ) (before after : List ℕ) (r : Entries) : Type 0 where
  pub from : at ≤ r.end
  pub most : r.end ≤ at + r.count * entry_size t
  pub few : r.count ≤ t.most
  pub passed : r.count ≤ r.next
  pub within : r.next ≤ t.places
  pub full : r.next < t.places → r.count ≡ t.most
  pub entered : (lead : List ℕ) (n : ℕ) (os : List (Option Text)) → length lead ≡ t.skip → t.width ≡ t.skip + 2 * n
      → Placed (Shown lead n) t.width (led lead n) t.places os region → Entered t os at before after r

-- ---- quick texts

-- the lent bytes are the slot of a quick text, or an empty one; and its setting where it is the last place's
abbrev pub QuickIn : List ℕ → Option Text → Type 0
QuickIn = SlotIn QuickOk quick_width quick_bytes

abbrev pub last_quick : Option Text → List Setting
last_quick o = map quick_add (entries 63 (o ∷ []))

-- the lent bytes are a table of quick texts, and the settings that export it
abbrev pub QuicksIn : List ℕ → List (Option Text) → Type 0
QuicksIn region os = Placed QuickOk quick_width quick_bytes quick_places os region

abbrev pub quick_settings : List (Option Text) → List Setting
quick_settings os = quick_texts Replace (take 63 (entries 0 os)) ∷ map quick_add (drop 63 (entries 0 os))

-- it was written
abbrev pub WritesQuicks : (region before after : List ℕ) → Settings → Type 0
WritesQuicks region before after r = WritesTable (length region ≡ quick_size) (QuicksIn region) quick_settings 3144 before after r

-- ---- status texts

-- the lent bytes are a table of status texts, and the setting that exports it
abbrev pub StatusesIn : List ℕ → List (Option Text) → Type 0
StatusesIn region os = Placed StatusOk status_width status_bytes status_places os region

abbrev pub status_settings : List (Option Text) → List Setting
status_settings os = status_texts Replace (entries 32 os) ∷ []

-- it was written
abbrev pub WritesStatuses : (region before after : List ℕ) → Settings → Type 0
WritesStatuses region before after r = WritesTable (length region ≡ status_size) (StatusesIn region) status_settings 3365 before after r
