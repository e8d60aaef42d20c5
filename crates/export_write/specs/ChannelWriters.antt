-- Scan channels as the writers see them, and what writing them promises.
use Rattle.std.specs.Prelude.{ℕ, ◌+◌, ◌*◌, ◌/◌, ◌%◌, ◌≤◌, ◌≡◌, List, [], ◌∷◌, ◌++◌, map, length, get_or}
use Rattle.slots.specs.Slots.{u16}
use Rattle.writing.specs.declared.Operation.TheVariants.{Replace}
use Rattle.writing.specs.Canonical.{plain}
use Rattle.writing.specs.Fields.{Field, val}
use Rattle.writing.specs.Ranges.{InChannel}
use Rattle.writing.specs.Settings.{Setting, channels}
use Rattle.writing.specs.Writing.{fill}
use Rattle.export_write.specs.declared.writers.Settings.{Settings}
use Rattle.export_write.specs.Writers.{Writes, ListIn, WritesTable}

-- the lent bytes are a table of channels, and one of so many
abbrev pub ChannelsIn : List ℕ → List ℕ → Type 0
ChannelsIn = ListIn InChannel 2 u16

abbrev pub Counted : List ℕ → ℕ → List ℕ → Type 0
Counted region count cs = ChannelsIn region cs × (length cs ≡ count)

-- 12 bits for each, and what fills the last byte
abbrev pub packed : List ℕ → List Field
packed cs = map (val 12) cs ++ fill (length cs)

-- so many channels were written, two in three bytes
abbrev pub WritesPacked : (region : List ℕ) → (count at : ℕ) → (before after : List ℕ) → ℕ → Type 0
WritesPacked region count at before after r = Writes (Counted region count) (λ cs. plain (packed cs)) at ((3 * count + 1) / 2) before after r

-- the bits of channels 2 i and 2 i + 1, and of channel 2 i with 1111 behind it, of the bytes that keep them
abbrev pub two_bits : List ℕ → ℕ → ℕ
two_bits p i = (get_or p (4 * i) 0 * 256 + get_or p (4 * i + 1) 0) % 4096 * 4096 + (get_or p (4 * i + 2) 0 * 256 + get_or p (4 * i + 3) 0) % 4096

abbrev pub last_bits : List ℕ → ℕ → ℕ
last_bits p i = (get_or p (4 * i) 0 * 256 + get_or p (4 * i + 1) 0) % 4096 * 16 + 15

-- the setting that exports them
abbrev pub channel_settings : List ℕ → List Setting
channel_settings cs = channels Replace cs ∷ []

-- a table of at most 1023 channels was written
abbrev pub WritesChannels : (region before after : List ℕ) → Settings → Type 0
WritesChannels region before after r = WritesTable (length region ≤ 2046) (ChannelsIn region) channel_settings (5 + (length region / 2 * 3 + 1) / 2) before after r
