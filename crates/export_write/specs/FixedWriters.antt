-- The emergency key, home numbers and system code as the writers see them, and what writing them promises.
use Rattle.std.specs.Prelude.{ℕ, ◌+◌, ◌*◌, ◌%◌, ◌<◌, ◌≡◌, List, [], ◌∷◌, length, get_or}
use Rattle.lists.specs.Every.{All}
use Rattle.writing.specs.declared.HomeNumbers.{HomeNumbers}
use Rattle.writing.specs.declared.SystemCode.{SystemCode}
use Rattle.writing.specs.Canonical.{side_by_side, canonical, FitsField}
use Rattle.writing.specs.Fields.{widths}
use Rattle.writing.specs.Settings.{Setting, key, home, system, kind, unicode16}
use Rattle.writing.specs.Writing.{type_byte, body}
use Rattle.tables.specs.Allowed.{HomeOk, SystemOk}
use Rattle.tables.specs.Layout.{key_bytes, home_bytes, system_bytes}
use Rattle.tables.specs.Tables.{Key}
use Rattle.store_check.specs.Checks.{KeyOk, Both, joined}
use Rattle.export_write.specs.declared.writers.Settings.{Settings}
use Rattle.export_write.specs.Writers.{Wrote, Kept, WritesTable}

-- the setting of a key
abbrev pub key_setting : Key → Setting
key_setting k = key k.target k.flags

-- the three, as they stand in a store
abbrev pub Fixed : Type 0
Fixed = Key × (HomeNumbers × SystemCode)

-- the lent bytes are theirs
abbrev pub FixedIn : List ℕ → Fixed → Type 0
FixedIn = Kept (Both KeyOk (Both HomeOk SystemOk)) (joined key_bytes (joined home_bytes system_bytes))

-- the settings that export them
abbrev pub fixed_settings : Fixed → List Setting
fixed_settings x = key_setting x.0 ∷ home x.1.0 ∷ system x.1.1 ∷ []

-- they were written
abbrev pub WritesFixed : (region before after : List ℕ) → Settings → Type 0
WritesFixed region before after r = WritesTable (length region ≡ 11) (FixedIn region) fixed_settings 19 before after r

-- ---- inner steps: settings of three bytes

-- the 24 bits of home numbers and of a system code, of the bytes that keep them
abbrev pub home_bits : List ℕ → ℕ
home_bits p = (get_or p 0 0 * 256 + get_or p 1 0) % 512 * 32768 + (get_or p 2 0 * 256 + get_or p 3 0) % 1024 * 32

abbrev pub system_bits : List ℕ → ℕ
system_bits p = (get_or p 0 0 * 256 + get_or p 1 0) % 4096 * 4096 + get_or p 2 0 % 128 * 32

-- a setting of this type, whose fields after DataLength have these 24 bits
pub record Three (type bits : ℕ) (s : Setting) : Type 0 where
  pub type_is : type_byte (kind s) ≡ type
  pub wide : widths (body unicode16 s) ≡ 24
  pub are : side_by_side (body unicode16 s) ≡ bits
  pub small : bits < 16777216
  pub fits : All FitsField (body unicode16 s)

-- it was written, whatever it is
abbrev pub WritesThree : (type bits at : ℕ) → (before after : List ℕ) → ℕ → Type 0
WritesThree type bits at before after r = (r ≡ at + 6) × ((s : Setting) → Three type bits s → Wrote (canonical unicode16 s) at before after r)
