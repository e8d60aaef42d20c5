-- What reading a setting answers.
use Rattle.std.specs.Prelude.{ℕ, ◌≤◌, ◌<◌, ◌≡◌, List, length, get_or, Result, Ok, Err}
use Rattle.writing.specs.declared.Coding.{Coding}
use Rattle.writing.specs.declared.Kind.{Kind}
use Rattle.writing.specs.Ranges.{text_limits, InRange}
use Rattle.writing.specs.Settings.{Setting}
use Rattle.writing.specs.Writing.{type_byte}
use Rattle.read_fields.specs.Places.{StandsAt}
use Rattle.settings.specs.Meant.{Meant}
use Rattle.settings.specs.declared.settings.Setting.{Setting as Read}
use Rattle.read_setting.specs.declared.reader.SettingFault.{SettingFault}
use Rattle.read_setting.specs.declared.reader.SettingFault.TheVariants.{Missing, Unknown, Field as BadField}

-- what reading the setting at `at` under this coding answers, where so many settings are still counted after it
abbrev pub SettingAt : Coding → ℕ → List ℕ → ℕ → Result (Read × ℕ) SettingFault → Type 0
-- the setting in range that stands there, up to `next`
SettingAt c left m at (Ok (r, next)) = (s : Setting) × Meant m r s × InRange text_limits left s × StandsAt c m at next s
-- "a missing type byte is 4"
SettingAt c left m at (Err Missing) = length m ≤ at
-- 3: "type not among the thirteen"
SettingAt c left m at (Err Unknown) = (at < length m) × ((k : Kind) → type_byte k ≡ get_or m at 0 → ⊥)
-- 4: the type is among the thirteen, and no setting in range stands there: "bad field, length or count"
SettingAt c left m at (Err BadField) =
    (at < length m) × (k : Kind) × (type_byte k ≡ get_or m at 0)
    × ((s : Setting) (next : ℕ) → InRange text_limits left s → StandsAt c m at next s → ⊥)
