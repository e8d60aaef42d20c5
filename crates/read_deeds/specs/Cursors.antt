-- The deeds that follow a place among deeds: in the entries of a setting, in the settings of a request, in the requests of a log.
use Rattle.std.specs.Prelude.{ℕ, ◌+◌, ◌%◌, ◌≤◌, ◌≡◌, List, [], ◌∷◌, ◌++◌, length, get_or}
use Rattle.writing.specs.declared.Coding.{Coding}
use Rattle.writing.specs.Carrier.{coding_type}
use Rattle.writing.specs.Ranges.{text_limits, InRange}
use Rattle.writing.specs.Settings.{Setting}
use Rattle.read_fields.specs.Places.{StandsAt}
use Rattle.events.specs.Deeds.{nothing, deeds, all_deeds}
use Rattle.events.specs.Deeds as D
use Rattle.read_deeds.specs.declared.cursors.Cursor.{Cursor}
use Rattle.read_deeds.specs.declared.cursors.Moved.{Moved}
use Rattle.read_deeds.specs.ReadDeeds.{none_left, DeedIs, LeftIs}

-- the settings stand one after another from a place to an end, each in range where so many are counted after it
abbrev pub Standing : Coding → List ℕ → ℕ → List Setting → ℕ → Type 0
Standing c m at [] end = at ≡ end
Standing c m at (s ∷ l) end = (next : ℕ) × InRange text_limits (length l) s × StandsAt c m at next s × Standing c m next l end

-- the requests of a log, by their settings
abbrev pub log_deeds : List (List Setting) → List D.Deed
log_deeds [] = []
log_deeds (l ∷ ls) = nothing ∷ all_deeds l ++ log_deeds ls

-- a request with these settings stands behind the two bytes of its length: its coding type, its count, and the settings
pub record RecordAt (m : List ℕ) (at : ℕ) (l : List Setting) (end : ℕ) : Type 0 where
  pub coding : Coding
  pub room : at + 10 ≤ length m
  pub type : get_or m (at + 7) 0 % 16 ≡ coding_type coding
  pub count : get_or m (at + 9) 0 ≡ length l
  pub some_setting : length l ≡ 0 → ⊥
  pub stands : Standing coding m (at + 10) l end

-- requests one after another
abbrev pub Records : List ℕ → ℕ → List (List Setting) → Type 0
Records m at [] = Unit {0}
Records m at (l ∷ ls) = (end : ℕ) × RecordAt m at l end × Records m end ls

-- these deeds follow the cursor: those of the entries left, of the settings left, and of the requests behind them
pub record Follow (m : List ℕ) (c : Cursor) (ds : List D.Deed) : Type 0 where
  pub entries : List D.Deed
  pub settings : List Setting
  pub requests : List (List Setting)
  pub end : ℕ
  pub parts : ds ≡ entries ++ all_deeds settings ++ log_deeds requests
  pub left : LeftIs m c.left entries
  pub counted : length settings ≡ c.settings
  pub stands : Standing c.coding m c.at settings end
  pub behind : Records m end requests

-- what moving to the next deed answers
abbrev pub NextDeed : List ℕ → Cursor → Moved → Type 0
NextDeed m c r = (d : D.Deed) (ds : List D.Deed) → Follow m c (d ∷ ds) → DeedIs m r.deed d × Follow m r.cursor ds

-- ---- inner steps: no promise cites these

-- at the first of so many settings
abbrev pub AtSettings : (at settings : ℕ) → Coding → Cursor → Type 0
AtSettings at n c r = r ≡ record { left = none_left; at = at; settings = n; coding = c }

-- the coding of a coding type's byte
abbrev pub CodingIs : ℕ → Coding → Type 0
CodingIs b r = (c : Coding) → b % 16 ≡ coding_type c → r ≡ c

-- where no entry is left: the next setting, and the next request
abbrev pub NextSetting : List ℕ → Cursor → Moved → Type 0
NextSetting m c r = (d : D.Deed) (ds : List D.Deed) → c.left.count ≡ 0 → (c.settings ≡ 0 → ⊥) → Follow m c (d ∷ ds) → DeedIs m r.deed d × Follow m r.cursor ds

abbrev pub NextRecord : List ℕ → Cursor → Moved → Type 0
NextRecord m c r = (d : D.Deed) (ds : List D.Deed) → c.left.count ≡ 0 → c.settings ≡ 0 → Follow m c (d ∷ ds) → DeedIs m r.deed d × Follow m r.cursor ds
