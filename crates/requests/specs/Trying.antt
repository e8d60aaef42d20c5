-- A setting tried on a working copy, and the bytes that the texts held take after it. No promise cites these.
use Rattle.std.specs.Prelude.{ℕ, ◌≡◌, List, Option, Some, None}
use Rattle.std.proofs.Math.Option.{none, some}
use Rattle.writing.specs.declared.Coding.{Coding}
use Rattle.writing.specs.declared.Kind.{Kind}
use Rattle.writing.specs.declared.Kind.TheVariants as kinds
use Rattle.writing.specs.Canonical.{Fits}
use Rattle.writing.specs.Ranges.{text_limits, InRange}
use Rattle.writing.specs.Settings.{Setting}
use Rattle.settings.specs.declared.settings.Setting.{Setting as Read}
use Rattle.settings.specs.declared.settings.Setting.TheVariants.{GroupContacts, IndividualContacts, Lines, Key, QuickTexts, Home, Channels, System, StatusTexts, Group, Individual, LineSlot, Last}
use Rattle.settings.specs.Meant.{Meant}
use Rattle.tables.specs.declared.limits.Limits.{Limits}
use Rattle.tables.specs.declared.limits.Texts.{Texts}
use Rattle.tables.specs.Apply.{apply}
use Rattle.tables.specs.Forms.{Roomy}
use Rattle.tables.specs.Store.{Works}
use Rattle.tables.specs.Tables.{Tables}
use Rattle.tables.specs.Texts.{text_sum, TextRoom, Passes, WhereShared}

-- the kind of a setting that was read
abbrev pub read_kind : Read → Kind
read_kind (GroupContacts o f p) = kinds.GroupContacts
read_kind (IndividualContacts o f p) = kinds.IndividualContacts
read_kind (Lines o f p) = kinds.Lines
read_kind (Key t f) = kinds.Key
read_kind (QuickTexts o p) = kinds.QuickTexts
read_kind (Home h) = kinds.Home
read_kind (Channels o p) = kinds.Channels
read_kind (System x) = kinds.System
read_kind (StatusTexts o p) = kinds.StatusTexts
read_kind (Group o f p) = kinds.Group
read_kind (Individual o f p) = kinds.Individual
read_kind (LineSlot o f p) = kinds.LineSlot
read_kind (Last f p) = kinds.Last

-- n is the bytes that the texts of the tables take
abbrev pub SumIs : Limits → ℕ → Tables → Type 0
SumIs lim n t = WhereShared lim.texts (n ≡ text_sum t)

-- what is answered where the texts take n bytes after a setting
abbrev pub HeldAfter : Texts → ℕ → Option ℕ → Type 0
HeldAfter x n (Some k) = WhereShared x (k ≡ n) × TextRoom x n
HeldAfter x n None = Passes x n

-- what trying a setting that was read answers, on a copy whose texts take so many bytes, which was s and becomes t
abbrev pub TryIs : Limits → List ℕ → Read → ℕ → List ℕ → List ℕ → Option ℕ → Type 0
TryIs lim m r sum s t (Some n) =
    (was : Tables) (set : Setting) (c : Coding) (left : ℕ) → Roomy lim → Works lim was s → SumIs lim sum was → Meant m r set → InRange text_limits left set → Fits c set
    → (u : Tables) × (apply lim set was ≡ some u) × Works lim u t × SumIs lim n u
TryIs lim m r sum s t None =
    (was : Tables) (set : Setting) (c : Coding) (left : ℕ) → Roomy lim → Works lim was s → SumIs lim sum was → Meant m r set → InRange text_limits left set → Fits c set
    → apply lim set was ≡ none
