-- Applying a setting whose table always has room: an inner step, no promise cites these.
use Rattle.std.specs.Prelude.{true, List, ℕ}
use Rattle.settings.specs.declared.settings.Setting.{Setting}
use Rattle.settings.specs.declared.settings.Setting.TheVariants.{GroupContacts, IndividualContacts, Lines, Key, QuickTexts, Home, Channels, System, StatusTexts, Group, Individual, LineSlot, Last}
use Rattle.tables.specs.declared.limits.Limits.{Limits}
use Rattle.tables.specs.Store.{Applied}

-- the setting is for none of the lists
abbrev pub Unlisted : Setting → Type 0
Unlisted (GroupContacts o f p) = ⊥
Unlisted (IndividualContacts o f p) = ⊥
Unlisted (Lines o f p) = ⊥
Unlisted (Key t f) = Unit {0}
Unlisted (QuickTexts o p) = Unit {0}
Unlisted (Home h) = Unit {0}
Unlisted (Channels o p) = ⊥
Unlisted (System s) = Unit {0}
Unlisted (StatusTexts o p) = Unit {0}
Unlisted (Group o f p) = Unit {0}
Unlisted (Individual o f p) = Unit {0}
Unlisted (LineSlot o f p) = Unit {0}
Unlisted (Last f p) = Unit {0}

-- it was applied, whatever room the lists have
abbrev pub PlaceApplied : List ℕ → Setting → List ℕ → List ℕ → Type 0
PlaceApplied m r s t = (lim : Limits) → Applied lim m r s t true
