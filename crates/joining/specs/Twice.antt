-- Which requests may be sent twice: docs/RULES.md, D6.
use Rattle.std.specs.Prelude.{◌≡◌}
use Rattle.writing.specs.declared.Operation.TheVariants.{Replace}
use Rattle.writing.specs.Settings.{Setting, group_contacts, individual_contacts, lines, key, quick_texts, home, channels, system, status_texts, group, individual, line_slot, last}

-- a setting that empties its table first, or the FF item
abbrev pub Replaces : Setting → Type 0
Replaces (group_contacts o f es) = o ≡ Replace
Replaces (individual_contacts o f es) = o ≡ Replace
Replaces (lines o f es) = o ≡ Replace
Replaces (key t f) = ⊥
Replaces (quick_texts o es) = o ≡ Replace
Replaces (home h) = ⊥
Replaces (channels o ns) = o ≡ Replace
Replaces (system s) = ⊥
Replaces (status_texts o es) = o ≡ Replace
Replaces (group o f s) = ⊥
Replaces (individual o f s) = ⊥
Replaces (line_slot o f s) = ⊥
Replaces (last f h) = Unit {0}
