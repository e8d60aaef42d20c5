-- A part of slots that the first store does not take, at a full area, computed: slot 0 grows before slot 1 shrinks. Assumes nothing.
use Rattle.lists.proofs.Kit.{ℕ, ◌≡◌, refl, List, ◌∷◌, ◌++◌, Option, none, some, false, replicate}
use Rattle.writing.specs.declared.Kind.TheVariants as K
use Rattle.writing.specs.Settings.{Text}
use Rattle.tables.specs.Apply.{in_turn, apply}
use Rattle.tables.specs.Limits.{handheld}
use Rattle.tables.specs.Owns.{put_own}
use Rattle.tables.specs.Tables.{GroupMember, Tables, fresh}
use Rattle.tables.specs.Texts.{text_sum}
use Rattle.export.specs.declared.parts.Part.TheVariants.{Groups}
use Rattle.export.specs.Exported.{exported}

-- a text of n units
units : ℕ → Text
units n = replicate n 65

-- a group whose text has 16 units
member : GroupMember
unfolding units
member = record { flags = record { attribute = 1; broadcast = false; encryption = false; ovcm = false; emergency = false; priority = 0 }; address = record { 0 = 8388609 }; text = units 16 }

-- 64 quick texts of 23 units, 35 status texts of 16, and these groups
with_groups : List (Option GroupMember) → Tables
unfolding units
with_groups gs =
    put_own K.Group (put_own K.StatusTexts (put_own K.QuickTexts fresh (replicate 64 (some (units 23)))) (replicate 35 (some (units 16)) ++ replicate 61 none)) gs

-- the group in slot 1, and in slot 0
in_slot_1 : Tables
unfolding with_groups member
in_slot_1 = with_groups (none ∷ some member ∷ replicate 14 none)

in_slot_0 : Tables
unfolding with_groups member
in_slot_0 = with_groups (some member ∷ replicate 15 none)

-- SLOTS REFUSED: both fill the area, and the export of the second's groups has no room in the first
slots_refused : (text_sum in_slot_1 ≡ 4096) × (text_sum in_slot_0 ≡ 4096) × (in_turn (apply handheld) (exported Groups in_slot_0) in_slot_1 ≡ none)
unfolding in_slot_1 in_slot_0 with_groups member units
slots_refused = (refl, refl, refl)
