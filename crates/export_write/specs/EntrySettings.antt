-- The settings that export quick texts, status texts, and slots: document 01, "Export parts".
use Rattle.std.specs.Prelude.{ℕ, suc, false, List, [], ◌∷◌}
use Rattle.std.proofs.Math.Option.{Option, none, some}
use Rattle.writing.specs.declared.GroupFlags.{GroupFlags}
use Rattle.writing.specs.declared.IndividualFlags.{IndividualFlags}
use Rattle.writing.specs.declared.Operation.{Operation}
use Rattle.writing.specs.declared.Operation.TheVariants.{Add, Delete}
use Rattle.writing.specs.Settings.{Text, Entry, Slot, Setting, quick_texts}
use Rattle.tables.specs.Tables.{Member}

-- ---- texts

-- the texts that are there, each with its index or code, where the first place has this one
abbrev pub entries : ℕ → List (Option Text) → List Entry
entries i [] = []
entries i (none ∷ l) = entries (suc i) l
entries i (some us ∷ l) = record { index = i; text = us } ∷ entries (suc i) l

-- "and one add if there are 64"
abbrev pub quick_add : Entry → Setting
quick_add e = quick_texts Add (e ∷ [])

-- ---- slots

abbrev pub no_group_flags : GroupFlags
no_group_flags = record { attribute = 0; broadcast = false; encryption = false; ovcm = false; emergency = false; priority = 0 }

abbrev pub no_individual_flags : IndividualFlags
no_individual_flags = record { encryption = false; emergency = false; priority = 0 }

-- a group or individual slot by its index: "add or delete; a delete's other fields 0"
abbrev pub slot_setting : {Flags Address : Type 0} → (Operation → Flags → Slot Address → Setting) → Flags → Address
    → ℕ → Option (Member Flags Address) → Setting
slot_setting setting f a i none = setting Delete f (record { index = i; address = a; text = [] })
slot_setting setting f a i (some x) = setting Add x.flags (record { index = i; address = x.address; text = x.text })

-- "sixteen settings by index", from this index on
abbrev pub slots : {A : Type 0} → (ℕ → Option A → Setting) → ℕ → List (Option A) → List Setting
slots setting i [] = []
slots setting i (o ∷ l) = setting i o ∷ slots setting (suc i) l
