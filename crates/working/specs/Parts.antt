-- A working copy of part of the tables: hash, key, home, system, and the table of one kind more; the others are as in a fresh set. Inner steps, no promise cites these.
use Rattle.std.specs.Prelude.{ℕ, ◌+◌, ◌≤◌, ◌≡◌, Bool, true, false, ◌||◌, List, length, replicate}
use Rattle.writing.specs.declared.Kind.{Kind}
use Rattle.writing.specs.declared.Kind.TheVariants.{GroupContacts, IndividualContacts, Lines, Key, QuickTexts, Home, Channels, System, StatusTexts, Group, Individual, LineSlot, Last}
use Rattle.tables.specs.declared.limits.Limits.{Limits}
use Rattle.tables.specs.Forms.{Roomy}
use Rattle.tables.specs.Layout.{placed_layout, used_size}
use Rattle.tables.specs.Owns.{mix, only}
use Rattle.tables.specs.SharedLayout.{shared_layout}
use Rattle.tables.specs.Tables.{Tables, fresh}
use Rattle.shared_texts.specs.Shared.{SharedRoomy, SharedOk}

-- hash, key, home and system stand before all texts, at the same places in both forms
abbrev pub fixed? : Kind → Bool
fixed? GroupContacts = false
fixed? IndividualContacts = false
fixed? Lines = false
fixed? Key = true
fixed? QuickTexts = false
fixed? Home = true
fixed? Channels = false
fixed? System = true
fixed? StatusTexts = false
fixed? Group = false
fixed? Individual = false
fixed? LineSlot = false
fixed? Last = true

-- the kinds whose tables such a copy has
abbrev pub copied? : Kind → Kind → Bool
copied? k j = only k j || fixed? j

-- its tables
abbrev pub part_of : Kind → Tables → Tables
part_of k t = mix (copied? k) fresh t

-- the tables t, with those that such a copy has as u has them
abbrev pub rejoined : Kind → Tables → Tables → Tables
rejoined k t u = mix (copied? k) t u

-- what loading such a copy into zeros does
abbrev pub PartLoaded : Limits → ℕ → Kind → (store work after : List ℕ) → Type 0
PartLoaded lim a k store work after =
    work ≡ replicate lim.size 0 → length store ≡ lim.size → (t : Tables) → Roomy lim → SharedRoomy lim a → SharedOk lim a t → store ≡ shared_layout lim a t
    → after ≡ placed_layout lim (part_of k t)

-- and what saving it does to the store that it was loaded from; the area's texts behind the table's are moved by way of the copy's bytes that no table uses
abbrev pub PartSaved : Limits → ℕ → Kind → (work store after : List ℕ) → Type 0
PartSaved lim a k work store after =
    length store ≡ lim.size → length work ≡ lim.size → used_size lim + a ≤ lim.size → (t u : Tables) → Roomy lim → SharedRoomy lim a → SharedOk lim a t
    → SharedOk lim a (rejoined k t u) → store ≡ shared_layout lim a t → work ≡ placed_layout lim (part_of k u) → after ≡ shared_layout lim a (rejoined k t u)
