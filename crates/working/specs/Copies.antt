-- What loading and saving a working copy of all tables or of part of them does. Inner steps, no promise cites these.
use Rattle.std.specs.Prelude.{ℕ, ◌+◌, ◌≤◌, ◌≡◌, List, length, replicate}
use Rattle.tables.specs.declared.limits.Limits.{Limits}
use Rattle.tables.specs.declared.limits.Texts.TheVariants.{Shared}
use Rattle.tables.specs.Allowed.{Allowed}
use Rattle.tables.specs.Forms.{Roomy}
use Rattle.tables.specs.Layout.{used_size}
use Rattle.tables.specs.Store.{Holds, Works, Loaded}
use Rattle.tables.specs.Tables.{Tables}
use Rattle.working.specs.declared.copies.Copy.{Copy}
use Rattle.working.specs.declared.copies.Copy.TheVariants.{Whole, Part}
use Rattle.working.specs.Parts.{part_of, rejoined}
use Rattle.working.specs.Working.{KindSum}

-- limits under which a copy of part is taken: texts share an area, and the bytes of a copy that no table uses have room for as many
abbrev pub Sparing : Limits → Type 0
Sparing lim = (a : ℕ) × (lim.texts ≡ Shared a) × (used_size lim + a ≤ lim.size)

-- the copy takes the store's tables, or, of zeros, part of them
abbrev pub CopyLoaded : Limits → Copy → (store work after : List ℕ) → Type 0
CopyLoaded lim Whole store work after = Loaded lim store work after
CopyLoaded lim (Part k) store work after = work ≡ replicate lim.size 0 → Sparing lim → (t : Tables) → Roomy lim → Holds lim t store → Works lim (part_of k t) after

-- a copy that was loaded from a store of the tables t has the tables u now, or those of them that may differ from t's
abbrev pub Ready : Limits → Copy → (t u : Tables) → List ℕ → Type 0
Ready lim Whole t u work = Works lim u work
Ready lim (Part k) t u work = Sparing lim × Works lim (part_of k u) work × (u ≡ rejoined k t u)

-- that store takes them
abbrev pub CopySaved : Limits → Copy → (work store after : List ℕ) → Type 0
CopySaved lim c work store after = length store ≡ lim.size → (t u : Tables) → Roomy lim → Holds lim t store → Allowed lim u → Ready lim c t u work → Holds lim u after

-- the bytes that the texts of the one table take that a copy of part has; nothing is said of a copy of all
abbrev pub CopySum : Limits → Copy → List ℕ → ℕ → Type 0
CopySum lim Whole store r = Unit {0}
CopySum lim (Part k) store r = KindSum lim k store r
