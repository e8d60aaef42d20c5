-- What is read of a store: its tables with each text in a place of its own, in the store itself or in a working copy.
use Rattle.std.specs.Prelude.{ℕ, ◌≡◌, List, length}
use Rattle.tables.specs.declared.limits.Limits.{Limits}
use Rattle.tables.specs.declared.limits.Texts.{Texts}
use Rattle.tables.specs.declared.limits.Texts.TheVariants.{Placed, Shared}
use Rattle.tables.specs.Store.{Holds, Works, Loaded}
use Rattle.tables.specs.Tables.{Tables}

-- what is lent to work in has a store's size; nothing is asked of it where each text has a place of its own, for then the store is read
abbrev pub LendsIn : Texts → ℕ → List ℕ → Type 0
LendsIn Placed size work = Unit {0}
LendsIn (Shared a) size work = length work ≡ size

abbrev pub Lends : Limits → List ℕ → Type 0
Lends lim work = LendsIn lim.texts lim.size work

-- the bytes have the tables of the store, each text in a place of its own
abbrev pub Seen : Limits → (store seen : List ℕ) → Type 0
Seen lim store seen = (length seen ≡ lim.size) × ((t : Tables) → Holds lim t store → Works lim t seen)

-- ---- inner steps: no promise cites these

-- one of the two
abbrev pub seen_of : Texts → (store work : List ℕ) → List ℕ
seen_of Placed store work = store
seen_of (Shared a) store work = work

-- the working copy is loaded where it is read
abbrev pub Filled : Texts → Limits → (store work after : List ℕ) → Type 0
Filled Placed lim store work after = Unit {0}
Filled (Shared a) lim store work after = Loaded lim store work after
