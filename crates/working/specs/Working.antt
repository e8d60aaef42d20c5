-- What moving texts between a store and a working copy does, and what a working copy says of its texts: document 02, A11.
use Rattle.std.specs.Prelude.{ℕ, ◌≡◌, List, length}
use Rattle.writing.specs.declared.Kind.{Kind}
use Rattle.tables.specs.declared.limits.Limits.{Limits}
use Rattle.tables.specs.Forms.{Roomy}
use Rattle.tables.specs.Layout.{placed_layout}
use Rattle.tables.specs.Owns.{own}
use Rattle.tables.specs.SharedLayout.{shared_layout}
use Rattle.tables.specs.Store.{Holds}
use Rattle.tables.specs.Tables.{Tables}
use Rattle.tables.specs.Texts.{text_sum, text_size, WhereShared}
use Rattle.shared_texts.specs.Shared.{SharedRoomy, SharedOk}

-- a store's texts are spread into places of their own: the working copy after it has the store's tables
abbrev pub LoadedShared : Limits → ℕ → (store work after : List ℕ) → Type 0
LoadedShared lim a store work after =
    length work ≡ lim.size → length store ≡ lim.size → (t : Tables) → Roomy lim → SharedRoomy lim a → SharedOk lim a t → store ≡ shared_layout lim a t → after ≡ placed_layout lim t

-- a working copy's texts are gathered into the area: the store after it has its tables, and nothing else
abbrev pub SavedShared : Limits → ℕ → (work store after : List ℕ) → Type 0
SavedShared lim a work store after =
    length store ≡ lim.size → length work ≡ lim.size → (t : Tables) → Roomy lim → SharedRoomy lim a → SharedOk lim a t → work ≡ placed_layout lim t → after ≡ shared_layout lim a t

-- the bytes that all texts of a store take, where they share an area
abbrev pub StoreSum : Limits → List ℕ → ℕ → Type 0
StoreSum lim store r = (t : Tables) → Roomy lim → Holds lim t store → WhereShared lim.texts (r ≡ text_sum t)

-- and those of the table of a kind
abbrev pub KindSum : Limits → Kind → List ℕ → ℕ → Type 0
KindSum lim k store r = (t : Tables) → Roomy lim → Holds lim t store → WhereShared lim.texts (r ≡ text_size k (own k t))
