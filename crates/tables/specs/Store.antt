-- The whole store: which bytes are one, and what starting one and applying a setting to one answer.
use Rattle.std.specs.Prelude.{ℕ, ◌≡◌, Bool, List, length}
use Rattle.lists.specs.Ladder.{Ladder, rung, foot}
use Rattle.counted_lists.specs.Counted.{Tried}
use Rattle.writing.specs.declared.Coding.{Coding}
use Rattle.writing.specs.declared.Kind.{Kind}
use Rattle.writing.specs.Canonical.{Fits}
use Rattle.writing.specs.Ranges.{text_limits, InRange}
use Rattle.writing.specs.Settings.{Setting}
use Rattle.settings.specs.declared.settings.Setting.{Setting as Read}
use Rattle.settings.specs.Meant.{Meant}
use Rattle.tables.specs.declared.limits.Limits.{Limits}
use Rattle.tables.specs.declared.start.Started.{Started}
use Rattle.tables.specs.declared.start.Started.TheVariants.{Fresh, WrongSize}
use Rattle.tables.specs.Allowed.{Allowed}
use Rattle.tables.specs.Apply.{change}
use Rattle.tables.specs.Forms.{layout, Roomy, IsStore}
use Rattle.tables.specs.Layout.{placed_layout}
use Rattle.tables.specs.Limits.{placed}
use Rattle.tables.specs.Owns.{own}
use Rattle.tables.specs.Tables.{Tables, fresh}
use Rattle.tables.specs.Texts.{text_sum, text_size}

-- ---- which bytes are a store, and starting one

-- "A store is exactly the bytes of tables and a kept hash that these rules allow": they fill it, and have room in it
pub record StoreOf (lim : Limits) (bytes : List ℕ) : Type 0 where
  pub size : length bytes ≡ lim.size
  pub roomy : Roomy lim
  pub store : IsStore lim bytes

-- "11 for the new size": store not 24,576 bytes
abbrev pub started : Started → ℕ
started Fresh = 0
started WrongSize = 11

-- the number that starting answers, and the bytes afterwards
pub record Begun : Type 0 where
  pub number : ℕ
  pub store : List ℕ

-- an answer of the code, with the bytes that it left
abbrev pub begins : Started → List ℕ → Begun
begins a store = record { number = started a; store = store }

-- "Starting a store: any 12,288 bytes become fresh, another length is 11", and touches nothing; they are 24,576 since A4
abbrev pub starting : Limits → List ℕ → Ladder Begun
starting lim before =
    rung (length before ≡ lim.size → Roomy lim → ⊥) (record { number = 11; store = before })
    (foot (λ a. (length before ≡ lim.size) × Roomy lim × (a ≡ record { number = 0; store = layout lim fresh })))

-- ---- a setting

-- the bytes are the store of these tables
abbrev pub Holds : Limits → Tables → List ℕ → Type 0
Holds lim t s = Allowed lim t × (s ≡ layout lim t)

-- the working copy that settings are tried on has these tables: each text in a place of its own, however the store is laid out
abbrev pub Works : Limits → Tables → List ℕ → Type 0
Works lim t work = Allowed (placed lim) t × (work ≡ placed_layout lim t)

-- a working copy as long as the store takes the store's tables
abbrev pub Loaded : Limits → List ℕ → List ℕ → List ℕ → Type 0
Loaded lim store work after = length work ≡ lim.size → (t : Tables) → Roomy lim → Holds lim t store → Works lim t after

-- and the store those of the working copy, where their texts have room
abbrev pub Saved : Limits → List ℕ → List ℕ → List ℕ → Type 0
Saved lim work store after = length store ≡ lim.size → (t : Tables) → Roomy lim → Allowed lim t → Works lim t work → Holds lim t after

-- the bytes that the texts of a kind's table take in a working copy, and those of all
abbrev pub TableSum : Limits → Kind → List ℕ → ℕ → Type 0
TableSum lim k work r = (t : Tables) → Roomy lim → Works lim t work → r ≡ text_size k (own k t)

abbrev pub WorkSum : Limits → List ℕ → ℕ → Type 0
WorkSum lim work r = (t : Tables) → Roomy lim → Works lim t work → r ≡ text_sum t

-- what applying a setting that was read answers, on a working copy that was s and becomes t; the texts' room is not judged
abbrev pub Applied : Limits → List ℕ → Read → List ℕ → List ℕ → Bool → Type 0
Applied lim m r s t k =
    (was : Tables) (set : Setting) (c : Coding) (left : ℕ) → Roomy lim → Works lim was s → Meant m r set → InRange text_limits left set → Fits c set
    → Tried (Works lim) (change lim set was) t k
