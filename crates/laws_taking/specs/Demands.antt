-- Demand 3 in its own words: which settings a request's data bytes are written as, and which of them can be taken in turn.
use Rattle.std.specs.Prelude.{ℕ, zero, suc, ◌-◌, ◌≤◌, ◌<◌, ◌≡◌, List, [], ◌∷◌, ◌++◌, ◌≢◌, ◌⊎◌, length}
use Rattle.std.proofs.Math.Option.{some}
use Rattle.writing.specs.Ranges.{text_limits, InRange}
use Rattle.writing.specs.Carrier.{coding_type, Opens, Counted, InSize}
use Rattle.writing.specs.declared.Coding.{Coding}
use Rattle.writing.specs.Settings.{Setting}
use Rattle.writing.specs.Writing.{WrittenAll}
use Rattle.tables.specs.declared.limits.Limits.{Limits}
use Rattle.tables.specs.Apply.{apply}
use Rattle.tables.specs.Store.{StoreOf, Holds}
use Rattle.tables.specs.Tables.{Tables}
use Rattle.requests.specs.Requests.{Fault}

-- "every setting in turn is in range and has room", where n are counted: they make the tables t the tables u
abbrev pub InTurn : Limits → ℕ → Tables → List Setting → Tables → Type 0
InTurn lim n t [] u = t ≡ u
InTurn lim zero t (s ∷ l) u = ⊥
InTurn lim (suc n) t (s ∷ l) u = InRange text_limits n s × (after : Tables) × (apply lim s t ≡ some after) × InTurn lim n after l u

-- "k settings, in range and with room in turn, are written at the start of what follows ParamSum, reserved bits aside", under this coding type
pub record Stand (c : Coding) (lim : Limits) (count : ℕ) (t : Tables) (bytes : List ℕ) (k : ℕ) : Type 0 where
  pub settings : List Setting
  pub tables : Tables
  pub written : List ℕ
  pub rest : List ℕ
  pub parts : bytes ≡ written ++ rest
  pub counted : length settings ≡ k
  pub writing : WrittenAll c settings written
  pub in_turn : InTurn lim count t settings tables

-- a request of this coding type that passes the buffer, carrier, version and coding checks, to a store of these tables
pub record Passes (c : Coding) (lim : Limits) (message store reply : List ℕ) (t : Tables) (data_bytes : List ℕ) : Type 0 where
  pub buffer : 20 ≤ length reply
  pub store_is : StoreOf lim store
  pub holds : Holds lim t store
  pub in_size : InSize lim.message message
  pub opens : Opens 1 0 (coding_type c) data_bytes message

-- "FailedCfgID is the number of the first setting at fault, from 1: the least k, up to ParamSum, for which no k settings .. are written at the start"
pub record FirstFault (c : Coding) (lim : Limits) (count : ℕ) (t : Tables) (bytes : List ℕ) (number failed : ℕ) : Type 0 where
  pub from_1 : 1 ≤ failed
  pub up_to : failed ≤ count
  pub least : (k : ℕ) → k < failed → Stand c lim count t bytes k
  pub not_so_many : Stand c lim count t bytes failed → ⊥
  pub before : Stand c lim count t bytes (failed - 1)
  pub at_fault : Fault c lim (count - failed) before.tables before.rest number

-- why a request that passes the checks is refused, with this number and failed ID
pub data Refused (c : Coding) (lim : Limits) (t : Tables) (data_bytes : List ℕ) (number failed : ℕ) : Type 0 where
  -- "ParamSum missing or 0 .. (4, failed ID 0)"
  no_count : ((count : ℕ) (settings : List ℕ) → Counted count settings data_bytes → ⊥) → number ≡ 4 → failed ≡ 0 → Refused c lim t data_bytes number failed
  -- "last, bytes left over (4, ID 0)"
  left_over : {count : ℕ} {settings : List ℕ} → Counted count settings data_bytes → (z : Stand c lim count t settings count) → z.rest ≢ [] → number ≡ 4 → failed ≡ 0
      → Refused c lim t data_bytes number failed
  -- "then settings in order"
  at_setting : {count : ℕ} {settings : List ℕ} → Counted count settings data_bytes → FirstFault c lim count t settings number failed → Refused c lim t data_bytes number failed
