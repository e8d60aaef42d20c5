-- The area of the plain engine: document 02, A12, "It keeps the requests that were taken, one after another, in 32,768 lent bytes".
use Rattle.std.specs.Prelude.{ℕ, ◌+◌, ◌/◌, ◌%◌, ◌≤◌, ◌≡◌, List, [], ◌∷◌, ◌++◌, map, length}
use Rattle.lists.specs.Ladder.{Ladder, rung, foot}
use Rattle.slots.specs.Slots.{flat, pad, u16}
use Rattle.writing.specs.declared.Coding.{Coding}
use Rattle.writing.specs.Carrier.{RequestOf, InSize}
use Rattle.writing.specs.Settings.{Setting}
use Rattle.tables.specs.declared.limits.Limits.{Limits}
use Rattle.tables.specs.Limits.{handheld}
use Rattle.tables.specs.Tables.{Tables, fresh}
use Rattle.requests.specs.Judge.{kept}
use Rattle.requests.specs.Requests.{Judged, forget}
use Rattle.plain_log.specs.declared.areas.Started.{Started}
use Rattle.plain_log.specs.declared.areas.Started.TheVariants.{Fresh, WrongSize}

-- ---- its bytes

abbrev pub area_size : ℕ
area_size = 32768

-- "each request's length plus 2": two bytes of length, and the request as it was received
abbrev pub record_bytes : List ℕ → List ℕ
record_bytes message = u16 (length message) ++ message

abbrev pub log_bytes : List (List ℕ) → List ℕ
log_bytes log = flat (map record_bytes log)

-- "4 bytes on the used length", in network order
abbrev pub u32 : ℕ → List ℕ
u32 n = u16 (n / 65536) ++ u16 (n % 65536)

-- "then each request's length plus 2; the rest is 0"
abbrev pub area_bytes : List (List ℕ) → List ℕ
area_bytes log = pad 0 area_size (u32 (length (log_bytes log)) ++ log_bytes log)

-- ---- which bytes are an area

-- the tables t take the message, which is a request with these settings, and become u
pub record TakenFrom (lim : Limits) (t : Tables) (message : List ℕ) (l : List Setting) (u : Tables) : Type 0 where
  pub in_size : InSize lim.message message
  pub coding : Coding
  pub count : ℕ
  pub bytes : List ℕ
  pub request : RequestOf coding count bytes message
  pub judged : Judged coding lim count (forget t) bytes (kept l u)

-- messages that are taken in turn
pub data TakenInTurn (lim : Limits) : Tables → List (List ℕ) → Tables → Type 0 where
  none_taken : {t : Tables} → TakenInTurn lim t [] t
  then_taken : {t u v : Tables} {message : List ℕ} {l : List Setting} {log : List (List ℕ)} → TakenFrom lim t message l u → TakenInTurn lim u log v → TakenInTurn lim t (message ∷ log) v

-- the bytes are the area of these requests, which a fresh hand-held takes in turn and then has these tables
pub record AreaOf (area : List ℕ) (log : List (List ℕ)) (t : Tables) : Type 0 where
  pub bytes : area ≡ area_bytes log
  pub fits : 4 + length (log_bytes log) ≤ area_size
  pub taken : TakenInTurn handheld fresh log t

-- "11 for bytes that aren't such an area"
abbrev pub IsArea : List ℕ → Type 0
IsArea area = (log : List (List ℕ)) × (t : Tables) × AreaOf area log t

-- ---- starting one

pub record Begun : Type 0 where
  pub number : ℕ
  pub area : List ℕ

abbrev pub area_begins : Started → List ℕ → Begun
area_begins Fresh area = record { number = 0; area = area }
area_begins WrongSize area = record { number = 11; area = area }

-- as starting a store: any 32,768 bytes become fresh, another length is 11 and touches nothing
abbrev pub area_starting : List ℕ → Ladder Begun
area_starting before =
    rung (length before ≡ area_size → ⊥) (record { number = 11; area = before })
    (foot (λ a. (length before ≡ area_size) × (a ≡ record { number = 0; area = area_bytes [] })))
