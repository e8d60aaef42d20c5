-- What the reader of a message answers: which kind it is, and where a request's settings or a query's hash value start. The kinds themselves are
-- those of `writing/specs/Carrier.antt`; what taking a message promises cites only these.
use Rattle.std.specs.Prelude.{ℕ, ◌≡◌, ◌≢◌, ◌⊎◌, List, ◌++◌, map, Bool, true, false, length, drop, Option, Some, None, Result, Ok, Err}
use Rattle.writing.specs.Fields.{val}
use Rattle.writing.specs.declared.Coding.{Coding}
use Rattle.writing.specs.Settings.{Hash}
use Rattle.writing.specs.Carrier.{start_bytes, States, Carries, coding_type, Opens, Counted, Query, InSize, NothingCarried}
use Rattle.read_fields.specs.Places.{FieldsAt}
use Rattle.read_carrier.specs.declared.carrier.Message.{Message}
use Rattle.read_carrier.specs.declared.carrier.Message.TheVariants.{Size, Carrier, «Type» as OtherType, Version, NoRequest, Request, NoQuery, Query as AQuery}
use Rattle.read_carrier.specs.declared.carrier.Opening.{Opening}
use Rattle.read_carrier.specs.declared.carrier.Unopened.{Unopened}
use Rattle.read_carrier.specs.declared.carrier.Unopened.TheVariants.{Size as OutOfSize, Carrier as Uncarried}

-- ---- the carrier

-- "The fixed start bytes 02 02 are compared as they stand"
abbrev pub StartsWith : List ℕ → Bool → Type 0
StartsWith m true = m ≡ start_bytes ++ drop 2 m
StartsWith m false = (rest : List ℕ) → m ≡ start_bytes ++ rest → ⊥

-- "The length counts everything after itself; 0 means that it isn't stated. Any other value must fit exactly"
abbrev pub LengthIs : ℕ → ℕ → Bool → Type 0
LengthIs stated after true = States stated after
LengthIs stated after false = States stated after → ⊥

-- what follows the carrier's six bytes is carried under this coding type, or nothing is carried
abbrev pub CarrierIs : List ℕ → Option ℕ → Type 0
CarrierIs m (Some coding) = Carries coding (drop 6 m) m
CarrierIs m None = NothingCarried m

-- ---- the message

-- what it opens with, whatever its type: the answers in their order
abbrev pub OpenedIs : ℕ → List ℕ → Result Opening Unopened → Type 0
OpenedIs most m (Err OutOfSize) = InSize most m → ⊥
OpenedIs most m (Err Uncarried) = InSize most m × NothingCarried m
OpenedIs most m (Ok o) = InSize most m × Opens o.version o.kind o.coding (drop 6 m) m

-- the answers in their order: each holds where it is the first that does
abbrev pub MessageIs : ℕ → List ℕ → Message → Type 0
MessageIs most m Size = InSize most m → ⊥
MessageIs most m Carrier = InSize most m × NothingCarried m
MessageIs most m OtherType =
    InSize most m × (version : ℕ) × (kind : ℕ) × (coding : ℕ) × (data_bytes : List ℕ) × Opens version kind coding data_bytes m
    × (kind ≢ 0) × (kind ≢ 5)
MessageIs most m Version =
    InSize most m × (version : ℕ) × (kind : ℕ) × (coding : ℕ) × (data_bytes : List ℕ) × Opens version kind coding data_bytes m
    × ((kind ≡ 0) ⊎ (kind ≡ 5)) × (version ≢ 1)
MessageIs most m NoRequest =
    InSize most m × (coding : ℕ) × (data_bytes : List ℕ) × Opens 1 0 coding data_bytes m
    × ((c : Coding) (count : ℕ) (settings : List ℕ) → coding ≡ coding_type c → Counted count settings data_bytes → ⊥)
MessageIs most m (Request count at c) =
    InSize most m × (data_bytes : List ℕ) × Carries (coding_type c) data_bytes m × Counted count (drop at m) data_bytes × (at ≡ 8)
MessageIs most m NoQuery =
    InSize most m × (coding : ℕ) × (data_bytes : List ℕ) × Opens 1 5 coding data_bytes m × ((h : Hash) → Query h m → ⊥)
MessageIs most m (AQuery p) =
    InSize most m × (h : Hash) × Query h m × (h.code ≡ p.code) × FieldsAt (map (val 8) h.value) m p.start (length m)
