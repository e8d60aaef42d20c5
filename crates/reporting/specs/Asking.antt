-- What the reader of a query promises. No promise of the call cites these.
use Rattle.std.specs.Prelude.{ℕ, ◌≤◌, ◌≡◌, Bool, true, false, List, length, drop, Option, Some, None, Result, Ok, Err, ⊤}
use Rattle.std.proofs.Math.Option.{none, some}
use Rattle.writing.specs.Carrier.{InSize, NothingCarried, OtherKind, OtherVersion}
use Rattle.reports.specs.declared.Asked.{Asked}
use Rattle.reports.specs.Reports.{TypesOf, NoTypes}
use Rattle.reports.specs.Types.{asked_by}
use Rattle.reporting.specs.declared.answers.NoReport.{NoReport}
use Rattle.reporting.specs.declared.answers.NoReport.TheVariants.{Buffer, NotAStore, Size, Carrier, OtherType, Version, BadQuery, NoMessage}

-- a byte asks for this type, or for none
abbrev pub AskedIs : ℕ → Option Asked → Type 0
AskedIs b (Some a) = asked_by b ≡ some a
AskedIs b None = asked_by b ≡ none

-- the types stand from byte 8 on, or there are none
abbrev pub TypesIs : List ℕ → Bool → Type 0
TypesIs m true = TypesOf (drop 8 m) m × (length (drop 8 m) ≤ 255)
TypesIs m false = NoTypes m

-- each refusal holds where it is the first that does
abbrev pub RefusedAs : ℕ → List ℕ → NoReport → Type 0
RefusedAs most m Size = InSize most m → ⊥
RefusedAs most m Carrier = InSize most m × NothingCarried m
RefusedAs most m OtherType = InSize most m × (NothingCarried m → ⊥) × OtherKind (◌≡ 2) m
RefusedAs most m Version = InSize most m × (NothingCarried m → ⊥) × (OtherKind (◌≡ 2) m → ⊥) × OtherVersion m
RefusedAs most m BadQuery = InSize most m × (NothingCarried m → ⊥) × (OtherKind (◌≡ 2) m → ⊥) × (OtherVersion m → ⊥) × NoTypes m
RefusedAs most m Buffer = ⊥
RefusedAs most m NotAStore = ⊥
RefusedAs most m NoMessage = ⊥

abbrev pub QueryIs : ℕ → List ℕ → Result ⊤ NoReport → Type 0
QueryIs most m (Ok u) = InSize most m × TypesIs m true
QueryIs most m (Err why) = RefusedAs most m why
