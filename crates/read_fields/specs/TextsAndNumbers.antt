-- What reading a text, a number or an address answers: it is there, with its place and what follows it, or none is.
use Rattle.std.specs.Prelude.{ℕ, ◌*◌, ◌/◌, ◌%◌, ◌≤◌, ◌≡◌, Bool, true, false, ◌≢◌, List, length, Option, Some, None}
use Rattle.writing.specs.declared.Coding.{Coding}
use Rattle.writing.specs.Settings.{Text, Number}
use Rattle.writing.specs.Writing.{unit_width, text, number}
use Rattle.writing.specs.Ranges.{InNumber, InAddress}
use Rattle.read_fields.specs.Places.{FieldsAt}
use Rattle.read_fields.specs.declared.texts.TextPlace.{TextPlace}
use Rattle.read_fields.specs.declared.numbers.NumberPlace.{NumberPlace}
use Rattle.read_fields.specs.declared.numbers.Digits.{Digits}
use Rattle.read_fields.specs.declared.numbers.Digits.TheVariants.{Two, One, Zero, Bad}

-- ---- texts

-- a unit has so many bytes: one or two
pub record UnitBytes (c : Coding) (n : ℕ) : Type 0 where
  pub wide : unit_width c ≡ 8 * n
  pub some_byte : 1 ≤ n
  pub few : n ≤ 2

-- the text stands at this place, under the coding that the place says, up to `next`
pub record TextIs (m : List ℕ) (p : TextPlace) (us : Text) (next : ℕ) : Type 0 where
  pub units : length us ≡ p.units
  pub stands : FieldsAt (text p.coding us) m p.start next

-- a text of at most `limit` units stands at `at` under this coding, which its place says, or none does
abbrev pub TextAt : Coding → List ℕ → ℕ → ℕ → Option (TextPlace × ℕ) → Type 0
TextAt c m at limit (Some (p, next)) = (us : Text) × (p.start ≡ at) × (p.coding ≡ c) × (length us ≤ limit) × TextIs m p us next
TextAt c m at limit None = (us : Text) (next : ℕ) → length us ≤ limit → FieldsAt (text c us) m at next → ⊥

-- ---- numbers

-- the number stands at this place, up to `next`
pub record NumberIs (m : List ℕ) (p : NumberPlace) (ds : Number) (next : ℕ) : Type 0 where
  pub digits : length ds ≡ p.digits
  pub stands : FieldsAt (number ds) m p.start next

-- a number in range stands at `at`, or none does
abbrev pub NumberAt : List ℕ → ℕ → Option (NumberPlace × ℕ) → Type 0
NumberAt m at (Some (p, next)) = (ds : Number) × (p.start ≡ at) × InNumber ds × NumberIs m p ds next
NumberAt m at None = (ds : Number) (next : ℕ) → InNumber ds → FieldsAt (number ds) m at next → ⊥

-- what a byte of a number holds
abbrev pub DigitsAre : ℕ → Digits → Type 0
DigitsAre b Two = (b / 16 ≤ 9) × (b % 16 ≤ 9)
DigitsAre b One = (b / 16 ≤ 9) × (b % 16 ≡ 15)
DigitsAre b Zero = b ≡ 255
DigitsAre b Bad = (b ≢ 255) × (b / 16 ≤ 9 → (b % 16 ≤ 9 → ⊥) × (b % 16 ≢ 15))

-- a number of so many digits from `start` to `next` has ended, in range or not
abbrev pub EndedAt : ℕ → ℕ → ℕ → Option (NumberPlace × ℕ) → Type 0
EndedAt start count next (Some (p, after)) = (1 ≤ count) × (count ≤ 18) × (p.start ≡ start) × (p.digits ≡ count) × (after ≡ next)
EndedAt start count next None = 1 ≤ count → count ≤ 18 → ⊥

-- ---- addresses

-- whether an address is out of range
abbrev pub AddressRefused : ℕ → Bool → Type 0
AddressRefused a true = InAddress a → ⊥
AddressRefused a false = InAddress a
