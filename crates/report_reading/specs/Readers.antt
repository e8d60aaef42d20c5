-- Contracts' words of the functions inside. No promise cites these.
use Rattle.std.specs.Prelude.{ℕ, ◌+◌, ◌/◌, ◌%◌, ◌≤◌, ◌<◌, ◌≡◌, Bool, true, false, ◌⊎◌, List, ◌∷◌, map, length, drop, take, Option, Some, None}
use Rattle.std.proofs.Math.Option.{some}
use Rattle.lists.specs.Every.{All}
use Rattle.writing.specs.declared.GroupFlags.{GroupFlags}
use Rattle.writing.specs.declared.IndividualFlags.{IndividualFlags}
use Rattle.writing.specs.declared.KeyTarget.{KeyTarget}
use Rattle.writing.specs.declared.LineFlags.{LineFlags}
use Rattle.writing.specs.Fields.{val}
use Rattle.writing.specs.Settings.{Hash as AHash}
use Rattle.writing.specs.Writing.{bit, current, to_group}
use Rattle.read_fields.specs.Places.{FieldsAt, be}
use Rattle.tables.specs.Allowed.{TargetOk}
use Rattle.tables.specs.Layout.{key_address}
use Rattle.reports.specs.declared.Asked.{Asked}
use Rattle.reports.specs.Contents.{Contents, make}
use Rattle.reports.specs.Items.{Item, hash, failed, item_body, ItemsWritten, InHash, InItem}
use Rattle.reports.specs.Reports.{ErrorLast}
use Rattle.reports.specs.Types.{report_byte, NoType}
use Rattle.report_reading.specs.declared.items.Item.{Item as Found}
use Rattle.report_reading.specs.declared.items.Item.TheVariants.{Group, Individual, Line, Key, Quick, Home, Channel, System, Status, Hash, NoHash, Unknown}
use Rattle.report_reading.specs.Reading.{ItemRead, Says}

-- ---- the fields behind the type byte

-- the number of so many bytes at p, below a limit, or none is there
abbrev pub HeadIs : List ℕ → ℕ → ℕ → ℕ → Option ℕ → Type 0
HeadIs m p size limit (Some n) = (p + size ≤ length m) × (n ≡ be 0 (take size (drop p m))) × (n < limit)
HeadIs m p size limit None = p + size ≤ length m → be 0 (take size (drop p m)) < limit → ⊥

-- "attribute 2, broadcast 1, encryption 1, OVCM 1, emergency 1, priority 2, reserved 4"
pub record GroupFlagsAre (n : ℕ) (f : GroupFlags) : Type 0 where
  pub attribute : n / 1024 % 4 ≡ f.attribute
  pub broadcast : n / 512 % 2 ≡ bit f.broadcast
  pub encryption : n / 256 % 2 ≡ bit f.encryption
  pub ovcm : n / 128 % 2 ≡ bit f.ovcm
  pub emergency : n / 64 % 2 ≡ bit f.emergency
  pub priority : n / 16 % 4 ≡ f.priority

-- "encryption 1, emergency 1, priority 2"
pub record IndividualFlagsAre (n : ℕ) (f : IndividualFlags) : Type 0 where
  pub encryption : n / 8 % 2 ≡ bit f.encryption
  pub emergency : n / 4 % 2 ≡ bit f.emergency
  pub priority : n % 4 ≡ f.priority

-- "IDtype 1, encryption 1, emergency 1, priority 2, reserved 7, index 4"
pub record LineFlagsAre (n : ℕ) (f : LineFlags) : Type 0 where
  pub pabx : n / 32768 % 2 ≡ bit f.pabx
  pub encryption : n / 16384 % 2 ≡ bit f.encryption
  pub emergency : n / 8192 % 2 ≡ bit f.emergency
  pub priority : n / 2048 % 4 ≡ f.priority

-- where the key calls, as these three fields say it
pub record Calls (g c : Bool) (a : ℕ) (t : KeyTarget) : Type 0 where
  pub group : to_group t ≡ g
  pub place : current t ≡ c
  pub address : key_address t ≡ a
  pub in_range : TargetOk t

-- the fields of 24 bits and less say a target in range, or none
abbrev pub TargetIs : Bool → Bool → ℕ → Option KeyTarget → Type 0
TargetIs g c a (Some t) = a < 16777216 → Calls g c a t
TargetIs g c a None = (t : KeyTarget) → Calls g c a t → ⊥

-- the fields behind the type byte of a parameter in range of this type stand at p, or none do
abbrev pub ItemAt : Asked → List ℕ → ℕ → ItemRead → Type 0
ItemAt k m p (Some (r, next)) = (x : Contents k) × Says m next (make k x) r × InItem (make k x) × FieldsAt (item_body (make k x)) m p next
ItemAt k m p None = (x : Contents k) (next : ℕ) → InItem (make k x) → FieldsAt (item_body (make k x)) m p next → ⊥

-- a hash in range stands at p, or none does
abbrev pub KeptAt : List ℕ → ℕ → ItemRead → Type 0
KeptAt m p (Some (r, next)) =
    (h : AHash) × Says m next (hash (some h)) r × InHash (some h) × FieldsAt (val 8 h.code ∷ map (val 8) h.value) m p next
KeptAt m p None = (h : AHash) (next : ℕ) → InHash (some h) → FieldsAt (val 8 h.code ∷ map (val 8) h.value) m p next → ⊥

-- ---- by the type byte

-- whether an error's byte stands at p
abbrev pub FailedAt : List ℕ → ℕ → Bool → Type 0
FailedAt m p true = (p + 1 ≤ length m) × FieldsAt failed m p (p + 1)
FailedAt m p false = (next : ℕ) → FieldsAt failed m p next → ⊥

-- whether the byte asks for a type
abbrev pub AsksIs : ℕ → Bool → Type 0
AsksIs b true = NoType b → ⊥
AsksIs b false = NoType b

-- the fields of the type that has this byte stand at p, or none do
abbrev pub TypeAt : ℕ → List ℕ → ℕ → ItemRead → Type 0
TypeAt b m p (Some (r, next)) = (k : Asked) × (b ≡ report_byte k) × ItemAt k m p (Some (r, next))
TypeAt b m p None = (k : Asked) → b ≡ report_byte k → ItemAt k m p None

-- ---- all parameters of a message

-- whether what was read is an error
abbrev pub error? : Found → Bool
error? (Group p f a t) = false
error? (Individual p f a t) = false
error? (Line p f n t) = false
error? (Key t f) = false
error? (Quick i t) = false
error? (Home h) = false
error? (Channel n p) = false
error? (System s) = false
error? (Status c p t) = false
error? (Hash p) = false
error? NoHash = false
error? (Unknown b) = true

-- whether an error is elsewhere than last in the last message, where so many parameters are left with it
abbrev pub Misplaced : Bool → ℕ → Bool → Bool → Type 0
Misplaced error left last true = (error ≡ true) × (last ≡ true → left ≡ 1 → ⊥)
Misplaced error left last false = (error ≡ false) ⊎ ((left ≡ 1) × (last ≡ true))

-- so many parameters in range stand from p up to the message's end
pub record Standing (m : List ℕ) (Last : Type 0) (p left : ℕ) : Type 0 where
  pub items : List Item
  pub counted : length items ≡ left
  pub in_range : All InItem items
  pub written : ItemsWritten items (drop p m)
  pub errors : ErrorLast Last items

-- as many as were counted stand from byte 10 on, or they do not
abbrev pub WalkIs : List ℕ → ℕ → Bool → Bool → Type 0
WalkIs m count last true = Standing m (last ≡ true) 10 count
WalkIs m count last false = Standing m (last ≡ true) 10 count → ⊥

-- "total from 1, index 1 to the total"; "0 only where the total is 1"
pub record HeadOk (total index count : ℕ) : Type 0 where
  pub from_1 : 1 ≤ index
  pub to_total : index ≤ total
  pub some_item : (1 ≤ count) ⊎ (total ≡ 1)

abbrev pub HeadRefused : ℕ → ℕ → ℕ → Bool → Type 0
HeadRefused total index count true = HeadOk total index count → ⊥
HeadRefused total index count false = HeadOk total index count
