-- What asking the table of the thirteen types answers: the rules' row of a type byte, and the operations that it allows.
use Rattle.std.specs.Prelude.{ℕ, ◌≤◌, ◌<◌, ◌≡◌, List, [], ◌∷◌, get_or, Option, Some, None}
use Rattle.std.proofs.Math.Option.{Option as Most, none, some}
use Rattle.writing.specs.declared.Coding.{Coding}
use Rattle.writing.specs.declared.Kind.{Kind}
use Rattle.writing.specs.declared.Kind.TheVariants.{GroupContacts, IndividualContacts, Lines, Key, QuickTexts, Home, Channels, System, StatusTexts, Group, Individual, LineSlot, Last}
use Rattle.writing.specs.declared.Operation.{Operation}
use Rattle.writing.specs.declared.Operations.{Operations}
use Rattle.writing.specs.declared.Operations.TheVariants.{NoOperation, AnyOperation, AddOrDelete}
use Rattle.writing.specs.Ranges.{text_limits}
use Rattle.writing.specs.Bounds.{bounds}
use Rattle.writing.specs.Settings.{unicode16, eight_bit}
use Rattle.writing.specs.Writing.{type_byte, op_code}
use Rattle.settings.specs.declared.type_table.Bounds.{Bounds}
use Rattle.settings.specs.declared.type_table.TypeRow.{TypeRow}

-- the most of a row, 65535 where it has none
abbrev pub most_of : Most ℕ → ℕ
most_of none = 65535
most_of (some n) = n

-- the largest operation code of a row, 0 where it has no operation
abbrev pub largest : Operations → ℕ
largest NoOperation = 0
largest AnyOperation = 3
largest AddOrDelete = 2

-- the code's row is the rules' row of this kind under this coding
pub record BoundsAre (c : Coding) (k : Kind) (r : Bounds) : Type 0 where
  pub type : r.type_byte ≡ type_byte k
  pub least : r.least ≡ (bounds c text_limits k).least
  pub most : r.most ≡ most_of (bounds c text_limits k).most
  pub operations : r.operations ≡ largest (bounds c text_limits k).operations

-- a kind's row of the code's table: type; least and most under 0111; least and most under 0100; operations
abbrev pub row_of : Kind → TypeRow
row_of k = record {
  0 = type_byte k;
  1 = (bounds unicode16 text_limits k).least;
  2 = most_of (bounds unicode16 text_limits k).most;
  3 = (bounds eight_bit text_limits k).least;
  4 = most_of (bounds eight_bit text_limits k).most;
  5 = largest (bounds unicode16 text_limits k).operations;
}

-- the thirteen, in the order of the table
abbrev pub kinds : List Kind
kinds =
    GroupContacts ∷ IndividualContacts ∷ Lines ∷ Key ∷ QuickTexts ∷ Home ∷ Channels ∷ System ∷ StatusTexts ∷ Group ∷ Individual ∷ LineSlot
    ∷ Last ∷ []

-- the place of a type byte among the thirteen, or that it is none of them
abbrev pub PlaceIs : ℕ → Option ℕ → Type 0
PlaceIs b (Some place) = (place < 13) × (type_byte (get_or kinds place Last) ≡ b)
PlaceIs b None = (k : Kind) → type_byte k ≡ b → ⊥

-- the row of a type byte under a coding, or that it is none of the thirteen
abbrev pub BoundsAt : Coding → ℕ → Option Bounds → Type 0
BoundsAt c b (Some r) = (k : Kind) × (type_byte k ≡ b) × BoundsAre c k r
BoundsAt c b None = (k : Kind) → type_byte k ≡ b → ⊥

-- the operation of a code among those allowed, or that there is none
abbrev pub OperationIs : ℕ → ℕ → Option Operation → Type 0
OperationIs code most (Some o) = (op_code o ≡ code) × (code ≤ most)
OperationIs code most None = (o : Operation) → op_code o ≡ code → code ≤ most → ⊥
