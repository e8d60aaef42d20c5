-- What a record that was read says of the buffer, and of an input whose bytes are known.
use Rattle.std.specs.Prelude.{ℕ, ◌+◌, ◌*◌, ◌/◌, ◌%◌, ◌≤◌, ◌<◌, ◌≡◌, Bool, true, false, List, ◌∷◌, length, take, slice_index, None, Some}
use Rattle.std.specs.Io.KnownBytes.{Consumes, IsAtEnd}
use Rattle.std.specs.declared.option.Option.{Option}
use Rattle.records.specs.declared.Record.{Record}
use Rattle.records.specs.declared.Record.TheVariants.{Whole, TooLong, Cut}

-- a whole record's message is within a buffer of this length
abbrev pub Within : ℕ → Record → Type 0
Within most (Whole kind length) = length ≤ most
Within most (TooLong kind) = Unit {0}
Within most Cut = Unit {0}

-- a record: length and kind, each two bytes little-endian, then the message
abbrev pub record_of : ℕ → List ℕ → List ℕ
record_of kind message =
    length message % 256 ∷ length message / 256 ∷ kind % 256 ∷ kind / 256 ∷ message

-- bytes that begin a record and end within it: fewer than a head, or than the head says
abbrev pub IsCut : List ℕ → Type 0
IsCut bs = (0 < length bs) × (4 ≤ length bs → length bs < 4 + (slice_index bs 0 + slice_index bs 1 * 256))

-- the bytes that a record took from the input; a message that fits stands at the buffer's start, and the input ends where no record or a part of one is left
abbrev pub Reads : Option (List ℕ) → Option (List ℕ) → List ℕ → Option Record → Type 0
Reads old new buffer (Some (Whole kind size)) = Consumes old new (record_of kind (take size buffer))
Reads old new buffer (Some (TooLong kind)) = (message : List ℕ) × (length buffer < length message) × Consumes old new (record_of kind message)
Reads old new buffer (Some Cut) = (bs : List ℕ) × IsCut bs × Consumes old new bs × IsAtEnd new
Reads old new buffer None = IsAtEnd old × IsAtEnd new

-- the same of what stands behind a head
abbrev pub Follows : Option (List ℕ) → Option (List ℕ) → List ℕ → ℕ → ℕ → Record → Type 0
Follows old new buffer kind size (Whole k n) = (k ≡ kind) × (n ≡ size) × Consumes old new (take size buffer)
Follows old new buffer kind size (TooLong k) = (k ≡ kind) × (message : List ℕ) × (length message ≡ size) × (length buffer < size) × Consumes old new message
Follows old new buffer kind size Cut = (bs : List ℕ) × (length bs < size) × Consumes old new bs × IsAtEnd new

-- so many bytes are gone from the input, or all that it had where they are fewer
abbrev pub PassesOver : Option (List ℕ) → Option (List ℕ) → ℕ → Bool → Type 0
PassesOver old new size true = (bs : List ℕ) × (length bs ≡ size) × Consumes old new bs
PassesOver old new size false = (bs : List ℕ) × (length bs < size) × Consumes old new bs × IsAtEnd new
