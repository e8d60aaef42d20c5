-- What each answer of the call that joins says, in the numbers of docs/RULES.md, D8.
use Rattle.std.specs.Prelude.{ℕ, ◌<◌, Bool, true, false}
use Rattle.joining.specs.declared.answers.Fault.{Fault}
use Rattle.joining.specs.declared.answers.Fault.TheVariants.{Size, Carrier, OtherType, Version, NoRequest, LeftOver, Unknown, Field, LastItem}
use Rattle.joining.specs.declared.answers.Join.{Join}
use Rattle.joining.specs.declared.answers.Join.TheVariants.{Written, Buffer, First, Second, Codings, TooMany, TooLong}
use Rattle.joining.specs.Joins.{Told}

-- "12, 13, 14 for all but MsgType 0, 1, 4 .."
abbrev pub fault_number : Fault → ℕ
fault_number Size = 12
fault_number Carrier = 13
fault_number OtherType = 14
fault_number Version = 1
fault_number NoRequest = 4
fault_number LeftOver = 4
fault_number (Unknown id) = 3
fault_number (Field id) = 4
fault_number (LastItem id) = 4

-- ".. with the failed ID"
abbrev pub fault_id : Fault → ℕ
fault_id Size = 0
fault_id Carrier = 0
fault_id OtherType = 0
fault_id Version = 0
fault_id NoRequest = 0
fault_id LeftOver = 0
fault_id (Unknown id) = id
fault_id (Field id) = id
fault_id (LastItem id) = id

-- "A refusal .. has length 0, and says which request is at fault"
abbrev pub refuses : Bool → (number failed : ℕ) → Told
refuses in_second number failed = record { number = number; failed = failed; in_second = in_second; request_length = 0 }

-- each case's number, failed ID, request at fault and length
abbrev pub told : Join → Told
told (Written n) = record { number = 0; failed = 0; in_second = false; request_length = n }
told Buffer = refuses false 15 0
told (First f) = refuses false (fault_number f) (fault_id f)
told (Second f) = refuses true (fault_number f) (fault_id f)
told Codings = refuses false 4 0
told TooMany = refuses false 4 0
told TooLong = refuses false 12 0

-- the message sizes that are meant: "the true length" has 16 bits, and counts all but the first four bytes
pub record CanJoin (most : ℕ) : Type 0 where
  pub stated : most < 65540
