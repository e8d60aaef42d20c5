-- The bytes of a reply: document 01, "The carrier".
use Rattle.std.specs.Prelude.{ℕ, ◌+◌, ◌≡◌, List, ◌++◌, length}
use Rattle.slots.specs.Slots.{written_over}
use Rattle.writing.specs.Canonical.{plain}
use Rattle.writing.specs.Carrier.{start_bytes, carrier, reply}
use Rattle.writing.specs.Settings.{Hash}
use Rattle.tables.specs.Allowed.{HashOk}
use Rattle.tables.specs.Layout.{hash_bytes}

-- "We write coding type 0000 and the true length", which counts two bytes of the carrier and the data
abbrev pub reply_bytes : (result failed : ℕ) → Hash → List ℕ
reply_bytes result failed h = start_bytes ++ plain (carrier (6 + length h.value) 0 ++ reply result failed h)

-- ---- an inner step: no promise cites this

-- a reply that carries the hash of these bytes was written over the buffer, and has this length
abbrev pub ReplyWritten : (result failed : ℕ) → List ℕ → List ℕ → List ℕ → ℕ → Type 0
ReplyWritten result failed hash buffer after r =
    (h : Hash) → HashOk h → hash ≡ hash_bytes h
    → (after ≡ written_over (reply_bytes result failed h) buffer) × (r ≡ 10 + length h.value)
