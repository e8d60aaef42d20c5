-- Demand 2's "the reply is the standard's": what the bytes of a reply are, after taking a message.
use Rattle.std.specs.Prelude.{ℕ, ◌+◌, ◌≤◌, ◌≡◌, ◌⊎◌, List, length, take}
use Rattle.writing.specs.Carrier.{Reply}
use Rattle.writing.specs.Settings.{Hash}
use Rattle.tables.specs.declared.limits.Limits.{Limits}
use Rattle.tables.specs.Store.{Holds}
use Rattle.tables.specs.Tables.{Tables, no_hash}
use Rattle.station.specs.Taking.{AfterTaking}

-- "A reply carries the hash kept afterwards, except that 1, 2, 3 and 4 carry code 0": by the number and the store afterwards
pub data HashSent (lim : Limits) (number : ℕ) (store : List ℕ) (h : Hash) : Type 0 where
  code_0 : 1 ≤ number → number ≤ 4 → h ≡ no_hash → HashSent lim number store h
  kept_afterwards : (number ≡ 0) ⊎ (number ≡ 5) → (u : Tables) → Holds lim u store → h ≡ u.hash → HashSent lim number store h

-- as many bytes of the reply buffer as the answer says are a reply with its number and failed ID; "We write coding type 0000 and the true length"
pub record StandardReply (lim : Limits) (x : AfterTaking) : Type 0 where
  pub hash : Hash
  pub is : Reply x.answer.number x.answer.failed hash (take x.answer.reply_length x.reply)
  pub true_length : is.carried.stated ≡ 2 + length is.data_bytes
  pub sent : HashSent lim x.answer.number x.store hash
