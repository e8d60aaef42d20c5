-- What judging tells of committing: with another reply buffer, and for a message that was judged good.
use Rattle.std.specs.Prelude.{ℕ, ◌≡◌, ◌≢◌, List, length}
use Rattle.slots.specs.Slots.{written_over}
use Rattle.writing.specs.Carrier.{Request, Query}
use Rattle.writing.specs.declared.Coding.{Coding}
use Rattle.writing.specs.Settings.{Setting, Hash}
use Rattle.tables.specs.declared.limits.Limits.{Limits}
use Rattle.tables.specs.Store.{Holds}
use Rattle.tables.specs.Tables.{Tables}
use Rattle.requests.specs.Requests.{forget}
use Rattle.station.specs.Taking.{AfterTaking}
use Rattle.laws_taking.specs.Demands.{InTurn}

-- two outcomes with two reply buffers that differ in nothing else: the same bytes are written over both, as many as the answer says (for 11 to 14: none)
pub record SameInBoth (reply reply' : List ℕ) (x x' : AfterTaking) : Type 0 where
  pub answer : x.answer ≡ x'.answer
  pub store : x.store ≡ x'.store
  pub bytes : List ℕ
  pub as_said : length bytes ≡ x.answer.reply_length
  pub here : x.reply ≡ written_over bytes reply
  pub there : x'.reply ≡ written_over bytes reply'

-- a request is committed: the store has the tables after all its settings, each in range and with room in turn, from the tables that it had without their hash
pub record AllSettings (lim : Limits) (message store after : List ℕ) : Type 0 where
  pub coding : Coding
  pub settings : List Setting
  pub request : Request coding settings message
  pub before : Tables
  pub held : Holds lim before store
  pub tables : Tables
  pub in_turn : InTurn lim (length settings) (forget before) settings tables
  pub holds : Holds lim tables after

-- a result query by the hash kept, which is not of code 0: the store is as it was
pub record AsKept (lim : Limits) (message store after : List ℕ) : Type 0 where
  pub hash : Hash
  pub query : Query hash message
  pub tables : Tables
  pub holds : Holds lim tables store
  pub some_hash : hash.code ≢ 0
  pub is_kept : hash ≡ tables.hash
  pub stays : after ≡ store
