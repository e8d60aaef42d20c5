-- What taking a message answers and leaves, for every message, store and reply buffer: document 01, "Numbers returned" and its order.
use Rattle.std.specs.Prelude.{ℕ, ◌+◌, ◌<◌, ◌≡◌, ◌≢◌, ◌⊎◌, Bool, true, false, List, length}
use Rattle.lists.specs.Ladder.{Ladder, rung, foot}
use Rattle.writing.specs.Carrier.{RequestOf, Query, InSize, NothingCarried, OtherType, OtherVersion, NoRequest, NoQuery}
use Rattle.writing.specs.declared.Coding.{Coding}
use Rattle.writing.specs.Settings.{Setting, Hash}
use Rattle.tables.specs.declared.limits.Limits.{Limits}
use Rattle.tables.specs.Forms.{layout}
use Rattle.tables.specs.Store.{StoreOf, Holds}
use Rattle.tables.specs.Tables.{Tables, no_hash}
use Rattle.station.specs.declared.answers.Answer.{Answer}
use Rattle.station.specs.Answers.{Said, said, refused_with}
use Rattle.requests.specs.Judge.{Outcome, kept, refused}
use Rattle.requests.specs.Requests.{Judged, forget, last_item}
use Rattle.slots.specs.Slots.{written_over}
use Rattle.station.specs.Replies.{reply_bytes}

-- ---- what is left behind

-- the answer, and the store and the reply buffer afterwards
pub record AfterTaking : Type 0 where
  pub answer : Said
  pub store : List ℕ
  pub reply : List ℕ

-- an answer of the code, with the bytes that it left
abbrev pub leaves : Answer → List ℕ → List ℕ → AfterTaking
leaves a store reply = record { answer = said a; store = store; reply = reply }

module _ (lim : Limits) (message store reply : List ℕ) where
  -- "10 to 17 touch no byte of any buffer"
  abbrev pub stays : ℕ → AfterTaking
  stays n = record { answer = refused_with n; store = store; reply = reply }

  -- a reply that carries this hash
  abbrev pub replies : (number failed : ℕ) → Bool → Bool → Hash → List ℕ → AfterTaking
  replies number failed send reboot h after = record {
    answer = record { number = number; failed = failed; send = send; reboot = reboot; reply_length = 10 + length h.value };
    store = after;
    reply = written_over (reply_bytes number failed h) reply;
  }

  -- "1, 2, 3 and 4 carry code 0"; "Send: yes for 1 to 5"; "Reboot: FF's bit of a taken request"
  abbrev pub turned_down : (number failed : ℕ) → AfterTaking
  turned_down number failed = replies number failed true false no_hash store

  -- a request: "for a taken request as FF's reply bit says"; "A reply carries the hash kept afterwards"
  abbrev pub settled : Outcome Setting Tables → AfterTaking
  settled (kept l u) = replies 0 0 (last_item l).flags.reply (last_item l).flags.reboot u.hash (layout lim u)
  settled (refused number failed) = turned_down number failed

  -- a result query: it matches the hash kept, or "code 0, nothing kept, or code or value differs"
  abbrev pub Asked : Hash → Hash → AfterTaking → Type 0
  Asked h k a =
      ((h.code ≢ 0) × (h ≡ k) × (a ≡ replies 0 0 true false k store))
      ⊎ ((h.code ≢ 0 → h ≡ k → ⊥) × (a ≡ replies 5 0 true false k store))

  -- a counted request: what its settings come to under its coding type, from the tables of the store
  abbrev pub AsRequest : Tables → AfterTaking → Type 0
  AsRequest t a =
      (c : Coding) × (count : ℕ) × (settings : List ℕ) × RequestOf c count settings message
      × (o : Outcome Setting Tables) × Judged c lim count (forget t) settings o × (a ≡ settled o)

  -- a result query: its hash and the one kept
  abbrev pub AsQuery : Tables → AfterTaking → Type 0
  AsQuery t a = (h : Hash) × Query h message × Asked h t.hash a

  -- a message to a store that none of the tests turns down
  pub record Handled (a : AfterTaking) : Type 0 where
    pub tables : Tables
    pub holds : Holds lim tables store
    pub comes_to : AsRequest tables a ⊎ AsQuery tables a

  -- "Order for a message: 10, 11, 12, 13, 14, 1; then ParamSum missing or 0, or coding type (4, failed ID 0)"; "A malformed query gives 4, ID 0"
  abbrev pub taken : Ladder AfterTaking
  taken =
      rung (length reply < 20) (stays 10)
      (rung (StoreOf lim store → ⊥) (stays 11)
      (rung (InSize lim.message message → ⊥) (stays 12)
      (rung (NothingCarried message) (stays 13)
      (rung (OtherType message) (stays 14)
      (rung (OtherVersion message) (turned_down 1 0)
      (rung (NoRequest message × NoQuery message) (turned_down 4 0)
      (foot Handled)))))))
