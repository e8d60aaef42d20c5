-- What restoring one set's tables in another answers and leaves: demand 2, "the seven exported requests, taken by any other started set, give it the same tables"; they are ten since A4.
use Rattle.std.specs.Prelude.{ℕ, ◌≤◌, ◌<◌, ◌≡◌, List, [], ◌∷◌, length}
use Rattle.lists.specs.Ladder.{Ladder, rung, foot}
use Rattle.tables.specs.declared.limits.Limits.{Limits}
use Rattle.tables.specs.Forms.{layout, Roomy}
use Rattle.tables.specs.Store.{StoreOf, Holds}
use Rattle.tables.specs.Tables.{Tables, no_hash}
use Rattle.slots.specs.Slots.{written_over}
use Rattle.station.specs.Replies.{reply_bytes}
use Rattle.requests.specs.Requests.{forget}
use Rattle.export.specs.declared.parts.Part.{Part}
use Rattle.export.specs.Exportable.{Exportable}
use Rattle.export.specs.Exported.{ten, part_number, exported, request_bytes}
use Rattle.restore.specs.declared.restore.Restored.{Restored}
use Rattle.restore.specs.declared.restore.Restored.TheVariants.{Same, ReplyBuffer, NotAStore, Buffer}
use Rattle.restore.specs.Restored.{with_part, Ready, requests, HasRoom}

-- each case's number
abbrev pub number : Restored → ℕ
number Same = 0
number ReplyBuffer = 10
number NotAStore = 11
number Buffer = 15

-- the number, and the other set's store and the lent buffers afterwards
pub record AfterRestore : Type 0 where
  pub answer : ℕ
  pub to : List ℕ
  pub buffer : List ℕ
  pub reply : List ℕ

-- these bytes were written over a buffer, one after the other from its start: "Bytes past the request's length stay"
abbrev pub written_in_turn : List (List ℕ) → List ℕ → List ℕ
written_in_turn [] buffer = buffer
written_in_turn (bytes ∷ more) buffer = written_in_turn more (written_over bytes buffer)

module _ (lim : Limits) (from to buffer reply : List ℕ) where
  -- "10 to 17 touch no byte of any buffer"
  abbrev pub stays : ℕ → AfterRestore
  stays n = record { answer = n; to = to; buffer = buffer; reply = reply }

  -- the same tables, the kept hash aside; what the buffer and the reply buffer hold is the requests and the reply of a taken one
  abbrev pub restores : Tables → AfterRestore
  restores t = record {
    answer = 0;
    to = layout lim (forget t);
    buffer = written_in_turn (requests t ten) buffer;
    reply = written_over (reply_bytes 0 0 no_hash) reply;
  }

  -- the refusals of taking, then those of exporting
  abbrev pub restoring : Ladder AfterRestore
  restoring =
      rung (length reply < 20) (stays 10)
      (rung (StoreOf lim to → ⊥) (stays 11)
      (rung (length buffer < lim.message) (stays 15)
      (rung (StoreOf lim from → ⊥) (stays 11)
      (foot (λ a. (t : Tables) × Holds lim t from × (a ≡ restores t))))))

-- ---- inner steps: no promise cites these

-- a message fits the lent buffer and a reply its own, and a store fits what is lent to work in
pub record Lent (lim : Limits) (buffer reply work : List ℕ) : Type 0 where
  pub message : lim.message ≤ length buffer
  pub answer : 20 ≤ length reply
  pub copy : length work ≡ lim.size

-- a part that has room was exported and taken
pub record PartMoved (lim : Limits) (p : Part) (t u : Tables) (to_after buffer buffer_after reply reply_after : List ℕ) : Type 0 where
  pub to_is : to_after ≡ layout lim (with_part p t (forget u))
  pub buffer_is : buffer_after ≡ written_over (request_bytes (exported p t)) buffer
  pub reply_is : reply_after ≡ written_over (reply_bytes 0 0 no_hash) reply

abbrev pub Moved : Limits → ℕ → (from to to_after buffer buffer_after reply reply_after work : List ℕ) → Type 0
Moved lim n from to to_after buffer buffer_after reply reply_after work =
    (p : Part) (t u : Tables) → part_number p ≡ n → Exportable lim → Roomy lim → Holds lim t from → Holds lim u to → HasRoom lim t p u → Lent lim buffer reply work
    → PartMoved lim p t u to_after buffer buffer_after reply reply_after

-- all of them were, by a set that is ready
abbrev pub AllMoved : Limits → (from to to_after buffer buffer_after reply reply_after work : List ℕ) → Type 0
AllMoved lim from to to_after buffer buffer_after reply reply_after work =
    (t u : Tables) → Exportable lim → Roomy lim → Holds lim t from → Holds lim u to → Ready lim.texts u → Lent lim buffer reply work
    → record { answer = 0; to = to_after; buffer = buffer_after; reply = reply_after } ≡ restores lim from to buffer reply t
