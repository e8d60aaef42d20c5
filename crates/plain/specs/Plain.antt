-- What taking a message answers and leaves, for every message, area and reply buffer: document 02, A12, in the words of taking a message to a store.
use Rattle.std.specs.Prelude.{ℕ, ◌+◌, ◌≤◌, ◌<◌, ◌≡◌, ◌⊎◌, cond, List, [], ◌∷◌, ◌++◌, leb, length}
use Rattle.lists.specs.Ladder.{Ladder, rung, foot}
use Rattle.writing.specs.declared.Coding.{Coding}
use Rattle.writing.specs.Carrier.{result_number, RequestOf, InSize, NothingCarried, OtherType, OtherVersion, NoRequest, NoQuery}
use Rattle.writing.specs.Settings.{Setting}
use Rattle.tables.specs.Limits.{handheld}
use Rattle.tables.specs.Tables.{Tables}
use Rattle.requests.specs.Judge.{Outcome, kept, refused}
use Rattle.requests.specs.Requests.{Judged, forget, last_item}
use Rattle.station.specs.Answers.{Said, refused_with}
use Rattle.station.specs.Taking.{AfterTaking, stays, replies, turned_down, AsQuery}
use Rattle.plain_log.specs.Area.{area_size, log_bytes, area_bytes, TakenFrom, AreaOf, IsArea}
use Rattle.plain.specs.declared.answers.Answer.{Answer}
use Rattle.plain.specs.declared.answers.Answer.TheVariants.{Untouched, Replied}
use Rattle.plain.specs.declared.answers.Refusal.{Refusal}
use Rattle.plain.specs.declared.answers.Refusal.TheVariants.{ReplyBuffer, NotAnArea, MessageSize, Carrier, MessageType, AreaFull}

-- ---- answers

-- the numbers of the refusals that touch nothing; "18, last and with nothing written"
abbrev pub refusal_number : Refusal → ℕ
refusal_number ReplyBuffer = 10
refusal_number NotAnArea = 11
refusal_number MessageSize = 12
refusal_number Carrier = 13
refusal_number MessageType = 14
refusal_number AreaFull = 18

-- each case's number and values
abbrev pub plain_said : Answer → Said
plain_said (Untouched r) = refused_with (refusal_number r)
plain_said (Replied r) = record { number = result_number r.result; failed = r.failed; send = r.send; reboot = r.reboot; reply_length = r.length }

-- an answer of the code, with the area and the reply buffer that it left
abbrev pub plain_leaves : Answer → List ℕ → List ℕ → AfterTaking
plain_leaves a area reply = record { answer = plain_said a; store = area; reply = reply }

module _ (message area reply : List ℕ) where
  -- ---- what a message comes to

  -- "18 .. exactly when a request that would be taken passes the area's end"; else it is kept, behind those that were
  abbrev pub kept_behind : List (List ℕ) → AfterTaking → AfterTaking
  kept_behind log a = cond (leb (4 + length (log_bytes (log ++ (message ∷ [])))) area_size) a (stays handheld message area reply 18)

  -- a request: the reply of the hand-held; "A refused message isn't kept"
  abbrev pub plain_settled : List (List ℕ) → Outcome Setting Tables → AfterTaking
  plain_settled log (kept l u) =
      kept_behind log
      (replies handheld message area reply 0 0 (last_item l).flags.reply (last_item l).flags.reboot u.hash (area_bytes (log ++ (message ∷ []))))
  plain_settled log (refused number failed) = turned_down handheld message area reply number failed

  -- a counted request: what its settings come to, from the tables of the requests that are kept
  abbrev pub PlainRequest : List (List ℕ) → Tables → AfterTaking → Type 0
  PlainRequest log t a =
      (c : Coding) × (count : ℕ) × (settings : List ℕ) × RequestOf c count settings message
      × (o : Outcome Setting Tables) × Judged c handheld count (forget t) settings o × (a ≡ plain_settled log o)

  -- a message to an area that none of the tests turns down
  pub record PlainHandled (a : AfterTaking) : Type 0 where
    pub log : List (List ℕ)
    pub tables : Tables
    pub area_is : AreaOf area log tables
    pub comes_to : PlainRequest log tables a ⊎ AsQuery handheld message area reply tables a

  -- "18 .. exactly when a request that would be taken passes the area's end": the reply buffer and the area are good, and the tables of its requests take this one
  pub record Full : Type 0 where
    pub buffer : 20 ≤ length reply
    pub log : List (List ℕ)
    pub tables : Tables
    pub area_is : AreaOf area log tables
    pub settings : List Setting
    pub after : Tables
    pub would_be_taken : TakenFrom handheld tables message settings after
    pub passes : area_size < 4 + length (log_bytes (log ++ (message ∷ [])))

  -- the order is that of taking a message to a store, with the area in its place
  abbrev pub plain_taken : Ladder AfterTaking
  plain_taken =
      rung (length reply < 20) (stays handheld message area reply 10)
      (rung (IsArea area → ⊥) (stays handheld message area reply 11)
      (rung (InSize handheld.message message → ⊥) (stays handheld message area reply 12)
      (rung (NothingCarried message) (stays handheld message area reply 13)
      (rung (OtherType message) (stays handheld message area reply 14)
      (rung (OtherVersion message) (turned_down handheld message area reply 1 0)
      (rung (NoRequest message × NoQuery message) (turned_down handheld message area reply 4 0)
      (foot PlainHandled)))))))
