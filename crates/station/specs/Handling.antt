-- How a message is handled, step by step. No promise cites these.
use Rattle.std.specs.Prelude.{ℕ, ◌≡◌, List, length, drop, Option, Some, None, Result, Ok, Err}
use Rattle.lists.specs.Ladder.{Answers}
use Rattle.read_carrier.specs.Message.{MessageIs}
use Rattle.read_fields.specs.declared.hashes.HashPlace.{HashPlace}
use Rattle.read_carrier.specs.declared.carrier.Message.TheVariants.{Query as AQuery}
use Rattle.writing.specs.declared.Coding.{Coding}
use Rattle.writing.specs.declared.LastFlags.{LastFlags}
use Rattle.writing.specs.declared.CfgResult.{CfgResult}
use Rattle.writing.specs.Carrier.{result_number}
use Rattle.writing.specs.Settings.{Setting, Hash}
use Rattle.tables.specs.declared.limits.Limits.{Limits}
use Rattle.tables.specs.Allowed.{Allowed, HashOk}
use Rattle.tables.specs.Forms.{Roomy, layout}
use Rattle.tables.specs.Layout.{hash_bytes}
use Rattle.tables.specs.Store.{Holds}
use Rattle.tables.specs.Tables.{Tables}
use Rattle.station.specs.declared.answers.Answer.{Answer}
use Rattle.station.specs.declared.answers.Answer.TheVariants.{Untouched, Replied}
use Rattle.station.specs.declared.answers.Reply.{Reply}
use Rattle.station.specs.declared.answers.Refusal.{Refusal}
use Rattle.requests.specs.declared.run.Fault.{Fault as RunFault}
use Rattle.requests.specs.Judge.{kept, refused}
use Rattle.requests.specs.Requests.{Judged, forget, last_item}
use Rattle.working.specs.declared.copies.Copy.{Copy}
use Rattle.working.specs.Copies.{Ready, CopySaved}
use Rattle.station.specs.Taking.{leaves, replies, turned_down, AsQuery, taken}

-- a message that was turned down with this result and failed ID
abbrev pub TurnedDown : CfgResult → (failed : ℕ) → List ℕ → List ℕ → Reply → Type 0
TurnedDown result failed reply after r =
    (lim : Limits) (message store : List ℕ) → leaves (Replied r) store after ≡ turned_down lim message store reply (result_number result) failed

-- a result query that was answered
abbrev pub Queried : List ℕ → HashPlace → List ℕ → List ℕ → List ℕ → Reply → Type 0
Queried message place store reply after r =
    (lim : Limits) (t : Tables) → Holds lim t store → MessageIs lim.message message (AQuery place)
    → AsQuery lim message store reply t (leaves (Replied r) store after)

-- all settings of a request were taken from the tables of a store, on a working copy of these tables, which then is ready to be saved there
pub record Settled (c : Coding) (lim : Limits) (d : Copy) (message : List ℕ) (count at : ℕ) (t : Tables) (work : List ℕ) (f : LastFlags) : Type 0 where
  pub settings : List Setting
  pub tables : Tables
  pub allowed : Allowed lim tables
  pub judged : Judged c lim count (forget t) (drop at message) (kept settings tables)
  pub ready : Ready lim d t tables work
  pub flags : f ≡ (last_item settings).flags

-- a request of so many settings from a place on that was judged under its coding type, on such a copy
abbrev pub RequestJudged : Coding → Limits → Copy → List ℕ → (count at : ℕ) → List ℕ → List ℕ → Result LastFlags RunFault → Type 0
RequestJudged c lim d message count at store work (Ok f) = (t : Tables) → Holds lim t store → Settled c lim d message count at t work f
RequestJudged c lim d message count at store work (Err e) =
    (t : Tables) → Holds lim t store → Judged c lim count (forget t) (drop at message) (refused (result_number e.result) e.failed)

-- the reply to a good request, with FF's bits and the hash of these bytes, whatever the store becomes
abbrev pub Accepted : LastFlags → List ℕ → List ℕ → List ℕ → Reply → Type 0
Accepted f hash reply after r =
    (lim : Limits) (message store store_after : List ℕ) (h : Hash) → HashOk h → hash ≡ hash_bytes h
    → leaves (Replied r) store_after after ≡ replies lim message store reply 0 0 f.reply f.reboot h store_after

-- what a request comes to that was judged on such a copy with the hash of these bytes
abbrev pub Weighed : Result LastFlags RunFault → Copy → List ℕ → List ℕ → List ℕ → Reply × Option Copy → Type 0
Weighed (Ok f) d hash reply after (r, Some e) = (e ≡ d) × Accepted f hash reply after r
Weighed (Ok f) d hash reply after (r, None) = ⊥
Weighed (Err e) d hash reply after (r, None) = TurnedDown e.result e.failed reply after r
Weighed (Err e) d hash reply after (r, Some c) = ⊥

-- what a message comes to: nothing is touched, or a reply is written and the store stays, or the working copy of these tables has what the store becomes
abbrev pub Verdict : Type 0
Verdict = Result (Reply × Option Copy) Refusal

-- the answer of a verdict
abbrev pub answer_of : Verdict → Answer
answer_of (Err r) = Untouched r
answer_of (Ok (r, None)) = Replied r
answer_of (Ok (r, Some d)) = Replied r

-- what a message comes to, in the words of taking it: the store stays, or the working copy has the tables that it becomes, which it may hold
abbrev pub VerdictIs : Limits → List ℕ → List ℕ → List ℕ → List ℕ → List ℕ → Verdict → Type 0
VerdictIs lim message store reply after work (Err r) = Answers (taken lim message store reply) (leaves (Untouched r) store after)
VerdictIs lim message store reply after work (Ok (r, None)) = Answers (taken lim message store reply) (leaves (Replied r) store after)
VerdictIs lim message store reply after work (Ok (r, Some d)) =
    (length store ≡ lim.size) × Roomy lim × (t u : Tables) × Holds lim t store × Allowed lim u × Ready lim d t u work
    × Answers (taken lim message store reply) (leaves (Replied r) (layout lim u) after)

-- what committing a verdict makes of the store: the tables of the working copy where a request was taken
abbrev pub Keeps : Verdict → Limits → List ℕ → List ℕ → List ℕ → Type 0
Keeps (Err r) lim work store after = after ≡ store
Keeps (Ok (r, None)) lim work store after = after ≡ store
Keeps (Ok (r, Some d)) lim work store after = CopySaved lim d work store after
