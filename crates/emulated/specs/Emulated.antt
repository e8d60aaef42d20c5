-- The plain engine beside the hand-held: document 02, A12, "show that, for any sequence of messages from a fresh start, it gives the same numbers,
-- replies and row texts, unit for unit, as the handheld as long as its area lasts".
use Rattle.std.specs.Prelude.{ℕ, ◌+◌, ◌<◌, ◌≡◌, ◌≢◌, ◌↔◌, List, [], ◌∷◌, ◌++◌, length}
use Rattle.lists.specs.Ladder.{Answers}
use Rattle.writing.specs.declared.Coding.{Coding}
use Rattle.writing.specs.Carrier.{RequestOf}
use Rattle.tables.specs.Forms.{layout}
use Rattle.tables.specs.Limits.{handheld}
use Rattle.tables.specs.Tables.{Tables, fresh}
use Rattle.station.specs.Taking.{AfterTaking, taken}
use Rattle.plain_log.specs.Area.{area_size, log_bytes, area_bytes, AreaOf}
use Rattle.plain.specs.Plain.{plain_taken}

-- "any sequence of messages from a fresh start": both engines were given these messages, in order, and now have this store and this area;
-- each has a reply buffer of its own, of which both or neither are under 20 bytes; "as long as its area lasts": none was answered with 18
pub data Both : List (List ℕ) → (store area : List ℕ) → Type 0 where
  started : {store area : List ℕ} → store ≡ layout handheld fresh → area ≡ area_bytes [] → Both [] store area
  then_given : {ms : List (List ℕ)} {store area message reply reply' : List ℕ} {x y : AfterTaking} → Both ms store area → (length reply < 20) ↔ (length reply' < 20)
      → Answers (taken handheld message store reply) x → Answers (plain_taken message area reply') y → y.answer.number ≢ 18
      → Both (ms ++ (message ∷ [])) x.store y.store

-- "a request .. passes the area's end": behind those that the area keeps it has no room
pub record PassesEnd (message area : List ℕ) : Type 0 where
  pub coding : Coding
  pub count : ℕ
  pub settings : List ℕ
  pub request : RequestOf coding count settings message
  pub log : List (List ℕ)
  pub tables : Tables
  pub area_is : AreaOf area log tables
  pub passes : area_size < 4 + length (log_bytes (log ++ (message ∷ [])))
