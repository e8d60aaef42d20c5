-- What answering a query gives, and leaves in the buffer: docs/RULES.md, "Order of its refusals".
use Rattle.std.specs.Prelude.{ℕ, ◌-◌, ◌≤◌, ◌<◌, ◌≡◌, List, [], length, get_or}
use Rattle.lists.specs.Ladder.{Ladder, rung, foot}
use Rattle.writing.specs.Carrier.{InSize, NothingCarried, OtherKind, OtherVersion}
use Rattle.tables.specs.declared.limits.Limits.{Limits}
use Rattle.tables.specs.Store.{StoreOf, Holds}
use Rattle.tables.specs.Tables.{Tables}
use Rattle.slots.specs.Slots.{written_over}
use Rattle.reports.specs.Cut.{messages, report_bytes}
use Rattle.reports.specs.Reports.{TypesOf, NoTypes}

-- a number, how many messages the report has, and the length of this one
pub record Told : Type 0 where
  pub number : ℕ
  pub total : ℕ
  pub message_length : ℕ

-- the answer, and the buffer afterwards
pub record After : Type 0 where
  pub answer : Told
  pub buffer : List ℕ

module _ (lim : Limits) (query : List ℕ) (index : ℕ) (store buffer : List ℕ) where
  -- "All write nothing"
  abbrev pub stays : ℕ → After
  stays n = record { answer = record { number = n; total = 0; message_length = 0 }; buffer = buffer }

  -- the message, and the bytes past it stay
  abbrev pub writes : ℕ → List ℕ → After
  writes total bytes = record { answer = record { number = 0; total = total; message_length = length bytes }; buffer = written_over bytes buffer }

  -- the types that the query asks for, and the tables that the store is the layout of
  pub record Asks (t : Tables) (types : List ℕ) : Type 0 where
    pub holds : Holds lim t store
    pub asks : TypesOf types query

  -- "more than 255 messages"
  abbrev pub TooMany : Type 0
  TooMany = (t : Tables) (types : List ℕ) → Asks t types → 255 < length (messages lim t types)

  -- "a message index outside 1 to the total"
  abbrev pub NoIndex : Type 0
  NoIndex = (t : Tables) (types : List ℕ) → Asks t types → 1 ≤ index → index ≤ length (messages lim t types) → ⊥

  -- "each call writes the one asked for"
  pub record Reports (a : After) : Type 0 where
    pub tables : Tables
    pub types : List ℕ
    pub asks : Asks tables types
    pub after : a ≡ writes (length (messages lim tables types))
        (report_bytes (length (messages lim tables types)) index (get_or (messages lim tables types) (index - 1) []))

  -- "15, 11, 12, 13, 14, 1, 4, 16"
  abbrev pub reporting : Ladder After
  reporting =
      rung (length buffer < lim.message) (stays 15)
      (rung (StoreOf lim store → ⊥) (stays 11)
      (rung (InSize lim.message query → ⊥) (stays 12)
      (rung (NothingCarried query) (stays 13)
      (rung (OtherKind (◌≡ 2) query) (stays 14)
      (rung (OtherVersion query) (stays 1)
      (rung (NoTypes query) (stays 4)
      (rung TooMany (stays 4)
      (rung NoIndex (stays 16)
      (foot Reports)))))))))

-- limits under which every message of a report fits the buffer and its length field, and any parameter fits a message
pub record Reportable (lim : Limits) : Type 0 where
  pub wide : 61 ≤ lim.message
  pub short : lim.message ≤ 65535
