-- What exporting a part answers and leaves in the buffer: document 01, "Export: 15, 11, 16".
use Rattle.std.specs.Prelude.{ℕ, ◌<◌, ◌≡◌, List, length, Result, Ok, Err}
use Rattle.lists.specs.Ladder.{Ladder, rung, foot}
use Rattle.tables.specs.declared.limits.Limits.{Limits}
use Rattle.tables.specs.Store.{StoreOf, Holds}
use Rattle.tables.specs.Tables.{Tables}
use Rattle.slots.specs.Slots.{written_over}
use Rattle.export.specs.declared.parts.Part.{Part}
use Rattle.export.specs.declared.parts.NoExport.{NoExport}
use Rattle.export.specs.declared.parts.NoExport.TheVariants.{Buffer, NotAStore, NoPart}
use Rattle.export.specs.Exported.{part_number, exported, request_bytes}

-- a number and a length
pub record Told : Type 0 where
  pub number : ℕ
  pub request_length : ℕ

abbrev pub no_export : NoExport → ℕ
no_export Buffer = 15
no_export NotAStore = 11
no_export NoPart = 16

-- each case's number and length; "11 and 15 to 17 from export or screen return length 0"
abbrev pub told : Result ℕ NoExport → Told
told (Ok n) = record { number = 0; request_length = n }
told (Err r) = record { number = no_export r; request_length = 0 }

-- the answer, and the buffer afterwards
pub record AfterExport : Type 0 where
  pub answer : Told
  pub buffer : List ℕ

module _ (lim : Limits) (part : ℕ) (store buffer : List ℕ) where
  -- "10 to 17 touch no byte of any buffer"
  abbrev pub stays : ℕ → AfterExport
  stays n = record { answer = record { number = n; request_length = 0 }; buffer = buffer }

  -- "Bytes past the request's length stay"
  abbrev pub writes : List ℕ → AfterExport
  writes bytes = record { answer = record { number = 0; request_length = length bytes }; buffer = written_over bytes buffer }

  -- the settings of the part, from the tables that the store is the layout of
  pub record Exports (a : AfterExport) : Type 0 where
    pub tables : Tables
    pub holds : Holds lim tables store
    pub which : Part
    pub numbered : part_number which ≡ part
    pub after : a ≡ writes (request_bytes (exported which tables))

  -- "15, 11, 16"
  abbrev pub exporting : Ladder AfterExport
  exporting =
      rung (length buffer < lim.message) (stays 15)
      (rung (StoreOf lim store → ⊥) (stays 11)
      (rung ((p : Part) → part_number p ≡ part → ⊥) (stays 16)
      (foot Exports)))
