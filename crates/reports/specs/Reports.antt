-- Which messages are queries, and which are reports: docs/REPORTS.md.
use Rattle.std.specs.Prelude.{ℕ, ◌≤◌, ◌≡◌, ◌⊎◌, List, [], ◌∷◌, ◌++◌, length}
use Rattle.lists.specs.Every.{All}
use Rattle.writing.specs.Carrier.{Carries, coding_type}
use Rattle.writing.specs.Fields.{bits_of, Field, val, Shows}
use Rattle.writing.specs.Settings.{unicode16}
use Rattle.reports.specs.Cut.{report_head}
use Rattle.reports.specs.Items.{Item, group, individual, line, key, quick, home, channel, system, status, hash, unknown, ItemsWritten, InItem}

-- ---- queries

-- "OTAPVer 5, MsgType 3 (010), ParamTypeSum 8"
abbrev pub query_head : ℕ → List Field
query_head count = val 5 1 ∷ val 3 2 ∷ val 8 count ∷ []

-- the message asks for these types, "coding type ignored"
pub record TypesOf (types message : List ℕ) : Type 0 where
  pub any_coding : ℕ
  pub data_bytes : List ℕ
  pub carried : Carries any_coding data_bytes message
  pub head : List ℕ
  pub parts : data_bytes ≡ head ++ types
  pub says : Shows (query_head (length types)) (bits_of head)
  pub some_type : 1 ≤ length types

-- 4, "a query of no types or with a count that its bytes don't match"
abbrev pub NoTypes : List ℕ → Type 0
NoTypes message = (types : List ℕ) → TypesOf types message → ⊥

-- ---- reports

-- an entry, no error
abbrev pub Known : Item → Type 0
Known (group p g) = Unit {0}
Known (individual p x) = Unit {0}
Known (line p l) = Unit {0}
Known (key k) = Unit {0}
Known (quick i us) = Unit {0}
Known (home h) = Unit {0}
Known (channel n p) = Unit {0}
Known (system s) = Unit {0}
Known (status c p us) = Unit {0}
Known (hash h) = Unit {0}
Known (unknown b) = ⊥

-- "an error only as the last parameter of the last message"
abbrev pub ErrorLast : Type 0 → List Item → Type 0
ErrorLast Last [] = Unit {0}
ErrorLast Last (i ∷ []) = Known i ⊎ Last
ErrorLast Last (i ∷ j ∷ l) = Known i × ErrorLast Last (j ∷ l)

-- the message is this one of so many, and has these parameters
pub record ReportOf (total index : ℕ) (items : List Item) (message : List ℕ) : Type 0 where
  pub data_bytes : List ℕ
  pub carried : Carries (coding_type unicode16) data_bytes message
  pub head : List ℕ
  pub rest : List ℕ
  pub parts : data_bytes ≡ head ++ rest
  pub says : Shows (report_head total index (length items)) (bits_of head)
  pub from_1 : 1 ≤ index
  pub to_total : index ≤ total
  pub written : ItemsWritten items rest
  pub in_range : All InItem items
  -- "ParamSum 0 only with total 1"
  pub some_item : (1 ≤ length items) ⊎ (total ≡ 1)
  pub errors : ErrorLast (index ≡ total) items

-- 4, what is no report
abbrev pub NoReport : List ℕ → Type 0
NoReport message = (total index : ℕ) (items : List Item) → ReportOf total index items message → ⊥
