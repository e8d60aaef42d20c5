-- How a report is cut into messages, and a message's bytes: docs/RULES.md, "A report goes on in further messages".
use Rattle.std.specs.Prelude.{ℕ, suc, ◌+◌, ◌-◌, Bool, true, false, cond, ◌&&◌, List, [], ◌∷◌, ◌++◌, ltb, length}
use Rattle.writing.specs.Canonical.{plain}
use Rattle.writing.specs.Carrier.{start_bytes, carrier, coding_type}
use Rattle.writing.specs.Fields.{Field, val}
use Rattle.writing.specs.Settings.{unicode16}
use Rattle.tables.specs.declared.limits.Limits.{Limits}
use Rattle.tables.specs.Tables.{Tables}
use Rattle.reports.specs.Asked.{asked}
use Rattle.reports.specs.Items.{Item, item_bytes, items_bytes}

-- before the first of the first list
abbrev pub onto : {A : Type 0} → A → List (List A) → List (List A)
onto a [] = (a ∷ []) ∷ []
onto a (g ∷ gs) = (a ∷ g) ∷ gs

-- into the open message, or into a new one
abbrev pub into : {A : Type 0} → Bool → A → List (List A) → List (List A)
into true a gs = onto a gs
into false a gs = [] ∷ onto a gs

-- "each message takes every parameter that still fits, whole": the open message has so many bytes and parameters
module _ {A : Type 0} (size : A → ℕ) (room most : ℕ) where
  abbrev pub fits? : ℕ → ℕ → A → Bool
  fits? used count a = ltb count most && ltb (used + size a) (suc room)

  abbrev pub split : ℕ → ℕ → List A → List (List A)
  split used count [] = [] ∷ []
  split used count (a ∷ l) =
      into (fits? used count a) a (split (cond (fits? used count a) (used + size a) (size a)) (cond (fits? used count a) (suc count) 1) l)

abbrev pub item_size : Item → ℕ
item_size i = length (item_bytes i)

-- "doesn't fit 4,096 bytes, or passes 255 parameters": ten bytes stand before the parameters
unfoldable pub messages : Limits → Tables → List ℕ → List (List Item)
messages lim t types = split item_size (lim.message - 10) 255 0 0 (asked t types)

-- "OTAPVer 5, MsgType 3 (011), DPCount 8 (total), DPIndex 8 (from 1), ParamSum 8"
abbrev pub report_head : ℕ → ℕ → ℕ → List Field
report_head total index count = val 5 1 ∷ val 3 3 ∷ val 8 total ∷ val 8 index ∷ val 8 count ∷ []

abbrev pub report_data : ℕ → ℕ → List Item → List ℕ
report_data total index items = plain (report_head total index (length items)) ++ items_bytes items

-- one message, with its true length
abbrev pub report_bytes : ℕ → ℕ → List Item → List ℕ
report_bytes total index items =
    start_bytes ++ plain (carrier (2 + length (report_data total index items)) (coding_type unicode16)) ++ report_data total index items
