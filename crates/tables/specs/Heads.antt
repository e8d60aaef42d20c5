-- The heads of entries: what a slot keeps where the texts share a room. A text leaves its number of units, the last byte of every slot.
use Rattle.std.specs.Prelude.{ℕ, suc, ◌≤◌, List, [], ◌∷◌, ◌++◌, map, length}
use Rattle.plan.specs.declared.numbers.GroupAddress.{GroupAddress}
use Rattle.plan.specs.declared.numbers.IndividualAddress.{IndividualAddress}
use Rattle.slots.specs.Slots.{u24}
use Rattle.orders.specs.Orders.{order}
use Rattle.orders.specs.OrderParts.{order_bytes}
use Rattle.writing.specs.declared.LineFlags.{LineFlags}
use Rattle.writing.specs.declared.GroupFlags.{GroupFlags}
use Rattle.writing.specs.declared.IndividualFlags.{IndividualFlags}
use Rattle.writing.specs.Ranges.{text_limits}
use Rattle.writing.specs.Settings.{Text, Number}
use Rattle.tables.specs.Allowed.{LineOk, GroupOk, IndividualOk}
use Rattle.tables.specs.Layout.{counted, group_flags, individual_flags}
use Rattle.tables.specs.LineHeads.{head_bytes}
use Rattle.tables.specs.Order.{sorting}
use Rattle.tables.specs.Tables.{Line, LineKey, Member}

-- ---- an entry in two halves

-- a head has flags, a number or an address, and how many units the text has
pub record Head (Flags Name : Type 0) : Type 0 where
  pub flags : Flags
  pub name : Name
  pub units : ℕ

abbrev pub HeadOfLine : Type 0
HeadOfLine = Head LineFlags Number

abbrev pub HeadOfGroup : Type 0
HeadOfGroup = Head GroupFlags GroupAddress

abbrev pub HeadOfIndividual : Type 0
HeadOfIndividual = Head IndividualFlags IndividualAddress

-- how entries of a kind are taken apart, and put together again
pub record Halves (A H : Type 0) : Type 0 where
  pub head : A → H
  pub text : A → Text
  pub units : H → ℕ
  pub join : H → Text → A

-- a quick or a status text has nothing but its units
abbrev pub text_halves : Halves Text ℕ
text_halves = record { head = length; text = λ us. us; units = λ n. n; join = λ n us. us }

abbrev pub line_halves : Halves Line HeadOfLine
line_halves = record {
  head = λ l. record { flags = l.flags; name = l.number; units = length l.text };
  text = λ l. l.text;
  units = λ h. h.units;
  join = λ h us. record { flags = h.flags; number = h.name; text = us };
}

abbrev pub member_halves : {F A : Type 0} → Halves (Member F A) (Head F A)
member_halves = record {
  head = λ g. record { flags = g.flags; name = g.address; units = length g.text };
  text = λ g. g.text;
  units = λ h. h.units;
  join = λ h us. record { flags = h.flags; address = h.name; text = us };
}

-- ---- keys: those of the entries

abbrev pub head_key : HeadOfLine → LineKey
head_key h = record { pabx = h.flags.pabx; number = h.name }

abbrev pub group_head_key : HeadOfGroup → ℕ
group_head_key h = h.name.0

abbrev pub individual_head_key : HeadOfIndividual → ℕ
individual_head_key h = h.name.0

-- the positions of the lines, in the order of their keys
abbrev pub head_order : List HeadOfLine → List ℕ
head_order hs = order (map (λ h. sorting (head_key h)) hs)

-- ---- which heads the rules allow

-- a quick text is not empty
abbrev pub QuickHeadOk : ℕ → Type 0
QuickHeadOk n = (1 ≤ n) × (n ≤ text_limits.quick)

abbrev pub StatusHeadOk : ℕ → Type 0
StatusHeadOk n = n ≤ text_limits.short

-- as the entry with an empty text, and its text is no longer than a text may be
pub record HeadOk {A H : Type 0} (k : Halves A H) (P : A → Type 0) (h : H) : Type 0 where
  pub entry : P (k.join h [])
  pub text : k.units h ≤ text_limits.short

abbrev pub LineHeadOk : HeadOfLine → Type 0
LineHeadOk = HeadOk line_halves LineOk

abbrev pub GroupHeadOk : HeadOfGroup → Type 0
GroupHeadOk = HeadOk member_halves GroupOk

abbrev pub IndividualHeadOk : HeadOfIndividual → Type 0
IndividualHeadOk = HeadOk member_halves IndividualOk

-- ---- a head's bytes

-- a quick text is there where it has a unit
abbrev pub quick_head : ℕ → List ℕ
quick_head n = n ∷ []

-- a status text may be empty: 1 says that it is there
abbrev pub status_head : ℕ → List ℕ
status_head n = 1 ∷ n ∷ []

abbrev pub line_head : HeadOfLine → List ℕ
line_head h = head_bytes h.flags h.name ++ (h.units ∷ [])

abbrev pub group_head : HeadOfGroup → List ℕ
group_head h = group_flags h.flags ∷ u24 h.name.0 ++ (h.units ∷ [])

abbrev pub individual_head : HeadOfIndividual → List ℕ
individual_head h = individual_flags h.flags ∷ u24 h.name.0 ++ (h.units ∷ [])

-- ---- a slot's width: what it keeps beside the text, and a byte for the number of units

abbrev pub quick_own : ℕ
quick_own = 0

abbrev pub status_own : ℕ
status_own = 1

abbrev pub member_own : ℕ
member_own = 4

abbrev pub line_own : ℕ
line_own = 20

-- the list table of the lines' heads, then their order
abbrev pub ordered_heads : ℕ → List HeadOfLine → List ℕ
ordered_heads n hs = counted (suc line_own) line_head n hs ++ order_bytes n (head_order hs)
