-- The bytes of a set's tables in the form that its limits name, and which bytes are a store: docs/STORE.md.
use Rattle.std.specs.Prelude.{ℕ, suc, ◌+◌, ◌*◌, ◌≤◌, ◌<◌, ◌≡◌, List, take}
use Rattle.slots.specs.Slots.{sum}
use Rattle.writing.specs.Settings.{Text}
use Rattle.tables.specs.declared.limits.Limits.{Limits}
use Rattle.tables.specs.declared.limits.Texts.{Texts}
use Rattle.tables.specs.declared.limits.Texts.TheVariants.{Placed, Shared}
use Rattle.tables.specs.Allowed.{Allowed}
use Rattle.tables.specs.Heads.{text_halves, line_halves, member_halves, quick_head, status_head, line_head, group_head, individual_head}
use Rattle.tables.specs.Layout.{quick_bytes, status_bytes, group_bytes, individual_bytes, line_bytes, region_widths, placed_layout, used_size}
use Rattle.tables.specs.SharedLayout.{head_widths, shared_layout, shared_size}
use Rattle.tables.specs.Tables.{Line, GroupMember, IndividualMember, Tables}

-- "keep all texts in one area of 4,096 bytes .. and give up the fixed places; the vehicle keeps them"
abbrev pub laid : Texts → Limits → Tables → List ℕ
laid Placed lim t = placed_layout lim t
laid (Shared a) lim t = shared_layout lim a t

-- the bytes of the tables
abbrev pub layout : Limits → Tables → List ℕ
layout lim t = laid lim.texts lim t

-- ---- slots and regions

-- one of two numbers: that of texts in places of their own, or that of texts that share an area
abbrev pub by_form : Texts → ℕ → ℕ → ℕ
by_form Placed p h = p
by_form (Shared a) p h = h

-- how many bytes a slot has: h of its own, and then a place for n units, or one byte for how many they are
abbrev pub slot_width : Texts → ℕ → ℕ → ℕ
slot_width x h n = by_form x (h + 2 * n) (suc h)

-- an entry's bytes in its slot
abbrev pub quick_as : Texts → Text → List ℕ
quick_as Placed us = quick_bytes us
quick_as (Shared a) us = quick_head (text_halves.head us)

abbrev pub status_as : Texts → Text → List ℕ
status_as Placed us = status_bytes us
status_as (Shared a) us = status_head (text_halves.head us)

abbrev pub group_as : Texts → GroupMember → List ℕ
group_as Placed g = group_bytes g
group_as (Shared a) g = group_head (member_halves.head g)

abbrev pub individual_as : Texts → IndividualMember → List ℕ
individual_as Placed i = individual_bytes i
individual_as (Shared a) i = individual_head (member_halves.head i)

abbrev pub line_as : Texts → Line → List ℕ
line_as Placed l = line_bytes l
line_as (Shared a) l = line_head (line_halves.head l)

-- how many bytes each region has, from the hash to the lines
abbrev pub widths : Texts → Limits → List ℕ
widths Placed lim = region_widths lim
widths (Shared a) lim = head_widths lim

-- where region k starts
abbrev pub start_in : Texts → Limits → ℕ → ℕ
start_in x lim k = sum (take k (widths x lim))

abbrev pub region_start : Limits → ℕ → ℕ
region_start lim k = start_in lim.texts lim k

-- ---- which bytes are a store

-- an area that texts share has room in the store, behind the heads
abbrev pub AreaFits : Texts → Limits → Type 0
AreaFits Placed lim = Unit {0}
AreaFits (Shared a) lim = shared_size lim a ≤ lim.size

-- limits whose tables fit the store, in its form and in that of a working copy, whose counts fit two bytes, and whose lines' positions, plus one, fit one
pub record Roomy (lim : Limits) : Type 0 where
  pub fits : used_size lim ≤ lim.size
  pub few_channels : lim.channels < 65536
  pub few_lines : lim.lines ≤ 255
  pub area : AreaFits lim.texts lim

-- the bytes are those of tables that the rules allow; that they fill the store is said by StoreOf
pub record IsStore (lim : Limits) (bytes : List ℕ) : Type 0 where
  pub tables : Tables
  pub allowed : Allowed lim tables
  pub bytes_are : bytes ≡ layout lim tables
