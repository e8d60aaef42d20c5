-- The bytes of tables whose texts share one area of a bytes: heads, then the area, then zeros. "Equal tables are still equal bytes."
use Rattle.std.specs.Prelude.{ℕ, suc, ◌+◌, ◌*◌, ◌-◌, ◌≤◌, ◌<◌, ◌≡◌, true, List, [], ◌∷◌, ◌++◌, map, drop, get_or, replicate, take}
use borrow.Rule.Slice.PartMut.{mid_of}
use Rattle.slots.specs.Slots.{flat, sum, places, u16, zeros?}
use Rattle.orders.specs.OrderParts.{order_bytes}
use Rattle.writing.specs.Ranges.{InChannel, text_limits}
use Rattle.tables.specs.declared.limits.Limits.{Limits}
use Rattle.tables.specs.declared.members.Members.TheVariants.{OfGroups, OfIndividuals}
use Rattle.tables.specs.Allowed.{Allowed, HashOk, TargetOk, HomeOk, SystemOk, QuickOk, StatusOk, GroupOk, IndividualOk, LineOk, ListOk, KeyedOk, LinesOk}
use Rattle.tables.specs.Layout.{counted, hash_bytes, key_bytes, home_bytes, system_bytes, channel_width, hash_size, key_size, home_size, system_size, count_size, channels_size, quick_at, status_at, groups_at, individuals_at, line_slots_at, group_contacts_at, individual_contacts_at, lines_at}
use Rattle.tables.specs.Limits.{placed, quick_places, status_places, slot_places, contact_places}
use Rattle.tables.specs.MemberKinds.{contact_key}
use Rattle.tables.specs.Order.{line_order}
use Rattle.tables.specs.Tables.{Tables, Key}
use Rattle.shared_texts.specs.declared.Run.{Run}
use Rattle.tables.specs.Heads.{text_halves, line_halves, member_halves, head_key, group_head_key, individual_head_key, head_order, QuickHeadOk, StatusHeadOk, LineHeadOk, GroupHeadOk, IndividualHeadOk, quick_head, status_head, line_head, group_head, individual_head, quick_own, status_own, member_own, line_own}
use Rattle.shared_texts.specs.Regions.{Region, plain, table, listed, followed, last_bytes, Stand}
use Rattle.tables.specs.SharedLayout.{heads_size, shared_size, shared_layout, status_heads_at, group_heads_at, individual_heads_at, line_slot_heads_at, group_contact_heads_at, individual_contact_heads_at, line_heads_at}
use Rattle.tables.specs.Texts.{text_tables, texts_of, text_sum, units_before, area, AreaFilled}

-- limits whose heads and texts fit the store, whose counts fit two bytes, and whose lines' positions, plus one, fit one
pub record SharedRoomy (lim : Limits) (a : ℕ) : Type 0 where
  pub fits : shared_size lim a ≤ lim.size
  pub few_channels : lim.channels < 65536
  pub few_lines : lim.lines ≤ 255

-- the tables that a set with these limits can hold: allowed ones, whose texts have room together
pub record SharedOk (lim : Limits) (a : ℕ) (t : Tables) : Type 0 where
  pub allowed : Allowed (placed lim) t
  pub room : text_sum t ≤ a

-- the bytes are those of such tables
pub record IsShared (lim : Limits) (a : ℕ) (bytes : List ℕ) : Type 0 where
  pub tables : Tables
  pub ok : SharedOk lim a tables
  pub bytes_are : bytes ≡ shared_layout lim a tables

-- the tables that have texts, in the order of `text_kinds`
abbrev pub text_runs : Limits → List Run
text_runs lim =
    record { start = quick_at; from = quick_at; own = quick_own; room = 2 * text_limits.quick; many = quick_places }
    ∷ record { start = status_heads_at; from = status_at; own = status_own; room = 2 * text_limits.short; many = status_places }
    ∷ record { start = group_heads_at; from = groups_at; own = member_own; room = 2 * text_limits.short; many = slot_places }
    ∷ record { start = individual_heads_at; from = individuals_at; own = member_own; room = 2 * text_limits.short; many = slot_places }
    ∷ record { start = line_slot_heads_at; from = line_slots_at; own = line_own; room = 2 * text_limits.short; many = slot_places }
    ∷ record { start = group_contact_heads_at + count_size; from = group_contacts_at + count_size; own = member_own; room = 2 * text_limits.short; many = contact_places }
    ∷ record { start = individual_contact_heads_at + count_size; from = individual_contacts_at + count_size; own = member_own; room = 2 * text_limits.short; many = contact_places }
    ∷ record { start = line_heads_at lim + count_size; from = lines_at lim + count_size; own = line_own; room = 2 * text_limits.short; many = lim.lines }
    ∷ []

-- its heads
abbrev pub heads_in : List ℕ → Run → List ℕ
heads_in s x = mid_of x.start (x.many * suc x.own) s

-- its slots in the other form
abbrev pub slots_in : List ℕ → Run → List ℕ
slots_in w x = mid_of x.from (x.many * (x.own + x.room)) w

-- the units that its first r heads count
abbrev pub run_units : List ℕ → ℕ → Run → ℕ
run_units s r x = last_bytes x.own r (heads_in s x)

-- no table
abbrev pub no_run : Run
no_run = record { start = 0; from = 0; own = 0; room = 0; many = 0 }

-- the units that the heads before row r of table k count
abbrev pub counted_before : List ℕ → List Run → ℕ → ℕ → ℕ
counted_before s runs k r = sum (map (λ x. run_units s x.many x) (take k runs)) + run_units s r (get_or runs k no_run)

-- all units that the heads count
abbrev pub stored_units : Limits → List ℕ → ℕ
stored_units lim s = sum (map (λ x. run_units s x.many x) (text_runs lim))

-- ---- what is looked at to know whether bytes are such a store

abbrev pub quick_region : Region
quick_region = table text_halves QuickOk QuickHeadOk quick_places quick_own quick_head

abbrev pub status_region : Region
status_region = table text_halves StatusOk StatusHeadOk status_places status_own status_head

abbrev pub groups_region : Region
groups_region = table member_halves GroupOk GroupHeadOk slot_places member_own group_head

abbrev pub individuals_region : Region
individuals_region = table member_halves IndividualOk IndividualHeadOk slot_places member_own individual_head

abbrev pub line_slots_region : Region
line_slots_region = table line_halves LineOk LineHeadOk slot_places line_own line_head

-- no two contacts have one address
abbrev pub group_contacts_region : Region
group_contacts_region =
    listed member_halves (KeyedOk GroupOk (contact_key OfGroups) contact_places) (KeyedOk GroupHeadOk group_head_key contact_places) contact_places member_own group_head

abbrev pub individual_contacts_region : Region
individual_contacts_region =
    listed member_halves (KeyedOk IndividualOk (contact_key OfIndividuals) contact_places) (KeyedOk IndividualHeadOk individual_head_key contact_places) contact_places member_own individual_head

abbrev pub channels_region : ℕ → Region
channels_region n = plain (ListOk InChannel n) (count_size + n * channel_width) (counted channel_width u16 n)

-- no two lines have one key; their order stands behind them
abbrev pub line_list : ℕ → Region
line_list n = listed line_halves (LinesOk n) (KeyedOk LineHeadOk head_key n) n line_own line_head

abbrev pub lines_region : ℕ → Region
lines_region n = followed (line_list n) n (λ hs. order_bytes n (head_order hs))

-- the regions, in two halves each
abbrev pub store_regions : Limits → List Region
store_regions lim =
    plain HashOk hash_size hash_bytes
    ∷ plain (λ (k : Key). TargetOk k.target) key_size key_bytes
    ∷ plain HomeOk home_size home_bytes
    ∷ plain SystemOk system_size system_bytes
    ∷ quick_region
    ∷ status_region
    ∷ groups_region
    ∷ individuals_region
    ∷ line_slots_region
    ∷ group_contacts_region
    ∷ individual_contacts_region
    ∷ channels_region lim.channels
    ∷ lines_region lim.lines
    ∷ []

-- every head is well formed, as many units stand in the area as they count, none of them 0, and zeros behind them and behind the area
pub record SharedChecks (lim : Limits) (a : ℕ) (s : List ℕ) : Type 0 where
  pub heads : Stand (store_regions lim) 0 s
  pub texts : AreaFilled (stored_units lim s) (mid_of (heads_size lim) a s)
  pub spare : zeros? (drop (shared_size lim a) s) ≡ true
