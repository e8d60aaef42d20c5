-- The bytes of tables whose texts share one area of a bytes: heads, then the area, then zeros. "Equal tables are still equal bytes."
use Rattle.std.specs.Prelude.{ℕ, suc, ◌+◌, ◌*◌, ◌-◌, List, [], ◌∷◌, ◌++◌, replicate}
use Rattle.slots.specs.Slots.{flat, places, u16}
use Rattle.orders.specs.OrderParts.{order_bytes}
use Rattle.tables.specs.declared.limits.Limits.{Limits}
use Rattle.tables.specs.Heads.{text_halves, line_halves, member_halves, quick_head, status_head, line_head, group_head, individual_head, quick_own, status_own, member_own, line_own}
use Rattle.tables.specs.Layout.{counted, hash_bytes, key_bytes, home_bytes, system_bytes, channel_width, hash_size, key_size, home_size, system_size, count_size, channels_size, quick_at}
use Rattle.tables.specs.Limits.{quick_places, status_places, slot_places, contact_places}
use Rattle.tables.specs.Order.{line_order}
use Rattle.tables.specs.Tables.{Tables}
use Rattle.tables.specs.Texts.{text_tables, texts_of, units_before, area}

-- ---- how many bytes the heads take

abbrev pub quick_heads_size : ℕ
quick_heads_size = quick_places * suc quick_own

abbrev pub status_heads_size : ℕ
status_heads_size = status_places * suc status_own

abbrev pub member_heads_size : ℕ
member_heads_size = slot_places * suc member_own

abbrev pub line_slot_heads_size : ℕ
line_slot_heads_size = slot_places * suc line_own

-- a list's count, two bytes, stands before its slots
abbrev pub contact_heads_size : ℕ
contact_heads_size = count_size + contact_places * suc member_own

-- and the order behind the lines, a byte for each place
abbrev pub line_heads_size : Limits → ℕ
line_heads_size lim = count_size + lim.lines * suc line_own + lim.lines

-- hash, key, home, system, quick, status, groups, individuals, line slots, group contacts, individual contacts, channels, lines
abbrev pub head_widths : Limits → List ℕ
head_widths lim =
    hash_size ∷ key_size ∷ home_size ∷ system_size ∷ quick_heads_size ∷ status_heads_size ∷ member_heads_size ∷ member_heads_size
    ∷ line_slot_heads_size ∷ contact_heads_size ∷ contact_heads_size ∷ channels_size lim ∷ line_heads_size lim ∷ []

-- ---- where they start; hash, key, home and system stand where they do in the other form, before the quick texts

abbrev pub status_heads_at : ℕ
status_heads_at = quick_at + quick_heads_size

abbrev pub group_heads_at : ℕ
group_heads_at = status_heads_at + status_heads_size

abbrev pub individual_heads_at : ℕ
individual_heads_at = group_heads_at + member_heads_size

abbrev pub line_slot_heads_at : ℕ
line_slot_heads_at = individual_heads_at + member_heads_size

abbrev pub group_contact_heads_at : ℕ
group_contact_heads_at = line_slot_heads_at + line_slot_heads_size

abbrev pub individual_contact_heads_at : ℕ
individual_contact_heads_at = group_contact_heads_at + contact_heads_size

abbrev pub shared_channels_at : ℕ
shared_channels_at = individual_contact_heads_at + contact_heads_size

abbrev pub line_heads_at : Limits → ℕ
line_heads_at lim = shared_channels_at + channels_size lim

-- the bytes that the heads take, which is where the area starts
abbrev pub heads_size : Limits → ℕ
heads_size lim = shared_channels_at + (channels_size lim + line_heads_size lim)

-- the bytes that heads and texts take
abbrev pub shared_size : Limits → ℕ → ℕ
shared_size lim a = heads_size lim + a

-- those of the area and of the bytes that nothing uses, behind them
abbrev pub shared_widths : Limits → ℕ → List ℕ
shared_widths lim a = head_widths lim ++ (a ∷ (lim.size - shared_size lim a) ∷ [])

-- ---- the store

-- the regions of heads, in order: an entry's bytes without its text, and how many units that has
abbrev pub head_regions : Limits → Tables → List (List ℕ)
head_regions lim t =
    hash_bytes t.hash
    ∷ key_bytes t.key
    ∷ home_bytes t.home
    ∷ system_bytes t.system
    ∷ places (suc quick_own) (λ us. quick_head (text_halves.head us)) t.quick
    ∷ places (suc status_own) (λ us. status_head (text_halves.head us)) t.status
    ∷ places (suc member_own) (λ g. group_head (member_halves.head g)) t.groups
    ∷ places (suc member_own) (λ i. individual_head (member_halves.head i)) t.individuals
    ∷ places (suc line_own) (λ l. line_head (line_halves.head l)) t.line_slots
    ∷ counted (suc member_own) (λ g. group_head (member_halves.head g)) contact_places t.group_contacts
    ∷ counted (suc member_own) (λ i. individual_head (member_halves.head i)) contact_places t.individual_contacts
    ∷ counted channel_width u16 lim.channels t.channels
    ∷ (counted (suc line_own) (λ l. line_head (line_halves.head l)) lim.lines t.lines ++ order_bytes lim.lines (line_order t.lines))
    ∷ []

-- and then the texts; the bytes that nothing uses are 0
abbrev pub shared_regions : Limits → ℕ → Tables → List (List ℕ)
shared_regions lim a t = head_regions lim t ++ (area a (texts_of t) ∷ replicate (lim.size - shared_size lim a) 0 ∷ [])

-- the bytes of the tables
unfoldable pub shared_layout : Limits → ℕ → Tables → List ℕ
shared_layout lim a t = flat (shared_regions lim a t)

-- ---- where a row's text stands

-- the first byte of the text in row r of table k of those that have texts: the area's start, and all texts before it
abbrev pub text_start : Limits → Tables → ℕ → ℕ → ℕ
text_start lim t k r = heads_size lim + 2 * units_before (text_tables t) k r
