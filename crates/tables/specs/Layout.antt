-- The bytes of tables whose texts have places of their own: docs/STORE.md. "Unused bytes are 0, so equal contents are equal bytes."
use Rattle.std.specs.Prelude.{ℕ, suc, ◌+◌, ◌*◌, ◌-◌, ◌≤◌, ◌<◌, ◌≡◌, List, [], ◌∷◌, ◌++◌, map, length, replicate}
use Rattle.slots.specs.Slots.{flat, pad, places, front, u16, u24}
use Rattle.orders.specs.OrderParts.{order_bytes}
use Rattle.writing.specs.declared.LineFlags.{LineFlags}
use Rattle.writing.specs.declared.KeyTarget.{KeyTarget}
use Rattle.writing.specs.declared.KeyTarget.TheVariants.{Current, ToGroup, ToIndividual}
use Rattle.writing.specs.declared.HomeNumbers.{HomeNumbers}
use Rattle.writing.specs.declared.SystemCode.{SystemCode}
use Rattle.writing.specs.declared.GroupFlags.{GroupFlags}
use Rattle.writing.specs.declared.IndividualFlags.{IndividualFlags}
use Rattle.writing.specs.Ranges.{text_limits}
use Rattle.writing.specs.Settings.{Text, Hash}
use Rattle.writing.specs.Writing.{bit, current, to_group}
use Rattle.tables.specs.declared.limits.Limits.{Limits}
use Rattle.tables.specs.Limits.{quick_places, status_places, slot_places, contact_places}
use Rattle.tables.specs.Order.{line_order}
use Rattle.tables.specs.Tables.{Line, LineKey, line_key, GroupMember, IndividualMember, Key, Tables}

-- ---- an entry's bytes

-- n units of two bytes, high byte first, zeros after the last
abbrev pub text_bytes : ℕ → Text → List ℕ
text_bytes n us = flat (map u16 (pad 0 n us))

abbrev pub quick_bytes : Text → List ℕ
quick_bytes us = text_bytes text_limits.quick us

-- a status text may be empty: 1 says that it is there
abbrev pub status_bytes : Text → List ℕ
status_bytes us = 1 ∷ text_bytes text_limits.short us

abbrev pub line_flags : LineFlags → ℕ
line_flags f = bit f.encryption * 8 + bit f.emergency * 4 + f.priority

-- a digit is kept as one more than itself, so that none is 0
abbrev pub digit_bytes : List ℕ → List ℕ
digit_bytes ds = pad 0 18 (map suc ds)

-- IDtype and digits, which stand together
abbrev pub line_key_bytes : LineKey → List ℕ
line_key_bytes k = bit k.pabx ∷ digit_bytes k.number

-- flags, then the key, then the text
abbrev pub line_bytes : Line → List ℕ
line_bytes l = line_flags l.flags ∷ line_key_bytes (line_key l) ++ text_bytes text_limits.short l.text

abbrev pub group_flags : GroupFlags → ℕ
group_flags f =
    f.attribute * 64 + bit f.broadcast * 32 + bit f.encryption * 16 + bit f.ovcm * 8 + bit f.emergency * 4 + f.priority

abbrev pub group_bytes : GroupMember → List ℕ
group_bytes g = group_flags g.flags ∷ u24 g.address.0 ++ text_bytes text_limits.short g.text

abbrev pub individual_flags : IndividualFlags → ℕ
individual_flags f = bit f.encryption * 8 + bit f.emergency * 4 + f.priority

abbrev pub individual_bytes : IndividualMember → List ℕ
individual_bytes i = individual_flags i.flags ∷ u24 i.address.0 ++ text_bytes text_limits.short i.text

abbrev pub key_flags : Key → ℕ
key_flags k =
    bit (current k.target) * 16 + bit (to_group k.target) * 8 + bit k.flags.voice * 4 + bit k.flags.status * 2 + bit k.flags.siren

-- the address, 0 where the key calls the current place: "an address held before is dropped"
abbrev pub key_address : KeyTarget → ℕ
key_address (Current g) = 0
key_address (ToGroup a) = a.0
key_address (ToIndividual a) = a.0

abbrev pub key_bytes : Key → List ℕ
key_bytes k = key_flags k ∷ u24 (key_address k.target)

abbrev pub home_bytes : HomeNumbers → List ℕ
home_bytes h = u16 h.nzi ++ u16 h.np

abbrev pub system_bytes : SystemCode → List ℕ
system_bytes s = u16 s.lai ++ ((s.la * 8 + s.roaming * 2 + bit s.par) ∷ [])

abbrev pub hash_bytes : Hash → List ℕ
hash_bytes h = h.code ∷ pad 0 10 h.value

-- ---- a slot's width

abbrev pub quick_width : ℕ
quick_width = 46

abbrev pub status_width : ℕ
status_width = 33

abbrev pub member_width : ℕ
member_width = 36

abbrev pub channel_width : ℕ
channel_width = 2

abbrev pub line_width : ℕ
line_width = 52

-- where a line's key stands in its slot, how many bytes it has, and where its digits stand
abbrev pub line_key_at : ℕ
line_key_at = 1

abbrev pub line_key_size : ℕ
line_key_size = 19

abbrev pub digits_at : ℕ
digits_at = 2

-- where a member's address stands in its slot, and how many bytes it has
abbrev pub address_at : ℕ
address_at = 1

abbrev pub address_size : ℕ
address_size = 3

-- ---- the store

-- how many bytes the regions of a fixed size have
abbrev pub hash_size : ℕ
hash_size = 11

abbrev pub key_size : ℕ
key_size = 4

abbrev pub home_size : ℕ
home_size = 4

abbrev pub system_size : ℕ
system_size = 3

abbrev pub quick_size : ℕ
quick_size = quick_places * quick_width

abbrev pub status_size : ℕ
status_size = status_places * status_width

abbrev pub member_size : ℕ
member_size = slot_places * member_width

abbrev pub line_slots_size : ℕ
line_slots_size = slot_places * line_width

-- a list's region begins with its count, in two bytes
abbrev pub count_size : ℕ
count_size = 2

abbrev pub contacts_size : ℕ
contacts_size = count_size + contact_places * member_width

abbrev pub channels_size : Limits → ℕ
channels_size lim = count_size + lim.channels * channel_width

-- the lines' region ends with their order, a byte for each place
abbrev pub lines_size : Limits → ℕ
lines_size lim = count_size + lim.lines * line_width + lim.lines

-- how many bytes each region has, the spare ones aside: hash, key, home, system, quick, status, groups, individuals, line slots, group contacts,
-- individual contacts, channels, lines
abbrev pub region_widths : Limits → List ℕ
region_widths lim =
    hash_size ∷ key_size ∷ home_size ∷ system_size ∷ quick_size ∷ status_size ∷ member_size ∷ member_size
    ∷ line_slots_size ∷ contacts_size ∷ contacts_size ∷ channels_size lim ∷ lines_size lim ∷ []

-- where they start; the lines, behind the channels, start where these end
abbrev pub key_at : ℕ
key_at = hash_size

abbrev pub home_at : ℕ
home_at = key_at + key_size

abbrev pub system_at : ℕ
system_at = home_at + home_size

abbrev pub quick_at : ℕ
quick_at = system_at + system_size

abbrev pub status_at : ℕ
status_at = quick_at + quick_size

abbrev pub groups_at : ℕ
groups_at = status_at + status_size

abbrev pub individuals_at : ℕ
individuals_at = groups_at + member_size

abbrev pub line_slots_at : ℕ
line_slots_at = individuals_at + member_size

abbrev pub group_contacts_at : ℕ
group_contacts_at = line_slots_at + line_slots_size

abbrev pub individual_contacts_at : ℕ
individual_contacts_at = group_contacts_at + contacts_size

abbrev pub channels_at : ℕ
channels_at = individual_contacts_at + contacts_size

abbrev pub lines_at : Limits → ℕ
lines_at lim = channels_at + channels_size lim

-- the bytes that the tables take
abbrev pub used_size : Limits → ℕ
used_size lim = channels_at + (channels_size lim + lines_size lim)

-- a list table: how many entries it has, and their places
abbrev pub counted : {A : Type 0} → ℕ → (A → List ℕ) → ℕ → List A → List ℕ
counted w f n xs = u16 (length xs) ++ places w f (front n xs)

-- "Keep beside the CA line contacts an order of them": the list table of the lines, then their order
abbrev pub ordered : ℕ → List Line → List ℕ
ordered n ls = counted line_width line_bytes n ls ++ order_bytes n (line_order ls)

-- the regions, in order; the bytes that no table uses are 0
abbrev pub regions : Limits → Tables → List (List ℕ)
regions lim t =
    hash_bytes t.hash
    ∷ key_bytes t.key
    ∷ home_bytes t.home
    ∷ system_bytes t.system
    ∷ places quick_width quick_bytes t.quick
    ∷ places status_width status_bytes t.status
    ∷ places member_width group_bytes t.groups
    ∷ places member_width individual_bytes t.individuals
    ∷ places line_width line_bytes t.line_slots
    ∷ counted member_width group_bytes contact_places t.group_contacts
    ∷ counted member_width individual_bytes contact_places t.individual_contacts
    ∷ counted channel_width u16 lim.channels t.channels
    ∷ ordered lim.lines t.lines
    ∷ replicate (lim.size - used_size lim) 0
    ∷ []

-- the bytes of the tables
unfoldable pub placed_layout : Limits → Tables → List ℕ
placed_layout lim t = flat (regions lim t)
