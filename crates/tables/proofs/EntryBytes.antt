-- The bytes of entries and of the fixed regions are bytes: below 256. Assumes nothing.
use Rattle.lists.proofs.Kit.{ℕ, ◌+◌, ◌*◌, ◌<◌, [], ◌∷◌, ◌++◌, arith}
use Rattle.lists.specs.Bytes.{Bytes}
use Rattle.lists.proofs.Bytes.{all_bytes, bytes_append, bytes_cons, bytes_zeros}
use Rattle.slots.specs.Slots.{pad, u16, u24}
use Rattle.slots.proofs.Numbers.{u16_bytes, u24_bytes}
use Rattle.slots.proofs.Pads.{pad_all}
use Rattle.writing.specs.declared.KeyTarget.{KeyTarget}
use Rattle.writing.specs.declared.KeyTarget.TheVariants.{Current, ToGroup, ToIndividual}
use Rattle.writing.specs.declared.HomeNumbers.{HomeNumbers}
use Rattle.writing.specs.declared.SystemCode.{SystemCode}
use Rattle.writing.specs.Ranges.{InChannel}
use Rattle.writing.specs.Settings.{Text, Hash}
use Rattle.writing.specs.Writing.{bit, current, to_group}
use Rattle.read_fields.proofs.HashLaws.{small_code}
use Rattle.tables.specs.Allowed.{QuickOk, StatusOk, LineOk, GroupOk, IndividualOk, TargetOk, HomeOk, SystemOk, HashOk}
use Rattle.tables.specs.Layout.{text_bytes, digit_bytes, quick_bytes, status_bytes, line_bytes, group_bytes, individual_bytes, hash_bytes, key_bytes, key_address, home_bytes, system_bytes}
use Rattle.tables.specs.Tables.{Line, GroupMember, IndividualMember, Key}
use Rattle.tables.proofs.EntryCodes.{bit_small}
use Rattle.tables.proofs.TextCodes.{text_are_bytes, digits_are_bytes}

-- a quick text
pub quick_are_bytes : (us : Text) → QuickOk us → Bytes (quick_bytes us)
quick_are_bytes us p = text_are_bytes 23 us p.text

-- a status text
pub status_are_bytes : (us : Text) → StatusOk us → Bytes (status_bytes us)
status_are_bytes us p = bytes_cons 1 (text_bytes 16 us) (omega arith) (text_are_bytes 16 us p)

-- a channel
pub channel_are_bytes : (n : ℕ) → InChannel n → Bytes (u16 n)
channel_are_bytes n p = u16_bytes n (omega (arith, p.1))

-- a line contact
pub line_are_bytes : (l : Line) → LineOk l → Bytes (line_bytes l)
line_are_bytes l p =
    bytes_cons _ (bit l.flags.pabx ∷ digit_bytes l.number ++ text_bytes 16 l.text)
    (omega (arith, p.priority, bit_small l.flags.encryption, bit_small l.flags.emergency))
    (bytes_cons (bit l.flags.pabx) (digit_bytes l.number ++ text_bytes 16 l.text) (omega (arith, bit_small l.flags.pabx))
    (bytes_append (digit_bytes l.number) (text_bytes 16 l.text) (digits_are_bytes l.number p.number) (text_are_bytes 16 l.text p.text)))

-- a group slot
pub group_are_bytes : (g : GroupMember) → GroupOk g → Bytes (group_bytes g)
group_are_bytes g p =
    bytes_cons _ (u24 g.address.0 ++ text_bytes 16 g.text)
    (omega (arith, p.attribute.1, p.priority, bit_small g.flags.broadcast, bit_small g.flags.encryption, bit_small g.flags.ovcm, bit_small g.flags.emergency))
    (bytes_append (u24 g.address.0) (text_bytes 16 g.text) (u24_bytes g.address.0 p.address.1) (text_are_bytes 16 g.text p.text))

-- an individual slot
pub individual_are_bytes : (g : IndividualMember) → IndividualOk g → Bytes (individual_bytes g)
individual_are_bytes g p =
    bytes_cons _ (u24 g.address.0 ++ text_bytes 16 g.text)
    (omega (arith, p.priority, bit_small g.flags.encryption, bit_small g.flags.emergency))
    (bytes_append (u24 g.address.0) (text_bytes 16 g.text) (u24_bytes g.address.0 p.address.1) (text_are_bytes 16 g.text p.text))

-- the kept hash
pub hash_are_bytes : (h : Hash) → HashOk h → Bytes (hash_bytes h)
hash_are_bytes h p =
    bytes_cons h.code (pad 0 10 h.value) (omega (arith, small_code p.size))
    (all_bytes (pad 0 10 h.value) (pad_all 0 (◌< 256) (omega arith) 10 h.value p.bytes))

-- an address that is kept has 24 bits
address_small : (t : KeyTarget) → TargetOk t → key_address t < 16777216
address_small (Current g) p = omega arith
address_small (ToGroup a) p = p.1
address_small (ToIndividual a) p = p.1

-- the emergency key
pub key_are_bytes : (k : Key) → TargetOk k.target → Bytes (key_bytes k)
key_are_bytes k p =
    bytes_cons _ (u24 (key_address k.target))
    (omega (arith, bit_small (current k.target), bit_small (to_group k.target), bit_small k.flags.voice, bit_small k.flags.status, bit_small k.flags.siren))
    (u24_bytes (key_address k.target) (address_small k.target p))

-- the home numbers
pub home_are_bytes : (h : HomeNumbers) → HomeOk h → Bytes (home_bytes h)
home_are_bytes h p = bytes_append (u16 h.nzi) (u16 h.np) (u16_bytes h.nzi (omega (arith, p.nzi))) (u16_bytes h.np (omega (arith, p.np)))

-- the system code
pub system_are_bytes : (s : SystemCode) → SystemOk s → Bytes (system_bytes s)
system_are_bytes s p =
    bytes_append (u16 s.lai) ((s.la * 8 + s.roaming * 2 + bit s.par) ∷ []) (u16_bytes s.lai (omega (arith, p.lai)))
    (bytes_cons (s.la * 8 + s.roaming * 2 + bit s.par) [] (omega (arith, p.la, p.roaming, bit_small s.par)) (bytes_zeros 0))
