-- The bytes of an entry of a table: as many as its slot is wide, not all zeros, and they tell the entry. Assumes nothing.
use Rattle.lists.proofs.Kit.{ℕ, suc, ◌+◌, ◌*◌, ◌≤◌, ◌<◌, ◌≡◌, refl, sym, ap, ◌∙◌, Bool, true, false, ◌&&◌, true≢false, List, ◌∷◌, ◌++◌, head-eq_of_cons-eq, tail-eq_of_cons-eq, arith, eqb, eqb-true, eqb-false, length, length-append, drop, take, take_at}
use Rattle.lists.proofs.Bools.{is_false, and_parts}
use Rattle.lists.proofs.Seqs.{cut}
use Rattle.slots.specs.Slots.{u16, u24, zeros?, same?, hit}
use Rattle.slots.proofs.Codes.{Code}
use Rattle.slots.proofs.Keys.{Keyed, keyed_shown}
use Rattle.slots.proofs.Numbers.{u16_code, u16_shown, u24_one, u24_shown}
use Rattle.slots.proofs.Runs.{same_are, same_refl}
use Rattle.writing.specs.declared.LineFlags.{LineFlags}
use Rattle.writing.specs.declared.GroupFlags.{GroupFlags}
use Rattle.writing.specs.declared.IndividualFlags.{IndividualFlags}
use Rattle.writing.specs.Ranges.{InChannel, text_limits}
use Rattle.writing.specs.Settings.{Text}
use Rattle.writing.specs.Writing.{bit}
use Rattle.tables.specs.Allowed.{TextOk, QuickOk, StatusOk, LineOk, GroupOk, IndividualOk}
use Rattle.tables.specs.Apply.{same_key, has_address}
use Rattle.tables.specs.Layout.{text_bytes, digit_bytes, quick_bytes, status_bytes, line_key_bytes, line_bytes, line_key_at, line_key_size, digits_at, group_bytes, individual_bytes, line_flags, group_flags, individual_flags, address_at, address_size, quick_width, status_width, member_width, channel_width, line_width}
use Rattle.tables.specs.declared.members.Members.{Members}
use Rattle.tables.specs.declared.members.Members.TheVariants.{OfGroups, OfIndividuals}
use Rattle.tables.specs.MemberKinds.{MemberIn, number_of}
use Rattle.tables.specs.Members.{member_ok, member_bytes}
use Rattle.tables.specs.Tables.{Line, line_key, Member, GroupMember, IndividualMember}
use Rattle.tables.proofs.TextCodes.{text_length, text_one, text_shown, digits_length, digits_one, digits_same, digits_shown}

-- ---- flags

-- a flag is 0 or 1
pub bit_small : (b : Bool) → bit b ≤ 1
bit_small true = omega arith
bit_small false = omega arith

-- and so are two
pub both_small : (a b : Bool) → (bit a ≤ 1) × (bit b ≤ 1)
both_small a b = (bit_small a, bit_small b)

-- a flag's bit says which
pub bit_one : (a b : Bool) → bit a ≡ bit b → a ≡ b
bit_one true true e = refl
bit_one true false e = absurd (omega arith)
bit_one false true e = absurd (omega arith)
bit_one false false e = refl

-- ---- texts

-- a quick text's bytes
pub quick_code : Code QuickOk quick_width quick_bytes
quick_code = record { long = text_length 23; one = λ a b p q e. text_one 23 a b p.text q.text e }

-- they are not all zeros
pub quick_shown : (us : Text) → QuickOk us → zeros? (quick_bytes us) ≡ false
quick_shown us p = text_shown 23 us p.text p.some_unit

-- a status text's bytes
pub status_code : Code StatusOk status_width status_bytes
status_code = record { long = λ us. ap suc (text_length 16 us); one = λ a b p q e. text_one 16 a b p q (tail-eq_of_cons-eq e) }

-- they are not all zeros
pub status_shown : (us : Text) → StatusOk us → zeros? (status_bytes us) ≡ false
status_shown us p = refl

-- ---- channels

-- a channel's bytes
pub channel_code : Code InChannel channel_width u16
channel_code = u16_code InChannel

-- they are not all zeros
pub channel_shown : (n : ℕ) → InChannel n → zeros? (u16 n) ≡ false
channel_shown n p = u16_shown n (λ e. omega (arith, p.0))

-- ---- line contacts

-- encryption, emergency and priority in one byte
three_one : (a b c d : Bool) (m n : ℕ) → m < 4 → n < 4 → bit a * 8 + bit b * 4 + m ≡ bit c * 8 + bit d * 4 + n → (a ≡ c) × (b ≡ d) × (m ≡ n)
three_one a b c d m n p q e =
    let x = both_small a c in
    let y = both_small b d in
    (bit_one a c (omega arith), bit_one b d (omega arith), omega arith)

-- the bytes of flags and IDtype tell them
line_flags_one : (f g : LineFlags) → f.priority < 4 → g.priority < 4 → line_flags f ≡ line_flags g → bit f.pabx ≡ bit g.pabx → f ≡ g
line_flags_one f g p q e x =
    let (u, v, w) = three_one f.encryption f.emergency g.encryption g.emergency f.priority g.priority p q e in
    let y = bit_one f.pabx g.pabx x in
    (λ i. record { encryption = u i; emergency = v i; priority = w i; pabx = y i })

-- 52 bytes
line_long : (l : Line) → length (line_bytes l) ≡ line_width
line_long l = omega (arith, length-append (digit_bytes l.number) (text_bytes 16 l.text), digits_length l.number, text_length 16 l.text)

-- the bytes tell the line
line_one : (a b : Line) → LineOk a → LineOk b → line_bytes a ≡ line_bytes b → a ≡ b
line_one a b p q e =
    let f = line_flags_one a.flags b.flags p.priority q.priority (head-eq_of_cons-eq e) (head-eq_of_cons-eq (tail-eq_of_cons-eq e)) in
    let r = cut (digit_bytes a.number) (digit_bytes b.number) (digits_length a.number ∙ sym (digits_length b.number)) (tail-eq_of_cons-eq (tail-eq_of_cons-eq e)) in
    let n = digits_one a.number b.number p.number.1 q.number.1 r.0 in
    let t = text_one 16 a.text b.text p.text q.text r.1 in
    (λ i. record { flags = f i; number = n i; text = t i })

-- a line's bytes
pub line_code : Code LineOk line_width line_bytes
line_code = record { long = line_long; one = line_one }

-- its digits stand behind flags and IDtype, in 18 bytes
pub digits_stand : (l : Line) → take 18 (drop digits_at (line_bytes l)) ≡ digit_bytes l.number
digits_stand l = take_at (digit_bytes l.number) (text_bytes 16 l.text) 18 (digits_length l.number)

-- the bytes of a line's key
abbrev pub key_of : Line → List ℕ
key_of l = line_key_bytes (line_key l)

-- they stand behind the flags, and are not all zeros
pub line_keyed : Keyed LineOk line_width line_bytes line_key_at line_key_size key_of
line_keyed =
    record {
      wide = omega arith;
      inside = omega arith;
      long = line_long;
      key_long = λ l. ap suc (digits_length l.number);
      stands = λ l. ap (λ (d : List ℕ). bit l.flags.pabx ∷ d) (digits_stand l);
      shown = λ l p. is_false (zeros? (key_of l)) (λ z. true≢false (sym (and_parts (eqb (bit l.flags.pabx) 0) (zeros? (digit_bytes l.number)) z).1 ∙ digits_shown l.number p.number.0));
    }

-- they compare as the keys do
pub keys_same : (a b : Line) → LineOk a → LineOk b → same? (key_of a) (key_of b) ≡ same_key (line_key a) (line_key b)
keys_same a b p q = ap (λ (t : Bool). eqb (bit a.flags.pabx) (bit b.flags.pabx) && t) (digits_same a.number b.number p.number.1 q.number.1)

-- they are not all zeros
pub line_shown : (l : Line) → LineOk l → zeros? (line_bytes l) ≡ false
line_shown = keyed_shown LineOk line_width line_bytes line_key_at line_key_size key_of line_keyed

-- ---- slots, whatever the kind of their flags and address

-- a byte of flags, an address and a text
abbrev slot_bytes : {F A : Type 0} → (F → ℕ) → (A → ℕ) → Member F A → List ℕ
slot_bytes flags_of number_of g = flags_of g.flags ∷ u24 (number_of g.address) ++ text_bytes text_limits.short g.text

module _ {F A : Type 0} (flags_of : F → ℕ) (number_of : A → ℕ) where
  -- 36 bytes
  slot_long : (g : Member F A) → length (slot_bytes flags_of number_of g) ≡ member_width
  slot_long g = omega (arith, text_length 16 g.text)

  -- where the byte of flags tells the flags, and the number the address, the bytes tell the slot
  slot_code : (P : Member F A → Type 0) → ((g : Member F A) → P g → TextOk 16 g.text) → ((a b : Member F A) → P a → P b → flags_of a.flags ≡ flags_of b.flags → a.flags ≡ b.flags)
      → ((a b : A) → number_of a ≡ number_of b → a ≡ b) → Code P member_width (slot_bytes flags_of number_of)
  slot_code P text_ok flags_one number_one = record { long = slot_long; one = one }
    where
      one : (a b : Member F A) → P a → P b → slot_bytes flags_of number_of a ≡ slot_bytes flags_of number_of b → a ≡ b
      one a b p q e =
          let r = cut (u24 (number_of a.address)) (u24 (number_of b.address)) refl (tail-eq_of_cons-eq e) in
          let f = flags_one a b p q (head-eq_of_cons-eq e) in
          let n = number_one a.address b.address (u24_one (number_of a.address) (number_of b.address) r.0) in
          let t = text_one 16 a.text b.text (text_ok a p) (text_ok b q) r.1 in
          (λ i. record { flags = f i; address = n i; text = t i })

  -- the address stands behind the flags, and is not all zeros
  slot_keyed : (P : Member F A → Type 0) → ((g : Member F A) → P g → 1048576 ≤ number_of g.address)
      → Keyed P member_width (slot_bytes flags_of number_of) address_at address_size (λ g. u24 (number_of g.address))
  slot_keyed P high = record {
    wide = omega arith;
    inside = omega arith;
    long = slot_long;
    key_long = λ g. refl;
    stands = λ g. refl;
    shown = λ g p. u24_shown (number_of g.address) (λ e. omega (arith, high g p));
  }

-- ---- group slots

-- the byte of flags tells them
group_flags_one : (f g : GroupFlags) → f.priority < 4 → g.priority < 4 → group_flags f ≡ group_flags g → f ≡ g
group_flags_one f g p q e =
    let a = both_small f.broadcast g.broadcast in
    let b = both_small f.encryption g.encryption in
    let c = both_small f.ovcm g.ovcm in
    let d = both_small f.emergency g.emergency in
    let u : f.attribute ≡ g.attribute = omega arith in
    let v = bit_one f.broadcast g.broadcast (omega arith) in
    let w = bit_one f.encryption g.encryption (omega arith) in
    let x = bit_one f.ovcm g.ovcm (omega arith) in
    let y = bit_one f.emergency g.emergency (omega arith) in
    let z : f.priority ≡ g.priority = omega arith in
    (λ i. record { attribute = u i; broadcast = v i; encryption = w i; ovcm = x i; emergency = y i; priority = z i })

-- a group slot's bytes
pub group_code : Code GroupOk member_width group_bytes
group_code =
    slot_code group_flags (λ x. x.0) GroupOk (λ g p. p.text) (λ a b p q e. group_flags_one a.flags b.flags p.priority q.priority e)
    (λ a b e i. record { 0 = e i })

-- ---- individual slots

-- the byte of flags tells them
individual_flags_one : (f g : IndividualFlags) → f.priority < 4 → g.priority < 4 → individual_flags f ≡ individual_flags g → f ≡ g
individual_flags_one f g p q e =
    let (u, v, w) = three_one f.encryption f.emergency g.encryption g.emergency f.priority g.priority p q e in
    (λ i. record { encryption = u i; emergency = v i; priority = w i })

-- an individual slot's bytes
pub individual_code : Code IndividualOk member_width individual_bytes
individual_code =
    slot_code individual_flags (λ x. x.0) IndividualOk (λ g p. p.text) (λ a b p q e. individual_flags_one a.flags b.flags p.priority q.priority e)
    (λ a b e i. record { 0 = e i })

-- ---- slots and contacts of either kind

-- a slot's bytes
pub member_code : (w : Members) → Code (member_ok w) member_width (member_bytes w)
member_code OfGroups = group_code
member_code OfIndividuals = individual_code

-- the bytes of an address
abbrev pub address_of : (w : Members) → MemberIn w → List ℕ
address_of w x = u24 (number_of w x.address)

-- they stand behind the flags, and are not all zeros
pub member_keyed : (w : Members) → Keyed (member_ok w) member_width (member_bytes w) address_at address_size (address_of w)
member_keyed OfGroups = slot_keyed group_flags (λ x. x.0) GroupOk (λ g p. p.address.0.0)
member_keyed OfIndividuals = slot_keyed individual_flags (λ x. x.0) IndividualOk (λ g p. p.address.0.0)

-- numbers are compared by their bytes
numbers_same : (a b : ℕ) → same? (u24 a) (u24 b) ≡ eqb a b
numbers_same a b = go (eqb a b) refl
  where
    go : (t : Bool) → eqb a b ≡ t → same? (u24 a) (u24 b) ≡ t
    go true e = ap (λ (n : ℕ). same? (u24 n) (u24 b)) (eqb-true a b e) ∙ same_refl (u24 b)
    go false e = is_false (same? (u24 a) (u24 b)) (λ s. eqb-false a b e (u24_one a b (same_are (u24 a) (u24 b) s)))

-- ADDRESSES-SAME: and so are addresses
pub addresses_same : (w : Members) (x y : MemberIn w) → same? (address_of w y) (address_of w x) ≡ has_address w x.address y
addresses_same w x y = numbers_same (number_of w y.address) (number_of w x.address)

-- ADDRESS-HIT: a slot has the bytes of an address where its entry has the address
pub address_hit : (w : Members) (x y : MemberIn w) → hit address_at (address_of w x) (member_bytes w y) ≡ has_address w x.address y
address_hit w x y = ap (λ (k : List ℕ). same? k (address_of w x)) ((member_keyed w).stands y) ∙ addresses_same w x y

-- a slot's bytes are not all zeros
pub member_shown : (w : Members) (x : MemberIn w) → member_ok w x → zeros? (member_bytes w x) ≡ false
member_shown w = keyed_shown (member_ok w) member_width (member_bytes w) address_at address_size (address_of w) (member_keyed w)

pub group_shown : (g : GroupMember) → GroupOk g → zeros? (group_bytes g) ≡ false
group_shown = member_shown OfGroups

pub individual_shown : (g : IndividualMember) → IndividualOk g → zeros? (individual_bytes g) ≡ false
individual_shown = member_shown OfIndividuals
