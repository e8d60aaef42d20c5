-- Settings are whole bytes: how many, and that the first is a type byte. Assumes nothing.
use Rattle.lists.proofs.Kit.{ℕ, zero, suc, ◌+◌, ◌*◌, ◌<◌, ◌≡◌, refl, ap, ◌∙◌, List, [], ◌∷◌, ◌++◌, map, nil≢cons, arith, length}
use Rattle.lists.specs.Every.{All}
use Rattle.lists.proofs.Seqs.{cut}
use Rattle.writing.specs.declared.KeyTarget.{KeyTarget}
use Rattle.writing.specs.declared.KeyTarget.TheVariants.{Current, ToGroup, ToIndividual}
use Rattle.writing.specs.Fields.{bits, bits_of, Field, val, item, res, widths, each}
use Rattle.writing.specs.declared.Coding.{Coding}
use Rattle.writing.specs.declared.Coding.TheVariants.{Unicode16, EightBit}
use Rattle.writing.specs.Settings.{Text, Number, Contact, Addressed, Setting, group_contacts, individual_contacts, lines, key, quick_texts, home, channels, system, status_texts, group, individual, line_slot, last, kind}
use Rattle.writing.specs.Writing.{unit_width, text, fill, number, address, addressed, contact, quick_text, status_text, key_address, type_byte, body, data_length, fields, Written}
use Rattle.writing.proofs.Bits.{bits_val, length_bits_of, shows_length, widths_append, widths_map}

-- so many bits are whole bytes
abbrev pub WholeBits : ℕ → Type 0
WholeBits w = (n : ℕ) × (w ≡ 8 * n)

-- the fields take whole bytes
abbrev pub Whole : List Field → Type 0
Whole fs = WholeBits (widths fs)

-- whole bytes after whole bytes are whole bytes
pub append_whole : (fs gs : List Field) → Whole fs → Whole gs → Whole (fs ++ gs)
append_whole fs gs (n, e) (m, d) = (n + m, omega (arith, widths_append fs gs))

-- parts that are whole bytes make whole bytes
pub each_whole : {A : Type 0} (f : A → List Field) → ((a : A) → Whole (f a)) → (l : List A) → Whole (each f l)
each_whole f h [] = (0, refl)
each_whole f h (a ∷ l) = append_whole (f a) (each f l) (h a) (each_whole f h l)

-- a text's unit is whole bytes
pub unit_whole : (c : Coding) → WholeBits (unit_width c)
unit_whole Unicode16 = (2, refl)
unit_whole EightBit = (1, refl)

-- a text has a unit more than it says
pub text_widths : (c : Coding) (t : Text) → widths (text c t) ≡ suc (length t) * unit_width c
text_widths c t = simp widths_append (omega (arith, widths_map (item (unit_width c) 0) (unit_width c) (λ v. refl) t))

-- a text is whole bytes
pub text_whole : (c : Coding) (t : Text) → Whole (text c t)
text_whole c t = let (u, e) = unit_whole c in (suc (length t) * u, omega (arith, text_widths c t, ap (λ w. suc (length t) * w) e))

-- half bytes, with what fills them, are whole bytes
pub fill_whole : (n : ℕ) → WholeBits (4 * n + widths (fill n))
fill_whole zero = (0, refl)
fill_whole (suc zero) = (1, refl)
fill_whole (suc (suc n)) = let (k, e) = fill_whole n in (suc k, omega arith)

-- a number is whole bytes
pub number_whole : (ds : Number) → Whole (number ds)
number_whole ds =
    let (k, e) = fill_whole (suc (length ds)) in
    (k, simp widths_append (omega (arith, widths_map (item 4 15) 4 (λ v. refl) ds)))

-- the address of an emergency key is whole bytes
key_whole : (t : KeyTarget) → Whole (key_address t)
key_whole (Current g) = (0, refl)
key_whole (ToGroup a) = (3, refl)
key_whole (ToIndividual a) = (3, refl)

-- an index or a code of one byte, then a text, are whole bytes
pub entry_whole : (c : Coding) (fs : List Field) → widths fs ≡ 8 → (t : Text) → Whole (fs ++ text c t)
entry_whole c fs e t = append_whole fs (text c t) (1, e) (text_whole c t)

-- a line contact is whole bytes
pub contact_whole : (c : Coding) (e : Contact) → Whole (contact c e)
contact_whole c e = append_whole (number e.number) (text c e.text) (number_whole e.number) (text_whole c e.text)

-- a contact with an address is whole bytes
pub addressed_whole : {A : Type 0} (number_of_lem : A → ℕ) (c : Coding) (e : Addressed A) → Whole (addressed number_of_lem c e)
addressed_whole number_of_lem c e = append_whole (address (number_of_lem e.address)) (text c e.text) (3, refl) (text_whole c e.text)

-- the fields after DataLength are whole bytes
pub body_whole : (c : Coding) (s : Setting) → Whole (body c s)
body_whole c (group_contacts o f es) =
    let (n, e) = each_whole (addressed (λ a. a.0) c) (addressed_whole (λ a. a.0) c) es in (3 + n, omega arith)
body_whole c (individual_contacts o f es) =
    let (n, e) = each_whole (addressed (λ a. a.0) c) (addressed_whole (λ a. a.0) c) es in (2 + n, omega arith)
body_whole c (lines o f es) = let (n, e) = each_whole (contact c) (contact_whole c) es in (2 + n, omega arith)
body_whole c (key t f) = let (n, e) = key_whole t in (1 + n, omega arith)
body_whole c (quick_texts o es) =
    let (n, e) = each_whole (quick_text c) (λ e. entry_whole c (res 2 ∷ val 6 e.index ∷ []) refl e.text) es in (1 + n, omega arith)
body_whole c (home h) = (3, refl)
body_whole c (channels o es) =
    let (n, e) = fill_whole (length es) in
    (2 + length es + n, simp widths_append (omega (arith, widths_map (val 12) 12 (λ v. refl) es)))
body_whole c (system s) = (3, refl)
body_whole c (status_texts o es) =
    let (n, e) = each_whole (status_text c) (λ e. entry_whole c (val 8 e.index ∷ []) refl e.text) es in (2 + n, omega arith)
body_whole c (group o f s) = let (n, e) = text_whole c s.text in (5 + n, omega arith)
body_whole c (individual o f s) = let (n, e) = text_whole c s.text in (5 + n, omega arith)
body_whole c (line_slot o f s) =
    let (n, e) = contact_whole c (record { number = s.address; text = s.text }) in (2 + n, omega arith)
body_whole c (last f h) = (1 + length h.value, omega (arith, widths_map (val 8) 8 (λ v. refl) h.value))

-- WHOLE: every setting is whole bytes
pub whole : (c : Coding) (s : Setting) → Whole (fields c s)
whole c s = let (n, e) = body_whole c s in (3 + n, omega arith)

-- "DataLength .. counting itself and all that follows": a writing has a byte more
pub length_written : (c : Coding) (s : Setting) (bs : List ℕ) → Written c s bs → length bs ≡ suc (data_length c s)
length_written c s bs w = let (n, e) = body_whole c s in omega (arith, length_bits_of bs, shows_length (fields c s) (bits_of bs) w)

-- no writing is empty
pub never_empty : (c : Coding) (s : Setting) → Written c s [] → ⊥
never_empty c s w = nil≢cons w.4

-- HEADED: a writing starts with its kind's type byte
pub headed : (c : Coding) (s : Setting) (w : List ℕ) → All (◌< 256) w → Written c s w
    → (b : ℕ) × (v : List ℕ) × (w ≡ b ∷ v) × (b ≡ type_byte (kind s))
headed c s [] h w = absurd (never_empty c s w)
headed c s (b ∷ v) h w =
    let (x, rest, e, lt, same, more) = w in
    (b, v, refl, bits_val 8 b x h.0 lt (cut (bits 8 b) (bits 8 x) refl same).0 ∙ e)
