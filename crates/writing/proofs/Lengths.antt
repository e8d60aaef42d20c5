-- Settings in range keep to their rows of the rules' table: DataLength and operations. Assumes nothing.
use Rattle.lists.proofs.Kit.{ℕ, zero, suc, ◌+◌, ◌*◌, ◌/◌, ◌≤◌, ◌≡◌, refl, ap, subst, ◌≢◌, [], ◌∷◌, ◌++◌, map, Option, none, some, option_some_injective, option_none_ne_some, mul-le-mul_right, arith, length}
use Rattle.writing.specs.declared.Kind.TheVariants.{GroupContacts, IndividualContacts, Lines, Key, QuickTexts, Home, Channels, System, StatusTexts, Group, Individual, LineSlot, Last}
use Rattle.writing.specs.declared.KeyTarget.{KeyTarget}
use Rattle.writing.specs.declared.KeyTarget.TheVariants.{Current, ToGroup, ToIndividual}
use Rattle.writing.specs.declared.Operation.{Operation}
use Rattle.writing.specs.declared.Operation.TheVariants.{Add, Delete, Replace}
use Rattle.writing.specs.Fields.{val, item, widths}
use Rattle.writing.specs.Ranges.{TextLimits, text_limits, HashSize, no_hash, hash_4, hash_10, InNumber, InAddress, InRange, InSlot, NotReplace}
use Rattle.writing.specs.Bounds.{bounds, no_text, longest_text, Within, Allows, operation}
use Rattle.writing.specs.declared.Operations.TheVariants.{AddOrDelete}
use Rattle.writing.specs.declared.Coding.{Coding}
use Rattle.writing.specs.Settings.{Text, Number, Setting, group_contacts, individual_contacts, lines, key, quick_texts, home, channels, system, status_texts, group, individual, line_slot, last, kind, unicode16, eight_bit}
use Rattle.writing.specs.Writing.{unit_width, text, fill, number, key_address, data_length}
use Rattle.writing.proofs.Bits.{widths_append, widths_map}
use Rattle.writing.proofs.Whole.{unit_whole, text_whole, text_widths, number_whole}

-- a text has so many bytes
text_bytes : (c : Coding) (t : Text) → widths (text c t) / 8 ≡ suc (length t) * no_text c
text_bytes c t =
    let (u, e) = unit_whole c in
    let p : unit_width c / 8 ≡ u = omega arith in
    omega (arith, text_widths c t, ap (λ w. suc (length t) * w) e, ap (λ w. suc (length t) * w) p)

-- a text is at least an empty one, and at most a longest one
text_within : (c : Coding) (k : TextLimits) (t : Text) → length t ≤ k.short
    → (no_text c ≤ widths (text c t) / 8) × (widths (text c t) / 8 ≤ longest_text c k)
text_within c k t h = omega (arith, text_bytes c t, mul-le-mul_right (no_text c) h)

-- what fills a byte is at most half of it
fill_within : (n : ℕ) → widths (fill n) ≤ 4
fill_within zero = omega arith
fill_within (suc zero) = omega arith
fill_within (suc (suc n)) = fill_within n

-- a number has 1 to 10 bytes
number_within : (ds : Number) → InNumber ds → (8 ≤ widths (number ds)) × (widths (number ds) ≤ 80)
number_within ds h = simp widths_append (omega (arith, widths_map (item 4 15) 4 (λ v. refl) ds, fill_within (suc (length ds))))

-- a number and a text after it
contact_within : (c : Coding) (k : TextLimits) (ds : Number) (t : Text) → InNumber ds → length t ≤ k.short
    → (1 + no_text c ≤ widths (number ds ++ text c t) / 8) × (widths (number ds ++ text c t) / 8 ≤ 10 + longest_text c k)
contact_within c k ds t n h =
    let (a, d) = number_whole ds in
    let (b, e) = text_whole c t in
    omega (arith, widths_append (number ds) (text c t), number_within ds n, text_within c k t h)

-- the address of an emergency key is absent or has three bytes
key_within : (t : KeyTarget) → widths (key_address t) ≤ 24
key_within (Current g) = omega arith
key_within (ToGroup a) = omega arith
key_within (ToIndividual a) = omega arith

-- a hash value has at most ten bytes
pub small_size : {code n : ℕ} → HashSize code n → n ≤ 10
small_size no_hash = omega arith
small_size hash_4 = omega arith
small_size hash_10 = omega arith

-- WITHIN ROW: every setting that is in range has a DataLength within its row
pub within_row : (c : Coding) (k : TextLimits) (left : ℕ) (s : Setting) → InRange k left s → Within (bounds c k (kind s)) (data_length c s)
within_row c k left (group_contacts o f es) h = omega arith
within_row c k left (individual_contacts o f es) h = omega arith
within_row c k left (lines o f es) h = omega arith
within_row c k left (key t f) h = omega (arith, key_within t)
within_row c k left (quick_texts o es) h = omega arith
within_row c k left (home x) h = omega arith
within_row c k left (channels o es) h = omega arith
within_row c k left (system s) h = omega arith
within_row c k left (status_texts o es) h = omega arith
within_row c k left (group o f s) h = omega (arith, text_within c k s.text h.1)
within_row c k left (individual o f s) h = omega (arith, text_within c k s.text h.1)
within_row c k left (line_slot o f s) h = omega (arith, contact_within c k s.address s.text h.1 h.2)
within_row c k left (last f x) h = omega (arith, small_size h.0, widths_map (val 8) 8 (λ v. refl) x.value)

-- in a D1, D2 or D3, only add and delete are in range
slot_allows : (o : Operation) (In : Operation → Type 0) → (In Replace → ⊥) → In o → Allows AddOrDelete o
slot_allows Add In never h = tt
slot_allows Delete In never h = tt
slot_allows Replace In never h = never h

-- ALLOWED: every setting that is in range has only an operation that its row allows
pub allowed : (c : Coding) (k : TextLimits) (left : ℕ) (s : Setting) (o : Operation) → InRange k left s → operation s ≡ some o
    → Allows (bounds c k (kind s)).operations o
allowed c k left (group_contacts p f es) o h e = tt
allowed c k left (individual_contacts p f es) o h e = tt
allowed c k left (lines p f es) o h e = tt
allowed c k left (key t f) o h e = option_none_ne_some o e
allowed c k left (quick_texts p es) o h e = tt
allowed c k left (home x) o h e = option_none_ne_some o e
allowed c k left (channels p es) o h e = tt
allowed c k left (system s) o h e = option_none_ne_some o e
allowed c k left (status_texts p es) o h e = tt
allowed c k left (group p f s) o h e =
    subst (Allows AddOrDelete) (option_some_injective p o e)
    (slot_allows p (λ q. InSlot q ((f.attribute ≢ 0) × InAddress s.address.0)) (λ x. x) h.0)
allowed c k left (individual p f s) o h e =
    subst (Allows AddOrDelete) (option_some_injective p o e) (slot_allows p (λ q. InSlot q (InAddress s.address.0)) (λ x. x) h.0)
allowed c k left (line_slot p f s) o h e = subst (Allows AddOrDelete) (option_some_injective p o e) (slot_allows p NotReplace (λ x. x) h.0)
allowed c k left (last f x) o h e = option_none_ne_some o e

-- the columns "least / most", in the order of the type bytes
pub rows_are :
    map {B = ℕ × Option ℕ} (λ t. ((bounds unicode16 text_limits t).least, (bounds unicode16 text_limits t).most))
    (GroupContacts ∷ IndividualContacts ∷ Lines ∷ Key ∷ QuickTexts ∷ Home ∷ Channels ∷ System ∷ StatusTexts ∷ Group ∷ Individual ∷ LineSlot
    ∷ Last ∷ [])
    ≡ (5, none) ∷ (4, none) ∷ (4, none) ∷ (3, some 6) ∷ (3, none) ∷ (5, some 5) ∷ (4, none) ∷ (5, some 5) ∷ (4, none) ∷ (9, some 41) ∷ (9, some 41)
    ∷ (7, some 48) ∷ (3, some 13) ∷ []
rows_are = refl

-- the same columns under 0100
pub rows_are_eight_bit :
    map {B = ℕ × Option ℕ} (λ t. ((bounds eight_bit text_limits t).least, (bounds eight_bit text_limits t).most))
    (GroupContacts ∷ IndividualContacts ∷ Lines ∷ Key ∷ QuickTexts ∷ Home ∷ Channels ∷ System ∷ StatusTexts ∷ Group ∷ Individual ∷ LineSlot
    ∷ Last ∷ [])
    ≡ (5, none) ∷ (4, none) ∷ (4, none) ∷ (3, some 6) ∷ (3, none) ∷ (5, some 5) ∷ (4, none) ∷ (5, some 5) ∷ (4, none) ∷ (8, some 24) ∷ (8, some 24)
    ∷ (6, some 31) ∷ (3, some 13) ∷ []
rows_are_eight_bit = refl
