-- The fields behind the type byte: a head, read as one number, whose result and reason are 0, and what follows it. Assumes nothing.
use Rattle.std.specs.Prelude.{Option as Maybe, Some, None}
use Rattle.lists.proofs.Kit.{ℕ, ◌+◌, ◌*◌, ◌/◌, ◌%◌, ◌^◌, ◌≤◌, ◌<◌, ◌≡◌, refl, sym, ap, ◌∙◌, subst, subst⁻¹, ◌≢◌, List, [], ◌∷◌, ◌++◌, arith, length, drop, take, pow_pos, shr-shr, div-lt_iff_lt-mul}
use native.Mathlib.Nat.{div-eq_of_lt}
use lib.Pow.{shr_lt}
use Rattle.lists.specs.Bytes.{Bytes}
use Rattle.lists.specs.Every.{All}
use Rattle.writing.specs.Fields.{bits_of, Field, val, Shows, widths}
use Rattle.writing.specs.Settings.{Text, unicode16}
use Rattle.writing.specs.Writing.{text}
use Rattle.writing.proofs.Unique.{text_ends}
use Rattle.read_fields.specs.Places.{FieldsAt, be}
use Rattle.read_fields.specs.TextsAndNumbers.{TextAt}
use Rattle.read_fields.specs.declared.texts.TextPlace.{TextPlace}
use Rattle.read_fields.proofs.Heads.{Cut, head_in, head_out, be_small}
use Rattle.read_fields.proofs.TextWalk.{text_read}
use Rattle.read_fields.proofs.Walk.{one_part}
use Rattle.tables.specs.Allowed.{TextOk}
use Rattle.reports.specs.declared.Asked.{Asked}
use Rattle.reports.specs.Contents.{Contents, make}
use Rattle.reports.specs.Items.{good, item_body, InItem}
use Rattle.report_reading.specs.Reading.{TextEnds, Says}
use Rattle.report_reading.specs.Readers.{HeadIs, ItemAt}
use Rattle.report_reading.specs.declared.items.Item.{Item as Found}

-- ---- result and reason

-- a byte with no bit set
zero_byte : (M : ℕ) → M < 256 → M / 128 % 2 ≡ 0 → M % 128 ≡ 0 → M ≡ 0
zero_byte M l a b = omega arith

module _ (fs : List Field) (N : ℕ) where
  -- result 0 and reason 0 before the fields leave a number of as many bits as they have
  good_out : N < 2 ^ widths (good fs) → Cut (good fs) N → (N < 2 ^ widths fs) × Cut fs N
  good_out l (a, (b, c)) =
      let w : ℕ = widths fs in
      let e : N / 2 ^ w / 2 ^ 7 ≡ N / 2 ^ (7 + w) = shr-shr N w 7 ∙ ap (λ k. N / 2 ^ k) (omega arith) in
      let s : N / 2 ^ w < 2 ^ 8 = shr_lt 8 w (subst (λ (k : ℕ). N < 2 ^ k) (let o : 1 + (7 + w) ≡ 8 + w = omega arith in o) l) in
      let z : N / 2 ^ w ≡ 0 = zero_byte (N / 2 ^ w) s (ap (λ k. k % 2) e ∙ a) b in
      (subst (N <◌) (let o : 1 * 2 ^ w ≡ 2 ^ w = omega arith in o) ((div-lt_iff_lt-mul (pow_pos w)).0 (omega arith)), c)

  good_in : N < 2 ^ widths fs → Cut fs N → Cut (good fs) N
  good_in l c =
      let w : ℕ = widths fs in
      let z : N / 2 ^ w ≡ 0 = div-eq_of_lt l in
      let e : N / 2 ^ (7 + w) ≡ 0 = sym (shr-shr N w 7 ∙ ap (λ k. N / 2 ^ k) (omega arith)) ∙ ap (λ k. k / 2 ^ 7) z in
      (ap (λ k. k % 2) e, (ap (λ k. k % 2 ^ 7) z, c))

-- ---- one byte

module _ (m : List ℕ) (p : ℕ) (h : Bytes m) where
  -- a byte of the message and what follows it
  pub byte_out : (b : ℕ) (fs : List Field) (next : ℕ) → FieldsAt (val 8 b ∷ fs) m p next
      → (p + 1 ≤ length m) × (be 0 (take 1 (drop p m)) ≡ b) × FieldsAt fs m (p + 1) next
  byte_out b fs next y =
      let (r, k, z) = head_out (val 8 b ∷ []) fs m p 1 refl (omega arith) h next y in
      (r, omega (arith, k.0, be_small m p 1 h r), z)

  pub byte_in : (b : ℕ) (fs : List Field) (next : ℕ) → p + 1 ≤ length m → be 0 (take 1 (drop p m)) ≡ b → FieldsAt fs m (p + 1) next
      → FieldsAt (val 8 b ∷ fs) m p next
  byte_in b fs next r e z = head_in (val 8 b ∷ []) fs m p 1 refl (omega arith) h next r (omega (arith, be_small m p 1 h r), tt) z

-- ---- any type but the hash

-- the fields of a type: a head of so many bits behind result and reason, and what follows it
pub record Headed (K : Asked) : Type 0 where
  pub head : Contents K → List Field
  pub tail : Contents K → List Field
  pub bits : ℕ
  pub size : ℕ
  pub split : (x : Contents K) → item_body (make K x) ≡ good (head x) ++ tail x
  pub wide : (x : Contents K) → widths (head x) ≡ bits
  pub whole : 8 + bits ≡ 8 * size

module _ (K : Asked) (f : Headed K) (m : List ℕ) (p : ℕ) (h : Bytes m) where
  abbrev N : ℕ
  N = be 0 (take f.size (drop p m))

  wide_good : (x : Contents K) → widths (good (f.head x)) ≡ 8 * f.size
  wide_good x = omega (arith, f.wide x, f.whole)

  some_byte : 0 < f.size
  some_byte = omega (arith, f.whole)

  -- the head's number, and what follows
  parts : (x : Contents K) (next : ℕ) → FieldsAt (item_body (make K x)) m p next
      → (p + f.size ≤ length m) × (N < 2 ^ f.bits) × Cut (f.head x) N × FieldsAt (f.tail x) m (p + f.size) next
  parts x next y =
      let (r, k, z) = head_out (good (f.head x)) (f.tail x) m p f.size (wide_good x) some_byte h next
      (subst (λ (l : List Field). FieldsAt l m p next) (f.split x) y) in
      let (l, c) = good_out (f.head x) N (subst⁻¹ (λ (w : ℕ). N < 2 ^ w) (wide_good x) (be_small m p f.size h r)) k in
      (r, subst (λ (w : ℕ). N < 2 ^ w) (f.wide x) l, c, z)

  -- none where no such head is there
  pub no_head : {r : Maybe ℕ} → HeadIs m p f.size (2 ^ f.bits) r → r ≡ None → ItemAt K m p None
  no_head s e x next i y =
      let (r, l, k, z) = parts x next y in
      subst (HeadIs m p f.size (2 ^ f.bits)) e s r l

  module _ {r : Maybe ℕ} (n : ℕ) (s : HeadIs m p f.size (2 ^ f.bits) r) (e : r ≡ Some n) where
    -- room for the head
    pub room : p + f.size ≤ length m
    room = (subst (HeadIs m p f.size (2 ^ f.bits)) e s).0

    -- none where no contents have this head and what follows
    pub no_item : ((x : Contents K) (next : ℕ) → Cut (f.head x) n → InItem (make K x) → FieldsAt (f.tail x) m (p + f.size) next → ⊥) → ItemAt K m p None
    no_item never x next i y =
        let is = subst (HeadIs m p f.size (2 ^ f.bits)) e s in
        let (r, l, k, z) = parts x next y in
        never x next (subst (Cut (f.head x)) (sym is.1) k) i z

    -- these contents, which have this head and what follows
    pub the_item : (x : Contents K) (found : Found) (next : ℕ) → Cut (f.head x) n → InItem (make K x) → FieldsAt (f.tail x) m (p + f.size) next
        → Says m next (make K x) found → ItemAt K m p (Some (found, next))
    the_item x found next k i y says =
        let is = subst (HeadIs m p f.size (2 ^ f.bits)) e s in
        let l : n < 2 ^ widths (f.head x) = subst⁻¹ (λ (w : ℕ). n < 2 ^ w) (f.wide x) is.2 in (
          x,
          says,
          i,
          subst⁻¹ (λ (l : List Field). FieldsAt l m p next) (f.split x)
              (head_in (good (f.head x)) (f.tail x) m p f.size (wide_good x) some_byte h next is.0 (subst (Cut (good (f.head x))) is.1 (good_in (f.head x) n l k)) y),
        )

-- ---- types that end with a text

-- the units of a text that stands somewhere
text_units : (us : Text) (bs : List ℕ) → Shows (text unicode16 us) bs → All (λ u. (u ≢ 0) × (u < 65536)) us
text_units [] bs s = tt
text_units (u ∷ us) bs s = let (x, r, k, b, e, more) = s in ((k.1, omega (arith, k.0)), text_units us r more)

-- a text that was read is in range
pub text_ok : (limit : ℕ) (us : Text) (m : List ℕ) (from next : ℕ) → length us ≤ limit → FieldsAt (text unicode16 us) m from next → TextOk limit us
text_ok limit us m from next l y = record { short = l; units = text_units us (bits_of y.bytes) y.written }

-- what a text that was read says
pub record TextFound (m : List ℕ) (from limit : ℕ) (u : TextPlace) (next : ℕ) : Type 0 where
  pub us : Text
  pub start : u.start ≡ from
  pub ok : TextOk limit us
  pub units : length us ≡ u.units
  pub ends : TextEnds m u us next
  pub stands : FieldsAt (text unicode16 us) m from next

pub text_found : {t : Maybe (TextPlace × ℕ)} (m : List ℕ) (from limit : ℕ) (u : TextPlace) (next : ℕ) → TextAt unicode16 m from limit t → t ≡ Some (u, next)
    → TextFound m from limit u next
text_found m from limit u next at e =
    let (us, l, is, y) = text_read unicode16 m from limit u next at e in
    let there = subst (TextAt unicode16 m from limit) e at in
    record { us = us; start = there.1; ok = text_ok limit us m from next l y; units = is.units; ends = record { coding = there.2; is = is }; stands = y }

module _ (K : Asked) (f : Headed K) (units : Contents K → Text) (last : (x : Contents K) → f.tail x ≡ text unicode16 (units x)) (m : List ℕ) (p : ℕ) (h : Bytes m) {r : Maybe ℕ}
    (n : ℕ) (s : HeadIs m p f.size (2 ^ f.bits) r) (e : r ≡ Some n) (limit : ℕ) where
  abbrev tail_text : (x : Contents K) (next : ℕ) → FieldsAt (f.tail x) m (p + f.size) next → FieldsAt (text unicode16 (units x)) m (p + f.size) next
  tail_text x next y = subst (λ (l : List Field). FieldsAt l m (p + f.size) next) (last x) y

  -- none where no text stands behind the head
  pub no_text : {t : Maybe (TextPlace × ℕ)} → ((x : Contents K) → InItem (make K x) → length (units x) ≤ limit) → TextAt unicode16 m (p + f.size) limit t → t ≡ None → ItemAt K m p None
  no_text short at d =
      no_item K f m p h n s e (λ x next k i y. subst (TextAt unicode16 m (p + f.size) limit) d at (units x) next (short x i) (tail_text x next y))

  -- none where the text that stands there is out of range
  pub no_such_text : {t : Maybe (TextPlace × ℕ)} (u : TextPlace) (next : ℕ) → TextAt unicode16 m (p + f.size) limit t → t ≡ Some (u, next)
      → ((x : Contents K) → InItem (make K x) → length (units x) ≡ u.units → ⊥) → ItemAt K m p None
  no_such_text u next at d never = no_item K f m p h n s e (λ x after k i y.
      let z = text_found m (p + f.size) limit u next at d in
      let same : z.us ≡ units x
      = (one_part (text unicode16) (text_ends unicode16) z.us (units x) m (p + f.size) next after z.stands (tail_text x after y)).0 in
      never x i (sym (ap length same) ∙ z.units))
