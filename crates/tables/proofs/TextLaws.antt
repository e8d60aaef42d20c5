-- A text's bytes in a message, and in the store. Assumes nothing.
use Rattle.lists.proofs.Kit.{ℕ, suc, ◌+◌, ◌-◌, ◌*◌, ◌/◌, ◌≤◌, ◌<◌, ◌≡◌, refl, sym, ap, ap₂, ◌∙◌, ◌≢◌, List, [], ◌∷◌, ◌++◌, map, map-append, arith, length, drop, take, get_or, drop-cons, drop-drop, take-add, le-div_iff_mul-le, div-lt_iff_lt-mul}
use Rattle.lists.specs.Bytes.{Bytes}
use Rattle.lists.specs.Every.{All}
use Rattle.lists.proofs.Every.{all_turn}
use Rattle.slots.specs.Slots.{flat, pad, u16}
use Rattle.slots.proofs.Numbers.{u16_of}
use Rattle.slots.proofs.Parts.{flat_append}
use Rattle.slots.proofs.Tables.{flat_pad}
use Rattle.writing.specs.Canonical.{FitsField}
use Rattle.writing.specs.Fields.{bits_of}
use Rattle.writing.specs.declared.Coding.{Coding}
use Rattle.writing.specs.declared.Coding.TheVariants.{Unicode16, EightBit}
use Rattle.writing.specs.Settings.{Text}
use Rattle.writing.specs.Writing.{text}
use Rattle.writing.proofs.CanonicalLaws.{shows_fits}
use Rattle.writing.proofs.TextUnits.{UnitOk, units_fit}
use Rattle.read_fields.specs.Places.{FieldsAt, be}
use Rattle.read_fields.specs.TextsAndNumbers.{UnitBytes, TextIs}
use Rattle.read_fields.specs.declared.texts.TextPlace.{TextPlace}
use Rattle.read_fields.proofs.TextWalk.{end_out, unit_out}
use Rattle.tables.specs.Changing.{TextPut}
use Rattle.tables.specs.Layout.{text_bytes}

-- ---- units

-- a unit that a text may have
abbrev pub Unit16 : ℕ → Type 0
Unit16 u = (u ≢ 0) × (u < 65536)

-- a unit that fits its coding is one
unit_16 : (c : Coding) (u : ℕ) → UnitOk c u → Unit16 u
unit_16 Unicode16 u h = h
unit_16 EightBit u h = (h.0, omega (arith, h.1))

-- so are the units of a text whose fields fit
pub units_16 : (c : Coding) (us : Text) → All FitsField (text c us) → All Unit16 us
units_16 c us p = all_turn (UnitOk c) Unit16 (unit_16 c) us (units_fit c us p)

-- and of a text that stands at a place
pub text_units : (c : Coding) (us : Text) {m : List ℕ} {p next : ℕ} → FieldsAt (text c us) m p next → All Unit16 us
text_units c us x = units_16 c us (shows_fits (text c us) (bits_of x.bytes) x.written)

-- ---- a text's bytes in a message

-- a text's bytes under a coding as the store keeps them
abbrev pub kept : Coding → List ℕ → List ℕ
kept Unicode16 bs = bs
kept EightBit bs = flat (map u16 bs)

kept_nil : (c : Coding) → kept c [] ≡ []
kept_nil Unicode16 = refl
kept_nil EightBit = refl

kept_append : (c : Coding) (a b : List ℕ) → kept c (a ++ b) ≡ kept c a ++ kept c b
kept_append Unicode16 a b = refl
kept_append EightBit a b = ap flat (map-append u16 a b) ∙ flat_append (map u16 a) (map u16 b)

-- the bytes of a unit are kept as two
kept_unit : (c : Coding) (k : ℕ) → UnitBytes c k → (m : List ℕ) (p : ℕ) → Bytes m → p + k ≤ length m → kept c (take k (drop p m)) ≡ u16 (be 0 (take k (drop p m)))
kept_unit Unicode16 k size m p h r =
    let two : k ≡ 2 = omega (arith, size.wide) in
    let a : ℕ = get_or m p 0 in
    let b : ℕ = get_or m (suc p) 0 in
    let d : drop p m ≡ a ∷ b ∷ drop (suc (suc p)) m = drop-cons m p 0 (omega arith) ∙ ap (λ (l : List ℕ). a ∷ l) (drop-cons m (suc p) 0 (omega arith)) in
    let n : a * 256 + b ≡ (0 * 256 + a) * 256 + b = omega arith in
    rw (two, d) (sym (u16_of a b (h (suc p))) ∙ ap u16 n)
kept_unit EightBit k size m p h r =
    let one : k ≡ 1 = omega (arith, size.wide) in
    let d : drop p m ≡ get_or m p 0 ∷ drop (suc p) m = drop-cons m p 0 (omega arith) in
    let n : get_or m p 0 ≡ 0 * 256 + get_or m p 0 = omega arith in
    rw (one, d) (ap u16 n)

-- a text that stands at a place: it ends in the message, and its bytes are kept as its units, high byte first
pub record TextOut (c : Coding) (k : ℕ) (m : List ℕ) (p : ℕ) (us : Text) : Type 0 where
  pub inside : p + k * length us ≤ length m
  pub bytes : kept c (take (k * length us) (drop p m)) ≡ flat (map u16 us)

pub text_out : (c : Coding) (k : ℕ) → UnitBytes c k → (m : List ℕ) (p next : ℕ) (us : Text) → Bytes m → FieldsAt (text c us) m p next → TextOut c k m p us
text_out c k size m p next [] h x =
    let none : k * 0 ≡ 0 = omega arith in
    record { inside = omega (arith, (end_out c k size m p h next x).0); bytes = ap (λ (n : ℕ). kept c (take n (drop p m))) none ∙ kept_nil c }
text_out c k size m p next (u ∷ us) h x =
    let (room, e, y) = unit_out c k size m p h u us next x in
    let z = text_out c k size m (p + k) next us h y in
    let more : k * suc (length us) ≡ k + k * length us = omega arith in
    let n : ℕ = k * length us in
    record {
      inside = omega (arith, z.inside);
      bytes = ap (λ (i : ℕ). kept c (take i (drop p m))) more ∙ ap (kept c) (take-add k n (drop p m)) ∙ kept_append c (take k (drop p m)) (take n (drop k (drop p m)))
          ∙ ap₂ (λ (v w : List ℕ). v ++ w) (kept_unit c k size m p h room ∙ ap u16 e) (ap (λ (l : List ℕ). kept c (take n l)) (drop-drop k p m) ∙ z.bytes);
    }

-- n units' bytes are those of the text's units, and zeros
pub text_padded : (n : ℕ) (us : Text) → pad 0 (2 * n) (flat (map u16 us)) ≡ text_bytes n us
text_padded n us = let e : 2 * n ≡ n * 2 = omega arith in rw e (sym (flat_pad 2 u16 (λ u. refl) 0 refl n us))

-- so many units of k bytes are in x bytes
pub units_in : (k x units : ℕ) → 1 ≤ k → units ≤ x / k → k * units ≤ x
units_in k x units pos h = omega (arith, (le-div_iff_mul-le pos).0 h)

-- or are not
pub units_out : (k x units : ℕ) → 1 ≤ k → x / k < units → x < k * units
units_out k x units pos h = omega (arith, (div-lt_iff_lt-mul pos).0 h)

-- what putting the text at a place has to show
module _ (m : List ℕ) (h : Bytes m) (p : TextPlace) (k : ℕ) (size : UnitBytes p.coding k) (s t : List ℕ) where
  -- the text that is meant stands in the message
  out : (us : Text) (next : ℕ) → TextIs m p us next → TextOut p.coding k m p.start us
  out us next is = text_out p.coding k size m p.start next us h is.stands

  -- no text stands outside the message
  pub text_absent : (p.start + k * p.units ≤ length m → ⊥) → TextPut m p s t
  text_absent never n us next is l w = absurd (never (omega (arith, ap (λ (i : ℕ). k * i) is.units, (out us next is).inside)))

  -- its bytes as the store keeps them, and zeros after them, are the text's
  pub text_put : (c : Coding) → p.coding ≡ c → t ≡ pad 0 (length s) (kept c (take (p.start + k * p.units - p.start) (drop p.start m))) → TextPut m p s t
  text_put c d e n us next is l w =
      let i : p.start + k * p.units - p.start ≡ k * length us = omega (arith, ap (λ (j : ℕ). k * j) is.units) in
      e ∙ ap₂ (λ (a : ℕ) (b : List ℕ). pad 0 a b) w (ap₂ (λ (x : Coding) (j : ℕ). kept x (take j (drop p.start m))) (sym d) i ∙ (out us next is).bytes) ∙ text_padded n us
