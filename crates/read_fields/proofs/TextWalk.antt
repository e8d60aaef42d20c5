-- Reading a text unit by unit. Assumes nothing.
use Rattle.std.specs.Prelude.{Option, Some, None}
use Rattle.lists.proofs.Kit.{ℕ, ◌+◌, ◌*◌, ◌/◌, ◌%◌, ◌^◌, ◌≤◌, ◌<◌, ◌≡◌, refl, sym, ap, ◌∙◌, subst, subst₂, ◌≢◌, mod-eq_of_lt, List, [], ◌∷◌, ◌++◌, append-nil, arith, length, drop, take, length-append}
use Rattle.lists.specs.Bytes.{Bytes}
use Rattle.writing.specs.Fields.{Field, val, item}
use Rattle.writing.specs.declared.Coding.{Coding}
use Rattle.writing.specs.Settings.{Text}
use Rattle.writing.specs.Writing.{unit_width, text}
use Rattle.read_fields.specs.Places.{FieldsAt, be}
use Rattle.read_fields.specs.TextsAndNumbers.{UnitBytes, TextIs, TextAt}
use Rattle.read_fields.specs.declared.texts.TextPlace.{TextPlace}
use Rattle.read_fields.proofs.Heads.{head_in, head_out, be_small}
use Rattle.read_fields.proofs.Parts.{nothing}
use Rattle.read_fields.proofs.Walk.{Walked, not_yet, extend}

abbrev Any : List ℕ → Type 0
Any us = Unit {0}

-- so many units have been passed, and p is the place after them
pub record TextPassed (c : Coding) (m : List ℕ) (at p units : ℕ) : Type 0 where
  pub done : List ℕ
  pub counted : length done ≡ units
  pub place : at + units ≤ p
  pub walked : Walked (text c) Any m at p done

pub no_unit_yet : (c : Coding) (m : List ℕ) (at : ℕ) → TextPassed c m at at 0
no_unit_yet c m at = record { done = []; counted = refl; place = omega arith; walked = not_yet (text c) Any m at }

-- a number of one field is its cut
one_cut : (w N : ℕ) → N < 2 ^ w → N / 2 ^ 0 % 2 ^ w ≡ N
one_cut w N l = ap (λ (x : ℕ). x % 2 ^ w) (let e : N / 1 ≡ N = omega arith in e) ∙ mod-eq_of_lt l

-- units of k bytes
module _ (c : Coding) (k : ℕ) (size : UnitBytes c k) (m : List ℕ) (p : ℕ) (h : Bytes m) where
  abbrev last : List Field
  last = val (unit_width c) 0 ∷ []

  abbrev unit_of : ℕ → List Field
  unit_of u = item (unit_width c) 0 u ∷ []

  -- a field of one unit is k bytes wide
  wide : unit_width c + 0 ≡ 8 * k
  wide = omega (arith, size.wide)

  -- the number of k bytes is its own cut
  cut_is : p + k ≤ length m → be 0 (take k (drop p m)) / 2 ^ 0 % 2 ^ unit_width c ≡ be 0 (take k (drop p m))
  cut_is room = one_cut (unit_width c) _ (subst (λ (x : ℕ). be 0 (take k (drop p m)) < 2 ^ x) (sym size.wide) (be_small m p k h room))

  -- the next k bytes are the end unit of an empty text
  pub end_out : (next : ℕ) → FieldsAt (text c []) m p next → (p + k ≤ length m) × (be 0 (take k (drop p m)) ≡ 0)
  end_out next x = let (room, n, y) = head_out last [] m p k wide size.some_byte h next x in (room, sym (cut_is room) ∙ n.0)

  -- and the first unit of any other
  pub unit_out : (u : ℕ) (us : Text) (next : ℕ) → FieldsAt (text c (u ∷ us)) m p next
      → (p + k ≤ length m) × (be 0 (take k (drop p m)) ≡ u) × FieldsAt (text c us) m (p + k) next
  unit_out u us next x =
      let (room, n, y) = head_out (unit_of u) (text c us) m p k wide size.some_byte h next x in
      (room, sym (cut_is room) ∙ n.0.0, y)

  module _ (at units : ℕ) (w : TextPassed c m at p units) where
    -- where no unit is left no text stands
    pub no_unit : (p + k ≤ length m → ⊥) → (us : List ℕ) (next : ℕ) → FieldsAt (text c us) m at next → ⊥
    no_unit never us next x = let (rest, e, y) = w.walked.on us next tt x in by rest y
      where
        by : (rest : List ℕ) → FieldsAt (text c rest) m p next → ⊥
        by [] y = never (end_out next y).0
        by (u ∷ rest) y = never (unit_out u rest next y).0

    -- a text of at most as many units as have been passed, less one, does not stand here
    pub too_many : (limit : ℕ) → limit < units → TextAt c m at limit None
    too_many limit l us next k x =
        let (rest, e, y) = w.walked.on us next tt x in
        omega (arith, w.counted, ap length e, length-append w.done rest)

    module _ (room : p + k ≤ length m) {u : ℕ} (unit : u ≡ be 0 (take k (drop p m))) where
      -- a unit that is not the end
      pub unit_passed : u ≢ 0 → TextPassed c m at (p + k) (units + 1)
      unit_passed n = record {
        done = w.done ++ (u ∷ []);
        counted = omega (arith, w.counted, length-append w.done (u ∷ []));
        place = omega (arith, w.place);
        walked = extend (text c) Any m at p (p + k) w.done (u ∷ []) w.walked
            (λ rest next x. head_in (unit_of u) (text c rest) m p k wide size.some_byte h next room ((cut_is room ∙ sym unit, n), tt) x)
            (λ us next a x. on us next x);
      }
        where
          on : (us : List ℕ) (next : ℕ) → FieldsAt (text c us) m p next → (rest : List ℕ) × (us ≡ u ∷ rest) × FieldsAt (text c rest) m (p + k) next
          on [] next x = absurd (n (unit ∙ (end_out next x).1))
          on (v ∷ us) next x = let (r, e, y) = unit_out v us next x in (us, ap (λ (z : ℕ). z ∷ us) (sym e ∙ sym unit), y)

      -- the end unit
      pub text_ended : (limit : ℕ) → u ≡ 0 → units ≤ limit → TextAt c m at limit (Some (record { start = at; units = units; coding = c }, p + k))
      text_ended limit z l = (
        w.done,
        refl,
        refl,
        omega (arith, w.counted),
        record {
          units = w.counted;
          stands = subst (λ (us : List ℕ). FieldsAt (text c us) m at (p + k)) (append-nil w.done)
              (w.walked.back [] (p + k) (head_in last [] m p k wide size.some_byte h (p + k) room (cut_is room ∙ sym unit ∙ z, tt) (nothing m (p + k))));
        },
      )

-- ---- what a text that was read means

-- it stands where it was read, under the coding that was asked for
pub text_read : (c : Coding) (m : List ℕ) (at limit : ℕ) {r : Option (TextPlace × ℕ)} (p : TextPlace) (next : ℕ) → TextAt c m at limit r → r ≡ Some (p, next)
    → (us : Text) × (length us ≤ limit) × TextIs m p us next × FieldsAt (text c us) m at next
text_read c m at limit p next t e =
    let (us, s, d, l, is) = subst (TextAt c m at limit) e t in
    (us, l, is, subst₂ (λ (x : Coding) (z : ℕ). FieldsAt (text x us) m z next) d s is.stands)
