-- Reading a line number byte by byte, two digits each. Assumes nothing.
use Rattle.std.specs.Prelude.{Option, Some, None}
use Rattle.read_fields.specs.declared.numbers.NumberPlace.{NumberPlace}
use Rattle.lists.proofs.Kit.{ℕ, ◌+◌, ◌/◌, ◌%◌, ◌≤◌, ◌<◌, ◌≡◌, refl, sym, ap, ap₂, ◌∙◌, subst, subst⁻¹, List, [], ◌∷◌, ◌++◌, arith, length, drop, take, length-append}
use Rattle.lists.specs.Bytes.{Bytes}
use Rattle.lists.specs.Every.{All}
use Rattle.lists.proofs.Every.{all_append, all_right}
use Rattle.writing.specs.Fields.{val, item}
use Rattle.writing.specs.Writing.{number}
use Rattle.writing.proofs.Unique.{number_ends}
use Rattle.read_fields.specs.Places.{FieldsAt, be}
use Rattle.read_fields.specs.TextsAndNumbers.{NumberAt, DigitsAre, EndedAt}
use Rattle.read_fields.specs.declared.numbers.Digits.TheVariants.{Bad}
use Rattle.read_fields.proofs.Heads.{Cut, head_in, head_out, be_small}
use Rattle.read_fields.proofs.Parts.{nothing}
use Rattle.read_fields.proofs.Walk.{Walked, not_yet, extend, one_part}

abbrev Any : List ℕ → Type 0
Any ds = Unit {0}

-- so many digits have been passed, two in each byte up to p
pub record NumberPassed (m : List ℕ) (at p count : ℕ) : Type 0 where
  pub done : List ℕ
  pub counted : length done ≡ count
  pub in_range : All (◌≤ 9) done
  pub walked : Walked number Any m at p done

pub no_digit_yet : (m : List ℕ) (at : ℕ) → NumberPassed m at at 0
no_digit_yet m at = record { done = []; counted = refl; in_range = tt; walked = not_yet number Any m at }

-- a number that has ended is answered where it is in range, and no other stands there
pub ended : (m : List ℕ) (at next count : ℕ) (r : Option (NumberPlace × ℕ)) (ds : List ℕ) → length ds ≡ count → All (◌≤ 9) ds → FieldsAt (number ds) m at next
    → EndedAt at count next r → NumberAt m at r
ended m at next count (Some (p, after)) ds l i x (a, b, s, d, e) = (
  ds,
  s,
  (omega arith, omega arith, i),
  record { digits = l ∙ sym d; stands = subst (λ (k : ℕ). FieldsAt (number ds) m k after) (sym s) (subst (λ (k : ℕ). FieldsAt (number ds) m at k) (sym e) x) },
)
ended m at next count None ds l i x never = λ es after j y.
    let e : length ds ≡ length es = ap length (one_part number number_ends ds es m at next after x y).0 in
    let (a, b, _) = j in
    never (omega arith) (omega arith)

module _ (m : List ℕ) (at p count : ℕ) (h : Bytes m) (w : NumberPassed m at p count) where
  -- what the next byte says where these digits are left of a number
  abbrev Byte : List ℕ → ℕ → ℕ → Type 0
  Byte [] N next = N ≡ 255
  Byte (a ∷ []) N next = (a ≡ N / 16) × (N % 16 ≡ 15)
  Byte (a ∷ b ∷ rest) N next = (a ≡ N / 16) × (b ≡ N % 16) × FieldsAt (number rest) m (p + 1) next

  byte_out : (rest : List ℕ) (next : ℕ) → FieldsAt (number rest) m p next → (p + 1 ≤ length m) × Byte rest (be 0 (take 1 (drop p m))) next
  byte_out [] next y =
      let (r, k, z) = head_out (val 4 15 ∷ val 4 15 ∷ []) [] m p 1 refl (omega arith) h next y in
      (r, omega (arith, be_small m p 1 h r, k.0, k.1.0))
  byte_out (a ∷ []) next y =
      let (r, k, z) = head_out (item 4 15 a ∷ val 4 15 ∷ []) [] m p 1 refl (omega arith) h next y in
      (r, (omega (arith, be_small m p 1 h r, k.0.0), omega (arith, be_small m p 1 h r, k.1.0)))
  byte_out (a ∷ b ∷ rest) next y =
      let (r, k, z) = head_out (item 4 15 a ∷ item 4 15 b ∷ []) (number rest) m p 1 refl (omega arith) h next y in
      (r, (omega (arith, be_small m p 1 h r, k.0.0), omega (arith, be_small m p 1 h r, k.1.0.0), z))

  -- where no byte is left no number stands
  pub no_digit : (p + 1 ≤ length m → ⊥) → NumberAt m at None
  no_digit never ds next i x = let (rest, e, y) = w.walked.on ds next tt x in never (byte_out rest next y).0

  -- more than 18 digits are out of range
  pub too_many_digits : 18 < count → NumberAt m at None
  too_many_digits l ds next (a, b, i) x =
      let (rest, e, y) = w.walked.on ds next tt x in
      omega (arith, w.counted, ap length e, length-append w.done rest)

  module _ (room : p + 1 ≤ length m) {N : ℕ} (byte : N ≡ be 0 (take 1 (drop p m))) where
    small : N < 256
    small = rw byte (be_small m p 1 h room)

    cases : (rest : List ℕ) (next : ℕ) → FieldsAt (number rest) m p next → Byte rest N next
    cases rest next y = subst⁻¹ (λ (n : ℕ). Byte rest n next) byte (byte_out rest next y).1

    -- two digits
    pub digits_passed : N / 16 ≤ 9 → N % 16 ≤ 9 → NumberPassed m at (p + 1) (count + 2)
    digits_passed hi lo = record {
      done = w.done ++ (N / 16 ∷ N % 16 ∷ []);
      counted = omega (arith, w.counted, length-append w.done (N / 16 ∷ N % 16 ∷ []));
      in_range = all_append (◌≤ 9) w.done (N / 16 ∷ N % 16 ∷ []) w.in_range (hi, (lo, tt));
      walked = extend number Any m at p (p + 1) w.done (N / 16 ∷ N % 16 ∷ []) w.walked
          (λ rest next x. head_in (item 4 15 (N / 16) ∷ item 4 15 (N % 16) ∷ []) (number rest) m p 1 refl (omega arith) h next room
          (subst (Cut (item 4 15 (N / 16) ∷ item 4 15 (N % 16) ∷ [])) byte ((omega (arith, small), omega arith), ((omega arith, omega arith), tt))) x)
          (λ ds next a x. on ds next x);
    }
      where
        on : (ds : List ℕ) (next : ℕ) → FieldsAt (number ds) m p next → (rest : List ℕ) × (ds ≡ N / 16 ∷ N % 16 ∷ rest) × FieldsAt (number rest) m (p + 1) next
        on [] next x = absurd (omega (arith, cases [] next x))
        on (a ∷ []) next x = absurd (omega (arith, (cases (a ∷ []) next x).1))
        on (a ∷ b ∷ ds) next x = let (e, d, y) = cases (a ∷ b ∷ ds) next x in (ds, ap₂ (λ (u v : ℕ). u ∷ v ∷ ds) e d, y)

    -- a last digit and the end mark
    pub one_digit_ends : (r : Option (NumberPlace × ℕ)) → N / 16 ≤ 9 → N % 16 ≡ 15 → EndedAt at (count + 1) (p + 1) r → NumberAt m at r
    one_digit_ends r hi lo e =
        ended m at (p + 1) (count + 1) r (w.done ++ (N / 16 ∷ [])) (omega (arith, w.counted, length-append w.done (N / 16 ∷ [])))
        (all_append (◌≤ 9) w.done (N / 16 ∷ []) w.in_range (hi, tt))
        (w.walked.back (N / 16 ∷ []) (p + 1) (head_in (item 4 15 (N / 16) ∷ val 4 15 ∷ []) [] m p 1 refl (omega arith) h (p + 1) room
        (subst (Cut (item 4 15 (N / 16) ∷ val 4 15 ∷ [])) byte ((omega (arith, small), omega arith), (omega arith, tt))) (nothing m (p + 1)))) e

    -- the end mark twice
    pub no_digit_ends : (r : Option (NumberPlace × ℕ)) → N ≡ 255 → EndedAt at count (p + 1) r → NumberAt m at r
    no_digit_ends r z e =
        ended m at (p + 1) count r (w.done ++ []) (omega (arith, w.counted, length-append w.done []))
        (all_append (◌≤ 9) w.done [] w.in_range tt)
        (w.walked.back [] (p + 1) (head_in (val 4 15 ∷ val 4 15 ∷ []) [] m p 1 refl (omega arith) h (p + 1) room
        (subst (Cut (val 4 15 ∷ val 4 15 ∷ [])) byte (omega arith, (omega arith, tt))) (nothing m (p + 1)))) e

    -- a byte that is none of these
    pub bad_digits : DigitsAre N Bad → NumberAt m at None
    bad_digits bad ds next (_, _, i) x = let (rest, e, y) = w.walked.on ds next tt x in by rest (all_right (◌≤ 9) w.done rest (subst (All (◌≤ 9)) e i)) y
      where
        by : (rest : List ℕ) → All (◌≤ 9) rest → FieldsAt (number rest) m p next → ⊥
        by [] j y = bad.0 (cases [] next y)
        by (a ∷ []) j y = let (e, f) = cases (a ∷ []) next y in (bad.1 (omega (arith, e, j.0))).1 f
        by (a ∷ b ∷ rest) j y = let (e, f, z) = cases (a ∷ b ∷ rest) next y in (bad.1 (omega (arith, e, j.0))).0 (omega (arith, f, j.1.0))
