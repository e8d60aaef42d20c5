-- Walking along a list that is written in a message, piece after piece. Assumes nothing.
use Rattle.std.specs.Prelude.{Some, None}
use Rattle.lists.proofs.Kit.{ℕ, ◌+◌, ◌-◌, ◌*◌, ◌≤◌, ◌<◌, ◌≡◌, refl, sym, ap, ◌∙◌, subst, subst⁻¹, List, [], ◌∷◌, ◌++◌, append_assoc, append-nil, arith, length, length-append}
use Rattle.lists.specs.Every.{All}
use Rattle.lists.proofs.Every.{all_append, all_right}
use Rattle.writing.specs.Fields.{bits_of, Field, Shows, widths, each}
use Rattle.writing.proofs.Bits.{bits_of_append, length_bits_of}
use Rattle.writing.proofs.Ends.{Agree, Ends, all_read}
use Rattle.read_fields.specs.Places.{FieldsAt}
use Rattle.read_fields.specs.Entries.{WalkAt}
use Rattle.read_fields.proofs.Parts.{part_join, part_split, nothing}

module _ (fs gs : List Field) (m : List ℕ) (from p q : ℕ) (x : FieldsAt fs m from p) (y : FieldsAt gs m from q) where
  -- fields that stand at one place start the same bits
  pub agree_at : Agree (fs ++ []) (gs ++ []) (bits_of x.rest) (bits_of y.rest)
  agree_at = record {
    one = bits_of x.bytes;
    two = bits_of y.bytes;
    left = subst⁻¹ (λ (l : List Field). Shows l (bits_of x.bytes)) (append-nil fs) x.written;
    right = subst⁻¹ (λ (l : List Field). Shows l (bits_of y.bytes)) (append-nil gs) y.written;
    same = sym (bits_of_append x.bytes x.rest) ∙ ap bits_of (sym x.split ∙ y.split) ∙ bits_of_append y.bytes y.rest;
  }

  -- they end at one place where the same bits are left
  pub ends_at : bits_of x.rest ≡ bits_of y.rest → p ≡ q
  ends_at e =
      let n : length (bits_of x.rest) ≡ length (bits_of y.rest) = ap length e in
      let l : length (x.bytes ++ x.rest) ≡ length (y.bytes ++ y.rest) = ap length (sym x.split ∙ y.split) in
      omega (arith, x.ends, y.ends, length_bits_of x.rest, length_bits_of y.rest, length-append x.bytes x.rest, length-append y.bytes y.rest)

-- what says where it ends stands at one place in one way
pub one_part : {A : Type 0} (f : A → List Field) → Ends f → (a b : A) (m : List ℕ) (from p q : ℕ) → FieldsAt (f a) m from p → FieldsAt (f b) m from q → (a ≡ b) × (p ≡ q)
one_part f k a b m from p q x y =
    let (e, z) = k.ends a b (agree_at (f a) (f b) m from p q x y) in
    (e, ends_at (f a) (f b) m from p q x y (all_read z))

-- `done` stands from `at` up to p: what stands from p on makes a whole with it, and every whole of the right length starts with it
pub record Walked {A : Type 0} (L : List A → List Field) (Long : List A → Type 0) (m : List ℕ) (at p : ℕ) (done : List A) : Type 0 where
  pub back : (rest : List A) (next : ℕ) → FieldsAt (L rest) m p next → FieldsAt (L (done ++ rest)) m at next
  pub on : (xs : List A) (next : ℕ) → Long xs → FieldsAt (L xs) m at next → (rest : List A) × (xs ≡ done ++ rest) × FieldsAt (L rest) m p next

-- nothing has been passed yet
pub not_yet : {A : Type 0} (L : List A → List Field) (Long : List A → Type 0) (m : List ℕ) (at : ℕ) → Walked L Long m at at []
not_yet L Long m at = record { back = λ rest next p. p; on = λ xs next l p. (xs, refl, p) }

-- one piece more
pub extend : {A : Type 0} (L : List A → List Field) (Long : List A → Type 0) (m : List ℕ) (at p q : ℕ) (done piece : List A) → Walked L Long m at p done
    → ((rest : List A) (next : ℕ) → FieldsAt (L rest) m q next → FieldsAt (L (piece ++ rest)) m p next)
    → ((xs : List A) (next : ℕ) → Long (done ++ xs) → FieldsAt (L xs) m p next → (rest : List A) × (xs ≡ piece ++ rest) × FieldsAt (L rest) m q next)
    → Walked L Long m at q (done ++ piece)
extend {A} L Long m at p q done piece w back on = record {
  back = λ rest next x. subst⁻¹ (λ (l : List A). FieldsAt (L l) m at next) (append_assoc done piece rest) (w.back (piece ++ rest) next (back rest next x));
  on = λ xs next l x.
      let (rest, e, y) = w.on xs next l x in
      let (rest', e', z) = on rest next (subst Long e l) y in
      (rest', e ∙ ap (λ (r : List A). done ++ r) e' ∙ sym (append_assoc done piece rest'), z);
}

-- ---- entries: as many as were counted, each of which says where it ends and is whole bytes

module _ {A : Type 0} (f : A → List Field) (In : A → Type 0) (ends : Ends f) (whole : (a : A) → (n : ℕ) × (widths (f a) ≡ 8 * n)) (m : List ℕ) (at count : ℕ) where
  abbrev pub Counted : List A → Type 0
  Counted xs = length xs ≡ count

  -- where a walk over the entries stands: these have been passed, all in range, and so many are left
  pub record Passed (p left : ℕ) : Type 0 where
    pub done : List A
    pub counted : length done + left ≡ count
    pub in_range : All In done
    pub walked : Walked (each f) Counted m at p done

  pub none_passed : Passed at count
  none_passed = record { done = []; counted = omega arith; in_range = tt; walked = not_yet (each f) Counted m at }

  -- an entry that stands next is passed
  pub walk_on : (p q left : ℕ) (a : A) → 0 < left → Passed p left → In a → FieldsAt (f a) m p q → Passed q (left - 1)
  walk_on p q left a l w i x = record {
    done = w.done ++ (a ∷ []);
    counted = omega (arith, w.counted, length-append w.done (a ∷ []));
    in_range = all_append In w.done (a ∷ []) w.in_range (i, tt);
    walked = extend (each f) Counted m at p q w.done (a ∷ []) w.walked (λ rest next y. part_join (f a) (each f rest) m p q next x y) on;
  }
    where
      on : (xs : List A) (next : ℕ) → Counted (w.done ++ xs) → FieldsAt (each f xs) m p next → (rest : List A) × (xs ≡ a ∷ rest) × FieldsAt (each f rest) m q next
      on [] next k y = absurd (omega (arith, w.counted, k, length-append w.done []))
      on (b ∷ rest) next k y =
          let (n, e) = whole b in
          let (first, more) = part_split (f b) (each f rest) m p n next e y in
          let (same, z) = one_part f ends a b m p q (p + n) x first in
          (rest, ap (λ (c : A). c ∷ rest) (sym same), subst (λ (k : ℕ). FieldsAt (each f rest) m k next) (sym z) more)

  -- where none that is in range stands next, no whole list does
  pub walk_stops : (p left : ℕ) → 0 < left → Passed p left → ((a : A) (q : ℕ) → In a → FieldsAt (f a) m p q → ⊥) → WalkAt (each f) In m at count None
  walk_stops p left l w never xs next s = let (rest, e, y) = w.walked.on xs next s.counted s.stands in by rest e y
    where
      by : (rest : List A) → xs ≡ w.done ++ rest → FieldsAt (each f rest) m p next → ⊥
      by [] e y = absurd (omega (arith, w.counted, s.counted, ap length e, length-append w.done []))
      by (b ∷ rest) e y =
          let (n, k) = whole b in
          let (first, more) = part_split (f b) (each f rest) m p n next k y in
          never b (p + n) (all_right In w.done (b ∷ rest) (subst (All In) e s.in_range)).0 first

  -- all have been passed
  pub walk_ends : (p left : ℕ) → left ≤ 0 → Passed p left → WalkAt (each f) In m at count (Some p)
  walk_ends p left l w = (
    w.done,
    record {
      counted = omega (arith, w.counted);
      in_range = w.in_range;
      stands = subst (λ (l : List A). FieldsAt (each f l) m at p) (append-nil w.done) (w.walked.back [] p (nothing m p));
    },
  )
