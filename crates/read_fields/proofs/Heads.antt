-- Fields of fixed width at a place of a message: one number, big-endian, of which each field is a cut. Assumes nothing.
use Rattle.lists.proofs.Kit.{ℕ, suc, ◌+◌, ◌*◌, ◌/◌, ◌%◌, ◌^◌, ◌≤◌, ◌<◌, ◌≡◌, refl, sym, ap, ap₂, ◌∙◌, subst, subst⁻¹, List, [], ◌∷◌, ◌++◌, append_assoc, append-nil, mod-eq_of_lt, add-zero, zero-add, lt_of_lt_of_le, add-one, arith, length, get_or, drop, take, length-append, length-drop, take-append-drop, length-take-le, take_at, take-suc, get_or-drop, high, low, pow-add, pow_mono}
use lib.Arith.{digits_lt}
use Rattle.lists.specs.Bytes.{Bytes}
use Rattle.writing.specs.Fields.{bits, bits_of, Field, width, MayHave, Shows, widths}
use Rattle.writing.proofs.Bits.{bits_split, bits_cong, peel, put}
use Rattle.read_fields.specs.Places.{FieldsAt, be}
use Rattle.read_fields.proofs.Parts.{bytes_left, bytes_at, part_join, part_split}

-- each field holds its cut of N
abbrev pub Cut : List Field → ℕ → Type 0
Cut [] N = Unit {0}
Cut (f ∷ fs) N = MayHave f (N / 2 ^ widths fs % 2 ^ width f) × Cut fs N

-- fields that are written as one number are its cuts, and the other way round
pub cut_out : (fs : List Field) (N : ℕ) → Shows fs (bits (widths fs) N ++ []) → Cut fs N
cut_out [] N s = tt
cut_out (f ∷ fs) N s = let (p, r) = peel f fs (widths fs) N [] s in (p, cut_out fs N r)

pub cut_in : (fs : List Field) (N : ℕ) → Cut fs N → Shows fs (bits (widths fs) N ++ [])
cut_in [] N c = refl
cut_in (f ∷ fs) N c = put f fs (widths fs) N [] c.0 (cut_in fs N c.1)

one_more : (w n b : ℕ) → b < 256 → bits (w + 8) (n * 256 + b) ≡ bits w n ++ bits 8 b
one_more w n b h =
    bits_split w 8 (n * 256 + b) ∙ ap₂ (λ x y. x ++ y) (ap (bits w) (high n 8 h)) (bits_cong 8 (n * 256 + b) b (low n 8 h ∙ sym (mod-eq_of_lt h)))

be_bits : (l : List ℕ) (w n : ℕ) → Bytes l → bits (w + 8 * length l) (be n l) ≡ bits w n ++ bits_of l
be_bits [] w n h = ap (λ i. bits i n) (add-zero w) ∙ sym (append-nil (bits w n))
be_bits (b ∷ l) w n h =
    let e : w + 8 * suc (length l) ≡ w + 8 + 8 * length l = omega arith in
    ap (λ i. bits i (be (n * 256 + b) l)) e ∙ be_bits l (w + 8) (n * 256 + b) (λ i. h (suc i))
    ∙ ap (λ x. x ++ bits_of l) (one_more w n b (h 0)) ∙ append_assoc (bits w n) (bits 8 b) (bits_of l)

be_whole : (l : List ℕ) (k : ℕ) → Bytes l → k ≡ 8 * length l → bits k (be 0 l) ≡ bits_of l
be_whole l k h e = ap (λ i. bits i (be 0 l)) (e ∙ sym (zero-add (8 * length l))) ∙ be_bits l 0 0 h

module _ (fs gs : List Field) (m : List ℕ) (from k : ℕ) (w : widths fs ≡ 8 * k) (pos : 0 < k) (h : Bytes m) where
  pub head_out : (next : ℕ) → FieldsAt (fs ++ gs) m from next
      → (from + k ≤ length m) × Cut fs (be 0 (take k (drop from m))) × FieldsAt gs m (from + k) next
  head_out next p =
      let (q, r) = part_split fs gs m from k next w p in
      let x : List ℕ = q.bytes in
      let lx : length x ≡ k = omega (arith, q.ends) in
      let hx : Bytes x = bytes_left x q.rest (bytes_at m from h (x ++ q.rest) q.split) in
      let e : take k (drop from m) ≡ x = ap (take k) q.split ∙ take_at x q.rest k lx in
      let z : bits_of x ≡ bits (widths fs) (be 0 x) ++ []
      = sym (be_whole x (widths fs) hx (w ∙ ap (λ i. 8 * i) (sym lx))) ∙ sym (append-nil (bits (widths fs) (be 0 x))) in (
        omega (arith, sym (length-drop from m) ∙ ap length q.split, length-append x q.rest),
        subst⁻¹ (λ (l : List ℕ). Cut fs (be 0 l)) e (cut_out fs (be 0 x) (subst (Shows fs) z q.written)),
        r,
      )

  pub head_in : (next : ℕ) → from + k ≤ length m → Cut fs (be 0 (take k (drop from m))) → FieldsAt gs m (from + k) next → FieldsAt (fs ++ gs) m from next
  head_in next b c q =
      let l : List ℕ = drop from m in
      let x : List ℕ = take k l in
      let lx : length x ≡ k = length-take-le k l (omega (arith, length-drop from m)) in
      let hx : Bytes x = bytes_left x (drop k l) (bytes_at m from h (x ++ drop k l) (sym (take-append-drop k l))) in
      let z : bits_of x ≡ bits (widths fs) (be 0 x) ++ []
      = sym (be_whole x (widths fs) hx (w ∙ ap (λ i. 8 * i) (sym lx))) ∙ sym (append-nil (bits (widths fs) (be 0 x))) in
      part_join fs gs m from (from + k) next
      (record {
        bytes = x;
        rest = drop k l;
        split = sym (take-append-drop k l);
        ends = ap (λ i. from + i) (sym lx);
        written = subst⁻¹ (Shows fs) z (cut_in fs (be 0 x) c);
      }) q

-- ---- one turn of the loop that makes the number

be_snoc : (l : List ℕ) (n b : ℕ) → be n (l ++ (b ∷ [])) ≡ be n l * 256 + b
be_snoc [] n b = refl
be_snoc (x ∷ l) n b = be_snoc l (n * 256 + x) b

pub be_turn : (m : List ℕ) (from i : ℕ) → from + i < length m
    → be 0 (take i (drop from m)) * 256 + get_or m (from + i) 0 ≡ be 0 (take (i + 1) (drop from m))
be_turn m from i h =
    let z : i < length (drop from m) = omega (arith, length-drop from m) in
    sym (ap (λ j. be 0 (take j (drop from m))) (add-one i) ∙ ap (be 0) (take-suc (drop from m) i 0 z)
    ∙ be_snoc (take i (drop from m)) 0 (get_or (drop from m) i 0) ∙ ap (λ b. be 0 (take i (drop from m)) * 256 + b) (get_or-drop from m i 0))

-- it stays below 2 ^ (8 * i)
pub be_room : (n i b : ℕ) → n < 2 ^ (8 * i) → b < 256 → n * 256 + b < 2 ^ (8 * (i + 1))
be_room n i b h k =
    let e : 8 * (i + 1) ≡ 8 * i + 8 = omega arith in
    subst⁻¹ (λ (j : ℕ). n * 256 + b < 2 ^ j) e (subst⁻¹ (λ (j : ℕ). n * 256 + b < j) (pow-add 2 (8 * i) 8) (digits_lt h k))

pub be_64 : {n i : ℕ} → n < 2 ^ (8 * i) → i ≤ 8 → n < 18446744073709551616
be_64 {n} {i} h k = lt_of_lt_of_le h (pow_mono (let z : 8 * i ≤ 64 = omega arith in z))

be_small_from : (l : List ℕ) (n w : ℕ) → n < 2 ^ w → Bytes l → be n l < 2 ^ (w + 8 * length l)
be_small_from [] n w k h = subst⁻¹ (λ (j : ℕ). n < 2 ^ j) (let e : w + 8 * 0 ≡ w = omega arith in e) k
be_small_from (b ∷ l) n w k h =
    subst (λ (j : ℕ). be (n * 256 + b) l < 2 ^ j) (let e : w + 8 + 8 * length l ≡ w + 8 * suc (length l) = omega arith in e)
    (be_small_from l (n * 256 + b) (w + 8) (subst⁻¹ (λ (j : ℕ). n * 256 + b < j) (pow-add 2 w 8) (digits_lt k (h 0))) (λ i. h (suc i)))

-- k bytes of a message make a number below 2 ^ (8 * k)
pub be_small : (m : List ℕ) (from k : ℕ) → Bytes m → from + k ≤ length m → be 0 (take k (drop from m)) < 2 ^ (8 * k)
be_small m from k h r =
    let l : List ℕ = drop from m in
    let lx : length (take k l) ≡ k = length-take-le k l (omega (arith, length-drop from m)) in
    let hx : Bytes (take k l) = bytes_left (take k l) (drop k l) (bytes_at m from h (take k l ++ drop k l) (sym (take-append-drop k l))) in
    subst (λ (j : ℕ). be 0 (take k l) < 2 ^ j) (let e : 0 + 8 * length (take k l) ≡ 8 * k = omega arith in e) (be_small_from (take k l) 0 0 (omega arith) hx)

-- three bytes are the first before the other two
pub three_bytes : (m : List ℕ) (p : ℕ) → p + 3 ≤ length m → be 0 (take 3 (drop p m)) ≡ get_or m p 0 * 65536 + be 0 (take 2 (drop (p + 1) m))
three_bytes m p r =
    let a = be_turn m p 0 (omega arith) in
    let b = be_turn m p 1 (omega arith) in
    let c = be_turn m p 2 (omega arith) in
    let d = be_turn m (p + 1) 0 (omega arith) in
    let e = be_turn m (p + 1) 1 (omega arith) in
    let w : get_or m (p + 0) 0 ≡ get_or m p 0 = ap (λ i. get_or m i 0) (omega arith) in
    let x : get_or m (p + 1 + 0) 0 ≡ get_or m (p + 1) 0 = ap (λ i. get_or m i 0) (omega arith) in
    let y : get_or m (p + 1 + 1) 0 ≡ get_or m (p + 2) 0 = ap (λ i. get_or m i 0) (omega arith) in
    omega arith
