-- Bits and fields: what bits say, and fields that are taken apart and put together. Assumes nothing.
use Rattle.lists.proofs.Kit.{ℕ, zero, suc, ◌+◌, ◌*◌, ◌/◌, ◌%◌, ◌^◌, ◌<◌, ◌≡◌, refl, sym, ap, ap₂, ◌∙◌, subst⁻¹, List, [], ◌∷◌, ◌++◌, map, append_assoc, head-eq_of_cons-eq, tail-eq_of_cons-eq, nil≢cons, mod-eq_of_lt, mod-lt, zero-add, suc-add, add_comm, add_assoc, zero-mul, one-add, arith, length, length-append, shr-shr, pow_pos, mod-mod-pow, mod-pow-add, field}
use Rattle.lists.specs.Every.{All}
use Rattle.lists.proofs.Seqs.{cut}
use Rattle.writing.specs.Fields.{bits, bits_of, Field, width, MayHave, Shows, widths}

-- ---- the bits of a number

-- as many bits as asked for
pub length_bits : (w v : ℕ) → length (bits w v) ≡ w
length_bits zero v = refl
length_bits (suc w) v = ap suc (length_bits w v)

-- the bits of a number say its value
mod_suc : (a w : ℕ) → a % 2 ^ suc w ≡ (a / 2 ^ w % 2) * 2 ^ w + a % 2 ^ w
mod_suc a w = rw (← one-add w) (mod-pow-add a 1 w)

pub bits_mod : (w a b : ℕ) → bits w a ≡ bits w b → a % 2 ^ w ≡ b % 2 ^ w
bits_mod zero a b e = omega arith
bits_mod (suc w) a b e =
    let h : a / 2 ^ w % 2 ≡ b / 2 ^ w % 2 = head-eq_of_cons-eq e in
    let l : a % 2 ^ w ≡ b % 2 ^ w = bits_mod w a b (tail-eq_of_cons-eq e) in
    cc (mod_suc a w, mod_suc b w)

pub bits_val : (w a b : ℕ) → a < 2 ^ w → b < 2 ^ w → bits w a ≡ bits w b → a ≡ b
bits_val w a b p q e = sym (mod-eq_of_lt p) ∙ bits_mod w a b e ∙ mod-eq_of_lt q

-- the high bits, then the low bits
pub bits_split : (w W n : ℕ) → bits (w + W) n ≡ bits w (n / 2 ^ W) ++ bits W n
bits_split zero W n = rw zero-add
bits_split (suc w) W n =
    rw suc-add (ap₂ (λ x y. x ∷ y) (ap (λ k. n / 2 ^ k % 2) (add_comm w W) ∙ ap (λ k. k % 2) (sym (shr-shr n W w))) (bits_split w W n))

-- only the w low bits count
pub bits_cong : (w a b : ℕ) → a % 2 ^ w ≡ b % 2 ^ w → bits w a ≡ bits w b
bits_cong zero a b e = refl
bits_cong (suc w) a b e =
    let d : a % 2 ^ (1 + w) ≡ b % 2 ^ (1 + w) = rw one-add e in
    ap₂ (λ x y. x ∷ y) (sym (field a 1 w) ∙ ap (λ x. x / 2 ^ w) d ∙ field b 1 w)
    (bits_cong w a b (sym (mod-mod-pow a 1 w) ∙ ap (λ x. x % 2 ^ w) d ∙ mod-mod-pow b 1 w))

-- ---- the bits of bytes

-- bytes one after the other
pub bits_of_append : (a b : List ℕ) → bits_of (a ++ b) ≡ bits_of a ++ bits_of b
bits_of_append [] b = refl
bits_of_append (x ∷ a) b = ap (λ l. bits 8 x ++ l) (bits_of_append a b)

-- eight bits a byte
pub length_bits_of : (a : List ℕ) → length (bits_of a) ≡ 8 * length a
length_bits_of [] = refl
length_bits_of (x ∷ a) = omega (arith, length_bits_of a)

-- bytes with the same bits are the same
pub bits_of_one : (a b : List ℕ) → All (◌< 256) a → All (◌< 256) b → bits_of a ≡ bits_of b → a ≡ b
bits_of_one [] [] h k e = refl
bits_of_one [] (y ∷ b) h k e = absurd (nil≢cons e)
bits_of_one (x ∷ a) [] h k e = absurd (nil≢cons (sym e))
bits_of_one (x ∷ a) (y ∷ b) h k e =
    let (p, q) = cut (bits 8 x) (bits 8 y) refl e in
    ap₂ (λ x y. x ∷ y) (bits_val 8 x y h.0 k.0 p) (bits_of_one a b h.1 k.1 q)

-- ---- fields

-- a field of w bits with W bits below it is cut from a number, and put into one
module _ (f : Field) (fs : List Field) (W N : ℕ) (t : List ℕ) where
  pub peel : Shows (f ∷ fs) (bits (width f + W) N ++ t) → MayHave f (N / 2 ^ W % 2 ^ width f) × Shows fs (bits W N ++ t)
  peel s =
      let (x, u, hx, bx, e, ss) = s in
      let (p, q) = cut (bits (width f) (N / 2 ^ W)) (bits (width f) x) (length_bits (width f) (N / 2 ^ W) ∙ sym (length_bits (width f) x))
      (sym (append_assoc (bits (width f) (N / 2 ^ W)) (bits W N) t) ∙ ap (λ l. l ++ t) (sym (bits_split (width f) W N)) ∙ e) in
      (subst⁻¹ (MayHave f) (bits_mod (width f) (N / 2 ^ W) x p ∙ mod-eq_of_lt bx) hx, subst⁻¹ (Shows fs) q ss)

  pub put : MayHave f (N / 2 ^ W % 2 ^ width f) → Shows fs (bits W N ++ t) → Shows (f ∷ fs) (bits (width f + W) N ++ t)
  put h s =
      let b : N / 2 ^ W % 2 ^ width f < 2 ^ width f = mod-lt (N / 2 ^ W) (pow_pos (width f)) in (
        N / 2 ^ W % 2 ^ width f,
        bits W N ++ t,
        h,
        b,
        ap (λ l. l ++ t) (bits_split (width f) W N) ∙ append_assoc (bits (width f) (N / 2 ^ W)) (bits W N) t
            ∙ ap (λ l. l ++ (bits W N ++ t)) (bits_cong (width f) (N / 2 ^ W) (N / 2 ^ W % 2 ^ width f) (sym (mod-eq_of_lt b))),
        s,
      )

-- as many bits as the fields are wide
pub shows_length : (fs : List Field) (bs : List ℕ) → Shows fs bs → length bs ≡ widths fs
shows_length [] bs s = ap length s
shows_length (f ∷ fs) bs s =
    let (x, u, hx, bx, e, ss) = s in
    ap length e ∙ length-append (bits (width f) x) u ∙ ap₂ (λ a b. a + b) (length_bits (width f) x) (shows_length fs u ss)

pub widths_append : (fs gs : List Field) → widths (fs ++ gs) ≡ widths fs + widths gs
widths_append [] gs = sym (zero-add (widths gs))
widths_append (f ∷ fs) gs = ap (λ n. width f + n) (widths_append fs gs) ∙ sym (add_assoc (width f) (widths fs) (widths gs))

-- fields of one width
pub widths_map : (f : ℕ → Field) (w : ℕ) → ((v : ℕ) → width (f v) ≡ w) → (l : List ℕ) → widths (map f l) ≡ length l * w
widths_map f w h [] = sym (zero-mul w)
widths_map f w h (x ∷ l) = omega (arith, h x, widths_map f w h l)

-- fields one after the other
pub shows_join : (fs gs : List Field) (a b : List ℕ) → Shows fs a → Shows gs b → Shows (fs ++ gs) (a ++ b)
shows_join [] gs a b p q = subst⁻¹ (λ (l : List ℕ). Shows gs (l ++ b)) p q
shows_join (f ∷ fs) gs a b p q =
    let (x, t, hx, bx, e, s) = p in
    (x, t ++ b, hx, bx, ap (λ l. l ++ b) e ∙ append_assoc (bits (width f) x) t b, shows_join fs gs t b s q)

pub shows_split : (fs gs : List Field) (l : List ℕ) → Shows (fs ++ gs) l → (a : List ℕ) × (b : List ℕ) × (l ≡ a ++ b) × Shows fs a × Shows gs b
shows_split [] gs l s = ([], l, refl, refl, s)
shows_split (f ∷ fs) gs l s =
    let (x, t, hx, bx, e, r) = s in
    let (a, b, d, p, q) = shows_split fs gs t r in
    (bits (width f) x ++ a, b, e ∙ ap (λ u. bits (width f) x ++ u) d ∙ sym (append_assoc (bits (width f) x) a b), (x, a, hx, bx, refl, p), q)
