-- Bytes written as numbers of two bytes, the high one 0: what a loop over them has done so far. Assumes nothing.
use Rattle.lists.proofs.Kit.{◌≡◌, refl, sym, ap, ap₂, ◌∙◌, List, [], ◌∷◌, map, ℕ, zero, suc, ◌+◌, ◌*◌, ◌≤◌, ◌<◌, ◌/◌, ◌%◌, not-suc-le-zero, add-one, arith, length, set, take, get_or, replicate, length-replicate}
use Rattle.lists.specs.Bytes.{Bytes}
use Rattle.slots.specs.Slots.{flat, pad, u16}
use Rattle.slots.proofs.Pads.{pad_nil}

-- n bytes of these as numbers of two bytes, and zeros
abbrev pub widened : ℕ → List ℕ → List ℕ
widened n src = pad 0 n (flat (map u16 src))

-- n bytes are wiped, and none has been written yet
pub wiped_length : (n : ℕ) (t : List ℕ) → t ≡ replicate n 0 → length t ≡ n
wiped_length n t e = ap length e ∙ length-replicate n 0

pub widen_none : (n : ℕ) (t : List ℕ) → t ≡ replicate n 0 → t ≡ widened (length t) []
widen_none n t e = e ∙ ap (λ (k : ℕ). replicate k 0) (sym (wiped_length n t e)) ∙ sym (pad_nil 0 (length t))

-- one byte more is written, counted from 1
widen_suc : (n i : ℕ) (src : List ℕ) → Bytes src → i < length src → 2 * i + 1 < n → set (widened n (take i src)) (2 * i + 1) (get_or src i 0) ≡ widened n (take (suc i) src)
widen_suc n i [] h k l = absurd (not-suc-le-zero k)
widen_suc zero i (b ∷ src) h k l = absurd (not-suc-le-zero l)
widen_suc (suc zero) i (b ∷ src) h k l = absurd (omega arith)
widen_suc (suc (suc n)) zero (b ∷ src) h k l =
    let low : b < 256 = h 0 in
    let p : 0 ≡ b / 256 = omega arith in
    let q : b ≡ b % 256 = omega arith in
    ap₂ (λ (x y : ℕ). x ∷ y ∷ pad 0 n []) p q
widen_suc (suc (suc n)) (suc i) (b ∷ src) h k l =
    let e : 2 * suc i + 1 ≡ suc (suc (2 * i + 1)) = omega arith in
    ap (λ (j : ℕ). set (widened (suc (suc n)) (b ∷ take i src)) j (get_or src i 0)) e
    ∙ ap (λ (t : List ℕ). b / 256 ∷ b % 256 ∷ t) (widen_suc n i src (λ j. h (suc j)) (omega arith) (omega arith))

-- one byte more is written
pub widen_more : (n i : ℕ) (src : List ℕ) → Bytes src → i < length src → 2 * i + 1 < n → set (widened n (take i src)) (2 * i + 1) (get_or src i 0) ≡ widened n (take (i + 1) src)
widen_more n i src h k l = rw (add-one i) (widen_suc n i src h k l)

-- all that has room is written
pub widen_done : (n i : ℕ) (src : List ℕ) → Bytes src → (2 * i + 1 < n → length src ≤ i) → widened n (take i src) ≡ widened n src
widen_done n zero [] h k = refl
widen_done n (suc i) [] h k = refl
widen_done zero zero (b ∷ src) h k = refl
widen_done (suc zero) zero (b ∷ src) h k = let low : b < 256 = h 0 in let p : 0 ≡ b / 256 = omega arith in ap (λ (x : ℕ). x ∷ []) p
widen_done (suc (suc n)) zero (b ∷ src) h k = absurd (not-suc-le-zero (k (omega arith)))
widen_done zero (suc i) (b ∷ src) h k = refl
widen_done (suc zero) (suc i) (b ∷ src) h k = refl
widen_done (suc (suc n)) (suc i) (b ∷ src) h k =
    ap (λ (t : List ℕ). b / 256 ∷ b % 256 ∷ t) (widen_done n i src (λ j. h (suc j)) (λ l. let r : length (b ∷ src) ≤ suc i = k (omega arith) in omega arith))
