-- Numbers as two and three bytes: the bytes tell the number, and every bytes are a number's. Assumes nothing.
use Rattle.lists.proofs.Kit.{◌≡◌, refl, sym, ap, ap₂, ◌∙◌, ◌≢◌, Bool, true, false, ◌&&◌, true≢false, List, [], ◌∷◌, head-eq_of_cons-eq, tail-eq_of_cons-eq, ℕ, zero, suc, ◌+◌, ◌*◌, ◌<◌, ◌/◌, ◌%◌, arith, eqb-true, eqb-false, eqb}
use Rattle.lists.proofs.Bools.{is_false, and_parts}
use Rattle.lists.specs.Bytes.{Bytes}
use Rattle.slots.specs.Slots.{u16, u24, zeros?, same?}
use Rattle.slots.proofs.Codes.{Code}
use Rattle.slots.proofs.Runs.{same_refl, same_are}

-- ---- two bytes

-- the bytes tell the number
pub u16_one : (a b : ℕ) → u16 a ≡ u16 b → a ≡ b
u16_one a b e =
    let p : a / 256 ≡ b / 256 = head-eq_of_cons-eq e in
    let q : a % 256 ≡ b % 256 = head-eq_of_cons-eq (tail-eq_of_cons-eq e) in
    omega arith

-- so they are a code
pub u16_code : (P : ℕ → Type 0) → Code P 2 u16
u16_code P = record { long = λ a. refl; one = λ a b p q e. u16_one a b e }

-- the bytes compare as the numbers do
pub u16_same : (a b : ℕ) → same? (u16 a) (u16 b) ≡ eqb a b
u16_same a b = go (eqb a b) refl
  where
    go : (t : Bool) → eqb a b ≡ t → same? (u16 a) (u16 b) ≡ t
    go true e = ap (λ (c : ℕ). same? (u16 c) (u16 b)) (eqb-true a b e) ∙ same_refl (u16 b)
    go false e = is_false (same? (u16 a) (u16 b)) (λ h. eqb-false a b e (u16_one a b (same_are (u16 a) (u16 b) h)))

-- a number that is not 0 is not zeros
pub u16_shown : (a : ℕ) → a ≢ 0 → zeros? (u16 a) ≡ false
u16_shown a h =
    is_false (zeros? (u16 a)) (λ z.
    let s = and_parts (eqb (a / 256) 0) (eqb (a % 256) 0 && true) z in
    let p : a / 256 ≡ 0 = eqb-true _ _ s.0 in
    let q : a % 256 ≡ 0 = eqb-true _ _ (and_parts (eqb (a % 256) 0) true s.1).0 in
    h (omega arith))

-- two bytes are the number that they make
pub u16_of : (h l : ℕ) → l < 256 → u16 (h * 256 + l) ≡ h ∷ l ∷ []
u16_of h l b =
    let p : (h * 256 + l) / 256 ≡ h = omega arith in
    let q : (h * 256 + l) % 256 ≡ l = omega arith in
    ap₂ (λ (x y : ℕ). x ∷ y ∷ []) p q

-- a number below 65536 is bytes
pub u16_bytes : (a : ℕ) → a < 65536 → Bytes (u16 a)
u16_bytes a h zero = omega arith
u16_bytes a h (suc zero) = omega arith
u16_bytes a h (suc (suc i)) = omega arith

-- ---- three bytes

-- the bytes tell the number
pub u24_one : (a b : ℕ) → u24 a ≡ u24 b → a ≡ b
u24_one a b e =
    let p : a / 65536 ≡ b / 65536 = head-eq_of_cons-eq e in
    let q : a % 65536 ≡ b % 65536 = u16_one (a % 65536) (b % 65536) (tail-eq_of_cons-eq e) in
    omega arith

-- a number that is not 0 is not zeros
pub u24_shown : (a : ℕ) → a ≢ 0 → zeros? (u24 a) ≡ false
u24_shown a h =
    is_false (zeros? (u24 a)) (λ z.
    let s = and_parts (eqb (a / 65536) 0) (zeros? (u16 (a % 65536))) z in
    let p : a / 65536 ≡ 0 = eqb-true _ _ s.0 in
    true≢false (sym s.1 ∙ u16_shown (a % 65536) (λ q. h (omega arith))))

-- three bytes are the number that they make
pub u24_of : (h m l : ℕ) → m < 256 → l < 256 → u24 (h * 65536 + (m * 256 + l)) ≡ h ∷ m ∷ l ∷ []
u24_of h m l b c =
    let p : (h * 65536 + (m * 256 + l)) / 65536 ≡ h = omega arith in
    let q : (h * 65536 + (m * 256 + l)) % 65536 ≡ m * 256 + l = omega arith in
    ap₂ (λ (x : ℕ) (y : List ℕ). x ∷ y) p (ap u16 q ∙ u16_of m l c)

-- a number below 16777216 is bytes
pub u24_bytes : (a : ℕ) → a < 16777216 → Bytes (u24 a)
u24_bytes a h zero = omega arith
u24_bytes a h (suc i) = u16_bytes (a % 65536) (omega arith) i
