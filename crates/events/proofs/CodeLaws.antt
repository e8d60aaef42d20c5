-- The code of a line's key tells keys apart whose numbers are in range, so that codes are compared for keys. Assumes nothing.
use Rattle.lists.proofs.Kit.{ℕ, ◌+◌, ◌*◌, ◌≤◌, ◌<◌, ◌≡◌, refl, sym, ap, ◌∙◌, Bool, true, false, [], ◌∷◌, arith, eqb, eqb-true, eq-eqb}
use Rattle.lists.specs.Every.{All}
use Rattle.writing.specs.Ranges.{InNumber}
use Rattle.writing.specs.Settings.{Number}
use Rattle.writing.specs.Writing.{bit}
use Rattle.tables.specs.Tables.{LineKey}
use Rattle.events.specs.Events.{Decides}
use Rattle.events.specs.Deeds.{digits_behind, number_code, line_code}

-- ---- digits behind a 1

-- digits make no number smaller
digits_grow : (n : ℕ) (ds : Number) → n ≤ digits_behind n ds
digits_grow n [] = omega arith
digits_grow n (d ∷ ds) = omega (arith, digits_grow (n * 10 + d) ds)

-- digits behind numbers of one size make one number only if both are the same
digits_one : (n m : ℕ) (ds es : Number) → n < 2 * m → m < 2 * n → All (◌≤ 9) ds → All (◌≤ 9) es → digits_behind n ds ≡ digits_behind m es → (n ≡ m) × (ds ≡ es)
digits_one n m [] [] h g p q e = (e, refl)
digits_one n m [] (y ∷ es) h g p q e = absurd (omega (arith, digits_grow (m * 10 + y) es))
digits_one n m (x ∷ ds) [] h g p q e = absurd (omega (arith, digits_grow (n * 10 + x) ds))
digits_one n m (x ∷ ds) (y ∷ es) h g p q e =
    let a : x ≤ 9 = p.0 in
    let b : y ≤ 9 = q.0 in
    let r : (n * 10 + x ≡ m * 10 + y) × (ds ≡ es) = digits_one (n * 10 + x) (m * 10 + y) ds es (omega arith) (omega arith) p.1 q.1 e in
    let s : n * 10 + x ≡ m * 10 + y = r.0 in
    let z : x ≡ y = omega arith in
    let t : ds ≡ es = r.1 in
    (omega arith, cc)

-- so a number's code has its digits
pub number_code_one : (ds es : Number) → InNumber ds → InNumber es → number_code ds ≡ number_code es → ds ≡ es
number_code_one ds es p q e = (digits_one 1 1 ds es (omega arith) (omega arith) p.2 q.2 e).1

-- ---- with the IDtype

-- twice a number and a bit have both
halves : (a b : ℕ) (p q : Bool) → 2 * a + bit p ≡ 2 * b + bit q → (a ≡ b) × (p ≡ q)
halves a b false false e = (omega arith, refl)
halves a b false true e = absurd (omega arith)
halves a b true false e = absurd (omega arith)
halves a b true true e = (omega arith, refl)

-- LINE-CODE-ONE: no two keys of numbers in range have one code
pub line_code_one : (j k : LineKey) → InNumber j.number → InNumber k.number → line_code j ≡ line_code k → j ≡ k
line_code_one j k p q e =
    let r : (number_code j.number ≡ number_code k.number) × (j.pabx ≡ k.pabx) = halves (number_code j.number) (number_code k.number) j.pabx k.pabx e in
    let s : j.number ≡ k.number = number_code_one j.number k.number p q r.0 in
    λ i. record { pabx = r.1 i; number = s i }

-- ---- comparing codes

-- tests that pass together are one
tests_alike : (a b : Bool) → (a ≡ true → b ≡ true) → (b ≡ true → a ≡ true) → a ≡ b
tests_alike true b f g = sym (f refl)
tests_alike false true f g = g refl
tests_alike false false f g = refl

-- CODES-DECIDE: where a key's code tells it from another, codes are compared for keys
pub codes_decide : {K : Type 0} (same : K → K → Bool) → Decides same → (code : K → ℕ) (j k : K) → (code j ≡ code k → j ≡ k) → eqb (code j) (code k) ≡ same j k
codes_decide same d code j k one =
    tests_alike (eqb (code j) (code k)) (same j k)
    (λ e. ap (same j) (sym (one (eqb-true (code j) (code k) e))) ∙ d.itself j)
    (λ e. eq-eqb (code j) (code k) (ap code (d.are j k e)))

-- and with the keys turned
pub codes_turned : {K : Type 0} (same : K → K → Bool) → Decides same → (code : K → ℕ) (j k : K) → (code j ≡ code k → j ≡ k) → eqb (code j) (code k) ≡ same k j
codes_turned same d code j k one =
    tests_alike (eqb (code j) (code k)) (same k j)
    (λ e. ap (same k) (one (eqb-true (code j) (code k) e)) ∙ d.itself k)
    (λ e. eq-eqb (code j) (code k) (ap code (sym (d.are k j e))))
