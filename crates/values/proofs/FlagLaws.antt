-- The flags that a byte keeps, cut out of it again. Assumes nothing.
use Rattle.lists.proofs.Kit.{ℕ, ◌+◌, ◌*◌, ◌/◌, ◌%◌, ◌<◌, ◌≡◌, refl, ap, ◌∙◌, Bool, true, false, arith, eqb}
use Rattle.writing.specs.Writing.{bit}
use Rattle.tables.proofs.EntryCodes.{bit_small}
use Rattle.values.specs.Entries.{LineFlagsAre, GroupFlagsAre, IndividualFlagsAre}

-- a flag is set where its bit is 1
bit_set : (b : Bool) → eqb (bit b) 1 ≡ b
bit_set true = refl
bit_set false = refl

bit_cut : (b : Bool) (n : ℕ) → n ≡ bit b → eqb n 1 ≡ b
bit_cut b n e = ap (λ i. eqb i 1) e ∙ bit_set b

-- encryption, emergency and priority, of lines and individuals
three_cut : (a b : Bool) (p n : ℕ) → p < 4 → n ≡ bit a * 8 + bit b * 4 + p → (eqb (n / 8) 1 ≡ a) × (eqb (n / 4 % 2) 1 ≡ b) × (n % 4 ≡ p)
three_cut a b p n h e =
    let x = bit_small a in
    let y = bit_small b in
    (bit_cut a (n / 8) (omega arith), bit_cut b (n / 4 % 2) (omega arith), omega arith)

-- LINE-CUT: a line's flags
pub line_cut : (n id : ℕ) → LineFlagsAre n id (record { encryption = eqb (n / 8) 1; emergency = eqb (n / 4 % 2) 1; priority = n % 4; pabx = eqb id 1 })
line_cut n id f h e d =
    let (x, y, z) = three_cut f.encryption f.emergency f.priority n h e in
    let w = bit_cut f.pabx id d in
    (λ i. record { encryption = x i; emergency = y i; priority = z i; pabx = w i })

-- INDIVIDUAL-CUT: an individual's
pub individual_cut : (n : ℕ) → IndividualFlagsAre n (record { encryption = eqb (n / 8) 1; emergency = eqb (n / 4 % 2) 1; priority = n % 4 })
individual_cut n f h e =
    let (x, y, z) = three_cut f.encryption f.emergency f.priority n h e in
    (λ i. record { encryption = x i; emergency = y i; priority = z i })

-- GROUP-CUT: a group's
pub group_cut : (n : ℕ) → GroupFlagsAre n (record { attribute = n / 64; broadcast = eqb (n / 32 % 2) 1; encryption = eqb (n / 16 % 2) 1; ovcm = eqb (n / 8 % 2) 1; emergency = eqb (n / 4 % 2) 1; priority = n % 4 })
group_cut n f h e =
    let a = bit_small f.broadcast in
    let b = bit_small f.encryption in
    let c = bit_small f.ovcm in
    let d = bit_small f.emergency in
    let u : n / 64 ≡ f.attribute = omega arith in
    let v = bit_cut f.broadcast (n / 32 % 2) (omega arith) in
    let w = bit_cut f.encryption (n / 16 % 2) (omega arith) in
    let x = bit_cut f.ovcm (n / 8 % 2) (omega arith) in
    let y = bit_cut f.emergency (n / 4 % 2) (omega arith) in
    let z : n % 4 ≡ f.priority = omega arith in
    (λ i. record { attribute = u i; broadcast = v i; encryption = w i; ovcm = x i; emergency = y i; priority = z i })
