-- Units, characters and their bytes. Assumes nothing.
use Prim.Native.Nat.{ℕ, suc, ◌+◌, ◌*◌, ◌-◌, ◌/◌, ◌≤◌, ◌<◌}
use mathlib.Core.Path.{◌≡◌, refl, sym, ap, ap₂, ◌∙◌}
use mathlib.Core.Bool.{Bool, true, false, cond}
use mathlib.Core.List.{List, [], ◌∷◌}
use native.Mathlib.Omega.{arith}
use borrow.Author.Tests.{lt-ltb, le-ltb, eq-eqb, ne_eqb}
use lib.Dec.{eqb}
use lib.ListN.{length, drop, get_or, length-drop}
use lib.Seq.{drop-cons}
use Rattle.printing.specs.Utf8.{units, pair?, joined, alone, characters, following, utf8}

-- ---- units

-- two bytes are a unit
pub unit_stands : (bs : List ℕ) (at high low : ℕ) → at + 2 ≤ length bs → high ≡ get_or bs at 0 → low ≡ get_or bs (at + 1) 0
    → units (drop at bs) ≡ (high * 256 + low) ∷ units (drop (at + 2) bs)
unit_stands bs at high low room h l =
    let j : suc at ≡ at + 1 = omega arith in
    let k : suc (suc at) ≡ at + 2 = omega arith in
    let two : drop at bs ≡ get_or bs at 0 ∷ get_or bs (at + 1) 0 ∷ drop (at + 2) bs =
    drop-cons bs at 0 (omega arith) ∙ ap (λ (m : List ℕ). get_or bs at 0 ∷ m) (drop-cons bs (suc at) 0 (omega arith))
    ∙ (λ t. get_or bs at 0 ∷ get_or bs (j t) 0 ∷ drop (k t) bs) in
    ap units two ∙ ap₂ (λ (x y : ℕ). (x * 256 + y) ∷ units (drop (at + 2) bs)) (sym h) (sym l)

-- fewer than two bytes are none
short : (bs : List ℕ) → length bs < 2 → units bs ≡ []
short [] h = refl
short (b ∷ []) h = refl
short (b ∷ d ∷ bs) h = absurd (omega arith)

pub no_unit : (bs : List ℕ) (at : ℕ) → length bs - at < 2 → units (drop at bs) ≡ []
no_unit bs at h = short (drop at bs) (omega (arith, length-drop at bs))

-- ---- characters

-- a surrogate by itself
pub alone_surrogate : (w : ℕ) → w / 2048 ≡ 0x1B → 0xFFFD ≡ alone w
alone_surrogate w h = ap (λ (b : Bool). cond b 0xFFFD w) (sym (eq-eqb (w / 2048) 0x1B h))

-- any other unit
pub alone_plain : (w : ℕ) → (w / 2048 ≡ 0x1B → ⊥) → w ≡ alone w
alone_plain w h = ap (λ (b : Bool). cond b 0xFFFD w) (sym (ne_eqb (w / 2048) 0x1B h))

-- whether two units are a pair, by the first
pub pair_second : (w v : ℕ) → w / 1024 ≡ 0x36 → eqb (v / 1024) 0x37 ≡ pair? w v
pair_second w v h = ap (λ (b : Bool). cond b (eqb (v / 1024) 0x37) false) (sym (eq-eqb (w / 1024) 0x36 h))

pub no_pair : (w v : ℕ) → (w / 1024 ≡ 0x36 → ⊥) → eqb (w / 1024) 0x36 ≡ pair? w v
no_pair w v h = ne_eqb (w / 1024) 0x36 h ∙ ap (λ (b : Bool). cond b (eqb (v / 1024) 0x37) false) (sym (ne_eqb (w / 1024) 0x36 h))

-- the last unit
pub last_read : (us rest : List ℕ) (w c : ℕ) → us ≡ w ∷ rest → rest ≡ [] → c ≡ alone w → characters us ≡ c ∷ characters rest
last_read us rest w c e f k =
    ap characters (e ∙ ap (λ (r : List ℕ). w ∷ r) f) ∙ ap₂ (λ (x : ℕ) (r : List ℕ). x ∷ characters r) (sym k) (sym f)

-- two units, a pair or not
two_read : (us rest more : List ℕ) (w v : ℕ) (b : Bool) → us ≡ w ∷ rest → rest ≡ v ∷ more → pair? w v ≡ b
    → characters us ≡ cond b (joined w v ∷ characters more) (alone w ∷ characters (v ∷ more))
two_read us rest more w v b e f p =
    ap characters (e ∙ ap (λ (r : List ℕ). w ∷ r) f) ∙ ap (λ (x : Bool). cond x (joined w v ∷ characters more) (alone w ∷ characters (v ∷ more))) p

pub pair_read : (us rest more : List ℕ) (w v c : ℕ) → us ≡ w ∷ rest → rest ≡ v ∷ more → pair? w v ≡ true → c ≡ joined w v
    → characters us ≡ c ∷ characters more
pair_read us rest more w v c e f p k = two_read us rest more w v true e f p ∙ ap (λ (x : ℕ). x ∷ characters more) (sym k)

pub one_read : (us rest more : List ℕ) (w v c : ℕ) → us ≡ w ∷ rest → rest ≡ v ∷ more → pair? w v ≡ false → c ≡ alone w
    → characters us ≡ c ∷ characters rest
one_read us rest more w v c e f p k =
    two_read us rest more w v false e f p ∙ ap₂ (λ (x : ℕ) (r : List ℕ). x ∷ characters r) (sym k) (sym f)

-- ---- bytes: the rows of the table

module _ (c : ℕ) where
  pub one_byte : c < 0x80 → c ∷ [] ≡ utf8 c
  one_byte h = rw (lt-ltb c 0x80 h)

  pub two_bytes : (x : ℕ) → 0x80 ≤ c → c < 0x800 → x ≡ following c → (0xC0 + c / 64) ∷ x ∷ [] ≡ utf8 c
  two_bytes x g h e = ap (λ (x : ℕ). (0xC0 + c / 64) ∷ x ∷ []) e ∙ rw (le-ltb c 0x80 g, lt-ltb c 0x800 h)

  pub three_bytes : (x y : ℕ) → 0x800 ≤ c → c < 0x10000 → x ≡ following (c / 64) → y ≡ following c → (0xE0 + c / 4096) ∷ x ∷ y ∷ [] ≡ utf8 c
  three_bytes x y g h e f =
      ap₂ (λ (x y : ℕ). (0xE0 + c / 4096) ∷ x ∷ y ∷ []) e f ∙ rw (le-ltb c 0x80 (omega arith), le-ltb c 0x800 g, lt-ltb c 0x10000 h)

  pub four_bytes : (x y z : ℕ) → 0x10000 ≤ c → x ≡ following (c / 4096) → y ≡ following (c / 64) → z ≡ following c
      → (0xF0 + c / 262144) ∷ x ∷ y ∷ z ∷ [] ≡ utf8 c
  four_bytes x y z g e f k =
      (λ t. (0xF0 + c / 262144) ∷ e t ∷ f t ∷ k t ∷ []) ∙ rw (le-ltb c 0x80 (omega arith), le-ltb c 0x800 (omega arith), le-ltb c 0x10000 g)
