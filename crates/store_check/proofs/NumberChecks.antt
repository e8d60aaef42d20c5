-- Numbers of two and three bytes, and flags of one: which bytes are theirs. Assumes nothing.
use Rattle.lists.proofs.Kit.{◌≡◌, refl, sym, ap, ◌∙◌, subst, Bool, ◌↔◌, ◌≢◌, List, [], ◌∷◌, head-eq_of_cons-eq, ℕ, ◌+◌, ◌*◌, ◌/◌, ◌%◌, ◌≤◌, ◌<◌, add-zero, div-add-mod', div-div-eq-div-mul, mod-eq_of_lt, arith, mid_of, eqb, length, drop, get_or, length-drop, get_or-drop, get_or-take, length-take-le}
use Rattle.lists.specs.Bytes.{Bytes}
use Rattle.lists.proofs.Bytes.{bytes_drop, bytes_take}
use Rattle.slots.specs.Slots.{u16, u24, EntryOf}
use Rattle.slots.proofs.Numbers.{u16_of, u16_one, u24_of, u24_one}
use Rattle.settings.proofs.BodyLaws.{flag_bit}
use Rattle.writing.specs.Writing.{bit}
use Rattle.tables.specs.Layout.{group_flags, individual_flags}
use Rattle.tables.proofs.EntryCodes.{bit_small}

-- ---- numbers

-- two bytes are the number that they make
two_are : (s : List ℕ) → length s ≡ 2 → Bytes s → s ≡ u16 (get_or s 0 0 * 256 + get_or s 1 0)
two_are [] l b = absurd (omega arith)
two_are (x ∷ []) l b = absurd (omega arith)
two_are (x ∷ y ∷ []) l b = sym (u16_of x y (b 1))
two_are (x ∷ y ∷ z ∷ s) l b = absurd (omega arith)

-- and three
three_are : (s : List ℕ) → length s ≡ 3 → Bytes s → s ≡ u24 (get_or s 0 0 * 65536 + (get_or s 1 0 * 256 + get_or s 2 0))
three_are [] l b = absurd (omega arith)
three_are (x ∷ []) l b = absurd (omega arith)
three_are (x ∷ y ∷ []) l b = absurd (omega arith)
three_are (x ∷ y ∷ z ∷ []) l b = sym (u24_of x y z (b 1) (b 2))
three_are (x ∷ y ∷ z ∷ w ∷ s) l b = absurd (omega arith)

-- where the bytes tell the number, they are an entry where it may be one
number_is : (f : ℕ → List ℕ) → ((a b : ℕ) → f a ≡ f b → a ≡ b) → (P : ℕ → Type 0) (s : List ℕ) (n : ℕ) → s ≡ f n → P n ↔ EntryOf P f s
number_is f one P s n e = (
  λ p. record { entry = n; holds = p; bytes = e },
  λ x. subst P (one x.entry n (sym x.bytes ∙ e)) x.holds,
)

-- two bytes are an entry where the number that they make may be one
pub two_is : (P : ℕ → Type 0) (s : List ℕ) → length s ≡ 2 → Bytes s → P (get_or s 0 0 * 256 + get_or s 1 0) ↔ EntryOf P u16 s
two_is P s l b = number_is u16 u16_one P s _ (two_are s l b)

-- and three
pub three_is : (P : ℕ → Type 0) (s : List ℕ) → length s ≡ 3 → Bytes s → P (get_or s 0 0 * 65536 + (get_or s 1 0 * 256 + get_or s 2 0)) ↔ EntryOf P u24 s
three_is P s l b = number_is u24 u24_one P s _ (three_are s l b)

-- two bytes of s
pub pair_is : (P : ℕ → Type 0) (s : List ℕ) (a : ℕ) → a + 2 ≤ length s → Bytes s → P (get_or s a 0 * 256 + get_or s (a + 1) 0) ↔ EntryOf P u16 (mid_of a 2 s)
pair_is P s a h b =
    let p : get_or (mid_of a 2 s) 0 0 ≡ get_or s a 0 = get_or-take 2 (drop a s) 0 0 (omega arith) ∙ get_or-drop a s 0 0 ∙ ap (λ (i : ℕ). get_or s i 0) (add-zero a) in
    let q : get_or (mid_of a 2 s) 1 0 ≡ get_or s (a + 1) 0 = get_or-take 2 (drop a s) 1 0 (omega arith) ∙ get_or-drop a s 1 0 in
    let t = two_is P (mid_of a 2 s) (length-take-le 2 (drop a s) (omega (arith, length-drop a s))) (bytes_take 2 (drop a s) (bytes_drop a s b)) in
    (rw (← p, ← q) t)

-- ---- flags

-- the lowest bit, as a flag
abbrev pub odd : ℕ → Bool
odd n = eqb (n % 2) 1

-- it is the bit
pub odd_is : (n : ℕ) → bit (odd n) ≡ n % 2
odd_is n = sym (flag_bit n (odd n) refl)

-- a quotient is a quotient of it and a remainder
pub cut_off : (n w v : ℕ) → n / w ≡ n / (w * v) * v + n / w % v
cut_off n w v = sym (ap (λ (q : ℕ). q * v + n / w % v) (sym (div-div-eq-div-mul n w v)) ∙ div-add-mod' (n / w) v)

-- its lowest bit is cut off
pub bit_off : (n w : ℕ) → n / w ≡ n / (w * 2) * 2 + bit (odd (n / w))
bit_off n w = rw odd_is (cut_off n w 2)

-- the highest bit
pub bit_top : (n w : ℕ) → n / w < 2 → n / w ≡ bit (odd (n / w))
bit_top n w h = rw odd_is (sym (mod-eq_of_lt h))

-- flags that have P are the bytes that have R
pub record Flags {F : Type 0} (P : F → Type 0) (byte : F → ℕ) (R : ℕ → Type 0) : Type 0 where
  pub of : ℕ → F
  pub good : (b : ℕ) → R b → P (of b)
  pub is : (b : ℕ) → R b → byte (of b) ≡ b
  pub back : (f : F) → P f → R (byte f)

-- a byte is that of flags where it has R
pub flags_are : {F : Type 0} (P : F → Type 0) (byte : F → ℕ) (R : ℕ → Type 0) → Flags P byte R → (b : ℕ) → R b ↔ EntryOf P (λ f. byte f ∷ []) (b ∷ [])
flags_are P byte R k b = (
  λ r. record { entry = k.of b; holds = k.good b r; bytes = ap (λ (x : ℕ). x ∷ []) (sym (k.is b r)) },
  λ x. subst R (sym (head-eq_of_cons-eq x.bytes)) (k.back x.entry x.holds),
)

-- "IDtype 1 (0 PSTN, 1 PABX)"
pub id_type : Flags (λ b. Unit {0}) bit (◌< 2)
id_type = record { of = odd; good = λ b r. tt; is = λ b r. omega (arith, odd_is b); back = λ f p. omega (arith, bit_small f) }

-- "attribute 2 (not 00), broadcast 1, encryption 1, OVCM 1, emergency 1, priority 2"
pub group_flag : Flags (λ f. ((f.attribute ≢ 0) × (f.attribute < 4)) × (f.priority < 4)) group_flags (λ b. (64 ≤ b) × (b < 256))
group_flag =
    record {
      of = λ b. record { attribute = b / 64; broadcast = odd (b / 32); encryption = odd (b / 16); ovcm = odd (b / 8); emergency = odd (b / 4); priority = b % 4 };
      good = λ b r. ((λ e. omega (arith, r.0), omega (arith, r.1)), omega arith);
      is = λ b r. omega (arith, bit_off b 32, bit_off b 16, bit_off b 8, bit_off b 4);
      back = λ f p. (
        omega (arith, p.0.0),
        omega (arith, p.0.1, p.1, bit_small f.broadcast, bit_small f.encryption, bit_small f.ovcm, bit_small f.emergency),
      );
    }

-- "encryption 1, emergency 1, priority 2"
pub individual_flag : Flags (λ f. f.priority < 4) individual_flags (◌< 16)
individual_flag =
    record {
      of = λ b. record { encryption = odd (b / 8); emergency = odd (b / 4); priority = b % 4 };
      good = λ b r. omega arith;
      is = λ b r. let t = bit_top b 8 (omega arith) in omega (arith, t, bit_off b 4);
      back = λ f p. omega (arith, bit_small f.encryption, bit_small f.emergency);
    }
