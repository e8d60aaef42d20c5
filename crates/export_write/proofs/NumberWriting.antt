-- A kept number is written as its digits, two to a byte, and the end mark. Assumes nothing.
use Rattle.lists.proofs.Kit.{ℕ, zero, suc, ◌+◌, ◌-◌, ◌*◌, ◌/◌, ◌%◌, ◌≤◌, ◌<◌, ◌≡◌, refl, sym, ap, ◌∙◌, subst, true, false, List, [], ◌∷◌, map, add-zero, not-suc-le-zero, le_of_suc-le-suc, arith, eqb-true, eqb, length, drop, get_or, set, length-drop, list_getD_eq_default, get_or-drop}
use Rattle.lists.proofs.Bools.{is_false, and_parts}
use Rattle.lists.specs.Every.{All}
use Rattle.lists.proofs.Every.{all_append, all_get, all_map}
use Rattle.slots.specs.Slots.{flat, pad, zeros?, Listed, Found}
use Rattle.slots.proofs.Keys.{used_at}
use Rattle.slots.proofs.Tables.{front_bytes}
use Rattle.writing.specs.Canonical.{plain, FitsField}
use Rattle.writing.specs.Fields.{item, val}
use Rattle.writing.specs.Ranges.{InNumber}
use Rattle.writing.specs.Settings.{Number}
use Rattle.writing.specs.Writing.{number, fill}
use Rattle.writing.proofs.Whole.{number_whole}
use Rattle.tables.specs.Layout.{digit_bytes}
use Rattle.export_write.specs.Writers.{Kept, DigitAt, Wrote}
use Rattle.export_write.proofs.PairLaws.{all_drop, drop_two}
use Rattle.export_write.proofs.PlainLaws.{plain_byte}
use Rattle.export_write.proofs.WroteLaws.{Writing, writing_start, writing_more, writing_end, wrote_one}

-- ---- digits as they are kept

-- no digit is kept as 0
pub kept_none : (n i : ℕ) (ds : Number) → i < n → get_or (pad 0 n (map suc ds)) i 0 ≡ 0 → get_or ds i 15 ≡ 15
kept_none zero i ds h e = absurd (not-suc-le-zero h)
kept_none (suc n) i [] h e = refl
kept_none (suc n) zero (d ∷ ds) h e = absurd (omega arith)
kept_none (suc n) (suc i) (d ∷ ds) h e = kept_none n i ds (le_of_suc-le-suc h) e

-- zeros stand where there is no digit
pad_zero : (n i : ℕ) → ◌≡◌ {A = ℕ} (get_or (pad 0 n []) i 0) 0
pad_zero zero i = refl
pad_zero (suc n) zero = refl
pad_zero (suc n) (suc i) = pad_zero n i

-- what is not 0 is one more than a digit
pub kept_some : (n i : ℕ) (ds : Number) → (get_or (pad 0 n (map suc ds)) i 0 ≡ 0 → ⊥) → get_or (pad 0 n (map suc ds)) i 0 ≡ suc (get_or ds i 15)
kept_some zero i ds h = absurd (h refl)
kept_some (suc n) zero [] h = absurd (h refl)
kept_some (suc n) (suc i) [] h = absurd (h (pad_zero n i))
kept_some (suc n) zero (d ∷ ds) h = refl
kept_some (suc n) (suc i) (d ∷ ds) h = kept_some n i ds h

-- a digit is at most 9, and 15 stands for none
digit_small : (i : ℕ) (ds : Number) → All (◌≤ 9) ds → get_or ds i 15 < 16
digit_small i [] h = omega arith
digit_small zero (d ∷ ds) h = omega (arith, h.0)
digit_small (suc i) (d ∷ ds) h = digit_small i ds h.1

-- what the digit in a place is
module _ (s : List ℕ) (i : ℕ) (long : length s ≡ 18) where
  pub digit_past : 18 ≤ i → DigitAt s i 15
  digit_past h = (omega arith, λ ds k. sym (list_getD_eq_default ds 15 {n = i} (omega (arith, k.0.1))))

  pub digit_none : i < 18 → get_or s i 0 ≡ 0 → DigitAt s i 15
  digit_none h e = (omega arith, λ ds k. sym (kept_none 18 i ds h (ap (λ (l : List ℕ). get_or l i 0) (sym k.1) ∙ e)))

  pub digit_some : i < 18 → (get_or s i 0 ≡ 0 → ⊥) → DigitAt s i ((get_or s i 0 - 1) % 16)
  digit_some h e = (omega arith, is)
    where
      is : (ds : Number) → Kept InNumber digit_bytes s ds → (get_or s i 0 - 1) % 16 ≡ get_or ds i 15
      is ds k =
          let q : get_or s i 0 ≡ get_or (pad 0 18 (map suc ds)) i 0 = ap (λ (l : List ℕ). get_or l i 0) k.1 in
          let p : get_or (pad 0 18 (map suc ds)) i 0 ≡ suc (get_or ds i 15) = kept_some 18 i ds (λ z. e (q ∙ z)) in
          omega (arith, digit_small i ds k.0.2)

-- ---- the bytes of a number

-- what fills a byte fits
pub fill_fits : (n : ℕ) → All FitsField (fill n)
fill_fits zero = tt
fill_fits (suc zero) = (omega arith, tt)
fill_fits (suc (suc n)) = fill_fits n

-- a number's values fit
pub number_fits : (ds : Number) → All (◌≤ 9) ds → All FitsField (number ds)
number_fits ds h =
    all_append FitsField (map (item 4 15) ds) (val 4 15 ∷ fill (suc (length ds)))
    (all_map (◌≤ 9) FitsField (item 4 15) (λ d l. (omega arith, λ e. omega arith)) ds h)
    (omega arith, fill_fits (suc (length ds)))

-- two digits are a byte
plain_digits : (a b : ℕ) (ds : Number) → a ≤ 9 → b ≤ 9 → All (◌≤ 9) ds → plain (number (a ∷ b ∷ ds)) ≡ (a * 16 + b) ∷ plain (number ds)
plain_digits a b ds p q h = plain_byte (a * 16 + b) (item 4 15 a ∷ item 4 15 b ∷ []) (number ds) refl (omega arith) (omega arith) (number_whole ds) (number_fits ds h)

-- the digits from a place on, where two are left
pub number_more : (ds : Number) (i x y : ℕ) → All (◌≤ 9) ds → i < length ds / 2 → x ≡ get_or ds (2 * i) 15 → y ≡ get_or ds (2 * i + 1) 15
    → plain (number (drop (2 * i) ds)) ≡ (x * 16 + y) ∷ plain (number (drop (2 * (i + 1)) ds))
number_more ds i x y h l p q =
    let e : drop (2 * i) ds ≡ x ∷ y ∷ drop (2 * (i + 1)) ds = drop_two 15 ds i (omega arith) ∙ (λ t. sym p t ∷ sym q t ∷ drop (2 * (i + 1)) ds) in
    let a : x ≤ 9 = rw p (all_get (◌≤ 9) ds (2 * i) 15 h (omega arith)) in
    let b : y ≤ 9 = rw q (all_get (◌≤ 9) ds (2 * i + 1) 15 h (omega arith)) in
    ap (λ (m : Number). plain (number m)) e ∙ plain_digits x y (drop (2 * (i + 1)) ds) a b (all_drop (◌≤ 9) (2 * (i + 1)) ds h)

-- and where less is left: a digit and the end mark, or the end mark alone
pub number_last : (ds : Number) (i x : ℕ) → All (◌≤ 9) ds → i ≡ length ds / 2 → x ≡ get_or ds (2 * i) 15 → plain (number (drop (2 * i) ds)) ≡ (x * 16 + 15) ∷ []
number_last ds i x h l p = go (drop (2 * i) ds) (all_drop (◌≤ 9) (2 * i) ds h) (omega (arith, length-drop (2 * i) ds)) (p ∙ ap (λ (n : ℕ). get_or ds n 15) (omega arith) ∙ sym (get_or-drop (2 * i) ds 0 15))
  where
    go : (m : Number) → All (◌≤ 9) m → length m ≤ 1 → x ≡ get_or m 0 15 → plain (number m) ≡ (x * 16 + 15) ∷ []
    go [] k n e = rw e
    go (d ∷ []) k n e =
        plain_byte (d * 16 + 15) (item 4 15 d ∷ val 4 15 ∷ []) [] refl (omega (arith, k.0)) (omega (arith, k.0)) (0, refl) tt ∙ ap (λ (z : ℕ). (z * 16 + 15) ∷ []) (sym e)
    go (d ∷ e ∷ m) k n q = absurd (omega arith)

-- ---- how many digits are kept

-- a digit's byte
abbrev kept : ℕ → List ℕ
kept d = suc d ∷ []

flat_kept : (ds : Number) → flat (map kept ds) ≡ map suc ds
flat_kept [] = refl
flat_kept (d ∷ ds) = ap (λ (l : List ℕ). suc d ∷ l) (flat_kept ds)

-- it is not 0
kept_shown : (d : ℕ) → zeros? (kept d) ≡ false
kept_shown d = is_false (zeros? (kept d)) (λ z. let e = eqb-true (suc d) 0 (and_parts (eqb (suc d) 0) true z).0 in omega arith)

-- as many as stand before the first 0
pub digits_used : (s : List ℕ) (ds : Number) (r : ℕ) → Kept InNumber digit_bytes s ds → Found (0 < 1) zeros? 1 s r → r ≡ length ds
digits_used s ds r (ok, e) f =
    let t : Listed (◌≤ 9) 1 kept 18 ds s = record { few = ok.1; each = ok.2; bytes = e ∙ ap (pad 0 18) (sym (flat_kept ds)) ∙ sym (front_bytes 1 kept (λ d. refl) 18 ds) } in
    used_at (◌≤ 9) 1 kept (λ d. refl) (λ d h. kept_shown d) (omega arith) 18 ds s t r f ∙ omega arith

-- ---- the walk

-- digits up to a place are written
abbrev pub Numbered : (digits buffer₀ buffer : List ℕ) → (at i : ℕ) → Type 0
Numbered digits buffer₀ buffer at i =
    (ds : Number) → Kept InNumber digit_bytes digits ds → Writing (plain (number ds)) at buffer₀ buffer (at + i) (plain (number (drop (2 * i) ds)))

module _ (digits buffer₀ buffer : List ℕ) (at i used : ℕ) (f : Found (0 < 1) zeros? 1 digits used) (g : Numbered digits buffer₀ buffer at i) where
  -- two more
  pub numbered_more : (x y : ℕ) → i < used / 2 → at + i < length buffer → DigitAt digits (2 * i) x → DigitAt digits (2 * i + 1) y
      → Numbered digits buffer₀ (set buffer (at + i) (x * 16 + y)) at (i + 1)
  numbered_more x y h l p q ds k =
      let u : used ≡ length ds = digits_used digits ds used k f in
      let e : at + i + 1 ≡ at + (i + 1) = omega arith in
      subst (λ (r : ℕ). Writing (plain (number ds)) at buffer₀ (set buffer (at + i) (x * 16 + y)) r (plain (number (drop (2 * (i + 1)) ds)))) e
      (writing_more (plain (number ds)) at (at + i) (at + i + 1) buffer₀ buffer (set buffer (at + i) (x * 16 + y)) (plain (number (drop (2 * i) ds))) ((x * 16 + y) ∷ [])
      (plain (number (drop (2 * (i + 1)) ds))) (g ds k) (number_more ds i x y k.0.2 (omega arith) (p.1 ds k) (q.1 ds k)) (wrote_one (x * 16 + y) (at + i) buffer l))

  -- the last byte
  pub numbered_end : (x : ℕ) → i ≡ used / 2 → at + i < length buffer → DigitAt digits (2 * i) x
      → (ds : Number) → Kept InNumber digit_bytes digits ds → Wrote (plain (number ds)) at buffer₀ (set buffer (at + i) (x * 16 + 15)) (at + i + 1)
  numbered_end x h l p ds k =
      let u : used ≡ length ds = digits_used digits ds used k f in
      writing_end (plain (number ds)) at (at + i + 1) buffer₀ (set buffer (at + i) (x * 16 + 15)) []
      (writing_more (plain (number ds)) at (at + i) (at + i + 1) buffer₀ buffer (set buffer (at + i) (x * 16 + 15)) (plain (number (drop (2 * i) ds))) ((x * 16 + 15) ∷ [])
      [] (g ds k) (number_last ds i x k.0.2 (omega arith) (p.1 ds k)) (wrote_one (x * 16 + 15) (at + i) buffer l)) refl

-- none is written yet
pub numbered_start : (digits buffer : List ℕ) (at : ℕ) → at ≤ length buffer → Numbered digits buffer buffer at 0
numbered_start digits buffer at h ds k = rw add-zero (writing_start (plain (number ds)) at buffer h)
