-- Texts and numbers as bytes: how many bytes they take, and that the bytes tell them. Assumes nothing.
use Rattle.lists.proofs.Kit.{ℕ, zero, suc, ◌*◌, ◌≤◌, ◌<◌, ◌≡◌, refl, sym, ap, ◌∙◌, Bool, true, false, true≢false, ◌≢◌, [], ◌∷◌, map, arith, eqb-true, eqb, length, length-map}
use Rattle.lists.proofs.Bools.{is_false, and_parts}
use Rattle.lists.specs.Bytes.{Bytes}
use Rattle.lists.proofs.Bytes.{all_bytes}
use Rattle.lists.specs.Every.{All}
use Rattle.lists.proofs.Every.{all_any, all_made, all_map, all_turn}
use Rattle.lists.proofs.Seqs.{map_one}
use Rattle.slots.specs.Slots.{pad, u16, zeros?, same?}
use Rattle.slots.proofs.Codes.{array_one}
use Rattle.slots.proofs.Numbers.{u16_bytes, u16_code, u16_shown}
use Rattle.slots.proofs.Pads.{pad_all, pad_length, pad_one}
use Rattle.slots.proofs.Parts.{flat_bytes, slots_length}
use Rattle.slots.proofs.Runs.{same_are, same_refl, zeros_append}
use Rattle.writing.specs.Ranges.{InNumber}
use Rattle.writing.specs.Settings.{Text, Number}
use Rattle.tables.specs.Allowed.{TextOk}
use Rattle.tables.specs.Layout.{text_bytes, digit_bytes}

-- ---- texts

-- two bytes a unit
pub text_length : (n : ℕ) (us : Text) → length (text_bytes n us) ≡ 2 * n
text_length n us =
    omega (arith, slots_length 2 (map u16 (pad 0 n us)) (all_made (λ x. length x ≡ 2) u16 (λ u. refl) (pad 0 n us)), length-map (pad 0 n us) u16, pad_length 0 n us)

-- no unit is 0
no_zero : (n : ℕ) (us : Text) → TextOk n us → All (λ u. u ≢ 0) us
no_zero n us p = all_turn (λ u. (u ≢ 0) × (u < 65536)) (λ u. u ≢ 0) (λ u h. h.0) us p.units

-- the bytes tell the text
pub text_one : (n : ℕ) (us vs : Text) → TextOk n us → TextOk n vs → text_bytes n us ≡ text_bytes n vs → us ≡ vs
text_one n us vs p q e =
    pad_one 0 n us vs (no_zero n us p) (no_zero n vs q) p.short q.short
    (array_one (λ u. Unit {0}) 2 u16 (u16_code (λ u. Unit {0})) (pad 0 n us) (pad 0 n vs) (all_any (λ u. Unit {0}) (λ u. tt) (pad 0 n us)) (all_any (λ u. Unit {0}) (λ u. tt) (pad 0 n vs))
    (pad_length 0 n us ∙ sym (pad_length 0 n vs)) e)

-- a text that is not empty is not all zeros
pub text_shown : (n : ℕ) (us : Text) → TextOk n us → 1 ≤ length us → zeros? (text_bytes n us) ≡ false
text_shown n [] p h = absurd (omega arith)
text_shown zero (u ∷ us) p h = absurd (omega (arith, p.short))
text_shown (suc n) (u ∷ us) p h =
    is_false (zeros? (text_bytes (suc n) (u ∷ us))) (λ z.
    let a = and_parts (zeros? (u16 u)) (zeros? (text_bytes n us)) (sym (zeros_append (u16 u) (text_bytes n us)) ∙ z) in
    true≢false (sym a.0 ∙ u16_shown u p.units.0.0))

-- they are bytes
pub text_are_bytes : (n : ℕ) (us : Text) → TextOk n us → Bytes (text_bytes n us)
text_are_bytes n us p =
    flat_bytes (map u16 (pad 0 n us))
    (all_map (◌< 65536) Bytes u16 u16_bytes (pad 0 n us)
    (pad_all 0 (◌< 65536) (omega arith) n us (all_turn (λ u. (u ≢ 0) × (u < 65536)) (◌< 65536) (λ u h. h.1) us p.units)))

-- ---- numbers

-- 18 bytes
pub digits_length : (ds : Number) → length (digit_bytes ds) ≡ 18
digits_length ds = pad_length 0 18 (map suc ds)

-- no digit is kept as 0
kept_not_zero : (ds : Number) → All (λ d. d ≢ 0) (map suc ds)
kept_not_zero ds = all_made (λ d. d ≢ 0) suc (λ d e. omega arith) ds

-- the bytes tell the number
pub digits_one : (ds es : Number) → length ds ≤ 18 → length es ≤ 18 → digit_bytes ds ≡ digit_bytes es → ds ≡ es
digits_one ds es h k e =
    map_one suc (λ a b q. omega arith) ds es
    (pad_one 0 18 (map suc ds) (map suc es) (kept_not_zero ds) (kept_not_zero es) (rw length-map h) (rw length-map k) e)

-- the bytes compare as the numbers do
pub digits_same : (ds es : Number) → length ds ≤ 18 → length es ≤ 18 → same? (digit_bytes ds) (digit_bytes es) ≡ same? ds es
digits_same ds es h k = go (same? ds es) refl
  where
    go : (t : Bool) → same? ds es ≡ t → same? (digit_bytes ds) (digit_bytes es) ≡ t
    go true e = ap (λ (l : Number). same? (digit_bytes l) (digit_bytes es)) (same_are ds es e) ∙ same_refl (digit_bytes es)
    go false e =
        is_false (same? (digit_bytes ds) (digit_bytes es)) (λ s.
        let q : ds ≡ es = digits_one ds es h k (same_are (digit_bytes ds) (digit_bytes es) s) in
        true≢false (sym (same_refl es) ∙ ap (λ (l : Number). same? l es) (sym q) ∙ e))

-- a number is not all zeros
pub digits_shown : (ds : Number) → 1 ≤ length ds → zeros? (digit_bytes ds) ≡ false
digits_shown [] h = absurd (omega arith)
digits_shown (d ∷ ds) h = is_false (zeros? (digit_bytes (d ∷ ds))) (λ z. let e = eqb-true (suc d) 0 (and_parts (eqb (suc d) 0) (zeros? (pad 0 17 (map suc ds))) z).0 in omega arith)

-- they are bytes
pub digits_are_bytes : (ds : Number) → InNumber ds → Bytes (digit_bytes ds)
digits_are_bytes ds p =
    all_bytes (digit_bytes ds) (pad_all 0 (◌< 256) (omega arith) 18 (map suc ds) (all_map (◌≤ 9) (◌< 256) suc (λ d h. omega arith) ds p.2))
