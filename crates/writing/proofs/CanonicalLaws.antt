-- The writing with reserved bits 0: it is one, and exactly the settings whose values fit have one. Assumes nothing.
use Rattle.lists.proofs.Kit.{ℕ, zero, suc, ◌+◌, ◌*◌, ◌/◌, ◌%◌, ◌^◌, ◌<◌, ◌≡◌, refl, sym, ap, ap₂, ◌∙◌, subst⁻¹, List, [], ◌∷◌, ◌++◌, mod-eq_of_lt, mod-lt, mod-mod, arith, length, pow_pos, pow-add, high, low}
use lib.Arith.{digits_lt}
use Rattle.lists.specs.Every.{All}
use Rattle.lists.proofs.Every.{all_append}
use Rattle.writing.specs.Canonical.{value, side_by_side, bytes, plain, canonical, canonical_all, FitsField, Fits}
use Rattle.writing.specs.Fields.{bits, bits_of, Field, val, item, res, width, widths, MayHave, Shows}
use Rattle.writing.specs.declared.Coding.{Coding}
use Rattle.writing.specs.Settings.{Setting}
use Rattle.writing.specs.Writing.{fields, data_length, Written, WrittenAll}
use Rattle.writing.proofs.Bits.{bits_split, bits_cong, bits_of_append, bits_of_one, widths_append}
use Rattle.writing.proofs.Whole.{body_whole, whole}

-- a value that fits may stand in its field
fits_holds : (f : Field) → FitsField f → MayHave f (value f) × (value f < 2 ^ width f)
fits_holds (val w v) h = (refl, h)
fits_holds (item w end v) h = ((refl, h.1), h.0)
fits_holds (res w) h = (tt, pow_pos w)

-- a value that stands in its field fits
holds_fits : (f : Field) (x : ℕ) → MayHave f x → x < 2 ^ width f → FitsField f
holds_fits (val w v) x h b = rw h at b
holds_fits (item w end v) x h b = (rw h.0 at b, h.1)
holds_fits (res w) x h b = tt

-- values that fit, side by side, are less than as many bits
side_lt : (fs : List Field) → All FitsField fs → side_by_side fs < 2 ^ widths fs
side_lt [] h = omega arith
side_lt (f ∷ fs) h = rw (pow-add 2 (width f) (widths fs)) (digits_lt (fits_holds f h.0).1 (side_lt fs h.1))

-- w bits, then W bits
bits_join : (w W a b : ℕ) → b < 2 ^ W → bits (w + W) (a * 2 ^ W + b) ≡ bits w a ++ bits W b
bits_join w W a b h =
    bits_split w W (a * 2 ^ W + b) ∙ ap₂ (λ x y. x ++ y) (ap (bits w) (high a W h)) (bits_cong W (a * 2 ^ W + b) b (low a W h ∙ sym (mod-eq_of_lt h)))

-- values that fit, side by side, show their fields
side_shows : (fs : List Field) → All FitsField fs → Shows fs (bits (widths fs) (side_by_side fs))
side_shows [] h = refl
side_shows (f ∷ fs) h =
    let (p, q) = fits_holds f h.0 in
    (value f, bits (widths fs) (side_by_side fs), p, q, bits_join (width f) (widths fs) (value f) (side_by_side fs) (side_lt fs h.1), side_shows fs h.1)

-- fields of which some stand after the others
side_append : (fs gs : List Field) → side_by_side (fs ++ gs) ≡ side_by_side fs * 2 ^ widths gs + side_by_side gs
side_append [] gs = omega arith
side_append (f ∷ fs) gs =
    let e : 2 ^ widths (fs ++ gs) ≡ 2 ^ widths fs * 2 ^ widths gs = ap (λ w. 2 ^ w) (widths_append fs gs) ∙ pow-add 2 (widths fs) (widths gs) in
    omega (arith, ap (λ w. value f * w) e, side_append fs gs)

-- ---- the bytes of a number

-- the bits of a number's bytes are its own
bits_bytes : (n v : ℕ) → bits_of (bytes n v) ≡ bits (8 * n) v
bits_bytes zero v = refl
bits_bytes (suc n) v =
    let e : 8 + 8 * n ≡ 8 * suc n = omega arith in
    ap₂ (λ x y. x ++ y) (bits_cong 8 (v / 2 ^ (8 * n) % 256) (v / 2 ^ (8 * n)) (mod-mod (v / 2 ^ (8 * n)) 256)) (bits_bytes n v)
    ∙ sym (bits_split 8 (8 * n) v) ∙ ap (λ k. bits k v) e

-- so many bytes
length_bytes : (n v : ℕ) → length (bytes n v) ≡ n
length_bytes zero v = refl
length_bytes (suc n) v = ap suc (length_bytes n v)

-- each is a byte
small_bytes : (n v : ℕ) → All (◌< 256) (bytes n v)
small_bytes zero v = tt
small_bytes (suc n) v = (mod-lt (v / 2 ^ (8 * n)) (omega arith), small_bytes n v)

-- ---- fields that are whole bytes

-- as many bytes as the fields take
pub plain_length : (fs : List Field) (n : ℕ) → widths fs ≡ 8 * n → length (plain fs) ≡ n
plain_length fs n e = omega (arith, length_bytes (widths fs / 8) (side_by_side fs))

-- they are bytes
pub plain_bytes : (fs : List Field) → All (◌< 256) (plain fs)
plain_bytes fs = small_bytes (widths fs / 8) (side_by_side fs)

-- their bits are the fields' values side by side
plain_bits : (fs : List Field) (n : ℕ) → widths fs ≡ 8 * n → bits_of (plain fs) ≡ bits (widths fs) (side_by_side fs)
plain_bits fs n e = let z : 8 * (widths fs / 8) ≡ widths fs = omega arith in bits_bytes (widths fs / 8) (side_by_side fs) ∙ ap (λ w. bits w (side_by_side fs)) z

-- they show the fields, where every value fits
pub plain_shows : (fs : List Field) (n : ℕ) → widths fs ≡ 8 * n → All FitsField fs → Shows fs (bits_of (plain fs))
plain_shows fs n e h = subst⁻¹ (Shows fs) (plain_bits fs n e) (side_shows fs h)

-- fields one after the other
pub plain_append : (fs gs : List Field) (n m : ℕ) → widths fs ≡ 8 * n → widths gs ≡ 8 * m → All FitsField gs → plain (fs ++ gs) ≡ plain fs ++ plain gs
plain_append fs gs n m e d h =
    let w : widths (fs ++ gs) ≡ 8 * (n + m) = omega (arith, widths_append fs gs) in
    bits_of_one (plain (fs ++ gs)) (plain fs ++ plain gs) (plain_bytes (fs ++ gs)) (all_append (◌< 256) (plain fs) (plain gs) (plain_bytes fs) (plain_bytes gs))
    (plain_bits (fs ++ gs) (n + m) w ∙ ap₂ bits (widths_append fs gs) (side_append fs gs)
    ∙ bits_join (widths fs) (widths gs) (side_by_side fs) (side_by_side gs) (side_lt gs h)
    ∙ sym (ap₂ (λ x y. x ++ y) (plain_bits fs n e) (plain_bits gs m d)) ∙ sym (bits_of_append (plain fs) (plain gs)))

-- fields that stand in bits have values that fit
pub shows_fits : (fs : List Field) (bs : List ℕ) → Shows fs bs → All FitsField fs
shows_fits [] bs s = tt
shows_fits (f ∷ fs) bs s = let (x, rest, h, b, e, more) = s in (holds_fits f x h b, shows_fits fs rest more)

-- ---- settings

-- CANONICAL: a setting whose values fit is written with reserved bits 0
pub canonical_written : (c : Coding) (s : Setting) → Fits c s → Written c s (canonical c s)
canonical_written c s h = let (n, e) = whole c s in plain_shows (fields c s) n e h

-- its length is DataLength + 1
pub canonical_length : (c : Coding) (s : Setting) → length (canonical c s) ≡ suc (data_length c s)
canonical_length c s = let (n, e) = body_whole c s in omega (arith, plain_length (fields c s) (3 + n) (omega arith))

-- settings whose values fit are written one after the other
pub canonical_all_written : (c : Coding) (ss : List Setting) → All (Fits c) ss → WrittenAll c ss (canonical_all c ss)
canonical_all_written c [] h = refl
canonical_all_written c (s ∷ ss) h = (canonical c s, canonical_all c ss, refl, canonical_written c s h.0, canonical_all_written c ss h.1)

-- HAS A WRITING: a setting that has a writing fits, so exactly those whose values fit have one
pub has_writing : (c : Coding) (s : Setting) (bs : List ℕ) → Written c s bs → Fits c s
has_writing c s bs w = shows_fits (fields c s) (bits_of bs) w
