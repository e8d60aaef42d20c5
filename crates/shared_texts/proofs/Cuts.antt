-- Texts in one area: they are cut from it by their numbers of units, and what is cut makes the area. Assumes nothing.
use Rattle.lists.proofs.Kit.{ℕ, zero, suc, ◌+◌, ◌-◌, ◌*◌, ◌/◌, ◌%◌, ◌≤◌, ◌<◌, ◌≡◌, refl, sym, ap, ap₂, ◌∙◌, subst, true, ◌↔◌, ◌≢◌, List, [], ◌∷◌, ◌++◌, map, append_assoc, append-nil, zero-add, arith, length, take, drop, get_or, replicate, length-append, length-drop, take-append-drop, drop_at, drop-drop, take-add, take_all, length-take-le}
use Rattle.lists.specs.Bytes.{Bytes}
use Rattle.lists.proofs.Bytes.{bytes_drop}
use Rattle.lists.specs.Every.{All}
use Rattle.lists.proofs.Every.{all_append, all_left, all_right, all_both, all_turn}
use Rattle.slots.specs.Slots.{flat, pad, zeros?, sum}
use Rattle.slots.proofs.Numbers.{u16_of}
use Rattle.slots.proofs.Pads.{pad_after, pad_is, pad_length, pad_nil}
use Rattle.slots.proofs.Runs.{zeros_all, zeros_are}
use Rattle.writing.specs.Settings.{Text}
use Rattle.tables.proofs.TextLaws.{Unit16}
use Rattle.tables.specs.Texts.{unit_bytes, units_of, area, front_units, cut, AreaFilled}

-- ---- how long

-- two bytes a unit
pub unit_bytes_length : (us : Text) → length (unit_bytes us) ≡ 2 * length us
unit_bytes_length [] = refl
unit_bytes_length (u ∷ us) = omega (arith, unit_bytes_length us)

-- texts one after another
pub texts_length : (ts : List Text) → length (flat (map unit_bytes ts)) ≡ 2 * units_of ts
texts_length [] = refl
texts_length (us ∷ ts) = omega (arith, length-append (unit_bytes us) (flat (map unit_bytes ts)), unit_bytes_length us, texts_length ts)

-- as many units as were asked for
pub front_units_length : (n : ℕ) (s : List ℕ) → length (front_units n s) ≡ n
front_units_length zero s = refl
front_units_length (suc n) s = ap suc (front_units_length n (drop 2 s))

-- CUT-LENGTHS: what is cut has the numbers of units that it was cut by
pub cut_lengths : (ns s : List ℕ) → map length (cut ns s) ≡ ns
cut_lengths [] s = refl
cut_lengths (n ∷ ns) s = ap₂ (λ (a : ℕ) (b : List ℕ). a ∷ b) (front_units_length n s) (cut_lengths ns (drop (2 * n) s))

-- ---- an area is its texts and zeros

-- bytes of which zeros follow the first n
pub pad_front : (n : ℕ) (s : List ℕ) → n ≤ length s → zeros? (drop n s) ≡ true → pad 0 (length s) (take n s) ≡ s
pad_front n s h z =
    let l : length (take n s) ≡ n = length-take-le n s h in
    let k : length s ≡ length (take n s) + length (drop n s) = omega (arith, length-drop n s) in
    let e : pad 0 (length (drop n s)) [] ≡ drop n s = pad_nil 0 (length (drop n s)) ∙ sym (zeros_are (drop n s) z) in
    ap₂ (λ (i : ℕ) (x : List ℕ). pad 0 i x) k (sym (append-nil (take n s)))
    ∙ pad_after 0 (take n s) [] (length (drop n s))
    ∙ ap (λ (x : List ℕ). take n s ++ x) e
    ∙ take-append-drop n s

-- where the texts fit, zeros follow them
pub area_is : (a : ℕ) (ts : List Text) → 2 * units_of ts ≤ a → area a ts ≡ flat (map unit_bytes ts) ++ replicate (a - 2 * units_of ts) 0
area_is a ts h =
    pad_is 0 a (flat (map unit_bytes ts))
    ∙ ap₂ (λ (x : List ℕ) (n : ℕ). x ++ replicate (a - n) 0) (take_all a (flat (map unit_bytes ts)) (omega (arith, texts_length ts))) (texts_length ts)

-- AREA-LENGTH: an area has its bytes
pub area_length : (a : ℕ) (ts : List Text) → length (area a ts) ≡ a
area_length a ts = pad_length 0 a (flat (map unit_bytes ts))

-- ---- cutting texts

-- a text is read where it stands
units_read : (us : Text) (x : List ℕ) → front_units (length us) (unit_bytes us ++ x) ≡ us
units_read [] x = refl
units_read (u ∷ us) x =
    let e : u / 256 * 256 + u % 256 ≡ u = omega arith in
    ap₂ (λ (a : ℕ) (b : Text). a ∷ b) e (units_read us x)

-- and so are texts one after another
texts_read : (ts : List Text) (x : List ℕ) → cut (map length ts) (flat (map unit_bytes ts) ++ x) ≡ ts
texts_read [] x = refl
texts_read (us ∷ ts) x =
    let s : List ℕ = flat (map unit_bytes ts) ++ x in
    let e : (unit_bytes us ++ flat (map unit_bytes ts)) ++ x ≡ unit_bytes us ++ s = append_assoc (unit_bytes us) (flat (map unit_bytes ts)) x in
    ap₂ (λ (a : Text) (b : List Text). a ∷ b)
    (ap (front_units (length us)) e ∙ units_read us s)
    (ap (λ (l : List ℕ). cut (map length ts) (drop (2 * length us) l)) e
    ∙ ap (cut (map length ts)) (drop_at (unit_bytes us) s (2 * length us) (unit_bytes_length us))
    ∙ texts_read ts x)

-- CUT-TEXTS: texts that fit are cut from their area by their lengths
pub cut_texts : (a : ℕ) (ts : List Text) → 2 * units_of ts ≤ a → cut (map length ts) (area a ts) ≡ ts
cut_texts a ts h = ap (cut (map length ts)) (area_is a ts h) ∙ texts_read ts (replicate (a - 2 * units_of ts) 0)

-- ---- an area from what is cut

-- units that were read are the bytes that they were read from
units_written : (n : ℕ) (s : List ℕ) → Bytes s → 2 * n ≤ length s → unit_bytes (front_units n s) ≡ take (2 * n) s
units_written zero s b h = refl
units_written (suc n) [] b h = absurd (omega arith)
units_written (suc n) (x ∷ []) b h = absurd (omega arith)
units_written (suc n) (x ∷ y ∷ s) b h =
    let e : 2 * suc n ≡ suc (suc (2 * n)) = omega arith in
    let r : unit_bytes (front_units n s) ≡ take (2 * n) s = units_written n s (λ i. b (suc (suc i))) (omega arith) in
    ap₂ (λ (p q : List ℕ). p ++ q) (u16_of x y (b 1)) r ∙ ap (λ (i : ℕ). take i (x ∷ y ∷ s)) (sym e)

-- and so are texts
texts_written : (ns s : List ℕ) → Bytes s → 2 * sum ns ≤ length s → flat (map unit_bytes (cut ns s)) ≡ take (2 * sum ns) s
texts_written [] s b h = refl
texts_written (n ∷ ns) s b h =
    let e : 2 * (n + sum ns) ≡ 2 * n + 2 * sum ns = omega arith in
    let d : length (drop (2 * n) s) ≡ length s - 2 * n = length-drop (2 * n) s in
    ap₂ (λ (p q : List ℕ). p ++ q) (units_written n s b (omega arith)) (texts_written ns (drop (2 * n) s) (bytes_drop (2 * n) s b) (omega arith))
    ∙ sym (ap (λ (i : ℕ). take i s) e ∙ take-add (2 * n) (2 * sum ns) s)

-- CUT-AREA: bytes that are zeros behind the units counted are the area of the texts cut from them
pub cut_area : (ns s : List ℕ) → Bytes s → 2 * sum ns ≤ length s → zeros? (drop (2 * sum ns) s) ≡ true → s ≡ area (length s) (cut ns s)
cut_area ns s b h z = sym (ap (pad 0 (length s)) (texts_written ns s b h) ∙ pad_front (2 * sum ns) s h z)

-- ---- units that are counted

-- n units and then m more
units_add : (n m : ℕ) (s : List ℕ) → front_units (n + m) s ≡ front_units n s ++ front_units m (drop (2 * n) s)
units_add zero m s = ap (λ (i : ℕ). front_units i s) (zero-add m)
units_add (suc n) m s =
    let e : suc n + m ≡ suc (n + m) = omega arith in
    let k : 2 + 2 * n ≡ 2 * suc n = omega arith in
    let d : drop (2 * n) (drop 2 s) ≡ drop (2 * suc n) s = drop-drop (2 * n) 2 s ∙ ap (λ (i : ℕ). drop i s) k in
    ap (λ (i : ℕ). front_units i s) e
    ∙ ap (λ (l : Text). (get_or s 0 0 * 256 + get_or s 1 0) ∷ l) (units_add n m (drop 2 s))
    ∙ ap (λ (l : List ℕ). ((get_or s 0 0 * 256 + get_or s 1 0) ∷ front_units n (drop 2 s)) ++ front_units m l) d

-- what all units counted are, those of every text are
pub cut_all : (P : ℕ → Type 0) (ns s : List ℕ) → All P (front_units (sum ns) s) ↔ All (All P) (cut ns s)
cut_all P [] s = (λ p. tt, λ p. tt)
cut_all P (n ∷ ns) s =
    let e : front_units (n + sum ns) s ≡ front_units n s ++ front_units (sum ns) (drop (2 * n) s) = units_add n (sum ns) s in
    let r = cut_all P ns (drop (2 * n) s) in (
      λ p. let q = subst (All P) e p in (all_left P (front_units n s) _ q, r.0 (all_right P (front_units n s) _ q)),
      λ p. subst (All P) (sym e) (all_append P (front_units n s) _ p.0 (r.1 p.1)),
    )

-- units read from bytes have 16 bits
units_small : (n : ℕ) (s : List ℕ) → Bytes s → All (◌< 65536) (front_units n s)
units_small zero s b = tt
units_small (suc n) s b = (omega (arith, b 0, b 1), units_small n (drop 2 s) (bytes_drop 2 s b))

-- ---- an area that is filled

-- so its texts' units are such as a text may have
pub filled_units : (ns s : List ℕ) → Bytes s → AreaFilled (sum ns) s → All (All Unit16) (cut ns s)
filled_units ns s b f = (cut_all Unit16 ns s).0 (all_both (λ u. u ≢ 0) (◌< 65536) Unit16 (λ u h k. (h, k)) (front_units (sum ns) s) f.units (units_small (sum ns) s b))

-- the area of texts that fit is
pub area_filled : (a : ℕ) (ts : List Text) → 2 * units_of ts ≤ a → All (All Unit16) ts → AreaFilled (units_of ts) (area a ts)
area_filled a ts h p =
    let e = area_is a ts h in
    record {
      room = omega (arith, area_length a ts);
      units = (cut_all (λ u. u ≢ 0) (map length ts) (area a ts)).1
          (subst (All (All (λ u. u ≢ 0))) (sym (cut_texts a ts h)) (all_turn (All Unit16) (All (λ u. u ≢ 0)) (λ us. all_turn Unit16 (λ u. u ≢ 0) (λ u q. q.0) us) ts p));
      rest = ap (λ (l : List ℕ). zeros? (drop (2 * units_of ts) l)) e
          ∙ ap zeros? (drop_at (flat (map unit_bytes ts)) (replicate (a - 2 * units_of ts) 0) (2 * units_of ts) (texts_length ts))
          ∙ zeros_all (a - 2 * units_of ts);
    }
