-- Parts of the store, and where a text in one ends. Assumes nothing.
use Rattle.lists.proofs.Kit.{ℕ, zero, suc, ◌+◌, ◌*◌, ◌≤◌, ◌<◌, ◌≡◌, refl, sym, ap, ◌∙◌, List, [], ◌∷◌, ◌++◌, map, none, some, not-suc-le-zero, le_of_suc-le-suc, arith, mid_of, length, take, drop, get_or, get_or-take, get_or-drop, take-take, take-nil, drop-drop}
use Rattle.lists.proofs.Every.{all_made}
use Rattle.slots.specs.Slots.{pad, front, u16, zeros?, bytes_before, Found}
use Rattle.slots.proofs.Numbers.{u16_shown}
use Rattle.writing.specs.Settings.{Text}
use Rattle.tables.specs.Allowed.{TextOk}
use Rattle.tables.specs.Layout.{text_bytes}
use Rattle.screen.specs.Rows.{unit_bytes}

-- ---- parts of parts

-- a part of what was cut off
take_part : (l : List ℕ) (n i j : ℕ) → i + j ≤ n → take j (drop i (take n l)) ≡ take j (drop i l)
take_part l n zero j h = take-take j n l (omega arith)
take_part [] n (suc i) j h = ap (λ k. take j (drop (suc i) k)) (take-nil n)
take_part (x ∷ l) zero (suc i) j h = absurd (omega arith)
take_part (x ∷ l) (suc n) (suc i) j h = take_part l n i j (omega arith)

-- a part of a part is a part of the whole
pub part_part : (s : List ℕ) (b n i j : ℕ) → i + j ≤ n → mid_of i j (mid_of b n s) ≡ mid_of (b + i) j s
part_part s b n i j h = take_part (drop b s) n i j h ∙ ap (take j) (drop-drop i b s)

-- and a part of what is known
pub part_known : (s x : List ℕ) (b n i j : ℕ) → mid_of b n s ≡ x → i + j ≤ n → mid_of (b + i) j s ≡ mid_of i j x
part_known s x b n i j e h = sym (part_part s b n i j h) ∙ ap (mid_of i j) e

-- a part begins with its first byte
pub part_first : (s x : List ℕ) (b n : ℕ) → 0 < n → mid_of b n s ≡ x → get_or s b 0 ≡ get_or x 0 0
part_first s x b n h e =
    let z : b + 0 ≡ b = omega arith in
    ap (λ i. get_or s i 0) (sym z) ∙ sym (get_or-drop b s 0 0) ∙ sym (get_or-take n (drop b s) 0 0 h) ∙ ap (λ l. get_or l 0 0) e

-- ---- a text's end

-- the units of a text stand before the first that is 0
units_before : (n : ℕ) (us : Text) → TextOk n us → bytes_before zeros? (map u16 (pad 0 n us)) ≡ 2 * length us
units_before zero [] ok = refl
units_before zero (u ∷ us) ok = absurd (not-suc-le-zero ok.short)
units_before (suc n) [] ok = refl
units_before (suc n) (u ∷ us) ok =
    let i = units_before n us (record { short = le_of_suc-le-suc ok.short; units = ok.units.1 }) in
    rw (u16_shown u ok.units.0.0) (omega (arith, i))

-- so a search for it finds where the text ends
pub text_ends : (n : ℕ) (us : Text) (s : List ℕ) (r : ℕ) → TextOk n us → s ≡ text_bytes n us → Found (0 < 2) zeros? 2 s r → r ≡ 2 * length us
text_ends n us s r ok e f =
    f.first (omega arith) (map u16 (pad 0 n us)) (all_made (λ x. length x ≡ 2) u16 (λ u. refl) (pad 0 n us)) e ∙ units_before n us ok

-- and its units stand in front of it
pub text_front : (n : ℕ) (us : Text) → length us ≤ n → take (2 * length us) (text_bytes n us) ≡ unit_bytes us
text_front n [] h = refl
text_front zero (u ∷ us) h = absurd (not-suc-le-zero h)
text_front (suc n) (u ∷ us) h =
    let e : 2 * suc (length us) ≡ suc (suc (2 * length us)) = omega arith in
    ap (λ k. take k (u16 u ++ text_bytes n us)) e ∙ ap (λ l. u16 u ++ l) (text_front n us (le_of_suc-le-suc h))

-- ---- entries from the front

-- an entry's place in a list table is its position
pub front_get : {A : Type 0} (n : ℕ) (ls : List A) (i : ℕ) → i < n → get_or (front n ls) i none ≡ get_or (map some ls) i none
front_get zero ls i h = absurd (not-suc-le-zero h)
front_get (suc n) [] zero h = refl
front_get (suc n) [] (suc i) h = front_get n [] i (le_of_suc-le-suc h)
front_get (suc n) (a ∷ ls) zero h = refl
front_get (suc n) (a ∷ ls) (suc i) h = front_get n ls i (le_of_suc-le-suc h)
