-- Texts, how many units they have, and digits: which bytes are theirs. Assumes nothing.
use Rattle.lists.proofs.Kit.{◌≡◌, refl, sym, ap, ap₂, ◌∙◌, subst, Bool, true, false, ◌&&◌, not, cond, true≢false, false≢true, ◌↔◌, ◌≢◌, Option, none, some, List, [], ◌∷◌, map, head-eq_of_cons-eq, ℕ, zero, suc, ◌+◌, ◌*◌, ◌-◌, ◌≤◌, ◌<◌, suc-mul, arith, ne_eqb, eqb, eqb-true, leb-true, le-leb, add-one, drop-cons, not-false, mid_of, leb, length, take, drop, get_or, length-drop, length-append, length-take-le, not-true}
use Rattle.lists.specs.Bytes.{Bytes}
use Rattle.lists.proofs.Bytes.{bytes_take, bytes_drop}
use Rattle.lists.specs.Every.{All}
use Rattle.lists.proofs.Bools.{and_parts}
use Rattle.slots.specs.Slots.{flat, pad, Slots, bytes_before, slot, places, front, zeros?, u16, Present, EntryOf, SlotOf, PlacesOf, ListOf, Found}
use Rattle.slots.proofs.Numbers.{u16_of, u16_shown}
use Rattle.slots.proofs.Runs.{still_more, still_all, zeros_are}
use Rattle.slots.proofs.Tables.{flat_pad, front_bytes}
use Rattle.slots.proofs.Walks.{places_none, places_cons, places_uncons}
use Rattle.writing.specs.Ranges.{InNumber}
use Rattle.writing.specs.Settings.{Text, Number}
use Rattle.tables.specs.Allowed.{TextOk}
use Rattle.tables.specs.Layout.{text_bytes, digit_bytes}
use Rattle.tables.proofs.AnswerLaws.{turned, leb_is}
use Rattle.store_check.specs.declared.forms.Form.{Form}
use Rattle.store_check.specs.Checks.{shown?, units?, digit_then?, digits_fall?, TextIs, text_in}
use Rattle.store_check.proofs.CheckLaws.{rest_is}
use Rattle.store_check.proofs.FrontLaws.{front_is, list_places}

-- ---- slots that any bytes are

-- where each slot of bytes is one of the table's, so are all
pub places_any : {A : Type 0} (P : A → Type 0) (w : ℕ) (f : A → List ℕ) → ((x : List ℕ) → length x ≡ w → Bytes x → SlotOf P w f x) → (n : ℕ) (s : List ℕ) → length s ≡ n * w → Bytes s → PlacesOf P w f n s
places_any P w f h zero s l b = places_none P w f s l
places_any P w f h (suc n) s l b =
    let k : length s ≡ n * w + w = l ∙ suc-mul n w in
    places_cons P w f n s (h (take w s) (length-take-le w s (omega arith)) (bytes_take w s b))
    (places_any P w f h n (drop w s) (omega (arith, length-drop w s)) (bytes_drop w s b))

-- ---- texts

-- a unit of a text
abbrev UnitOk : ℕ → Type 0
UnitOk u = (u ≢ 0) × (u < 65536)

-- two bytes are a unit, or the place of none
unit_slot : (x : List ℕ) → length x ≡ 2 → Bytes x → SlotOf UnitOk 2 u16 x
unit_slot [] l b = absurd (omega arith)
unit_slot (h ∷ []) l b = absurd (omega arith)
unit_slot (h ∷ k ∷ m ∷ x) l b = absurd (omega arith)
unit_slot (h ∷ k ∷ []) l b = go (zeros? (h ∷ k ∷ [])) refl
  where
    go : (z : Bool) → zeros? (h ∷ k ∷ []) ≡ z → SlotOf UnitOk 2 u16 (h ∷ k ∷ [])
    go true z = record { entry = none; holds = tt; bytes = zeros_are (h ∷ k ∷ []) z }
    go false z =
        let c : h < 256 = b 0 in
        let d : k < 256 = b 1 in
        let e : u16 (h * 256 + k) ≡ h ∷ k ∷ [] = u16_of h k d in
        let g : h * 256 + k ≢ 0 = λ q. true≢false (sym (ap (λ (u : ℕ). zeros? (u16 u)) q) ∙ ap zeros? e ∙ z) in
        record { entry = some (h * 256 + k); holds = (g, omega arith); bytes = sym e }

-- a text is a list of units
text_list : (n : ℕ) (us : Text) → text_bytes n us ≡ places 2 u16 (front n us)
text_list n us = flat_pad 2 u16 (λ u. refl) 0 refl n us ∙ sym (front_bytes 2 u16 (λ u. refl) n us)

-- and such a list is a text
text_units : (n : ℕ) (s : List ℕ) → ListOf UnitOk 2 u16 n s ↔ EntryOf (TextOk n) (text_bytes n) s
text_units n s = (
  λ t. record { entry = t.entries; holds = record { short = t.listed.few; units = t.listed.each }; bytes = t.listed.bytes ∙ sym (text_list n t.entries) },
  λ x. record { entries = x.entry; listed = record { few = x.holds.short; each = x.holds.units; bytes = x.bytes ∙ text_list n x.entry } },
)

-- bytes are a text where they are zeros from the first unit 0 on
pub text_is : (n : ℕ) (s : List ℕ) (r : ℕ) → length s ≡ n * 2 → Bytes s → Found (0 < 2) zeros? 2 s r → (b : Bool) → b ≡ zeros? (mid_of r (length s - r) s) → (b ≡ true) ↔ EntryOf (TextOk n) (text_bytes n) s
text_is n s r l c found b e =
    let p = places_any UnitOk 2 u16 unit_slot n s l c in
    let f = front_is UnitOk 2 u16 (λ u. refl) (λ u h. u16_shown u h.0) (omega arith) n s r found in
    let z : b ≡ zeros? (drop r s) = e ∙ ap zeros? (rest_is s r (length s - r) (omega arith)) in
    let t = text_units n s in (
      λ y. t.0 (f.0 (p, sym z ∙ y)),
      λ x. z ∙ (f.1 (t.1 x)).1,
    )

-- where no unit is 0 there is no first one
all_before : (xs : List (List ℕ)) → Slots 2 xs → units? (flat xs) ≡ true → bytes_before zeros? xs ≡ length (flat xs)
all_before [] p u = refl
all_before ([] ∷ xs) p u = absurd (omega (arith, p.0))
all_before ((h ∷ []) ∷ xs) p u = absurd (omega (arith, p.0))
all_before ((h ∷ k ∷ m ∷ x) ∷ xs) p u = absurd (omega (arith, p.0))
all_before ((h ∷ k ∷ []) ∷ xs) p u =
    let q = and_parts (shown? h k) (units? (flat xs)) u in
    let z : zeros? (h ∷ k ∷ []) ≡ false = not-true (zeros? (h ∷ k ∷ [])) q.0 in
    rw z (ap (λ (i : ℕ). length (h ∷ k ∷ []) + i) (all_before xs p.1 q.1) ∙ sym (length-append (h ∷ k ∷ []) (flat xs)))

-- and the bytes are a text as long as its place
pub text_full : (n : ℕ) (s : List ℕ) → length s ≡ n * 2 → Bytes s → units? s ≡ true → EntryOf (TextOk n) (text_bytes n) s
text_full n s l c u =
    let found : Found (0 < 2) zeros? 2 s (length s)
    = record { within = omega arith; first = λ h xs p e. ap length e ∙ sym (all_before xs p (ap units? (sym e) ∙ u)); cannot = λ no. absurd (no (omega arith)) } in
    let k : 0 ≡ length s - length s = omega arith in
    (text_is n s (length s) l c found true (ap (λ (i : ℕ). zeros? (take i (drop (length s) s))) k)).0 refl

-- ---- how many units a text has

-- a byte is a number of at most n
pub units_is : (n : ℕ) (s : List ℕ) → length s ≡ 1 → (leb (get_or s 0 0) n ≡ true) ↔ EntryOf (◌≤ n) (λ u. u ∷ []) s
units_is n [] l = absurd (omega arith)
units_is n (u ∷ x ∷ s) l = absurd (omega arith)
units_is n (u ∷ []) l = turned (leb u n) (leb_is u n) (λ h. record { entry = u; holds = h; bytes = refl }) (λ x. subst (◌≤ n) (sym (head-eq_of_cons-eq x.bytes)) x.holds)

-- what stands for a text in one form does so in the form that it is
pub text_told : (b : Bool) (n : ℕ) (s : List ℕ) (f g : Form) → f ≡ g → (b ≡ true) ↔ EntryOf (TextIs g n) (text_in g n) s → (b ≡ true) ↔ EntryOf (TextIs f n) (text_in f n) s
text_told b n s f g e h = subst (λ (v : Form). (b ≡ true) ↔ EntryOf (TextIs v n) (text_in v n) s) (sym e) h

-- ---- digits

-- a digit's byte
abbrev digit_byte : ℕ → List ℕ
digit_byte d = suc d ∷ []

-- it is not 0
pub digit_shown : (d : ℕ) → zeros? (digit_byte d) ≡ false
digit_shown d = ap (λ (t : Bool). t && true) (ne_eqb (suc d) 0 (λ e. omega arith))

-- bytes up to 10 are digits and places of none
ten_places : (s : List ℕ) → All (λ x. x ≤ 10) s → PlacesOf (◌≤ 9) 1 digit_byte (length s) s
ten_places [] p = places_none (◌≤ 9) 1 digit_byte [] refl
ten_places (zero ∷ s) p = places_cons (◌≤ 9) 1 digit_byte (length s) (zero ∷ s) (record { entry = none; holds = tt; bytes = refl }) (ten_places s p.1)
ten_places (suc d ∷ s) p = places_cons (◌≤ 9) 1 digit_byte (length s) (suc d ∷ s) (record { entry = some d; holds = omega (arith, p.0); bytes = refl }) (ten_places s p.1)

-- such a place is a byte up to 10
ten_byte : (x : ℕ) (o : Option ℕ) → Present (◌≤ 9) o → x ∷ [] ≡ slot 1 digit_byte o → x ≤ 10
ten_byte x none p e = let q : x ≡ 0 = head-eq_of_cons-eq e in omega arith
ten_byte x (some d) p e = let q : x ≡ suc d = head-eq_of_cons-eq e in omega arith

-- and so are they
places_ten : (s : List ℕ) → PlacesOf (◌≤ 9) 1 digit_byte (length s) s → All (λ x. x ≤ 10) s
places_ten [] t = tt
places_ten (x ∷ s) t =
    let u = places_uncons (◌≤ 9) 1 digit_byte (λ d. refl) (length s) (x ∷ s) t in
    (ten_byte x u.0.entry u.0.holds u.0.bytes, places_ten s u.1)

-- digits' bytes are one more than they
digits_flat : (ds : Number) → flat (map digit_byte ds) ≡ map suc ds
digits_flat [] = refl
digits_flat (d ∷ ds) = ap (λ (l : List ℕ). suc d ∷ l) (digits_flat ds)

-- a number is a list of digits
digit_list : (ds : Number) → digit_bytes ds ≡ places 1 digit_byte (front 18 ds)
digit_list ds = ap (pad 0 18) (sym (digits_flat ds)) ∙ sym (front_bytes 1 digit_byte (λ d. refl) 18 ds)

-- so its bytes are a list table
number_digits : (s : List ℕ) → EntryOf InNumber digit_bytes s → ListOf (◌≤ 9) 1 digit_byte 18 s
number_digits s x = record { entries = x.entry; listed = record { few = x.holds.1; each = x.holds.2; bytes = x.bytes ∙ digit_list x.entry } }

-- its first digit is there
pub digits_first : (s : List ℕ) → EntryOf InNumber digit_bytes s → get_or s 0 0 ≢ 0
digits_first s x e = go x.entry x.holds.0 (ap (λ (l : List ℕ). get_or l 0 0) (sym x.bytes) ∙ e)
  where
    go : (ds : Number) → 1 ≤ length ds → get_or (digit_bytes ds) 0 0 ≡ 0 → ⊥
    go [] h q = omega arith
    go (d ∷ ds) h q = omega arith

module _ (s : List ℕ) (r : ℕ) (l : length s ≡ 18) (found : Found (0 < 1) zeros? 1 s r) where
  -- where the digits end zeros begin
  digits_end : (PlacesOf (◌≤ 9) 1 digit_byte 18 s × (zeros? (drop r s) ≡ true)) ↔ ListOf (◌≤ 9) 1 digit_byte 18 s
  digits_end = front_is (◌≤ 9) 1 digit_byte (λ d. refl) (λ d h. digit_shown d) (omega arith) 18 s r found

  -- bytes up to 10, the first not 0, are a number where they are zeros from the first 0 on
  digits_is : get_or s 0 0 ≢ 0 → All (λ x. x ≤ 10) s → (b : Bool) → b ≡ zeros? (mid_of r (length s - r) s) → (b ≡ true) ↔ EntryOf InNumber digit_bytes s
  digits_is h t b e = (λ y. made (digits_end.0 (subst (λ (n : ℕ). PlacesOf (◌≤ 9) 1 digit_byte n s) l (ten_places s t), sym z ∙ y)), λ x. z ∙ (digits_end.1 (number_digits s x)).1)
    where
      z : b ≡ zeros? (drop r s)
      z = e ∙ ap zeros? (rest_is s r (length s - r) (omega arith))

      some_digit : (ds : Number) → s ≡ digit_bytes ds → 1 ≤ length ds
      some_digit [] q = absurd (h (ap (λ (l : List ℕ). get_or l 0 0) q))
      some_digit (d ∷ ds) q = omega arith

      made : ListOf (◌≤ 9) 1 digit_byte 18 s → EntryOf InNumber digit_bytes s
      made u =
          let q : s ≡ digit_bytes u.entries = u.listed.bytes ∙ sym (digit_list u.entries) in
          record { entry = u.entries; holds = (some_digit u.entries q, u.listed.few, u.listed.each); bytes = q }

-- a number's bytes are up to 10
digits_ten : (s : List ℕ) → length s ≡ 18 → EntryOf InNumber digit_bytes s → All (λ x. x ≤ 10) s
digits_ten s l x = places_ten s (subst (λ (n : ℕ). PlacesOf (◌≤ 9) 1 digit_byte n s) (sym l) (list_places (◌≤ 9) 1 digit_byte 18 s (number_digits s x)))

-- ---- digits, looked at by pairs

-- a digit decides
pub falls_high : (b : Bool) (x y : ℕ) → b ≡ true → x ≢ 0 → leb x 10 ≡ (b && digit_then? x y)
falls_high false x y t n = absurd (false≢true t)
falls_high true x y t n = ap (λ (c : Bool). cond c (eqb y 0) (leb x 10)) (sym (ne_eqb x 0 n))

-- 0 leaves it to the next
pub falls_low : (b : Bool) (x y : ℕ) → b ≡ true → x ≡ 0 → eqb y 0 ≡ (b && digit_then? x y)
falls_low false x y t e = absurd (false≢true t)
falls_low true x y t e = ap (λ (z : ℕ). cond (eqb z 0) (eqb y 0) (leb z 10)) (sym e)

-- FALLS-MORE: what is left to ask after one more
pub falls_more : (s : List ℕ) (i : ℕ) (all b : Bool) → i + 1 < length s → digits_fall? s ≡ (all && digits_fall? (drop i s)) → b ≡ (all && digit_then? (get_or s i 0) (get_or s (i + 1) 0)) → digits_fall? s ≡ (b && digits_fall? (drop (i + 1) s))
falls_more s i all b h q e =
    let r : List ℕ = drop (suc (i + 1)) s in
    let u : drop (i + 1) s ≡ get_or s (i + 1) 0 ∷ r = drop-cons s (i + 1) 0 h in
    let v : drop i s ≡ get_or s i 0 ∷ get_or s (i + 1) 0 ∷ r
    = drop-cons s i 0 (omega arith) ∙ ap (λ (l : List ℕ). get_or s i 0 ∷ l) (ap (λ (j : ℕ). drop j s) (sym (add-one i)) ∙ u) in
    q ∙ ap (λ (l : List ℕ). all && digits_fall? l) v ∙ still_more all (digit_then? (get_or s i 0) (get_or s (i + 1) 0)) (digits_fall? (get_or s (i + 1) 0 ∷ r))
    ∙ ap₂ (λ (c : Bool) (l : List ℕ). c && digits_fall? l) (sym e) (sym u)

-- one byte alone is the last
falls_none : (s : List ℕ) → length s ≤ 1 → digits_fall? s ≡ true
falls_none [] h = refl
falls_none (x ∷ []) h = refl
falls_none (x ∷ y ∷ s) h = absurd (omega arith)

-- FALLS-DONE: and nothing at the last
pub falls_done : (s : List ℕ) (i : ℕ) (all : Bool) → length s ≤ i + 1 → digits_fall? s ≡ (all && digits_fall? (drop i s)) → all ≡ digits_fall? s
falls_done s i all h q = sym (q ∙ ap (λ (b : Bool). all && b) (falls_none (drop i s) (omega (arith, length-drop i s))) ∙ still_all all)

-- with the last
abbrev kept? : List ℕ → Bool
kept? [] = true
kept? (x ∷ []) = leb x 10
kept? (x ∷ y ∷ s) = digit_then? x y && kept? (y ∷ s)

kept_last : (n : ℕ) (s : List ℕ) → length s ≡ suc n → kept? s ≡ (digits_fall? s && leb (get_or s n 0) 10)
kept_last n [] l = absurd (omega arith)
kept_last zero (x ∷ []) l = refl
kept_last (suc n) (x ∷ []) l = absurd (omega arith)
kept_last zero (x ∷ y ∷ s) l = absurd (omega arith)
kept_last (suc n) (x ∷ y ∷ s) l =
    ap (λ (b : Bool). digit_then? x y && b) (kept_last n (y ∷ s) (omega arith)) ∙ still_more (digit_then? x y) (digits_fall? (y ∷ s)) (leb (get_or (y ∷ s) n 0) 10)

-- behind 0 there are zeros
kept_zero : (s : List ℕ) → kept? (0 ∷ s) ≡ zeros? s
kept_zero [] = refl
kept_zero (zero ∷ s) = kept_zero s
kept_zero (suc d ∷ s) =
    let e = ne_eqb (suc d) 0 (λ e. omega arith) in
    ap (λ (b : Bool). b && kept? (suc d ∷ s)) e ∙ sym (ap (λ (b : Bool). b && zeros? s) e)

-- a digit is one, and what stands behind it is kept so
kept_digit : (d : ℕ) (s : List ℕ) → kept? (suc d ∷ s) ≡ (leb (suc d) 10 && kept? s)
kept_digit d [] = sym (still_all (leb (suc d) 10))
kept_digit d (y ∷ s) = ap (λ (b : Bool). cond b (eqb y 0) (leb (suc d) 10) && kept? (y ∷ s)) (ne_eqb (suc d) 0 (λ e. omega arith))

-- where the first 0 stands
first_zero : List ℕ → ℕ
first_zero [] = 0
first_zero (zero ∷ s) = 0
first_zero (suc d ∷ s) = suc (first_zero s)

first_within : (s : List ℕ) → first_zero s ≤ length s
unfolding first_zero
first_within [] = omega arith
first_within (zero ∷ s) = omega arith
first_within (suc d ∷ s) = omega (arith, first_within s)

first_is : (xs : List (List ℕ)) → Slots 1 xs → first_zero (flat xs) ≡ bytes_before zeros? xs
unfolding first_zero
first_is [] p = refl
first_is ([] ∷ xs) p = absurd (omega (arith, p.0))
first_is ((x ∷ y ∷ l) ∷ xs) p = absurd (omega (arith, p.0))
first_is ((zero ∷ []) ∷ xs) p = refl
first_is ((suc d ∷ []) ∷ xs) p = rw (digit_shown d) (omega (arith, first_is xs p.1))

-- zeros are up to 10
zeros_ten : (s : List ℕ) → zeros? s ≡ true → All (λ x. x ≤ 10) s
zeros_ten [] z = tt
zeros_ten (x ∷ s) z = let q = and_parts (eqb x 0) (zeros? s) z in (omega (arith, eqb-true x 0 q.0), zeros_ten s q.1)

-- such bytes are up to 10, and zeros from the first 0 on
kept_is : (s : List ℕ) → (kept? s ≡ true) ↔ (All (λ x. x ≤ 10) s × (zeros? (drop (first_zero s) s) ≡ true))
unfolding first_zero
kept_is [] = (λ e. (tt, refl), λ x. refl)
kept_is (zero ∷ s) = (λ e. let z = sym (kept_zero s) ∙ e in ((omega arith, zeros_ten s z), z), λ x. kept_zero s ∙ x.1)
kept_is (suc d ∷ s) =
    let r = kept_is s in (
      λ e. let q = and_parts (leb (suc d) 10) (kept? s) (sym (kept_digit d s) ∙ e) in let y = r.0 q.1 in ((leb-true (suc d) 10 q.0, y.0), y.1),
      λ x. kept_digit d s ∙ ap₂ (λ (a b : Bool). a && b) (le-leb (suc d) 10 x.0.0) (r.1 (x.0.1, x.1)),
    )

module _ (s : List ℕ) (l : length s ≡ 18) (h : get_or s 0 0 ≢ 0) where
  -- so they are a number's
  kept_number : (kept? s ≡ true) ↔ EntryOf InNumber digit_bytes s
  kept_number =
      let found : Found (0 < 1) zeros? 1 s (first_zero s)
      = record { within = first_within s; first = λ w xs p e. ap first_zero e ∙ first_is xs p; cannot = λ never. absurd (never (omega arith)) } in
      let z : zeros? (mid_of (first_zero s) (length s - first_zero s) s) ≡ zeros? (drop (first_zero s) s) = ap zeros? (rest_is s (first_zero s) (length s - first_zero s) (omega (arith, first_within s))) in (
        λ e. let k = (kept_is s).0 e in (digits_is s (first_zero s) l found h k.0 true (sym (z ∙ k.1))).0 refl,
        λ x.
            let t = digits_ten s l x in
            (kept_is s).1 (t, sym z ∙ (digits_is s (first_zero s) l found h t (zeros? (mid_of (first_zero s) (length s - first_zero s) s)) refl).1 x),
      )

  module _ (a : Bool) (e : a ≡ digits_fall? s) where
    -- DIGITS-GAP: not where they do not fall
    pub digits_gap : not a ≡ true → EntryOf InNumber digit_bytes s → ⊥
    digits_gap y x =
        let q = and_parts (digits_fall? s) (leb (get_or s 17 0) 10) (sym (kept_last 17 s l) ∙ kept_number.1 x) in
        true≢false (sym q.0 ∙ sym e ∙ not-true a y)

    -- DIGITS-LAST: else the last decides
    pub digits_last : not a ≡ false → (leb (get_or s 17 0) 10 ≡ true) ↔ EntryOf InNumber digit_bytes s
    digits_last y =
        let k : kept? s ≡ leb (get_or s 17 0) 10 = kept_last 17 s l ∙ ap (λ (b : Bool). b && leb (get_or s 17 0) 10) (sym e ∙ not-false a y) in
        (λ t. kept_number.0 (k ∙ t), λ x. sym k ∙ kept_number.1 x)
