-- A setting's texts under a coding type: what their units may be, and that a setting without texts is written alike under all. Assumes nothing.
use Rattle.lists.proofs.Kit.{ℕ, zero, suc, ◌^◌, ◌≤◌, ◌<◌, ◌≡◌, refl, subst, ◌≢◌, List, [], ◌∷◌, map, cons≢nil, arith, get_or}
use Rattle.lists.specs.Every.{All}
use Rattle.lists.proofs.Every.{all_left, all_right, all_turn, all_map}
use Rattle.writing.specs.Canonical.{FitsField, Fits}
use Rattle.writing.specs.Fields.{bits_of, Field, val, item, each, Shows}
use Rattle.writing.specs.declared.Coding.{Coding}
use Rattle.writing.specs.Settings.{Text, Setting, group_contacts, individual_contacts, lines, key, quick_texts, home, channels, system, status_texts, group, individual, line_slot, last, texts, eight_bit}
use Rattle.writing.specs.Writing.{unit_width, text, number, addressed, contact, quick_text, status_text, fields, Written}
use Rattle.writing.proofs.CanonicalLaws.{has_writing}

-- a unit that may stand in a text
abbrev pub UnitOk : Coding → ℕ → Type 0
UnitOk c u = (u ≢ 0) × (u < 2 ^ unit_width c)

-- the units of a text that fits
pub units_fit : (c : Coding) (us : Text) → All FitsField (text c us) → All (UnitOk c) us
units_fit c us p = go us (all_left FitsField (map (item (unit_width c) 0) us) (val (unit_width c) 0 ∷ []) p)
  where
    go : (vs : Text) → All FitsField (map (item (unit_width c) 0) vs) → All (UnitOk c) vs
    go [] q = tt
    go (v ∷ vs) q = ((q.0.1, q.0.0), go vs q.1)

-- the fields of each entry
pub fits_each : {A : Type 0} (f : A → List Field) (es : List A) → All FitsField (each f es) → All (λ e. All FitsField (f e)) es
fits_each f [] p = tt
fits_each f (e ∷ es) p = (all_left FitsField (f e) (each f es) p, fits_each f es (all_right FitsField (f e) (each f es) p))

-- the texts of entries, by where the text of an entry stands in its fields
entries_fit : {A : Type 0} (c : Coding) (f : A → List Field) (text_of : A → Text) → ((e : A) → All FitsField (f e) → All FitsField (text c (text_of e)))
    → (es : List A) → All FitsField (each f es) → All (All (UnitOk c)) (map text_of es)
entries_fit c f text_of h es p =
    all_map (λ e. All FitsField (f e)) (All (UnitOk c)) text_of (λ e q. units_fit c (text_of e) (h e q)) es (fits_each f es p)

-- the texts of a setting that fits
pub texts_fit : (c : Coding) (s : Setting) → Fits c s → All (All (UnitOk c)) (texts s)
texts_fit c (group_contacts o f es) p =
    entries_fit c (addressed (λ a. a.0) c) (λ e. e.text) (λ e q. q.1) es p.1.1.1.1.1.1.1.1.1.1.1
texts_fit c (individual_contacts o f es) p =
    entries_fit c (addressed (λ a. a.0) c) (λ e. e.text) (λ e q. q.1) es p.1.1.1.1.1.1.1.1
texts_fit c (lines o f es) p =
    entries_fit c (contact c) (λ e. e.text) (λ e q. all_right FitsField (number e.number) (text c e.text) q) es p.1.1.1.1.1.1.1.1.1
texts_fit c (key t f) p = tt
texts_fit c (quick_texts o es) p = entries_fit c (quick_text c) (λ e. e.text) (λ e q. q.1.1) es p.1.1.1.1
texts_fit c (home h) p = tt
texts_fit c (channels o es) p = tt
texts_fit c (system s) p = tt
texts_fit c (status_texts o es) p = entries_fit c (status_text c) (λ e. e.text) (λ e q. q.1) es p.1.1.1.1.1
texts_fit c (group o f s) p = (units_fit c s.text p.1.1.1.1.1.1.1.1.1.1.1.1, tt)
texts_fit c (individual o f s) p = (units_fit c s.text p.1.1.1.1.1.1.1.1.1, tt)
texts_fit c (line_slot o f s) p =
    (units_fit c s.text (all_right FitsField (number s.address) (text c s.text) p.1.1.1.1.1.1.1.1.1), tt)
texts_fit c (last f h) p = tt

-- an element that is there, or what stands for one that is not
all_at : {A : Type 0} (P : A → Type 0) (xs : List A) (k : ℕ) (d : A) → P d → All P xs → P (get_or xs k d)
all_at P [] k d h p = h
all_at P (x ∷ xs) zero d h p = p.0
all_at P (x ∷ xs) (suc k) d h p = all_at P xs k d h p.1

-- NO WRITING ABOVE 255: "A text with a unit above 255 has no writing under 0100", be it the unit j of the text i
pub no_writing_above_255 : (s : Setting) (i j : ℕ) (bs : List ℕ) → 255 < get_or (get_or (texts s) i []) j 0 → Written eight_bit s bs → ⊥
no_writing_above_255 s i j bs h w =
    let small : All (◌≤ 255) (get_or (texts s) i []) =
    all_at (All (◌≤ 255)) (texts s) i [] tt
    (all_turn (All (UnitOk eight_bit)) (All (◌≤ 255)) (λ us. all_turn (UnitOk eight_bit) (◌≤ 255) (λ u q. omega (arith, q.1)) us) (texts s) (texts_fit eight_bit s (has_writing eight_bit s bs w)))
    in omega (arith, all_at (◌≤ 255) (get_or (texts s) i []) j 0 (omega arith) small)

-- a setting without texts has the same fields under every coding type
same_fields : (c d : Coding) (s : Setting) → texts s ≡ [] → fields c s ≡ fields d s
same_fields c d (group_contacts o f []) e = refl
same_fields c d (group_contacts o f (x ∷ es)) e = absurd (cons≢nil e)
same_fields c d (individual_contacts o f []) e = refl
same_fields c d (individual_contacts o f (x ∷ es)) e = absurd (cons≢nil e)
same_fields c d (lines o f []) e = refl
same_fields c d (lines o f (x ∷ es)) e = absurd (cons≢nil e)
same_fields c d (key t f) e = refl
same_fields c d (quick_texts o []) e = refl
same_fields c d (quick_texts o (x ∷ es)) e = absurd (cons≢nil e)
same_fields c d (home h) e = refl
same_fields c d (channels o es) e = refl
same_fields c d (system s) e = refl
same_fields c d (status_texts o []) e = refl
same_fields c d (status_texts o (x ∷ es)) e = absurd (cons≢nil e)
same_fields c d (group o f s) e = absurd (cons≢nil e)
same_fields c d (individual o f s) e = absurd (cons≢nil e)
same_fields c d (line_slot o f s) e = absurd (cons≢nil e)
same_fields c d (last f h) e = refl

-- WITHOUT TEXTS: what a setting without texts is written as under one coding type, it is written as under every other
pub without_texts : (c d : Coding) (s : Setting) (bs : List ℕ) → texts s ≡ [] → Written c s bs → Written d s bs
without_texts c d s bs e w = subst (λ (fs : List Field). Shows fs (bits_of bs)) (same_fields c d s e) w
