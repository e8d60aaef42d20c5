-- Which parameter is an error, and where one may stand. Assumes nothing.
use denote.Enum.Declared.{tag_of}
use types.Run.{OneOf, miss}
use Rattle.lists.proofs.Kit.{ℕ, suc, ◌≤◌, ◌≡◌, refl, subst, subst⁻¹, Bool, true, false, not, not-true, not-false, eqb-true, eqb-false, eqb, List, [], ◌∷◌, none, some, ◌⊎◌, inl, inr, ⊎_elim, arith, length, ltb, ltb-true, ltb-false}
use Rattle.reports.specs.Items.{Item, group, individual, line, key, quick, home, channel, system, status, hash, unknown}
use Rattle.reports.specs.Reports.{Known, ErrorLast}
use Rattle.report_reading.specs.Reading.{Says}
use Rattle.report_reading.specs.Readers.{error?, Misplaced, HeadRefused}
use Rattle.report_reading.specs.declared.items.Item.{Item as Found}
use Rattle.report_reading.specs.contracts.items.Item.{the_type}
use Rattle.report_reading.specs.declared.items.Item.TheVariants.{Group, Individual, Line, Key, Quick, Home, Channel, System, Status, Hash, NoHash, Unknown}

-- ---- which is one

-- what the code leaves over when it has taken the error is none
pub no_error : (i : Found) → OneOf (0 ∷ 1 ∷ 2 ∷ 3 ∷ 4 ∷ 5 ∷ 6 ∷ 7 ∷ 8 ∷ 9 ∷ 10 ∷ []) (tag_of the_type i) → false ≡ error? i
no_error (Group p f a t) k = refl
no_error (Individual p f a t) k = refl
no_error (Line p f n t) k = refl
no_error (Key t f) k = refl
no_error (Quick i t) k = refl
no_error (Home h) k = refl
no_error (Channel n p) k = refl
no_error (System s) k = refl
no_error (Status c p t) k = refl
no_error (Hash p) k = refl
no_error NoHash k = refl
no_error (Unknown b) k = absurd (miss (0 ∷ 1 ∷ 2 ∷ 3 ∷ 4 ∷ 5 ∷ 6 ∷ 7 ∷ 8 ∷ 9 ∷ 10 ∷ []) 11 tt k)

-- whether a parameter is an error
abbrev pub ErrorIs : Item → Bool → Type 0
ErrorIs i true = Known i → ⊥
ErrorIs i false = Known i

-- what was read of a parameter tells whether it is one
pub error_is : (m : List ℕ) (next : ℕ) (i : Item) (r : Found) → Says m next i r → ErrorIs i (error? r)
error_is m next (group p g) r (t, e, s) = subst⁻¹ (λ (z : Found). ErrorIs (group p g) (error? z)) e tt
error_is m next (individual p x) r (t, e, s) = subst⁻¹ (λ (z : Found). ErrorIs (individual p x) (error? z)) e tt
error_is m next (line p l) r (n, t, e, s, u) = subst⁻¹ (λ (z : Found). ErrorIs (line p l) (error? z)) e tt
error_is m next (key k) r e = subst⁻¹ (λ (z : Found). ErrorIs (key k) (error? z)) e tt
error_is m next (quick i us) r (t, e, s) = subst⁻¹ (λ (z : Found). ErrorIs (quick i us) (error? z)) e tt
error_is m next (home h) r e = subst⁻¹ (λ (z : Found). ErrorIs (home h) (error? z)) e tt
error_is m next (channel n p) r e = subst⁻¹ (λ (z : Found). ErrorIs (channel n p) (error? z)) e tt
error_is m next (system s) r e = subst⁻¹ (λ (z : Found). ErrorIs (system s) (error? z)) e tt
error_is m next (status c p us) r (t, e, s) = subst⁻¹ (λ (z : Found). ErrorIs (status c p us) (error? z)) e tt
error_is m next (hash none) r e = subst⁻¹ (λ (z : Found). ErrorIs (hash none) (error? z)) e tt
error_is m next (hash (some h)) r (p, e, s) = subst⁻¹ (λ (z : Found). ErrorIs (hash (some h)) (error? z)) e tt
error_is m next (unknown b) r e = subst⁻¹ (λ (z : Found). ErrorIs (unknown b) (error? z)) e (λ k. k)

-- ---- where one may stand

-- the last that is left decides in the last message
pub misplaced_by : {error last : Bool} (left : ℕ) (r : Bool) → error ≡ true → last ≡ true → not (eqb left 1) ≡ r → Misplaced error left last r
misplaced_by left true e l d = (e, λ k z. eqb-false left 1 (not-true (eqb left 1) d) z)
misplaced_by left false e l d = inr (eqb-true left 1 (not-false (eqb left 1) d), l)

-- an entry, or the last that is left where an error may be last
abbrev pub Placed : Item → ℕ → Type 0 → Type 0
Placed i left Last = Known i ⊎ ((left ≡ 1) × Last)

pub placed : (i : Item) (error last r : Bool) (left : ℕ) → ErrorIs i error → Misplaced error left last r → r ≡ false → Placed i left (last ≡ true)
placed i error last r left k w d =
    ⊎_elim (λ e. inl (subst (ErrorIs i) e k)) (λ x. inr x) (subst (Misplaced error left last) d w)

pub not_placed : (i : Item) (error last r : Bool) (left : ℕ) → ErrorIs i error → Misplaced error left last r → r ≡ true → Placed i left (last ≡ true) → ⊥
not_placed i error last r left k w d =
    let (e, n) = subst (Misplaced error left last) d w in
    ⊎_elim (λ o. subst (ErrorIs i) e k o) (λ x. n x.1 x.0)

-- a parameter before those that are left
module _ (Last : Type 0) where
  pub last_back : (i : Item) (l : List Item) → Placed i (suc (length l)) Last → ErrorLast Last l → ErrorLast Last (i ∷ l)
  last_back i [] (inl k) h = inl k
  last_back i [] (inr x) h = inr x.1
  last_back i (j ∷ l) (inl k) h = (k, h)
  last_back i (j ∷ l) (inr x) h = absurd (omega (arith, x.0))

  pub last_on : (i : Item) (l : List Item) → ErrorLast Last (i ∷ l) → Placed i (suc (length l)) Last × ErrorLast Last l
  last_on i [] (inl k) = (inl k, tt)
  last_on i [] (inr x) = (inr (refl, x), tt)
  last_on i (j ∷ l) h = (inl h.0, h.1)

-- ---- total, index and count

-- without parameters the total decides
pub head_by : (total index count : ℕ) (r : Bool) → 1 ≤ index → index ≤ total → count ≤ 0 → ltb 1 total ≡ r → HeadRefused total index count r
head_by total index count true l h z d = λ k. ⊎_elim (λ o. omega arith) (λ e. omega (arith, ltb-true 1 total d)) k.some_item
head_by total index count false l h z d = record { from_1 = l; to_total = h; some_item = inr (omega (arith, ltb-false 1 total d)) }
