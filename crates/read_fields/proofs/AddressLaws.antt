-- Contacts with one kind of address, as contacts with another that has the same numbers: a group's, an individual's or the number itself. Assumes nothing.
use Rattle.lists.proofs.Kit.{ℕ, ◌≡◌, refl, ap, ◌∙◌, subst⁻¹, List, [], ◌∷◌, ◌++◌, map, length-map}
use Rattle.lists.proofs.Every.{all_map}
use Rattle.writing.specs.declared.Coding.{Coding}
use Rattle.writing.specs.Fields.{Field, each}
use Rattle.writing.specs.Ranges.{TextLimits, InAddressed}
use Rattle.writing.specs.Settings.{Addressed}
use Rattle.writing.specs.Writing.{addressed}
use Rattle.read_fields.specs.Places.{FieldsAt}
use Rattle.read_fields.specs.Entries.{Stand}

-- the contact with what a function makes of its address
abbrev pub readdressed : {A B : Type 0} → (A → B) → Addressed A → Addressed B
readdressed f e = record { address = f e.address; text = e.text }

-- the fields of what a function makes of each
pub each_map : {A B : Type 0} (f : A → B) (form : B → List Field) (l : List A) → each form (map f l) ≡ each (λ a. form (f a)) l
each_map f form [] = refl
each_map f form (a ∷ l) = ap (λ fs. form (f a) ++ fs) (each_map f form l)

module _ {A B : Type 0} (f : A → B) (number_of_lem : B → ℕ) where
  -- they are written alike
  pub each_readdressed : (c : Coding) (es : List (Addressed A))
      → each (addressed number_of_lem c) (map (readdressed f) es) ≡ each (addressed (λ a. number_of_lem (f a)) c) es
  each_readdressed c es = each_map (readdressed f) (addressed number_of_lem c) es

  -- and stand where they stood, in range as they were
  pub stand_readdressed : (c : Coding) (k : TextLimits) (m : List ℕ) (at count next : ℕ) (es : List (Addressed A))
      → Stand (each (addressed (λ a. number_of_lem (f a)) c)) (InAddressed (λ a. number_of_lem (f a)) k) m at count next es
      → Stand (each (addressed number_of_lem c)) (InAddressed number_of_lem k) m at count next (map (readdressed f) es)
  stand_readdressed c k m at count next es s = record {
    counted = length-map es (readdressed f) ∙ s.counted;
    in_range = all_map (InAddressed (λ a. number_of_lem (f a)) k) (InAddressed number_of_lem k) (readdressed f) (λ e i. i) es s.in_range;
    stands = subst⁻¹ (λ (fs : List Field). FieldsAt fs m at next) (each_readdressed c es) s.stands;
  }
