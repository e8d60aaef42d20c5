-- What stands behind the head of a line: a number, and a text. Assumes nothing.
use Rattle.std.specs.Prelude.{Option as Maybe, Some, None}
use Rattle.lists.proofs.Kit.{ℕ, ◌+◌, ◌≡◌, sym, subst, List, ◌++◌}
use Rattle.writing.specs.Ranges.{InNumber}
use Rattle.writing.specs.Settings.{Number, Text, unicode16}
use Rattle.writing.specs.Writing.{text, number}
use Rattle.writing.proofs.Unique.{number_ends}
use Rattle.writing.proofs.Whole.{number_whole}
use Rattle.read_fields.specs.Places.{FieldsAt}
use Rattle.read_fields.specs.TextsAndNumbers.{NumberIs, NumberAt}
use Rattle.read_fields.specs.declared.numbers.NumberPlace.{NumberPlace}
use Rattle.read_fields.proofs.Parts.{part_join, part_split}
use Rattle.read_fields.proofs.Walk.{one_part}

module _ (m : List ℕ) (from : ℕ) where
  line_parts : (ds : Number) (us : Text) (next : ℕ) → FieldsAt (number ds ++ text unicode16 us) m from next
      → (q : ℕ) × FieldsAt (number ds) m from q × FieldsAt (text unicode16 us) m q next
  line_parts ds us next y =
      let (n, w) = number_whole ds in
      let (a, b) = part_split (number ds) (text unicode16 us) m from n next w y in
      (from + n, a, b)

  -- neither stands where no number does
  pub no_number : {r : Maybe (NumberPlace × ℕ)} → NumberAt m from r → r ≡ None → (ds : Number) (us : Text) (next : ℕ) → InNumber ds
      → FieldsAt (number ds ++ text unicode16 us) m from next → ⊥
  no_number at e ds us next i y = let (q, a, b) = line_parts ds us next y in subst (NumberAt m from) e at ds q i a

  module _ {r : Maybe (NumberPlace × ℕ)} (p : NumberPlace) (q : ℕ) (at : NumberAt m from r) (e : r ≡ Some (p, q)) where
    -- the number that was read
    pub number_found : (ds : Number) × InNumber ds × NumberIs m p ds q × FieldsAt (number ds) m from q
    number_found =
        let (ds, s, i, is) = subst (NumberAt m from) e at in
        (ds, i, is, subst (λ (z : ℕ). FieldsAt (number ds) m z q) s is.stands)

    -- the text stands where it ends
    pub behind_number : (ds : Number) (us : Text) (next : ℕ) → FieldsAt (number ds ++ text unicode16 us) m from next → FieldsAt (text unicode16 us) m q next
    behind_number ds us next y =
        let (q', a, b) = line_parts ds us next y in
        let (es, i, is, z) = number_found in
        let same : q ≡ q' = (one_part number number_ends es ds m from q q' z a).1 in
        subst (λ (k : ℕ). FieldsAt (text unicode16 us) m k next) (sym same) b

    -- both stand where both were read
    pub both_stand : (us : Text) (next : ℕ) → FieldsAt (text unicode16 us) m q next → FieldsAt (number number_found.0 ++ text unicode16 us) m from next
    both_stand us next b = part_join (number number_found.0) (text unicode16 us) m from q next number_found.3 b
