-- The part of a place, and what the two calls give. Assumes nothing.
use Rattle.lists.proofs.Kit.{ℕ, ◌≡◌, refl, sym, ap, ◌∙◌, subst, inl, inr, List, [], ◌∷◌, length}
use denote.Enum.Declared.{tag_of}
use denote.Ref.{Bor}
use types.Run.{OneOf, miss}
use Rattle.lists.specs.Ladder.{Answers}
use Rattle.tables.specs.declared.limits.Limits.{Limits}
use Rattle.screen.specs.declared.rows.Refusal.{Refusal}
use Rattle.screen.specs.declared.names.Name.{Name}
use Rattle.screen.specs.declared.names.Name.TheVariants.{Refused as NoName}
use Rattle.screen.specs.declared.rows.Row.{Row}
use Rattle.screen.specs.contracts.names.Name.{the_type}
use Rattle.screen.specs.Naming.{naming}
use Rattle.screen.specs.declared.answers.Place.{Place}
use Rattle.screen.specs.declared.answers.Place.TheVariants.{Store, Scratch, Refused as NoPlace}
use Rattle.screen.specs.Steps.{PlaceFits, Placed, Picked}
use Rattle.screen.specs.Screen.{refusal, leaves, numbering, points_to, bytes_of, PartGiven}
use Rattle.screen.proofs.AnswerLaws.{number_same, refused_as}

-- what is said of a case is said of the place
pub fits_as : (s t : List ℕ) {place case : Place} → place ≡ case → PlaceFits s t place → PlaceFits s t case
fits_as s t e x = subst (PlaceFits s t) e x

-- where a place's part points, and its bytes
module _ (s t : Bor (List ℕ)) {place case : Place} (e : place ≡ case) where
  pub block_as : (points_to (leaves case t.now).part s t).0 ≡ (points_to (leaves place t.now).part s t).0
  block_as = ap (λ p. (points_to (leaves p t.now).part s t).0) (sym e)

  pub offset_as : (points_to (leaves case t.now).part s t).1 ≡ (points_to (leaves place t.now).part s t).1
  offset_as = ap (λ p. (points_to (leaves p t.now).part s t).1) (sym e)

  pub bytes_as : bytes_of (leaves case t.now).part s.now t.now ≡ bytes_of (leaves place t.now).part s.now t.now
  bytes_as = ap (λ p. bytes_of (leaves p t.now).part s.now t.now) (sym e)

-- a name with another tag is no refusal
kept : (x : Name) → OneOf (1 ∷ 2 ∷ 3 ∷ 4 ∷ []) (tag_of the_type x) → {why : Refusal} → NoName why ≡ x → ⊥
kept x k e = miss (1 ∷ 2 ∷ 3 ∷ 4 ∷ []) 0 tt (subst (λ (y : Name). OneOf (1 ∷ 2 ∷ 3 ∷ 4 ∷ []) (tag_of the_type y)) (sym e) k)

-- a row that is refused, and one that is not
pub number_refused : (lim : Limits) (s scratch : List ℕ) (row : Row) (x : Name) (why : Refusal) → x ≡ NoName why → Answers (naming lim s (length scratch) row) x → Answers (numbering lim s scratch row) (refusal why)
number_refused lim s scratch row x why e a = number_same lim s scratch row _ (refused_as lim s scratch row why (subst (Answers (naming lim s (length scratch) row)) e a))

pub number_shown : (lim : Limits) (s scratch : List ℕ) (row : Row) (x : Name) → OneOf (1 ∷ 2 ∷ 3 ∷ 4 ∷ []) (tag_of the_type x) → Answers (naming lim s (length scratch) row) x → Answers (numbering lim s scratch row) 0
number_shown lim s scratch row x k (inl (h, e)) = absurd (kept x k (sym e))
number_shown lim s scratch row x k (inr (h, inl (i, e))) = absurd (kept x k (sym e))
number_shown lim s scratch row x k (inr (h, inr (i, inl (j, e)))) = absurd (kept x k (sym e))
number_shown lim s scratch row x k (inr (h, inr (i, inr (j, e)))) = inr (h, inr (i, inr (j, refl)))

pub place_refused : (lim : Limits) (s scratch : List ℕ) (row : Row) (x : Name) (why : Refusal) → x ≡ NoName why → Answers (naming lim s (length scratch) row) x → Placed lim s scratch scratch row (NoPlace why)
place_refused lim s scratch row x why e a = record { allowed = refused_as lim s scratch row why (subst (Answers (naming lim s (length scratch) row)) e a); fits = tt }

-- the part of a place is the part of the answer
module _ (lim : Limits) (store scratch after : Bor (List ℕ)) (row : Row) (r : Bor (List ℕ)) (e : after.ref_ptr ≡ scratch.ref_ptr) where
  pub part_given : (place : Place) → Placed lim store.now scratch.now after.now row place → Picked store after place r → PartGiven lim store scratch row r
  part_given (Store at n) p q = record { after = leaves (Store at n) after.now; allowed = p.allowed; block = q.block; offset = q.offset; bytes = q.bytes }
  part_given (Scratch n) p q = record {
    after = leaves (Scratch n) after.now;
    allowed = p.allowed;
    block = q.block ∙ ap (λ i. i.0) e;
    offset = q.offset ∙ ap (λ i. i.1) e;
    bytes = q.bytes;
  }
  part_given (NoPlace why) p q = record { after = leaves (NoPlace why) after.now; allowed = p.allowed; block = q.block; offset = q.offset; bytes = q.bytes }
