-- The fields after DataLength: a fixed head, read as one number, and what follows it. Assumes nothing.
use Rattle.lists.proofs.Kit.{ℕ, ◌+◌, ◌*◌, ◌%◌, ◌≤◌, ◌<◌, ◌≡◌, sym, subst, subst⁻¹, List, ◌++◌, Bool, true, false, arith, eqb-true, eqb-false, eqb, length, drop, take}
use Rattle.lists.specs.Bytes.{Bytes}
use Rattle.writing.specs.declared.Coding.{Coding}
use Rattle.writing.specs.declared.Kind.{Kind}
use Rattle.writing.specs.declared.Operation.{Operation}
use Rattle.writing.specs.declared.Operation.TheVariants.{Add, Delete, Replace}
use Rattle.writing.specs.Fields.{Field, widths}
use Rattle.writing.specs.Ranges.{text_limits, InRange}
use Rattle.writing.specs.Settings.{Setting}
use Rattle.writing.specs.Writing.{bit, op_code, body}
use Rattle.writing.proofs.ByKind.{Contents, make, of_kind, kind_make}
use Rattle.read_fields.specs.Places.{FieldsAt, be}
use Rattle.settings.specs.Meant.{Meant, BodyAt}
use Rattle.settings.specs.declared.settings.Setting.{Setting as Read}
use Rattle.std.specs.Prelude.{Some, None}
use Rattle.read_fields.proofs.Heads.{Cut, head_in, head_out}

-- the fields of a kind: a head of so many bytes, and what follows it
pub record Headed (c : Coding) (K : Kind) : Type 0 where
  pub head : Contents K → List Field
  pub tail : Contents K → List Field
  pub size : ℕ
  pub split : (x : Contents K) → body c (make K x) ≡ head x ++ tail x
  pub wide : (x : Contents K) → widths (head x) ≡ 8 * size
  pub some_byte : 0 < size

module _ {c : Coding} (K : Kind) (f : Headed c K) (left : ℕ) (m : List ℕ) (p : ℕ) (h : Bytes m) where
  -- the head's number, and what follows
  parts : (x : Contents K) (next : ℕ) → FieldsAt (body c (make K x)) m p next
      → (p + f.size ≤ length m) × Cut (f.head x) (be 0 (take f.size (drop p m))) × FieldsAt (f.tail x) m (p + f.size) next
  parts x next y =
      head_out (f.head x) (f.tail x) m p f.size (f.wide x) f.some_byte h next (subst (λ (l : List Field). FieldsAt l m p next) (f.split x) y)

  -- none where no contents have a head that stands there
  pub no_head : ((x : Contents K) → p + f.size ≤ length m → Cut (f.head x) (be 0 (take f.size (drop p m))) → InRange text_limits left (make K x) → ⊥)
      → BodyAt c K left m p None
  no_head never s next e i y =
      let (x, d) = of_kind K s e in
      let (r, k, z) = parts x next (subst (λ (t : Setting). FieldsAt (body c t) m p next) d y) in
      never x r k (subst (InRange text_limits left) d i)

  -- none where the head has no room
  pub no_room : (p + f.size ≤ length m → ⊥) → BodyAt c K left m p None
  no_room never = no_head (λ x r k i. never r)

  module _ {N : ℕ} (number : N ≡ be 0 (take f.size (drop p m))) where
    -- none where no contents have this head and what follows
    pub no_body : ((x : Contents K) (next : ℕ) → Cut (f.head x) N → InRange text_limits left (make K x) → FieldsAt (f.tail x) m (p + f.size) next → ⊥)
        → BodyAt c K left m p None
    no_body never s next e i y =
        let (x, d) = of_kind K s e in
        let (r, k, z) = parts x next (subst (λ (t : Setting). FieldsAt (body c t) m p next) d y) in
        never x next (subst (Cut (f.head x)) (sym number) k) (subst (InRange text_limits left) d i) z

    -- these contents, which have this head and what follows
    pub the_body : (x : Contents K) (r : Read) (next : ℕ) → p + f.size ≤ length m → Cut (f.head x) N → InRange text_limits left (make K x)
        → FieldsAt (f.tail x) m (p + f.size) next → Meant m r (make K x) → BodyAt c K left m p (Some (r, next))
    the_body x r next room k i y means = (
      make K x,
      kind_make K x,
      means,
      i,
      subst⁻¹ (λ (l : List Field). FieldsAt l m p next) (f.split x)
          (head_in (f.head x) (f.tail x) m p f.size (f.wide x) f.some_byte h next room (subst (Cut (f.head x)) number k) y),
    )

-- ---- small values

-- a flag that the code cut is the bit that it was cut from
pub flag_bit : (y : ℕ) (b : Bool) → b ≡ eqb (y % 2) 1 → y % 2 ≡ bit b
flag_bit y true e = eqb-true (y % 2) 1 (sym e)
flag_bit y false e = let n = eqb-false (y % 2) 1 (sym e) in omega arith

-- an operation's code is at most 3
pub op_small : (o : Operation) → op_code o ≤ 3
op_small Add = omega arith
op_small Delete = omega arith
op_small Replace = omega arith
