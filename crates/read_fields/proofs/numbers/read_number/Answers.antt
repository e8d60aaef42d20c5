use Rattle.lists.proofs.Kit.{arith, subst, subst₂, ℕ}
use Rattle.read_fields.proofs.NumberWalk.{NumberPassed, no_digit_yet, no_digit, too_many_digits, digits_passed, one_digit_ends, no_digit_ends, bad_digits}
use Rattle.read_fields.proofs.numbers.read_number.Goals as goal

pub loop-pairs-init : goal.loop-pairs-init
loop-pairs-init c =
    let a = c.args in
    (subst (λ (p : ℕ). NumberPassed a.m.now a.at p 0) (omega arith) (no_digit_yet _ _), omega arith)

pub overflow_add-p : goal.overflow_add-p
overflow_add-p c = omega (arith, c.loop-pairs.invariant.1)

pub returns-then-remaining-lt1 : goal.returns-then-remaining-lt1
returns-then-remaining-lt1 c =
    no_digit _ _ _ _ (λ i. (c.type_inv.m i).fits) c.loop-pairs.invariant.0 (omega arith)

pub returns-in-One : goal.returns-in-One
returns-in-One c = one_digit_ends _ _ _ _ (λ i. (c.type_inv.m i).fits) c.loop-pairs.invariant.0 (omega arith) (c.number.ensures (omega arith, omega arith)) c.ended.result c.in-One.ensures.0 c.in-One.ensures.1 c.ended.ensures

pub returns-in-Zero : goal.returns-in-Zero
returns-in-Zero c = no_digit_ends _ _ _ _ (λ i. (c.type_inv.m i).fits) c.loop-pairs.invariant.0 (omega arith) (c.number.ensures (omega arith, omega arith)) c.ended-in-Zero.result c.in-Zero.ensures c.ended-in-Zero.ensures

pub returns-in-Bad : goal.returns-in-Bad
returns-in-Bad c = bad_digits _ _ _ _ (λ i. (c.type_inv.m i).fits) c.loop-pairs.invariant.0 (omega arith) (c.number.ensures (omega arith, omega arith)) c.in-Bad.ensures

pub loop-pairs-preserved : goal.loop-pairs-preserved
loop-pairs-preserved c =
    let a = c.args in (
      subst₂ (λ (p n : ℕ). NumberPassed a.m.now a.at p n) (omega arith) (omega arith)
          (digits_passed _ _ _ _ (λ i. (c.type_inv.m i).fits) c.loop-pairs.invariant.0 (omega arith) (c.number.ensures (omega arith, omega arith)) c.in-Two.ensures.0 c.in-Two.ensures.1),
      omega arith,
    )

pub returns : goal.returns
returns c = too_many_digits _ _ _ _ (λ i. (c.type_inv.m i).fits) c.loop-pairs.invariant.0 (omega arith)
