use Rattle.lists.proofs.Kit.{arith}
use Rattle.read_fields.proofs.TextWalk.{no_unit_yet, no_unit, too_many, unit_passed, text_ended}
use Rattle.read_fields.proofs.texts.read_units.Goals as goal

pub loop-units-init : goal.loop-units-init
loop-units-init g c = no_unit_yet _ _ _

pub returns-then-remaining : goal.returns-then-remaining
returns-then-remaining g c =
    λ us next k x. no_unit _ _ c.requires _ _ (λ i. (c.type_inv.m i).fits) _ _ c.loop-units.invariant (omega arith) us next x

pub overflow_add-result : goal.overflow_add-result
overflow_add-result g c = omega arith

pub returns-then-joined-eq0 : goal.returns-then-joined-eq0
returns-then-joined-eq0 g c =
    text_ended _ _ c.requires _ _ (λ i. (c.type_inv.m i).fits) _ _ c.loop-units.invariant (omega arith) (c.joined.ensures) _ c.if-joined-eq0.true (omega arith)

pub overflow_add-units : goal.overflow_add-units
overflow_add-units g c = omega (arith, c.loop-units.invariant.place)

pub overflow_add-p : goal.overflow_add-p
overflow_add-p g c = omega arith

pub loop-units-smaller : goal.loop-units-smaller
loop-units-smaller g c = omega arith

pub loop-units-preserved : goal.loop-units-preserved
loop-units-preserved g c =
    unit_passed _ _ c.requires _ _ (λ i. (c.type_inv.m i).fits) _ _ c.loop-units.invariant (omega arith) (c.joined.ensures) c.if-joined-eq0.false

pub returns : goal.returns
returns g c = too_many _ _ c.requires _ _ (λ i. (c.type_inv.m i).fits) _ _ c.loop-units.invariant _ (omega arith)
