use Rattle.lists.proofs.Kit.{arith, refl, subst, not-true, not-false}
use Rattle.read_carrier.specs.Message.{StartsWith}
use Rattle.read_carrier.proofs.CarrierLaws.{length_wrong, length_right, not_carried, carries_in}
use Rattle.read_carrier.proofs.carrier.read_carrier.Goals as goal

-- `read_carrier::carrier::read_carrier` meets its contract. Assumes nothing.
pub returns-then-m-lt6 : goal.returns-then-m-lt6
returns-then-m-lt6 c = not_carried c.args.m.now (λ i. (c.type_inv.m i).fits) refl (λ coding k. omega (arith, k.room))

pub returns-then-not-starts : goal.returns-then-not-starts
returns-then-not-starts c =
    let m = c.args.m.now in
    let s = c.starts in
    not_carried m (λ i. (c.type_inv.m i).fits) refl (λ coding k. subst (StartsWith m) (not-true s.result c.if-not-starts.true-raw) s.ensures _ k.starts)

pub returns-then-not-states : goal.returns-then-not-states
returns-then-not-states c =
    let s = c.states in
    not_carried c.args.m.now (λ i. (c.type_inv.m i).fits) (c.number-head.ensures (omega arith, omega arith))
    (λ coding k. length_wrong _ _ _ s.result s.ensures (omega arith) c.if-not-states.true-raw k.length_field)

pub returns-then-head : goal.returns-then-head
returns-then-head c = not_carried c.args.m.now (λ i. (c.type_inv.m i).fits) (c.number-head.ensures (omega arith, omega arith)) (λ coding k. omega (arith, k.mfid))

pub returns : goal.returns
returns c =
    let m = c.args.m.now in
    let n = c.number-head in
    let s = c.states in
    let b = c.starts in
    carries_in m (λ i. (c.type_inv.m i).fits) (n.ensures (omega arith, omega arith)) _ (record {
      room = omega arith;
      starts = subst (StartsWith m) (not-false b.result c.if-not-starts.false-raw) b.ensures;
      length_field = length_right _ _ _ s.result s.ensures (omega arith) c.if-not-states.false-raw;
      mfid = omega arith;
      coded = omega arith;
    })
