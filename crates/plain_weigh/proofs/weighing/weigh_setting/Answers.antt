use Rattle.lists.proofs.Kit.{arith, refl, subst⁻¹, length, ◌+◌}
use Rattle.std.specs.declared.option.Option.TheVariants.{Some, None}
use Rattle.plain_weigh.specs.Weighing.{Weighs}
use Rattle.plain_weigh.proofs.TurnLaws.{weigh_starts, weigh_on, weigh_full, weigh_ends, setting_full, setting_on}
use Rattle.plain_weigh.proofs.weighing.weigh_setting.Goals as goal

pub returns-in_err-so_far : goal.returns-in_err-so_far
returns-in_err-so_far c =
    let a = c.args in
    subst⁻¹ (Weighs _ _ a.before a.turn a.weight) c.from_residual.ensures (setting_full _ _ a.before a.turn a.weight c.weigh_next.result c.weigh_next.ensures c.in_err-so_far.was)

pub loop-init : goal.loop-init
loop-init c = (omega arith, weigh_starts _ _ _ _ _ _)

pub returns-in_err-so_far-2 : goal.returns-in_err-so_far-2
returns-in_err-so_far-2 c =
    let a = c.args in
    let l = c.loop in
    let t = c.next_entry-next in
    let r = c.weigh_next-in-loop in
    subst⁻¹ (Weighs _ _ a.before a.turn a.weight) c.from_residual-in_err-so_far-2.ensures
    (setting_on _ _ a.before a.turn a.weight c.weigh_next.result c.weigh_next.ensures _ _ None c.in_ok-so_far.was refl
    (λ L M S read is many small few. weigh_full _ _ _ a.turn.left _ _ l.left l.so_far l.here l.counter c.loop-test.true t.result r.result t.ensures r.ensures c.in_err-so_far-2.was l.invariant.1 (length M + length S) L M S read is many small few))

pub overflow_add-here-in-loop : goal.overflow_add-here-in-loop
overflow_add-here-in-loop c =
    let p = c.loop.invariant.0 in
    omega (arith, p, c.if-before-ge-DEEDS.false, c.if-turn-ge-DEEDS.false, c.loop-test.true)

pub loop-preserved : goal.loop-preserved
loop-preserved c =
    let a = c.args in
    let l = c.loop in
    let t = c.next_entry-next in
    let r = c.weigh_next-in-loop in
    (omega (arith, l.invariant.0), weigh_on _ _ _ a.turn.left _ _ l.left l.so_far l.here l.counter c.loop-test.true t.result r.result t.ensures r.ensures _ _ c.in_ok-so_far-2.was refl l.invariant.1)

pub returns : goal.returns
returns c =
    let a = c.args in
    let l = c.loop in
    setting_on _ _ a.before a.turn a.weight c.weigh_next.result c.weigh_next.ensures _ _ (Some (l.so_far, l.here.passed)) c.in_ok-so_far.was refl (weigh_ends _ _ _ a.turn.left _ _ l.left l.so_far l.here l.counter c.loop-test.false l.invariant.1)
