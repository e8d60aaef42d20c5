use Rattle.lists.proofs.Kit.{arith, ◌<◌}
use Rattle.reports.specs.TableSlots.{slot_count}
use Rattle.reporting.proofs.PlanTurns.{walked_as}
use Rattle.reporting.proofs.PlanTurns.{walked_start, walked_empty, walked_item, walked_end}
use Rattle.reporting.proofs.TableLaws.{few_places}
use Rattle.reporting.proofs.planning.plan_table.Goals as goal
use Rattle.reporting.proofs.planning.plan_table.Goals.{then-size-ne0, else-size-ne0}

pub loop-place-init : goal.loop-place-init
loop-place-init c =
    let a = c.args in
    (omega arith, omega arith, walked_start a.limits a.asked a.work.now a.ask a.room a.j a.walk)

pub place_size-size-requires : goal.place_size-size-requires
place_size-size-requires c =
    let p = c.requires in
    (p.0, p.1, omega (arith, c.places_of-places.ensures))

pub step-w-requires : goal.step-w-requires
step-w-requires c =
    let p = c.requires in
    let l = c.loop-place in
    let n = few_places c.args.limits p.0 c.args.asked in
    (omega (arith, n, l.invariant.2.grown.closed, c.places_of-places.ensures), omega (arith, n, l.invariant.2.grown.own, c.places_of-places.ensures))

pub overflow_add-rank : goal.overflow_add-rank
overflow_add-rank c =
    let n = few_places c.args.limits c.requires.0 c.args.asked in
    omega (arith, n, c.places_of-places.ensures)

pub loop-place-preserved : goal.loop-place-preserved
loop-place-preserved c =
    let a = c.args in
    let l = c.loop-place in
    let s = c.place_size-size in
    let n : l.place < slot_count a.limits a.asked = omega (arith, c.places_of-places.ensures) in
    elim c.if-size-ne0.branch [
      | then-size-ne0 x ↦ (omega arith, omega (arith, x.rank-is), walked_as a.limits a.asked a.work.now a.ask a.room a.j a.walk x.w-is x.rank-is (walked_item a.limits a.asked a.work.now a.ask a.room a.j a.walk l.place l.rank s.result l.w n l.invariant.2 s.ensures x.step-w.result x.if-size-ne0.true l.invariant.1 x.step-w.ensures))
      | else-size-ne0 x ↦ (omega arith, omega (arith, x.rank-is), walked_as a.limits a.asked a.work.now a.ask a.room a.j a.walk x.w-is x.rank-is (walked_empty a.limits a.asked a.work.now a.ask a.room a.j a.walk l.place l.rank s.result l.w n l.invariant.2 s.ensures x.if-size-ne0.false))
    ]

pub returns : goal.returns
returns c =
    let a = c.args in
    let l = c.loop-place in
    walked_end a.limits a.asked a.work.now a.ask a.room a.j a.walk l.place l.rank l.w (omega (arith, c.places_of-places.ensures)) (omega (arith, c.places_of-places.ensures, few_places a.limits c.requires.0 a.asked)) l.invariant.2
