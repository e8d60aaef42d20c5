use Rattle.lists.proofs.Kit.{arith, refl}
use Rattle.reporting.proofs.PutLaws.{passing_start, passing_full, passing_more, passing_end}
use Rattle.reporting.proofs.message.put_table.Goals as goal

pub loop-s-init : goal.loop-s-init
loop-s-init c =
    let a = c.args in
    (refl, c.requires.2, passing_start a.limits a.asked a.work.now a.spot a.buffer.now)

pub returns-then-s-eq0 : goal.returns-then-s-eq0
returns-then-s-eq0 c =
    let a = c.args in
    let l = c.loop-s in
    passing_full a.limits a.asked a.work.now a.spot a.buffer.now l.buffer l.s l.invariant.2 c.if-s-eq0.true

pub put_place-s-requires : goal.put_place-s-requires
put_place-s-requires c =
    let k = c.requires in
    (k.0, k.1, omega (arith, c.places_of-places.ensures), c.loop-s.invariant.1, omega (arith, c.if-s-eq0.false))

pub loop-s-smaller : goal.loop-s-smaller
loop-s-smaller c = omega (arith, c.put_place-s.ensures.next)

pub loop-s-preserved : goal.loop-s-preserved
loop-s-preserved c =
    let a = c.args in
    let l = c.loop-s in
    let w = c.put_place-s in
    (omega arith, w.ensures.ranked, passing_more a.limits a.asked a.work.now a.spot a.buffer.now l.buffer w.new.buffer l.s w.result l.invariant.2 w.ensures)

pub returns : goal.returns
returns c =
    let a = c.args in
    let l = c.loop-s in
    passing_end a.limits a.asked a.work.now a.spot a.buffer.now l.buffer l.s l.invariant.2 (omega (arith, c.places_of-places.ensures))
