use Rattle.lists.proofs.Kit.{arith, refl}
use Rattle.reporting.proofs.PutLaws.{putting_start, putting_full, putting_more, putting_end}
use Rattle.reporting.proofs.message.put_items.Goals as goal

pub loop-ask-init : goal.loop-ask-init
loop-ask-init c =
    let a = c.args in
    (refl, c.requires.2, putting_start a.limits a.types.now a.work.now a.plan.from.ask (record { end = 10; place = a.plan.from.place; rank = a.plan.from.rank; left = a.plan.own }) a.buffer.now)

pub returns-then-spot-eq0 : goal.returns-then-spot-eq0
returns-then-spot-eq0 c =
    let a = c.args in
    let l = c.loop-ask in
    putting_full a.limits a.types.now a.work.now a.plan.from.ask (record { end = 10; place = a.plan.from.place; rank = a.plan.from.rank; left = a.plan.own }) a.buffer.now l.ask l.buffer l.spot l.invariant.2 c.if-spot-eq0.true

pub put_type-spot-requires : goal.put_type-spot-requires
put_type-spot-requires c =
    let k = c.requires in
    (k.0, k.1, c.loop-ask.invariant.1, omega (arith, c.if-spot-eq0.false))

pub loop-ask-preserved : goal.loop-ask-preserved
loop-ask-preserved c =
    let a = c.args in
    let l = c.loop-ask in
    let w = c.put_type-spot in
    (omega arith, omega (arith, w.ensures.first.0, w.ensures.first.1), putting_more a.limits a.types.now a.work.now a.plan.from.ask (record { end = 10; place = a.plan.from.place; rank = a.plan.from.rank; left = a.plan.own }) a.buffer.now l.ask l.buffer w.new.buffer l.spot w.result (omega arith) l.invariant.2 w.ensures)

pub returns : goal.returns
returns c =
    let a = c.args in
    let l = c.loop-ask in
    putting_end a.limits a.types.now a.work.now a.plan.from.ask (record { end = 10; place = a.plan.from.place; rank = a.plan.from.rank; left = a.plan.own }) a.buffer.now l.ask l.buffer l.spot l.invariant.2 (omega arith)
