use Rattle.lists.proofs.Kit.{arith}
use Rattle.reporting.proofs.PutLaws.{put_empty, put_used}
use Rattle.reporting.proofs.TableLaws.{few_places}
use Rattle.reporting.proofs.message.put_place.Goals as goal

pub overflow_add-result : goal.overflow_add-result
overflow_add-result c = omega (arith, c.requires.2, few_places c.args.limits c.requires.0 c.args.asked)

pub returns-then-size-eq0 : goal.returns-then-size-eq0
returns-then-size-eq0 c =
    let a = c.args in
    let p = c.requires in
    let w = c.write_place-size in
    put_empty a.limits a.asked a.work.now a.spot a.buffer.now _ w.new.scratch w.result p.2 p.3 (omega arith) w.ensures c.if-size-eq0.true

pub overflow_add-result-2 : goal.overflow_add-result-2
overflow_add-result-2 c = omega (arith, c.requires.2, few_places c.args.limits c.requires.0 c.args.asked)

pub overflow_add-result-3 : goal.overflow_add-result-3
overflow_add-result-3 c = omega (arith, c.requires.2, c.requires.3, few_places c.args.limits c.requires.0 c.args.asked)

pub returns : goal.returns
returns c =
    let a = c.args in
    let p = c.requires in
    let w = c.write_place-size in
    put_used a.limits a.asked a.work.now a.spot a.buffer.now _ w.new.scratch w.result p.2 p.3 (omega arith) w.ensures c.put_bytes-next.new.buffer c.put_bytes-next.result c.if-size-eq0.false p.4 c.put_bytes-next.ensures
