use Rattle.std.proofs.Common.{rules, arith, take, ◌++◌, length-append, length-take-le}
use Rattle.std.proofs.KnownBytes.{Consumes-trans}
use Rattle.records.proofs.ReadLaws.{passed}
use Rattle.records.proofs.pass_over.Goals as goal

pub returns-then-branch-lt4096 : goal.returns-then-branch-lt4096
returns-then-branch-lt4096 g c =
    let (chunk, bs, many, before) = c.loop.invariant in
    let n = c.in_ok-read_full.field-0 in
    let part = c.read_full.new.buffer in
    (bs ++ take n part, omega (arith, length-append bs (take n part), length-take-le n part c.in_ok-read_full.ensures.bound), Consumes-trans _ _ _ bs (take n part) before c.in_ok-read_full.ensures.bytes, c.in_ok-read_full.ensures.end (omega arith))

pub loop-preserved : goal.loop-preserved
loop-preserved g c =
    let (chunk, bs, many, before) = c.loop.invariant in
    let n = c.in_ok-read_full.field-0 in
    let part = c.read_full.new.buffer in
    (search rules, bs ++ take n part, omega (arith, length-append bs (take n part), length-take-le n part c.in_ok-read_full.ensures.bound, c.in_ok-read_full.ensures.bound, c.read_full.auto.buffer, chunk), Consumes-trans _ _ _ bs (take n part) before c.in_ok-read_full.ensures.bytes)

pub returns : goal.returns
returns g c =
    let (chunk, bs, many, before) = c.loop.invariant in
    let last = c.in_ok-read_full-2 in
    passed _ _ _ c.args.length c.loop.counter last.field-0 bs c.read_full-2.new.buffer many (omega arith) before (omega arith) last.ensures.bound last.ensures.bytes last.ensures.end
