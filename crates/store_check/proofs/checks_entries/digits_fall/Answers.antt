use Rattle.lists.proofs.Kit.{rules, arith}
use Rattle.store_check.proofs.TextChecks.{falls_more, falls_done}
use Rattle.store_check.proofs.checks_entries.digits_fall.Goals as goal

pub loop-i-preserved : goal.loop-i-preserved
loop-i-preserved c =
    let l = c.loop-i in
    falls_more c.args.s.now l.i l.all c.still_falls-all.result (omega (arith, c.requires)) l.invariant c.still_falls-all.ensures

pub returns : goal.returns
returns c =
    let l = c.loop-i in
    falls_done c.args.s.now l.i l.all (omega (arith, c.requires)) l.invariant
