use Rattle.lists.proofs.Kit.{arith}
use Rattle.working.proofs.AreaLaws.{rows_before, count_start, count_more, before_counted}
use Rattle.working.proofs.areas.units_to.Goals as goal

pub loop-i-init : goal.loop-i-init
loop-i-init c = count_start _ _ _

pub run_units-sum-requires : goal.run_units-sum-requires
run_units-sum-requires c = (c.run_of-run.ensures.1, omega (arith, c.run_of-run.ensures.2.heads, c.requires.heads), omega arith)

pub loop-i-preserved : goal.loop-i-preserved
loop-i-preserved c = count_more c.loop-i.invariant c.run_of-run.result c.run_units-sum.result (omega arith) (omega arith) c.run_of-run.ensures.0 c.run_units-sum.ensures

pub run_units-requires : goal.run_units-requires
run_units-requires c =
    let h = c.requires in
    (c.run_of.ensures.1, omega (arith, c.run_of.ensures.2.heads, h.heads), rows_before h c.run_of.ensures.0)

pub returns : goal.returns
returns c = before_counted c.loop-i.invariant c.args.n c.run_units.result c.run_of.result (omega arith) c.run_of.ensures.0 c.run_units.ensures
