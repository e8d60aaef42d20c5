use Rattle.lists.proofs.Kit.{arith, refl}
use Rattle.reporting.proofs.AskLaws.{types_short, types_none, types_by}
use Rattle.reporting.proofs.asking.has_types.Goals as goal

pub returns-then-m-lt-TYPES : goal.returns-then-m-lt-TYPES
returns-then-m-lt-TYPES c = types_short c.args.m.now (λ i. (c.shared_slice_known-1.given i).fits) c.requires.1 (omega arith)

pub returns-then-count-eq0 : goal.returns-then-count-eq0
returns-then-count-eq0 c = types_none c.args.m.now (λ i. (c.shared_slice_known-1.given i).fits) c.requires.1 (c.number-count.ensures (omega arith, omega arith)) c.if-count-eq0.true

pub returns : goal.returns
returns c = types_by c.args.m.now (λ i. (c.shared_slice_known-1.given i).fits) c.requires.1 (c.number-count.ensures (omega arith, omega arith)) (omega arith) c.if-count-eq0.false _ refl
