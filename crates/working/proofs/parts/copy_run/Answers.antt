use Rattle.working.proofs.StepLaws.{run_copied}
use Rattle.working.proofs.parts.copy_run.Goals as goal

pub returns : goal.returns
returns c = let a = c.args in run_copied a.dst.now a.src.now c.copy.new.dst a.to a.from a.n c.requires.0 c.requires.1 c.copy.ensures
