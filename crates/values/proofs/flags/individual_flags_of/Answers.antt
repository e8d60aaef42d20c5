use Rattle.values.proofs.FlagLaws.{individual_cut}
use Rattle.values.proofs.flags.individual_flags_of.Goals as goal

pub returns : goal.returns
returns c = individual_cut c.args.flags
