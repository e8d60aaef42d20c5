use Rattle.values.proofs.FlagLaws.{group_cut}
use Rattle.values.proofs.flags.group_flags_of.Goals as goal

pub returns : goal.returns
returns c = group_cut c.args.flags
