use Rattle.values.proofs.FlagLaws.{line_cut}
use Rattle.values.proofs.flags.line_flags_of.Goals as goal

pub returns : goal.returns
returns c = line_cut c.args.flags c.args.idtype
