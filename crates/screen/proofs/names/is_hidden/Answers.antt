use Rattle.screen.proofs.NameLaws.{hidden_group, hidden_other}
use borrow.Enum.Refused.{opened as is_one_of}
use Rattle.screen.proofs.names.is_hidden.Goals as goal

-- `screen::names::is_hidden` meets its contract. Assumes nothing.
pub returns-in-Group : goal.returns-in-Group
returns-in-Group c = hidden_group c.args.row c.args.flags c.in-Group.in-Group-own.keys1

pub returns-in_default : goal.returns-in_default
returns-in_default c = hidden_other c.args.row c.args.flags (is_one_of c.in_default.in_default-own.keys2)
