use Rattle.lists.proofs.Kit.{length}
use Rattle.values.proofs.EntryLaws.{line_kind, group_kind, individual_kind, text_kind, kind_wide, line_read, group_read, individual_read, text_read}
use Rattle.values.proofs.entries.target_of.Goals as goal

pub line_at-requires : goal.line_at-requires
line_at-requires c = kind_wide c.args.row 1 (length c.args.slot.now) (line_kind c.args.row c.in-Line.in-Line-own.keys1) c.requires

pub group_at-requires : goal.group_at-requires
group_at-requires c = kind_wide c.args.row 2 (length c.args.slot.now) (group_kind c.args.row c.in-Group.in-Group-own.keys2) c.requires

pub individual_at-requires : goal.individual_at-requires
individual_at-requires c = kind_wide c.args.row 3 (length c.args.slot.now) (individual_kind c.args.row c.in-Individual.in-Individual-own.keys3) c.requires

pub returns-in-Line : goal.returns-in-Line
returns-in-Line c = line_read c.args.row c.args.slot.now c.line_at.result (line_kind c.args.row c.in-Line.in-Line-own.keys1) c.line_at.ensures

pub returns-in-Group : goal.returns-in-Group
returns-in-Group c = group_read c.args.row c.args.slot.now c.group_at.result (group_kind c.args.row c.in-Group.in-Group-own.keys2) c.group_at.ensures

pub returns-in-Individual : goal.returns-in-Individual
returns-in-Individual c = individual_read c.args.row c.args.slot.now c.individual_at.result (individual_kind c.args.row c.in-Individual.in-Individual-own.keys3) c.individual_at.ensures

pub returns-in_default : goal.returns-in_default
returns-in_default c = text_read c.args.row c.args.slot.now (text_kind c.args.row c.in_default.in_default-own.keys4)
