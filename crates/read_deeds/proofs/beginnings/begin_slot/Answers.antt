use Rattle.lists.proofs.Kit.{rules}
use Rattle.settings.specs.declared.settings.Setting.TheVariants.{Group, Individual, LineSlot}
use Rattle.read_deeds.proofs.BeginLaws.{begins_as, group_begun, individual_begun, line_slot_begun, others_begun}
use borrow.Enum.Refused.{opened as is_one_of}
use Rattle.read_deeds.proofs.beginnings.begin_slot.Goals as goal

pub returns-in-Group : goal.returns-in-Group
returns-in-Group c =
    let a = c.args in
    λ u. begins_as a.m.now c.begin_member.result a.setting (Group c.in-Group.operation c.in-Group.flags c.in-Group.place) c.in-Group.is
    (group_begun a.m.now c.in-Group.operation c.begin_member.result c.in-Group.flags c.in-Group.place c.begin_member.ensures)

pub returns-in-Individual : goal.returns-in-Individual
returns-in-Individual c =
    let a = c.args in
    λ u. begins_as a.m.now c.begin_member-in-Individual.result a.setting (Individual c.in-Individual.operation c.in-Individual.field-1 c.in-Individual.place) c.in-Individual.is
    (individual_begun a.m.now c.in-Individual.operation c.begin_member-in-Individual.result c.in-Individual.field-1 c.in-Individual.place c.begin_member-in-Individual.ensures)

pub returns-in-LineSlot : goal.returns-in-LineSlot
returns-in-LineSlot c =
    let a = c.args in
    λ u. begins_as a.m.now c.begin_line.result a.setting (LineSlot c.in-LineSlot.operation c.in-LineSlot.field-1 c.in-LineSlot.place) c.in-LineSlot.is
    (line_slot_begun a.m.now c.in-LineSlot.operation c.begin_line.result c.in-LineSlot.field-1 c.in-LineSlot.place c.begin_line.ensures)

pub returns-in_default : goal.returns-in_default
returns-in_default c = others_begun c.args.m.now c.single.result c.args.setting (is_one_of c.in_default.in_default-own.keys4) c.single.ensures
