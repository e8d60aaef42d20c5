use Rattle.report_write.proofs.SlotLaws.{told_writes}
use Rattle.report_write.proofs.items.write_entry.Goals as goal

pub returns-in-Groups : goal.returns-in-Groups
returns-in-Groups c = told_writes c.args.slot.now c.args.place c.args.rank _ _ _ c.in-Groups.is c.write_group.ensures

pub returns-in-Individuals : goal.returns-in-Individuals
returns-in-Individuals c = told_writes c.args.slot.now c.args.place c.args.rank _ _ _ c.in-Individuals.is c.write_individual.ensures

pub returns-in-Lines : goal.returns-in-Lines
returns-in-Lines c = told_writes c.args.slot.now c.args.place c.args.rank _ _ _ c.in-Lines.is c.write_line.ensures

pub returns-in-Key : goal.returns-in-Key
returns-in-Key c = told_writes c.args.slot.now c.args.place c.args.rank _ _ _ c.in-Key.is c.write_key.ensures

pub returns-in-QuickTexts : goal.returns-in-QuickTexts
returns-in-QuickTexts c = told_writes c.args.slot.now c.args.place c.args.rank _ _ _ c.in-QuickTexts.is c.write_quick.ensures

pub returns-in-Home : goal.returns-in-Home
returns-in-Home c = told_writes c.args.slot.now c.args.place c.args.rank _ _ _ c.in-Home.is c.write_home.ensures

pub returns-in-Channels : goal.returns-in-Channels
returns-in-Channels c = told_writes c.args.slot.now c.args.place c.args.rank _ _ _ c.in-Channels.is c.write_channel.ensures

pub returns-in-System : goal.returns-in-System
returns-in-System c = told_writes c.args.slot.now c.args.place c.args.rank _ _ _ c.in-System.is c.write_system.ensures

pub returns-in-Hash : goal.returns-in-Hash
returns-in-Hash c = told_writes c.args.slot.now c.args.place c.args.rank _ _ _ c.in-Hash.is c.write_hash.ensures
