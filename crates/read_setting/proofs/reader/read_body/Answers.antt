use Rattle.lists.proofs.Kit.{rules, arith}
use Rattle.settings.proofs.TypeTableLaws.{one_of_thirteen}
use Rattle.read_setting.proofs.SettingLaws.{by_row}
use Rattle.writing.specs.declared.Kind.TheVariants.{GroupContacts, IndividualContacts, Lines, Key, QuickTexts, Home, Channels, System, StatusTexts, Group, Individual, LineSlot, Last}
use Rattle.read_setting.proofs.reader.read_body.Goals as goal

pub returns-in-200 : goal.returns-in-200
returns-in-200 c = λ k is. by_row c.args.coding GroupContacts k c.args.row _ _ _ c.read_group_contacts.result is (omega arith) (λ is. c.read_group_contacts.ensures is.operations c.args.left)

pub returns-in-201 : goal.returns-in-201
returns-in-201 c = λ k is. by_row c.args.coding IndividualContacts k c.args.row _ _ _ c.read_individual_contacts.result is (omega arith) (λ is. c.read_individual_contacts.ensures is.operations c.args.left)

pub returns-in-202 : goal.returns-in-202
returns-in-202 c = λ k is. by_row c.args.coding Lines k c.args.row _ _ _ c.read_lines.result is (omega arith) (λ is. c.read_lines.ensures is.operations c.args.left)

pub returns-in-203 : goal.returns-in-203
returns-in-203 c = λ k is. by_row c.args.coding Key k c.args.row _ _ _ c.read_key.result is (omega arith) (λ is. c.read_key.ensures c.args.coding c.args.left)

pub returns-in-204 : goal.returns-in-204
returns-in-204 c = λ k is. by_row c.args.coding QuickTexts k c.args.row _ _ _ c.read_quick_texts.result is (omega arith) (λ is. c.read_quick_texts.ensures is.operations c.args.left)

pub returns-in-205 : goal.returns-in-205
returns-in-205 c = λ k is. by_row c.args.coding Home k c.args.row _ _ _ c.read_home.result is (omega arith) (λ is. c.read_home.ensures c.args.coding c.args.left)

pub returns-in-206 : goal.returns-in-206
returns-in-206 c = λ k is. by_row c.args.coding Channels k c.args.row _ _ _ c.read_channels.result is (omega arith) (λ is. c.read_channels.ensures is.operations c.args.left)

pub returns-in-207 : goal.returns-in-207
returns-in-207 c = λ k is. by_row c.args.coding System k c.args.row _ _ _ c.read_system.result is (omega arith) (λ is. c.read_system.ensures c.args.coding c.args.left)

pub returns-in-208 : goal.returns-in-208
returns-in-208 c = λ k is. by_row c.args.coding StatusTexts k c.args.row _ _ _ c.read_status_texts.result is (omega arith) (λ is. c.read_status_texts.ensures is.operations c.args.left)

pub returns-in-209 : goal.returns-in-209
returns-in-209 c = λ k is. by_row c.args.coding Group k c.args.row _ _ _ c.read_group.result is (omega arith) (λ is. c.read_group.ensures is.operations c.args.left)

pub returns-in-210 : goal.returns-in-210
returns-in-210 c = λ k is. by_row c.args.coding Individual k c.args.row _ _ _ c.read_individual.result is (omega arith) (λ is. c.read_individual.ensures is.operations c.args.left)

pub returns-in-211 : goal.returns-in-211
returns-in-211 c = λ k is. by_row c.args.coding LineSlot k c.args.row _ _ _ c.read_line_slot.result is (omega arith) (λ is. c.read_line_slot.ensures is.operations c.args.left)

pub returns-in-255 : goal.returns-in-255
returns-in-255 c = λ k is. by_row c.args.coding Last k c.args.row _ _ _ c.read_last.result is (omega arith) (λ is. c.read_last.ensures c.args.coding)

pub returns-in_default : goal.returns-in_default
returns-in_default c =
    λ k is. absurd (one_of_thirteen (λ u. omega arith) (λ u. omega arith) (λ u. omega arith) (λ u. omega arith) (λ u. omega arith) (λ u. omega arith) (λ u. omega arith) (λ u. omega arith) (λ u. omega arith) (λ u. omega arith) (λ u. omega arith) (λ u. omega arith) (λ u. omega arith) k is.type)
