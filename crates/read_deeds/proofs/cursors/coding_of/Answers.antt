use Rattle.lists.proofs.Kit.{rules, refl, arith}
use Rattle.writing.specs.declared.Coding.TheVariants.{Unicode16, EightBit}
use Rattle.read_deeds.proofs.CursorLaws.{eight_bit, not_eight_bit}
use Rattle.read_deeds.proofs.cursors.coding_of.Goals as goal

pub returns-in-4 : goal.returns-in-4
returns-in-4 c = eight_bit c.args.byte (omega arith)

pub returns-in_default : goal.returns-in_default
returns-in_default c = not_eight_bit c.args.byte (λ e. omega arith)
