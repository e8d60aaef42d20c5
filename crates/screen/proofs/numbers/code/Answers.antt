use Rattle.lists.proofs.Kit.{arith}
use Rattle.screen.proofs.NumberLaws.{ascii_low, ascii_high}
use Rattle.screen.proofs.numbers.code.Goals as goal

pub returns-then-digit-lt10 : goal.returns-then-digit-lt10
returns-then-digit-lt10 c = ascii_low c.args.digit (omega arith)

pub returns-else-digit-lt10 : goal.returns-else-digit-lt10
returns-else-digit-lt10 c = ascii_high c.args.digit (omega arith)
