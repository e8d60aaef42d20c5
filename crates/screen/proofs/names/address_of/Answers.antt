use Rattle.lists.proofs.Kit.{ap, length}
use Rattle.screen.proofs.SlotLaws.{address_is}
use Rattle.screen.proofs.names.address_of.Goals as goal

-- `screen::names::address_of` meets its contract. Assumes nothing.
pub returns-then-s-ne3 : goal.returns-then-s-ne3
returns-then-s-ne3 c = λ a e. absurd (c.if-s-ne3.true (ap length e))

pub returns : goal.returns
returns c =
    address_is c.args.s.now c.wide.result c.wide-2.result c.wide-3.result
    c.wide.ensures.0 c.wide-2.ensures.0 c.wide-3.ensures.0
