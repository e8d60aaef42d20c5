use Rattle.lists.proofs.Kit.{suc, ◌-◌}
use Rattle.read_fields.proofs.TextWalk.{TextPassed}
use Rattle.read_fields.proofs.texts.read_units.Given as goal

abbrev pub invariant-loop-units : goal.invariant-loop-units
invariant-loop-units g l = TextPassed l.coding l.m l.at l.p l.units

abbrev pub decreases-loop-units : goal.decreases-loop-units
decreases-loop-units g l = suc l.limit - l.units
