use Rattle.lists.proofs.Kit.{arith, refl, ◌≤◌}
use Rattle.lists.proofs.Every.{all_get}
use Rattle.callers.proofs.LookupLaws.{key_more, key_done}
use Rattle.callers.proofs.lookup.key_of.Goals as goal

pub loop-i-init : goal.loop-i-init
loop-i-init c = record { within = omega arith; bytes = refl }

pub overflow_add-key : goal.overflow_add-key
overflow_add-key c =
    omega (arith, all_get (◌≤ 9) c.args.digits.now c.loop-i.i 0 c.requires.2 (omega arith))

pub loop-i-preserved : goal.loop-i-preserved
loop-i-preserved c =
    key_more c.args.idtype c.args.digits.now c.loop-i.i c.loop-i.key c.requires.1 c.loop-i.invariant (omega arith)

pub returns : goal.returns
returns c = key_done c.args.idtype c.args.digits.now c.loop-i.i c.loop-i.key c.loop-i.invariant (omega arith)
