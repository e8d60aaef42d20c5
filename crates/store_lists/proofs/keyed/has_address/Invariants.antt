use Rattle.lists.proofs.Kit.{rules, arith, ◌-◌}
use Rattle.store_lists.proofs.AddressLaws.{OthersTo, others_on, others_end, looked_yes}
use Rattle.store_lists.proofs.keyed.has_address.Given as goal

abbrev pub invariant-loop-i : goal.invariant-loop-i
invariant-loop-i l = OthersTo l.x l.y l.z l.list l.i
