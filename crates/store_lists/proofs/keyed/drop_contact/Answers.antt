use Rattle.lists.proofs.Kit.{rules, arith}
use Rattle.store_lists.proofs.AddressLaws.{none_dropped}
use Rattle.store_lists.proofs.keyed.drop_contact.Goals as goal

pub returns-else-has_address : goal.returns-else-has_address
returns-else-has_address c =
    let a = c.args in
    let h = c.has_address in
    none_dropped a.slot.now a.list.now (omega arith) h.result c.if-has_address.false h.ensures
