use Rattle.lists.proofs.Kit.{rules}
use Rattle.store_lists.proofs.ContactLaws.{slot_made}
use Rattle.store_lists.proofs.contacts.contact_slot.Goals as goal

pub returns : goal.returns
returns c =
    let a = c.args in
    let h = c.head_of-head in
    let y = c.fill_slot in
    slot_made a.m.now a.flags a.place h.result y.new.slot h.ensures.0 h.ensures.1 y.ensures
