use Rattle.lists.proofs.Kit.{rules, subst}
use Rattle.read_deeds.specs.ReadDeeds.{contact_entries}
use Rattle.read_deeds.proofs.EntryLaws.{plain_contacts, none_next, entry_next, contact_put}
use Rattle.read_deeds.proofs.entries.next_contact.Goals as goal

pub returns-in_default : goal.returns-in_default
returns-in_default c =
    let a = c.args in
    none_next contact_entries plain_contacts a.m.now a.left c.stay.result c.in_default.ensures

pub returns : goal.returns
returns c =
    let a = c.args in
    let (e, i, is, x) = c.in-Some.ensures in
    entry_next contact_entries plain_contacts a.m.now a.left c.pass.result _ e _ x (λ range. contact_put a.m.now a.left _ e is) c.pass.ensures
