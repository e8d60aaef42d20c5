use Rattle.lists.proofs.Kit.{rules, arith}
use Rattle.tables.proofs.AnswerLaws.{refused, not_said, was_said, turned}
use Rattle.tables.specs.declared.members.Members.TheVariants.{OfGroups, OfIndividuals}
use Rattle.store_check.specs.Stores.{group_contacts_start, individual_contacts_start}
use Rattle.store_check.proofs.StoreChecks.{contacts_told}
use Rattle.store_check.proofs.checks_regions.contact_lists_ok.Goals as goal

pub returns-then-not-contacts_ok : goal.returns-then-not-contacts_ok
returns-then-not-contacts_ok c =
    let w = c.starts_of-at in
    let t = c.contacts_ok in
    refused (λ x. not_said t.result (contacts_told c.args.form OfGroups c.args.store.now _ _ (group_contacts_start c.args.form) w.ensures.group_contacts w.ensures.individual_contacts (omega (arith, c.requires, w.ensures.individual_contacts)) t.result t.ensures) c.if-not-contacts_ok.true-raw x.0)

pub returns : goal.returns
returns c =
    let f = c.args.form in
    let w = c.starts_of-at in
    let t = c.contacts_ok in
    let u = c.contacts_ok-2 in
    let g = was_said t.result (contacts_told f OfGroups c.args.store.now _ _ (group_contacts_start f) w.ensures.group_contacts w.ensures.individual_contacts (omega (arith, c.requires, w.ensures.individual_contacts)) t.result t.ensures) c.if-not-contacts_ok.false-raw in
    turned u.result (contacts_told f OfIndividuals c.args.store.now _ _ (individual_contacts_start f) w.ensures.individual_contacts w.ensures.channels (omega (arith, c.requires, w.ensures.channels)) u.result u.ensures) (λ x. (g, (x, tt))) (λ x. x.1.0)
