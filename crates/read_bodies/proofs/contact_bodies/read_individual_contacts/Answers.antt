use Rattle.lists.proofs.Kit.{arith, refl, sym, subst⁻¹, map}
use Rattle.writing.specs.declared.Kind.TheVariants.{IndividualContacts as KIndividualContacts}
use Rattle.settings.specs.Meant.{BodyAt}
use Rattle.settings.specs.declared.settings.Setting.TheVariants.{IndividualContacts}
use Rattle.settings.proofs.BodyLaws.{no_head, no_body, the_body, op_small}
use Rattle.read_bodies.proofs.ListLaws.{individual_contacts_head}
use Rattle.writing.specs.Ranges.{text_limits}
use Rattle.read_fields.proofs.AddressLaws.{readdressed, stand_readdressed}
use Rattle.plan.specs.declared.numbers.IndividualAddress.{IndividualAddress}
use Rattle.read_bodies.proofs.contact_bodies.read_individual_contacts.Goals as goal

pub returns-in_err-n : goal.returns-in_err-n
returns-in_err-n c =
    let a = c.args in
    λ ops left. subst⁻¹ (BodyAt a.coding KIndividualContacts left a.m.now a.p) c.from_residual.ensures
    (no_head KIndividualContacts (individual_contacts_head a.coding) left a.m.now a.p (λ i. (c.type_inv.m i).fits) (λ x r k i. c.in_err-n.ensures r x.0 (sym k.0) (omega (arith, op_small x.0))))

pub returns-in_err-next : goal.returns-in_err-next
returns-in_err-next c =
    let a = c.args in
    λ ops left. subst⁻¹ (BodyAt a.coding KIndividualContacts left a.m.now a.p) c.from_residual-in_err-next.ensures
    (no_body KIndividualContacts (individual_contacts_head a.coding) left a.m.now a.p (λ i. (c.type_inv.m i).fits) c.in_ok-n.ensures.1
    (λ x next k i t. c.in_err-next.ensures (map (readdressed (λ a. a.0)) x.2) next
    (stand_readdressed (λ a. a.0) (λ a. a) a.coding text_limits a.m.now _ _ next x.2 (record { counted = omega (arith, k.1.1.1.1.1.0); in_range = i; stands = t }))))

pub returns : goal.returns
returns c =
    let a = c.args in
    let z = c.in_ok-n.ensures in
    let w = c.in_ok-next.ensures in
    let o = c.in_ok-n.operation in
    let s = stand_readdressed {B = IndividualAddress} (λ a. record { 0 = a }) (λ a. a.0) a.coding text_limits a.m.now _ _ c.in_ok-next.next w.0 w.1 in
    let f = c.individual_flags-flags in
    λ ops left. the_body KIndividualContacts (individual_contacts_head a.coding) left a.m.now a.p (λ i. (c.type_inv.m i).fits) z.1 (o, f.result, map (readdressed (λ a. record { 0 = a })) w.0)
    (IndividualContacts o f.result _) c.in_ok-next.next z.0 (sym z.2, (f.ensures.encryption, (f.ensures.emergency, (f.ensures.priority, (tt, (omega (arith, s.counted), tt)))))) s.in_range s.stands
    (map (readdressed (λ a. record { 0 = a })) w.0, refl, record { counted = s.counted; stands = s.stands })
