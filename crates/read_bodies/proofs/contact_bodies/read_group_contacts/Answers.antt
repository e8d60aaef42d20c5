use Rattle.lists.proofs.Kit.{arith, refl, sym, subst⁻¹, map}
use Rattle.writing.specs.declared.Kind.TheVariants.{GroupContacts as KGroupContacts}
use Rattle.settings.specs.Meant.{BodyAt}
use Rattle.settings.specs.declared.settings.Setting.TheVariants.{GroupContacts}
use Rattle.settings.proofs.BodyLaws.{no_head, no_body, the_body, op_small}
use Rattle.read_bodies.proofs.ListLaws.{group_contacts_head}
use Rattle.writing.specs.Ranges.{text_limits}
use Rattle.read_fields.proofs.AddressLaws.{readdressed, stand_readdressed}
use Rattle.plan.specs.declared.numbers.GroupAddress.{GroupAddress}
use Rattle.read_bodies.proofs.FlagLaws.{group_shifted}
use Rattle.read_bodies.proofs.contact_bodies.read_group_contacts.Goals as goal

pub returns-in_err-n : goal.returns-in_err-n
returns-in_err-n c =
    let a = c.args in
    λ ops left. subst⁻¹ (BodyAt a.coding KGroupContacts left a.m.now a.p) c.from_residual.ensures
    (no_head KGroupContacts (group_contacts_head a.coding) left a.m.now a.p (λ i. (c.type_inv.m i).fits) (λ x r k i. c.in_err-n.ensures r x.0 (sym k.0) (omega (arith, op_small x.0))))

pub returns-then-flags-eq0 : goal.returns-then-flags-eq0
returns-then-flags-eq0 c =
    let a = c.args in
    let f = group_shifted c.in_ok-n.n 256 c.group_flags-flags.ensures in
    λ ops left. no_body KGroupContacts (group_contacts_head a.coding) left a.m.now a.p (λ i. (c.type_inv.m i).fits) c.in_ok-n.ensures.1
    (λ x next k i t. i.0 (omega (arith, k.1.0, f.0)))

pub returns-in_err-next : goal.returns-in_err-next
returns-in_err-next c =
    let a = c.args in
    λ ops left. subst⁻¹ (BodyAt a.coding KGroupContacts left a.m.now a.p) c.from_residual-in_err-next.ensures
    (no_body KGroupContacts (group_contacts_head a.coding) left a.m.now a.p (λ i. (c.type_inv.m i).fits) c.in_ok-n.ensures.1
    (λ x next k i t. c.in_err-next.ensures (map (readdressed (λ a. a.0)) x.2) next
    (stand_readdressed (λ a. a.0) (λ a. a) a.coding text_limits a.m.now _ _ next x.2 (record { counted = omega (arith, k.1.1.1.1.1.1.1.1.0); in_range = i.1; stands = t }))))

pub returns : goal.returns
returns c =
    let a = c.args in
    let z = c.in_ok-n.ensures in
    let w = c.in_ok-next.ensures in
    let o = c.in_ok-n.operation in
    let s = stand_readdressed {B = GroupAddress} (λ a. record { 0 = a }) (λ a. a.0) a.coding text_limits a.m.now _ _ c.in_ok-next.next w.0 w.1 in
    let f = c.group_flags-flags in
    let g = group_shifted c.in_ok-n.n 256 f.ensures in
    λ ops left. the_body KGroupContacts (group_contacts_head a.coding) left a.m.now a.p (λ i. (c.type_inv.m i).fits) z.1 (o, f.result, map (readdressed (λ a. record { 0 = a })) w.0)
    (GroupContacts o f.result _) c.in_ok-next.next z.0 (sym z.2, (g.0, (g.1, (g.2, (g.3, (g.4, (g.5, (tt, (omega (arith, s.counted), tt))))))))) (λ e. omega (arith, c.if-flags-eq0.false), s.in_range) s.stands
    (map (readdressed (λ a. record { 0 = a })) w.0, refl, record { counted = s.counted; stands = s.stands })
