use Rattle.lists.proofs.Kit.{rules, arith, ◌+◌, ◌/◌, ◌%◌, refl, sym, subst, subst⁻¹}
use Rattle.lists.specs.Bytes.{Bytes}
use Rattle.writing.specs.Ranges.{InAddress}
use Rattle.read_fields.specs.TextsAndNumbers.{AddressRefused}
use Rattle.reports.specs.declared.Asked.TheVariants.{Groups}
use Rattle.report_reading.specs.declared.items.Item.TheVariants.{Group}
use Rattle.report_reading.specs.Readers.{ItemAt, KeptAt}
use Rattle.report_reading.proofs.HeadLaws.{no_head, room, no_item, the_item, text_found, no_text}
use Rattle.report_reading.proofs.ItemHeads.{group_head}
use Rattle.report_reading.proofs.contacts.read_group.Goals as goal

pub returns-in_err-n : goal.returns-in_err-n
returns-in_err-n c =
    let a = c.args in
    let h : Bytes a.m.now = λ i. (c.type_inv.m i).fits in
    subst⁻¹ (ItemAt Groups a.m.now a.p) c.from_residual.ensures
    (no_head Groups group_head a.m.now a.p h c.in_err-n.ensures refl)

pub returns-then-flags-eq0 : goal.returns-then-flags-eq0
returns-then-flags-eq0 c =
    let a = c.args in
    let h : Bytes a.m.now = λ i. (c.type_inv.m i).fits in
    no_item Groups group_head a.m.now a.p h c.in_ok-n.n c.in_ok-n.ensures refl
    (λ x next k i t. i.1.attribute.0 (omega (arith, k.1.1.0, c.group_flags-flags.ensures.attribute)))

pub returns-then-address_refused : goal.returns-then-address_refused
returns-then-address_refused c =
    let a = c.args in
    let h : Bytes a.m.now = λ i. (c.type_inv.m i).fits in
    let never = c.if-address_refused.ensures in
    no_item Groups group_head a.m.now a.p h c.in_ok-n.n c.in_ok-n.ensures refl
    (λ x next k i t. never (subst InAddress (sym k.0) i.1.address.0))

pub overflow_add-p : goal.overflow_add-p
overflow_add-p c =
    let a = c.args in
    let h : Bytes a.m.now = λ i. (c.type_inv.m i).fits in
    omega (arith, room Groups group_head a.m.now a.p h c.in_ok-n.n c.in_ok-n.ensures refl)

pub returns-in_err-text : goal.returns-in_err-text
returns-in_err-text c =
    let a = c.args in
    let h : Bytes a.m.now = λ i. (c.type_inv.m i).fits in
    subst⁻¹ (ItemAt Groups a.m.now a.p) c.from_residual-in_err-text.ensures
    (no_text Groups group_head (λ x. x.1.text) (λ x. refl) a.m.now a.p h c.in_ok-n.n c.in_ok-n.ensures refl 16
    (λ x i. i.1.text.short) c.in_err-text.ensures refl)

pub returns : goal.returns
returns c =
    let a = c.args in
    let h : Bytes a.m.now = λ i. (c.type_inv.m i).fits in
    let n = c.in_ok-n.n in
    let z = text_found a.m.now (a.p + 6) 16 c.in_ok-text.text c.in_ok-text.next c.in_ok-text.ensures refl in
    let f = c.group_flags-flags in
    let good = c.if-address_refused.ensures in
    the_item Groups group_head a.m.now a.p h n c.in_ok-n.ensures refl
    (n / 4096 % 16, record { flags = f.result; address = record { 0 = n / 65536 % 16777216 }; text = z.us })
    (Group (n / 4096 % 16) f.result (record { 0 = n / 65536 % 16777216 }) c.in_ok-text.text) c.in_ok-text.next
    (refl, (refl, (f.ensures.attribute, (f.ensures.broadcast, (f.ensures.encryption, (f.ensures.ovcm, (f.ensures.emergency, (f.ensures.priority, (tt, tt)))))))))
    (omega arith, record { attribute = (c.if-flags-eq0.false, omega (arith, f.ensures.attribute)); priority = omega (arith, f.ensures.priority); address = (good, omega arith); text = z.ok })
    z.stands (c.in_ok-text.text, refl, z.ends)
