use Rattle.lists.proofs.Kit.{rules, arith, ◌+◌, ◌%◌, refl, subst, subst⁻¹}
use Rattle.lists.specs.Bytes.{Bytes}
use Rattle.writing.specs.Settings.{unicode16}
use Rattle.read_fields.specs.TextsAndNumbers.{TextAt, NumberIs}
use Rattle.reports.specs.declared.Asked.TheVariants.{Lines}
use Rattle.report_reading.specs.declared.items.Item.TheVariants.{Line}
use Rattle.report_reading.specs.Readers.{ItemAt, KeptAt}
use Rattle.report_reading.proofs.HeadLaws.{no_head, room, no_item, the_item, text_found}
use Rattle.report_reading.proofs.ItemHeads.{line_head}
use Rattle.report_reading.proofs.LineLaws.{no_number, number_found, behind_number, both_stand}
use Rattle.report_reading.proofs.contacts.read_line.Goals as goal

pub returns-in_err-n : goal.returns-in_err-n
returns-in_err-n c =
    let a = c.args in
    let h : Bytes a.m.now = λ i. (c.type_inv.m i).fits in
    subst⁻¹ (ItemAt Lines a.m.now a.p) c.from_residual.ensures
    (no_head Lines line_head a.m.now a.p h c.in_err-n.ensures refl)

pub overflow_add-p : goal.overflow_add-p
overflow_add-p c =
    let a = c.args in
    let h : Bytes a.m.now = λ i. (c.type_inv.m i).fits in
    omega (arith, room Lines line_head a.m.now a.p h c.in_ok-n.n c.in_ok-n.ensures refl)

pub returns-in_err-place : goal.returns-in_err-place
returns-in_err-place c =
    let a = c.args in
    let h : Bytes a.m.now = λ i. (c.type_inv.m i).fits in
    subst⁻¹ (ItemAt Lines a.m.now a.p) c.from_residual-in_err-place.ensures
    (no_item Lines line_head a.m.now a.p h c.in_ok-n.n c.in_ok-n.ensures refl
    (λ x next k i t. no_number a.m.now (a.p + 3) c.in_err-place.ensures refl x.1.number x.1.text next i.1.number t))

pub returns-in_err-text : goal.returns-in_err-text
returns-in_err-text c =
    let a = c.args in
    let h : Bytes a.m.now = λ i. (c.type_inv.m i).fits in
    subst⁻¹ (ItemAt Lines a.m.now a.p) c.from_residual-in_err-text.ensures
    (no_item Lines line_head a.m.now a.p h c.in_ok-n.n c.in_ok-n.ensures refl
    (λ x next k i t. c.in_err-text.ensures x.1.text next i.1.text.short (behind_number a.m.now (a.p + 3) c.in_ok-place.place c.in_ok-place.end c.in_ok-place.ensures refl x.1.number x.1.text next t)))

pub returns : goal.returns
returns c =
    let a = c.args in
    let h : Bytes a.m.now = λ i. (c.type_inv.m i).fits in
    let n = c.in_ok-n.n in
    let y = number_found a.m.now (a.p + 3) c.in_ok-place.place c.in_ok-place.end c.in_ok-place.ensures refl in
    let z = text_found a.m.now c.in_ok-place.end 16 c.in_ok-text.text c.in_ok-text.next c.in_ok-text.ensures refl in
    let f = c.line_flags-flags in
    the_item Lines line_head a.m.now a.p h c.in_ok-n.n c.in_ok-n.ensures refl
    (n % 16, record { flags = f.result; number = y.0; text = z.us }) (Line (n % 16) f.result c.in_ok-place.place c.in_ok-text.text) c.in_ok-text.next
    (f.ensures.pabx, (f.ensures.encryption, (f.ensures.emergency, (f.ensures.priority, (tt, (omega arith, tt))))))
    (omega arith, record { priority = omega (arith, f.ensures.priority); number = y.1; text = z.ok })
    (both_stand a.m.now (a.p + 3) c.in_ok-place.place c.in_ok-place.end c.in_ok-place.ensures refl z.us c.in_ok-text.next z.stands)
    (c.in_ok-place.place, c.in_ok-text.text, refl, subst⁻¹ (NumberIs a.m.now c.in_ok-place.place y.0) z.start y.2, z.ends)
