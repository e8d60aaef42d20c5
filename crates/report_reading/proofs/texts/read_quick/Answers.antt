use Rattle.lists.proofs.Kit.{rules, arith, ◌+◌, ◌/◌, ◌%◌, refl, subst⁻¹}
use Rattle.lists.specs.Bytes.{Bytes}
use Rattle.reports.specs.declared.Asked.TheVariants.{QuickTexts}
use Rattle.report_reading.specs.declared.items.Item.TheVariants.{Quick}
use Rattle.report_reading.specs.Readers.{ItemAt, KeptAt}
use Rattle.report_reading.proofs.HeadLaws.{no_head, room, the_item, text_found, no_text, no_such_text}
use Rattle.report_reading.proofs.ItemHeads.{quick_head}
use Rattle.report_reading.proofs.texts.read_quick.Goals as goal

pub returns-in_err-n : goal.returns-in_err-n
returns-in_err-n c =
    let a = c.args in
    let h : Bytes a.m.now = λ i. (c.type_inv.m i).fits in
    subst⁻¹ (ItemAt QuickTexts a.m.now a.p) c.from_residual.ensures
    (no_head QuickTexts quick_head a.m.now a.p h c.in_err-n.ensures refl)

pub overflow_add-p : goal.overflow_add-p
overflow_add-p c =
    let a = c.args in
    let h : Bytes a.m.now = λ i. (c.type_inv.m i).fits in
    omega (arith, room QuickTexts quick_head a.m.now a.p h c.in_ok-n.n c.in_ok-n.ensures refl)

pub returns-in_err-text : goal.returns-in_err-text
returns-in_err-text c =
    let a = c.args in
    let h : Bytes a.m.now = λ i. (c.type_inv.m i).fits in
    subst⁻¹ (ItemAt QuickTexts a.m.now a.p) c.from_residual-in_err-text.ensures
    (no_text QuickTexts quick_head (λ x. x.1) (λ x. refl) a.m.now a.p h c.in_ok-n.n c.in_ok-n.ensures refl 23
    (λ x i. i.1.text.short) c.in_err-text.ensures refl)

pub returns-then-text-lt1 : goal.returns-then-text-lt1
returns-then-text-lt1 c =
    let a = c.args in
    let h : Bytes a.m.now = λ i. (c.type_inv.m i).fits in
    no_such_text QuickTexts quick_head (λ x. x.1) (λ x. refl) a.m.now a.p h c.in_ok-n.n c.in_ok-n.ensures refl 23
    c.in_ok-text.text c.in_ok-text.next c.in_ok-text.ensures refl (λ x i d. omega (arith, i.1.some_unit))

pub returns : goal.returns
returns c =
    let a = c.args in
    let h : Bytes a.m.now = λ i. (c.type_inv.m i).fits in
    let n = c.in_ok-n.n in
    let z = text_found a.m.now (a.p + 2) 23 c.in_ok-text.text c.in_ok-text.next c.in_ok-text.ensures refl in
    the_item QuickTexts quick_head a.m.now a.p h c.in_ok-n.n c.in_ok-n.ensures refl
    (n / 4 % 64, z.us) (Quick (n / 4 % 64) c.in_ok-text.text) c.in_ok-text.next (refl, (tt, tt))
    (omega arith, record { some_unit = omega (arith, z.units); text = z.ok }) z.stands (c.in_ok-text.text, refl, z.ends)
