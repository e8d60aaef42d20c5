use Rattle.lists.proofs.Kit.{rules, arith, ◌+◌, ◌/◌, ◌%◌, refl, subst⁻¹, ◌≤◌}
use Rattle.lists.specs.Bytes.{Bytes}
use Rattle.reports.specs.declared.Asked.TheVariants.{StatusTexts}
use Rattle.report_reading.specs.declared.items.Item.TheVariants.{Status}
use Rattle.report_reading.specs.Readers.{ItemAt, KeptAt}
use Rattle.report_reading.proofs.HeadLaws.{no_head, room, no_item, the_item, text_found, no_text}
use Rattle.report_reading.proofs.ItemHeads.{status_head}
use Rattle.report_reading.proofs.texts.read_status.Goals as goal

pub returns-in_err-n : goal.returns-in_err-n
returns-in_err-n c =
    let a = c.args in
    let h : Bytes a.m.now = λ i. (c.type_inv.m i).fits in
    subst⁻¹ (ItemAt StatusTexts a.m.now a.p) c.from_residual.ensures
    (no_head StatusTexts status_head a.m.now a.p h c.in_err-n.ensures refl)

pub returns-then-not-contains : goal.returns-then-not-contains
returns-then-not-contains c =
    let a = c.args in
    let h : Bytes a.m.now = λ i. (c.type_inv.m i).fits in
    no_item StatusTexts status_head a.m.now a.p h c.in_ok-n.n c.in_ok-n.ensures refl (λ x next k i t. let low : 32 ≤ c.in_ok-n.n / 256 % 256 = omega (arith, k.0, i.0) in
    let high : c.in_ok-n.n / 256 % 256 ≤ 127 = omega (arith, k.0, i.1) in
    search rules)

pub overflow_add-p : goal.overflow_add-p
overflow_add-p c =
    let a = c.args in
    let h : Bytes a.m.now = λ i. (c.type_inv.m i).fits in
    omega (arith, room StatusTexts status_head a.m.now a.p h c.in_ok-n.n c.in_ok-n.ensures refl)

pub returns-in_err-text : goal.returns-in_err-text
returns-in_err-text c =
    let a = c.args in
    let h : Bytes a.m.now = λ i. (c.type_inv.m i).fits in
    subst⁻¹ (ItemAt StatusTexts a.m.now a.p) c.from_residual-in_err-text.ensures
    (no_text StatusTexts status_head (λ x. x.2) (λ x. refl) a.m.now a.p h c.in_ok-n.n c.in_ok-n.ensures refl 16
    (λ x i. i.3.short) c.in_err-text.ensures refl)

pub returns : goal.returns
returns c =
    let a = c.args in
    let h : Bytes a.m.now = λ i. (c.type_inv.m i).fits in
    let n = c.in_ok-n.n in
    let z = text_found a.m.now (a.p + 3) 16 c.in_ok-text.text c.in_ok-text.next c.in_ok-text.ensures refl in
    the_item StatusTexts status_head a.m.now a.p h c.in_ok-n.n c.in_ok-n.ensures refl
    (n / 256 % 256, n % 256, z.us) (Status (n / 256 % 256) (n % 256) c.in_ok-text.text) c.in_ok-text.next (refl, (omega arith, tt))
    (search rules, search rules, omega arith, z.ok) z.stands (c.in_ok-text.text, refl, z.ends)
