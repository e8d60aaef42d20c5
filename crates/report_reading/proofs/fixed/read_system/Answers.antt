use Rattle.lists.proofs.Kit.{rules, arith, ◌+◌, ◌/◌, ◌%◌, refl, subst⁻¹}
use Rattle.lists.specs.Bytes.{Bytes}
use Rattle.read_fields.proofs.Parts.{nothing}
use Rattle.reports.specs.declared.Asked.TheVariants.{System as ASystem}
use Rattle.report_reading.specs.declared.items.Item.TheVariants.{System}
use Rattle.report_reading.specs.Readers.{ItemAt, KeptAt}
use Rattle.report_reading.proofs.HeadLaws.{no_head, room, no_item, the_item}
use Rattle.report_reading.proofs.ItemHeads.{system_head}
use Rattle.settings.proofs.BodyLaws.{flag_bit}
use Rattle.report_reading.proofs.fixed.read_system.Goals as goal

pub returns-in_err-n : goal.returns-in_err-n
returns-in_err-n c =
    let a = c.args in
    let h : Bytes a.m.now = λ i. (c.type_inv.m i).fits in
    subst⁻¹ (ItemAt ASystem a.m.now a.p) c.from_residual.ensures
    (no_head ASystem system_head a.m.now a.p h c.in_err-n.ensures refl)

pub returns-then-la-gt8 : goal.returns-then-la-gt8
returns-then-la-gt8 c =
    let a = c.args in
    let h : Bytes a.m.now = λ i. (c.type_inv.m i).fits in
    no_item ASystem system_head a.m.now a.p h c.in_ok-n.n c.in_ok-n.ensures refl (λ x next k i t. omega (arith, k.1.0, i.la))

pub returns-then-roaming-eq3 : goal.returns-then-roaming-eq3
returns-then-roaming-eq3 c =
    let a = c.args in
    let h : Bytes a.m.now = λ i. (c.type_inv.m i).fits in
    no_item ASystem system_head a.m.now a.p h c.in_ok-n.n c.in_ok-n.ensures refl (λ x next k i t. omega (arith, k.1.1.0, i.roaming))

pub overflow_add-result : goal.overflow_add-result
overflow_add-result c =
    let a = c.args in
    let h : Bytes a.m.now = λ i. (c.type_inv.m i).fits in
    omega (arith, room ASystem system_head a.m.now a.p h c.in_ok-n.n c.in_ok-n.ensures refl)

pub returns : goal.returns
returns c =
    let a = c.args in
    let h : Bytes a.m.now = λ i. (c.type_inv.m i).fits in
    let n = c.in_ok-n.n in
    let b = c.flag-par in
    the_item ASystem system_head a.m.now a.p h c.in_ok-n.n c.in_ok-n.ensures refl
    (record { lai = n / 4096 % 4096; la = n / 256 % 16; roaming = n / 64 % 4; par = b.result })
    (System (record { lai = n / 4096 % 4096; la = n / 256 % 16; roaming = n / 64 % 4; par = b.result })) (a.p + 4)
    (refl, (refl, (refl, (flag_bit (n / 32) b.result b.ensures, (tt, tt)))))
    (record { lai = omega arith; la = omega arith; roaming = omega (arith, c.if-roaming-eq3.false) }) (nothing a.m.now (a.p + 4)) refl
