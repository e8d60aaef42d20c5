use Rattle.lists.proofs.Kit.{rules, arith, ◌+◌, ◌/◌, ◌%◌, refl, subst⁻¹}
use Rattle.lists.specs.Bytes.{Bytes}
use Rattle.read_fields.proofs.Parts.{nothing}
use Rattle.reports.specs.declared.Asked.TheVariants.{Home as AHome}
use Rattle.report_reading.specs.declared.items.Item.TheVariants.{Home}
use Rattle.report_reading.specs.Readers.{ItemAt, KeptAt}
use Rattle.report_reading.proofs.HeadLaws.{no_head, room, no_item, the_item}
use Rattle.report_reading.proofs.ItemHeads.{home_head}
use Rattle.report_reading.proofs.fixed.read_home.Goals as goal

pub returns-in_err-n : goal.returns-in_err-n
returns-in_err-n c =
    let a = c.args in
    let h : Bytes a.m.now = λ i. (c.type_inv.m i).fits in
    subst⁻¹ (ItemAt AHome a.m.now a.p) c.from_residual.ensures
    (no_head AHome home_head a.m.now a.p h c.in_err-n.ensures refl)

pub returns-then-np-gt806 : goal.returns-then-np-gt806
returns-then-np-gt806 c =
    let a = c.args in
    let h : Bytes a.m.now = λ i. (c.type_inv.m i).fits in
    no_item AHome home_head a.m.now a.p h c.in_ok-n.n c.in_ok-n.ensures refl (λ x next k i t. omega (arith, k.1.0, i.np))

pub overflow_add-result : goal.overflow_add-result
overflow_add-result c =
    let a = c.args in
    let h : Bytes a.m.now = λ i. (c.type_inv.m i).fits in
    omega (arith, room AHome home_head a.m.now a.p h c.in_ok-n.n c.in_ok-n.ensures refl)

pub returns : goal.returns
returns c =
    let a = c.args in
    let h : Bytes a.m.now = λ i. (c.type_inv.m i).fits in
    let n = c.in_ok-n.n in
    the_item AHome home_head a.m.now a.p h c.in_ok-n.n c.in_ok-n.ensures refl
    (record { nzi = n / 32768 % 512; np = n / 32 % 1024 }) (Home (record { nzi = n / 32768 % 512; np = n / 32 % 1024 })) (a.p + 4)
    (refl, (refl, (tt, tt))) (record { nzi = omega arith; np = omega arith }) (nothing a.m.now (a.p + 4)) refl
