use Rattle.lists.proofs.Kit.{rules, arith, ◌+◌, ◌/◌, ◌%◌, refl, subst, subst⁻¹}
use Rattle.lists.specs.Bytes.{Bytes}
use Rattle.writing.specs.declared.KeyFlags.{KeyFlags}
use Rattle.read_fields.proofs.Parts.{nothing}
use Rattle.reports.specs.declared.Asked.TheVariants.{Key as AKey}
use Rattle.report_reading.specs.Readers.{TargetIs}
use Rattle.report_reading.specs.declared.items.Item.TheVariants.{Key}
use Rattle.report_reading.specs.Readers.{ItemAt, KeptAt}
use Rattle.report_reading.proofs.HeadLaws.{no_head, room, no_item, the_item}
use Rattle.report_reading.proofs.ItemHeads.{key_head}
use Rattle.report_reading.proofs.KeyLaws.{bit_flag, target_bits}
use Rattle.settings.proofs.BodyLaws.{flag_bit}
use Rattle.report_reading.proofs.fixed.read_key.Goals as goal

pub returns-in_err-n : goal.returns-in_err-n
returns-in_err-n c =
    let a = c.args in
    let h : Bytes a.m.now = λ i. (c.type_inv.m i).fits in
    subst⁻¹ (ItemAt AKey a.m.now a.p) c.from_residual.ensures
    (no_head AKey key_head a.m.now a.p h c.in_err-n.ensures refl)

pub returns-in_err-target : goal.returns-in_err-target
returns-in_err-target c =
    let a = c.args in
    let h : Bytes a.m.now = λ i. (c.type_inv.m i).fits in
    let n = c.in_ok-n.n in
    subst⁻¹ (ItemAt AKey a.m.now a.p) c.from_residual-in_err-target.ensures
    (no_item AKey key_head a.m.now a.p h c.in_ok-n.n c.in_ok-n.ensures refl
    (λ x next k i t. c.in_err-target.ensures x.target (record { group = bit_flag (n / 2147483648) _ _ c.flag.ensures k.0; place = bit_flag (n / 1073741824) _ _ c.flag-2.ensures k.1.0; address = omega (arith, k.1.1.1.1.1.1.0); in_range = i })))

pub overflow_add-result : goal.overflow_add-result
overflow_add-result c =
    let a = c.args in
    let h : Bytes a.m.now = λ i. (c.type_inv.m i).fits in
    omega (arith, room AKey key_head a.m.now a.p h c.in_ok-n.n c.in_ok-n.ensures refl)

pub returns : goal.returns
returns c =
    let a = c.args in
    let h : Bytes a.m.now = λ i. (c.type_inv.m i).fits in
    let n = c.in_ok-n.n in
    let z = c.in_ok-target.ensures (omega arith) in
    let f : KeyFlags = record { voice = c.flag-3.result; status = c.flag-4.result; siren = c.flag-5.result } in
    the_item AKey key_head a.m.now a.p h c.in_ok-n.n c.in_ok-n.ensures refl
    (record { target = c.in_ok-target.target; flags = f }) (Key c.in_ok-target.target f) (a.p + 5) (
      target_bits (n / 2147483648) c.flag.ensures z.group,
      (target_bits (n / 1073741824) c.flag-2.ensures z.place, (flag_bit (n / 536870912) _ c.flag-3.ensures, (flag_bit (n / 268435456) _ c.flag-4.ensures, (flag_bit (n / 134217728) _ c.flag-5.ensures, (tt, (omega (arith, z.address), tt)))))),
    )
    z.in_range (nothing a.m.now (a.p + 5)) refl
