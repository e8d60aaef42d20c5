use Rattle.lists.proofs.Kit.{rules, arith, ◌+◌, ◌/◌, ◌%◌, refl, subst⁻¹, ◌≤◌}
use Rattle.lists.specs.Bytes.{Bytes}
use Rattle.read_fields.proofs.Parts.{nothing}
use Rattle.reports.specs.declared.Asked.TheVariants.{Channels}
use Rattle.report_reading.specs.declared.items.Item.TheVariants.{Channel}
use Rattle.report_reading.specs.Readers.{ItemAt, KeptAt}
use Rattle.report_reading.proofs.HeadLaws.{no_head, room, no_item, the_item}
use Rattle.report_reading.proofs.ItemHeads.{channel_head}
use Rattle.report_reading.proofs.fixed.read_channel.Goals as goal

pub returns-in_err-n : goal.returns-in_err-n
returns-in_err-n c =
    let a = c.args in
    let h : Bytes a.m.now = λ i. (c.type_inv.m i).fits in
    subst⁻¹ (ItemAt Channels a.m.now a.p) c.from_residual.ensures
    (no_head Channels channel_head a.m.now a.p h c.in_err-n.ensures refl)

pub returns-then-not-contains : goal.returns-then-not-contains
returns-then-not-contains c =
    let a = c.args in
    let h : Bytes a.m.now = λ i. (c.type_inv.m i).fits in
    no_item Channels channel_head a.m.now a.p h c.in_ok-n.n c.in_ok-n.ensures refl (λ x next k i t. let low : 241 ≤ c.in_ok-n.n / 4096 % 4096 = omega (arith, k.0, i.0.0) in
    let high : c.in_ok-n.n / 4096 % 4096 ≤ 640 = omega (arith, k.0, i.0.1) in
    search rules)

pub overflow_add-result : goal.overflow_add-result
overflow_add-result c =
    let a = c.args in
    let h : Bytes a.m.now = λ i. (c.type_inv.m i).fits in
    omega (arith, room Channels channel_head a.m.now a.p h c.in_ok-n.n c.in_ok-n.ensures refl)

pub returns : goal.returns
returns c =
    let a = c.args in
    let h : Bytes a.m.now = λ i. (c.type_inv.m i).fits in
    let n = c.in_ok-n.n in
    the_item Channels channel_head a.m.now a.p h c.in_ok-n.n c.in_ok-n.ensures refl
    (n / 4096 % 4096, n % 4096) (Channel (n / 4096 % 4096) (n % 4096)) (a.p + 4) (refl, (omega arith, tt))
    ((search rules, search rules), omega arith) (nothing a.m.now (a.p + 4)) refl
