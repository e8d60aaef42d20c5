use Rattle.lists.proofs.Kit.{arith, ◌+◌, ◌/◌, ◌%◌, refl, sym, ◌∙◌, subst⁻¹, ◌≢◌}
use Rattle.writing.specs.declared.Kind.TheVariants.{Group as KGroup}
use Rattle.writing.specs.Ranges.{InAddress, InSlot}
use Rattle.settings.specs.Meant.{BodyAt}
use Rattle.settings.specs.declared.settings.Setting.TheVariants.{Group}
use Rattle.settings.proofs.BodyLaws.{no_head, no_body, the_body}
use Rattle.read_bodies.proofs.SlotLaws.{group_head, slot_op, slot_in}
use Rattle.read_bodies.proofs.FlagLaws.{group_shifted}
use Rattle.read_fields.proofs.TextWalk.{text_read}
use Rattle.read_bodies.proofs.slot_bodies.read_group.Goals as goal

pub returns-in_err-n : goal.returns-in_err-n
returns-in_err-n c =
    let a = c.args in
    λ ops left. subst⁻¹ (BodyAt a.coding KGroup left a.m.now a.p) c.from_residual.ensures
    (no_head KGroup (group_head a.coding) left a.m.now a.p (λ i. (c.type_inv.m i).fits) (λ x r k i. c.in_err-n.ensures r x.0 (sym k.0) (omega (arith, slot_op x.0 (λ q. InSlot q ((x.1.attribute ≢ 0) × InAddress x.2.address.0)) (λ e. e) i.0))))

pub returns-then-slot_refused : goal.returns-then-slot_refused
returns-then-slot_refused c =
    let a = c.args in
    let g = group_shifted c.in_ok-n.n 16777216 c.group_flags-flags.ensures in
    λ ops left. no_body KGroup (group_head a.coding) left a.m.now a.p (λ i. (c.type_inv.m i).fits) c.in_ok-n.ensures.1
    (λ x next k i t. c.if-slot_refused.ensures (slot_in c.in_ok-n.operation x.0 c.group_flags-flags.result.attribute x.1.attribute (c.in_ok-n.n % 16777216) x.2.address.0 (c.in_ok-n.ensures.2 ∙ k.0) (sym g.0 ∙ k.1.0) (omega (arith, k.1.1.1.1.1.1.1.1.1.0)) i.0))

pub returns-in_err-text : goal.returns-in_err-text
returns-in_err-text c =
    let a = c.args in
    λ ops left. subst⁻¹ (BodyAt a.coding KGroup left a.m.now a.p) c.from_residual-in_err-text.ensures
    (no_body KGroup (group_head a.coding) left a.m.now a.p (λ i. (c.type_inv.m i).fits) c.in_ok-n.ensures.1 (λ x next k i t. c.in_err-text.ensures x.2.text next i.1 t))

pub returns : goal.returns
returns c =
    let a = c.args in
    let n = c.in_ok-n.n in
    let z = c.in_ok-n.ensures in
    let o = c.in_ok-n.operation in
    let f = c.group_flags-flags in
    let g = group_shifted n 16777216 f.ensures in
    let t = text_read a.coding a.m.now (a.p + 5) 16 c.in_ok-text.text c.in_ok-text.next c.in_ok-text.ensures refl in
    λ ops left. the_body KGroup (group_head a.coding) left a.m.now a.p (λ i. (c.type_inv.m i).fits) z.1
    (o, f.result, record { index = n / 16777216 % 16; address = record { 0 = n % 16777216 }; text = t.0 })
    (Group o f.result (record { index = n / 16777216 % 16; address = record { 0 = n % 16777216 }; text = c.in_ok-text.text }))
    c.in_ok-text.next z.0 (sym z.2, (g.0, (g.1, (g.2, (g.3, (g.4, (g.5, (tt, (refl, (omega arith, tt)))))))))) (c.if-slot_refused.ensures, t.1) t.3 (t.0, refl, (c.in_ok-text.next, t.2))
