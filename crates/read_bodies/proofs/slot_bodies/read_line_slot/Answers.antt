use Rattle.lists.proofs.Kit.{arith, ◌%◌, refl, sym, subst⁻¹}
use Rattle.writing.specs.declared.Kind.TheVariants.{LineSlot as KLineSlot}
use Rattle.writing.specs.Ranges.{NotReplace}
use Rattle.settings.specs.Meant.{BodyAt}
use Rattle.settings.specs.declared.settings.Setting.TheVariants.{LineSlot}
use Rattle.settings.proofs.BodyLaws.{no_head, no_body, the_body}
use Rattle.read_bodies.proofs.SlotLaws.{line_slot_head, slot_op, slot_kept}
use Rattle.read_bodies.proofs.slot_bodies.read_line_slot.Goals as goal

pub returns-in_err-n : goal.returns-in_err-n
returns-in_err-n c =
    let a = c.args in
    λ ops left. subst⁻¹ (BodyAt a.coding KLineSlot left a.m.now a.p) c.from_residual.ensures
    (no_head KLineSlot (line_slot_head a.coding) left a.m.now a.p (λ i. (c.type_inv.m i).fits) (λ x r k i. c.in_err-n.ensures r x.0 (sym k.0) (omega (arith, slot_op x.0 NotReplace (λ e. e) i.0))))

pub returns-in_err-contact : goal.returns-in_err-contact
returns-in_err-contact c =
    let a = c.args in
    λ ops left. subst⁻¹ (BodyAt a.coding KLineSlot left a.m.now a.p) c.from_residual-in_err-contact.ensures
    (no_body KLineSlot (line_slot_head a.coding) left a.m.now a.p (λ i. (c.type_inv.m i).fits) c.in_ok-n.ensures.1
    (λ x next k i t. c.in_err-contact.ensures (record { number = x.2.address; text = x.2.text }) next (i.1, i.2) t))

pub returns : goal.returns
returns c =
    let a = c.args in
    let n = c.in_ok-n.n in
    let h = c.in_ok-n.ensures in
    let o = c.in_ok-n.operation in
    let f = c.line_flags-flags in
    let z = c.in_ok-contact.ensures in
    λ ops left. the_body KLineSlot (line_slot_head a.coding) left a.m.now a.p (λ i. (c.type_inv.m i).fits) h.1
    (o, f.result, record { index = n % 16; address = z.0.number; text = z.0.text })
    (LineSlot o f.result (record { index = n % 16; contact = c.in_ok-contact.contact })) c.in_ok-contact.next h.0
    (sym h.2, (f.ensures.encryption, (f.ensures.emergency, (f.ensures.priority, (f.ensures.pabx, (tt, (omega arith, tt)))))))
    (slot_kept o (omega (arith, h.3)), z.1.0, z.1.1) z.3 (z.0, refl, z.2)
