use Rattle.lists.proofs.Kit.{arith, refl, sym, subst⁻¹}
use Rattle.writing.specs.declared.Kind.TheVariants.{StatusTexts as KStatusTexts}
use Rattle.settings.specs.Meant.{BodyAt}
use Rattle.settings.specs.declared.settings.Setting.TheVariants.{StatusTexts}
use Rattle.settings.proofs.BodyLaws.{no_head, no_body, the_body, op_small}
use Rattle.read_bodies.proofs.ListLaws.{status_head}
use Rattle.read_bodies.proofs.list_bodies.read_status_texts.Goals as goal

pub returns-in_err-n : goal.returns-in_err-n
returns-in_err-n c =
    let a = c.args in
    λ ops left. subst⁻¹ (BodyAt a.coding KStatusTexts left a.m.now a.p) c.from_residual.ensures
    (no_head KStatusTexts (status_head a.coding) left a.m.now a.p (λ i. (c.type_inv.m i).fits) (λ x r k i. c.in_err-n.ensures r x.0 (sym k.0) (omega (arith, op_small x.0))))

pub returns-in_err-next : goal.returns-in_err-next
returns-in_err-next c =
    let a = c.args in
    λ ops left. subst⁻¹ (BodyAt a.coding KStatusTexts left a.m.now a.p) c.from_residual-in_err-next.ensures
    (no_body KStatusTexts (status_head a.coding) left a.m.now a.p (λ i. (c.type_inv.m i).fits) c.in_ok-n.ensures.1
    (λ x next k i t. c.in_err-next.ensures x.1 next (record { counted = omega (arith, k.1.1.0); in_range = i; stands = t })))

pub returns : goal.returns
returns c =
    let a = c.args in
    let z = c.in_ok-n.ensures in
    let w = c.in_ok-next.ensures in
    let o = c.in_ok-n.operation in
    let s = w.1 in
    λ ops left. the_body KStatusTexts (status_head a.coding) left a.m.now a.p (λ i. (c.type_inv.m i).fits) z.1 (o, w.0)
    (StatusTexts o _) c.in_ok-next.next z.0 (sym z.2, (tt, (omega (arith, s.counted), tt))) s.in_range s.stands
    (w.0, refl, record { counted = s.counted; stands = s.stands })
