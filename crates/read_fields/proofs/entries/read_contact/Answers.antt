use Rattle.lists.proofs.Kit.{refl, subst⁻¹}
use Rattle.writing.specs.Ranges.{text_limits}
use Rattle.read_fields.specs.Entries.{ContactAt}
use Rattle.read_fields.proofs.EntryLaws.{no_number, no_contact_text, the_contact}
use Rattle.read_fields.proofs.entries.read_contact.Goals as goal

pub returns-in_err-number : goal.returns-in_err-number
returns-in_err-number c =
    let a = c.args in
    subst⁻¹ (ContactAt a.coding text_limits a.m.now a.at) c.from_residual.ensures (no_number a.coding text_limits _ _ c.in_err-number.ensures refl)

pub returns-in_err-text : goal.returns-in_err-text
returns-in_err-text c =
    let a = c.args in
    subst⁻¹ (ContactAt a.coding text_limits a.m.now a.at) c.from_residual-in_err-text.ensures (no_contact_text a.coding text_limits _ _ _ _ c.in_ok-number.ensures refl c.in_err-text.ensures refl)

pub returns : goal.returns
returns c = the_contact c.args.coding text_limits _ _ _ _ c.in_ok-number.ensures refl _ _ c.in_ok-text.ensures refl
