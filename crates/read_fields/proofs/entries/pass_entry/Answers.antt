use Rattle.lists.proofs.Kit.{subst⁻¹}
use Rattle.writing.specs.Ranges.{text_limits}
use Rattle.read_fields.specs.Entries.{form_of, range_of, PassAt}
use Rattle.read_fields.proofs.EntryLaws.{by_list}
use Rattle.std.specs.Prelude.{Some, None}
use Rattle.read_fields.proofs.entries.pass_entry.Goals as goal

pub returns-in_err-read_contact-in-Contacts : goal.returns-in_err-read_contact-in-Contacts
returns-in_err-read_contact-in-Contacts c =
    let a = c.args in
    subst⁻¹ (PassAt (form_of a.list a.coding) (range_of a.list text_limits) a.m.now a.at) c.from_residual.ensures
    (by_list a.coding a.m.now a.at None c.in-Contacts.is c.in_err-read_contact-in-Contacts.ensures)

pub returns-in_ok-read_contact-in-Contacts : goal.returns-in_ok-read_contact-in-Contacts
returns-in_ok-read_contact-in-Contacts c =
    let a = c.args in
    let z = c.in_ok-read_contact-in-Contacts.ensures in
    by_list a.coding a.m.now a.at (Some _) c.in-Contacts.is (z.0, z.1, z.3)

pub returns-in_err-read_addressed-in-Addressed : goal.returns-in_err-read_addressed-in-Addressed
returns-in_err-read_addressed-in-Addressed c =
    let a = c.args in
    subst⁻¹ (PassAt (form_of a.list a.coding) (range_of a.list text_limits) a.m.now a.at) c.from_residual-in_err-read_addressed-in-Addressed.ensures
    (by_list a.coding a.m.now a.at None c.in-Addressed.is c.in_err-read_addressed-in-Addressed.ensures)

pub returns-in_ok-read_addressed-in-Addressed : goal.returns-in_ok-read_addressed-in-Addressed
returns-in_ok-read_addressed-in-Addressed c =
    let a = c.args in
    let z = c.in_ok-read_addressed-in-Addressed.ensures in
    by_list a.coding a.m.now a.at (Some _) c.in-Addressed.is (z.0, z.1, z.3)

pub returns-in_err-read_quick-in-QuickTexts : goal.returns-in_err-read_quick-in-QuickTexts
returns-in_err-read_quick-in-QuickTexts c =
    let a = c.args in
    subst⁻¹ (PassAt (form_of a.list a.coding) (range_of a.list text_limits) a.m.now a.at) c.from_residual-in_err-read_quick-in-QuickTexts.ensures
    (by_list a.coding a.m.now a.at None c.in-QuickTexts.is c.in_err-read_quick-in-QuickTexts.ensures)

pub returns-in_ok-read_quick-in-QuickTexts : goal.returns-in_ok-read_quick-in-QuickTexts
returns-in_ok-read_quick-in-QuickTexts c =
    let a = c.args in
    let z = c.in_ok-read_quick-in-QuickTexts.ensures in
    by_list a.coding a.m.now a.at (Some _) c.in-QuickTexts.is (z.0, z.1, z.3)

pub returns-in_err-read_status-in-StatusTexts : goal.returns-in_err-read_status-in-StatusTexts
returns-in_err-read_status-in-StatusTexts c =
    let a = c.args in
    subst⁻¹ (PassAt (form_of a.list a.coding) (range_of a.list text_limits) a.m.now a.at) c.from_residual-in_err-read_status-in-StatusTexts.ensures
    (by_list a.coding a.m.now a.at None c.in-StatusTexts.is c.in_err-read_status-in-StatusTexts.ensures)

pub returns-in_ok-read_status-in-StatusTexts : goal.returns-in_ok-read_status-in-StatusTexts
returns-in_ok-read_status-in-StatusTexts c =
    let a = c.args in
    let z = c.in_ok-read_status-in-StatusTexts.ensures in
    by_list a.coding a.m.now a.at (Some _) c.in-StatusTexts.is (z.0, z.1, z.3)
