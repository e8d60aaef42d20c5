use Rattle.lists.proofs.Kit.{rules, arith, ap, ◌∙◌}
use Rattle.store_check.specs.declared.forms.Form.{Form}
use Rattle.store_check.specs.declared.forms.Form.TheVariants.{Placed, Shared}
use Rattle.store_check.specs.Checks.{text_width}
use Rattle.store_check.proofs.TextChecks.{units_is, text_told}
use Rattle.store_check.proofs.checks_entries.text_ok.Goals as goal

pub bounds-s-0 : goal.bounds-s-0
bounds-s-0 c =
    omega (arith, c.requires, ap (λ (f : Form). text_width f c.args.most) c.in-Shared.is)

pub returns-in-Placed : goal.returns-in-Placed
returns-in-Placed c =
    let e = c.in-Placed.is in
    text_told c.units_ok.result c.args.most c.args.s.now c.args.form Placed e (c.units_ok.ensures c.args.most (c.requires ∙ ap (λ (f : Form). text_width f c.args.most) e))

pub returns-in-Shared : goal.returns-in-Shared
returns-in-Shared c =
    let e = c.in-Shared.is in
    text_told _ c.args.most c.args.s.now c.args.form Shared e (units_is c.args.most c.args.s.now (c.requires ∙ ap (λ (f : Form). text_width f c.args.most) e))
