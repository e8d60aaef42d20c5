use Rattle.lists.proofs.Kit.{rules, arith, ap}
use Rattle.store_check.specs.declared.forms.Form.{Form}
use Rattle.store_check.specs.Checks.{text_width}
use Rattle.store_check.proofs.forms.text_width.Goals as goal

pub returns-in-Placed : goal.returns-in-Placed
returns-in-Placed c =
    let e = ap (λ (f : Form). text_width f c.args.most) c.in-Placed.is in
    (omega (arith, e), omega arith)

pub returns-in-Shared : goal.returns-in-Shared
returns-in-Shared c =
    let e = ap (λ (f : Form). text_width f c.args.most) c.in-Shared.is in
    (omega (arith, e), omega arith)
