use Rattle.lists.proofs.Kit.{rules}
use Rattle.store_check.specs.declared.forms.Form.TheVariants.{Placed, Shared}
use Rattle.store_check.proofs.TableChecks.{form_told}
use Rattle.store_check.proofs.checks_tables.places_ok.Goals as goal

pub returns-in-Placed : goal.returns-in-Placed
returns-in-Placed c = form_told c.args.t c.placed_ok.result c.args.s.now c.args.form Placed c.in-Placed.is c.placed_ok.ensures

pub returns-in-Shared : goal.returns-in-Shared
returns-in-Shared c = form_told c.args.t c.shared_ok.result c.args.s.now c.args.form Shared c.in-Shared.is c.shared_ok.ensures
