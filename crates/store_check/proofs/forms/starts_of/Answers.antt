use Rattle.lists.proofs.Kit.{rules, arith, refl, sym, subst}
use Rattle.store_check.specs.declared.forms.Form.{Form}
use Rattle.store_check.specs.Stores.{StartsIn}
use Rattle.store_check.proofs.forms.starts_of.Goals as goal

pub returns-in-Placed : goal.returns-in-Placed
returns-in-Placed c = subst (λ (f : Form). StartsIn f _) (sym c.in-Placed.is) (record { status = refl; groups = refl; individuals = refl; line_slots = refl; group_contacts = refl; individual_contacts = refl; channels = refl; small = omega arith })

pub returns-in-Shared : goal.returns-in-Shared
returns-in-Shared c = subst (λ (f : Form). StartsIn f _) (sym c.in-Shared.is) (record { status = refl; groups = refl; individuals = refl; line_slots = refl; group_contacts = refl; individual_contacts = refl; channels = refl; small = omega arith })
