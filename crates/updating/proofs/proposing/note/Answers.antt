use Rattle.lists.proofs.Kit.{rules, sym, ap₂, Bool}
use Rattle.updating.specs.declared.proposing.Differing.{Differing}
use Rattle.updating.specs.Updating.{noted}
use Rattle.updating.proofs.proposing.note.Goals as goal

pub returns-in-Nothing : goal.returns-in-Nothing
returns-in-Nothing c = sym (ap₂ (λ (d : Differing) (b : Bool). noted d c.args.part b) c.in-Nothing.is c.if-same.false)
