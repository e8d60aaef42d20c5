use Rattle.lists.proofs.Kit.{◌≡◌, length}
use Rattle.tables.specs.Allowed.{Allowed}
use Rattle.tables.specs.Forms.{Roomy}
use Rattle.tables.specs.Store.{Works}
use Rattle.tables.specs.Tables.{Tables}
use Rattle.requests.specs.Trying.{SumIs}
use Rattle.requests.proofs.Steps.{Along}
use Rattle.requests.proofs.run.take_settings_from.Given as goal

abbrev pub invariant-loop-taken : goal.invariant-loop-taken
invariant-loop-taken l =
    (length l.work ≡ length l.initial.work) × ((was : Tables) → Roomy l.limits → Allowed l.limits was → Works l.limits was l.initial.work → SumIs l.limits l.held was → Along l.request.coding l.limits l.m l.request.count l.request.at was l.work l.last.next l.taken l.last.flags l.last.sum)
