use Rattle.lists.proofs.Kit.{◌≡◌, ◌-◌, length}
use Rattle.store_places.proofs.TextTables.{TextsGoing}
use Rattle.store_places.proofs.texts.apply_texts.Given as goal

abbrev pub invariant-loop : goal.invariant-loop
invariant-loop l =
    (length l.region ≡ length l.initial.region)
    × (l.end ≡ l.fn.entries.count)
    × TextsGoing l.table l.coding l.m l.operation l.initial.region l.initial.p l.fn.entries.count l.p (l.fn.entries.count - l.counter) l.region
