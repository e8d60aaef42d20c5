use Rattle.lists.proofs.Kit.{rules, lt-ltb, le-ltb}
use Rattle.packing_office.proofs.Packing.{places_packed, no_room, no_places}
use Rattle.packing_office.proofs.places.pack_places.Goals as goal

pub returns-then-next-lt65536 : goal.returns-then-next-lt65536
returns-then-next-lt65536 c = places_packed _ c.in-Some.item c.in-Some.next c.in-Some.is (lt-ltb _ 65536 c.if-next-lt65536.true) _ _ c.places_of-p.ensures c.pack_places_of.ensures

pub returns-else-next-lt65536 : goal.returns-else-next-lt65536
returns-else-next-lt65536 c = no_room _ c.in-Some.item c.in-Some.next c.in-Some.is (le-ltb _ 65536 c.if-next-lt65536.false)

pub returns-in-None : goal.returns-in-None
returns-in-None c = no_places _ c.in-None.is
