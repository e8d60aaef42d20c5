use Rattle.lists.proofs.Kit.{rules, arith}
use Rattle.packing_office.proofs.places.pack_places_of.Goals as goal

pub returns : goal.returns
returns c = λ f. omega (arith, c.low.ensures.1 f.1.1.1.1.0, c.low-2.ensures.1 f.1.1.1.0, c.low_byte.ensures.1 (omega (arith, f.1.1.0)), f.1.1.0, c.low-3.ensures.1 f.1.0, c.low_byte-2.ensures.1 f.0)
