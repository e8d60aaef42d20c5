use Rattle.lists.proofs.Kit.{arith, refl}
use Rattle.lists.specs.Bytes.{Bytes}
use Rattle.read_carrier.proofs.CarrierLaws.{opens_in}
use Rattle.read_carrier.proofs.carrier.open_message.Goals as goal

-- `read_carrier::carrier::open_message` meets its contract. Assumes nothing.
pub returns : goal.returns
returns c =
    let m = c.args.m.now in
    let byte : Bytes m = λ i. (c.type_inv.m i).fits in
    ((omega arith, omega arith), opens_in m _ _ _ byte (c.number-first.ensures (omega arith, omega arith)) (omega arith) c.in-Some.ensures refl refl)
