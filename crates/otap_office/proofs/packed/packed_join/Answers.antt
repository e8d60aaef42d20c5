use Rattle.lists.proofs.Kit.{rules, arith}
use Rattle.packing_office.proofs.JoinBits.{join_packed}
use Rattle.otap_office.proofs.packed.packed_join.Goals as goal

pub returns : goal.returns
returns c =
    let x = c.join_in-answer in
    λ small. join_packed _ _ _ _ small _ x.result c.pack_join.result (x.ensures (record { stated = omega arith })) c.pack_join.ensures
