use Rattle.lists.proofs.Kit.{rules}
use Rattle.store_places.proofs.MemberLaws.{member_set}
use Rattle.store_places.proofs.members.set_member.Goals as goal

pub returns : goal.returns
returns c =
    let a = c.args in
    let h = c.head_of-head in
    let y = c.set_place in
    member_set a.m.now a.operation a.index a.flags a.address a.text a.region.now y.new.region h.result h.ensures.0 h.ensures.1 y.ensures
