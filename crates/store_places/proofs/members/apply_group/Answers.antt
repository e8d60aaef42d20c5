use Rattle.lists.proofs.Kit.{rules, refl}
use Rattle.tables.specs.declared.members.Members.TheVariants.{OfGroups}
use Rattle.store_places.proofs.members.apply_group.Goals as goal

pub returns : goal.returns
returns c =
    let a = c.args in
    c.set_member.ensures OfGroups a.flags a.place.address (λ us ok. c.group_flag_byte-byte.ensures ok.attribute.1 ok.priority) refl
