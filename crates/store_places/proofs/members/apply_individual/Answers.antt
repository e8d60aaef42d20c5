use Rattle.lists.proofs.Kit.{rules, refl}
use Rattle.tables.specs.declared.members.Members.TheVariants.{OfIndividuals}
use Rattle.store_places.proofs.members.apply_individual.Goals as goal

pub returns : goal.returns
returns c =
    let a = c.args in
    c.set_member.ensures OfIndividuals a.flags a.place.address (λ us ok. c.individual_flag_byte-byte.ensures ok.priority) refl
