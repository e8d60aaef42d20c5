use Rattle.lists.proofs.Kit.{refl, rules, arith}
use Rattle.updating.specs.declared.answers.Proposal.TheVariants.{FirstNotAStore, SecondNotAStore, Buffer, NoSinglePart}
use Rattle.packing_office.proofs.UpdateBits.{proposal_case, proposal_written}
use Rattle.packing_office.proofs.update.pack_proposal.Goals as goal

pub returns-in-Written : goal.returns-in-Written
returns-in-Written c = proposal_written _ c.in-Written.length c.low.result c.in-Written.is c.low.ensures.1

pub returns-in-FirstNotAStore : goal.returns-in-FirstNotAStore
returns-in-FirstNotAStore c = proposal_case _ FirstNotAStore _ c.in-FirstNotAStore.is refl (omega arith) refl

pub returns-in-SecondNotAStore : goal.returns-in-SecondNotAStore
returns-in-SecondNotAStore c = proposal_case _ SecondNotAStore _ c.in-SecondNotAStore.is refl (omega arith) refl

pub returns-in-Buffer : goal.returns-in-Buffer
returns-in-Buffer c = proposal_case _ Buffer _ c.in-Buffer.is refl (omega arith) refl

pub returns-in-NoSinglePart : goal.returns-in-NoSinglePart
returns-in-NoSinglePart c = proposal_case _ NoSinglePart _ c.in-NoSinglePart.is refl (omega arith) refl
