use Rattle.lists.proofs.Kit.{◌+◌, ◌≤◌, subst, arith, length}
use Rattle.tables.specs.declared.members.Members.{Members}
use Rattle.export_write.specs.ContactWriters.{flag_size}
use Rattle.export_write.proofs.contacts.write_flags.Goals as goal

pub write_bytes-requires : goal.write_bytes-requires
write_bytes-requires c =
    omega (arith, subst (λ (w : Members). c.args.at + flag_size w ≤ length c.args.buffer.now) c.in-OfGroups.is c.requires)

pub write_bytes-requires-in-OfIndividuals : goal.write_bytes-requires-in-OfIndividuals
write_bytes-requires-in-OfIndividuals c =
    omega (arith, subst (λ (w : Members). c.args.at + flag_size w ≤ length c.args.buffer.now) c.in-OfIndividuals.is c.requires)

pub returns-in-OfGroups : goal.returns-in-OfGroups
returns-in-OfGroups c = rw c.in-OfGroups.is (c.write_bytes.ensures.next, c.write_bytes.ensures)

pub returns-in-OfIndividuals : goal.returns-in-OfIndividuals
returns-in-OfIndividuals c = rw c.in-OfIndividuals.is (c.write_bytes-in-OfIndividuals.ensures.next, c.write_bytes-in-OfIndividuals.ensures)
