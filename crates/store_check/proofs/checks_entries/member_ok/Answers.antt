use Rattle.lists.proofs.Kit.{rules, ap}
use Rattle.tables.specs.declared.members.Members.TheVariants.{OfGroups, OfIndividuals}
use Rattle.store_check.specs.declared.checks_tables.Table.TheVariants.{Members as Of}
use Rattle.store_check.proofs.TableChecks.{entry_told}
use Rattle.store_check.proofs.checks_entries.member_ok.Goals as goal

pub returns-in-OfGroups : goal.returns-in-OfGroups
returns-in-OfGroups c = entry_told c.args.form c.group_ok.result c.args.s.now (Of c.args.who) (Of OfGroups) (ap Of c.in-OfGroups.is) c.group_ok.ensures

pub returns-in-OfIndividuals : goal.returns-in-OfIndividuals
returns-in-OfIndividuals c = entry_told c.args.form c.individual_ok.result c.args.s.now (Of c.args.who) (Of OfIndividuals) (ap Of c.in-OfIndividuals.is) c.individual_ok.ensures
