use Rattle.lists.proofs.Kit.{rules, subst}
use Rattle.read_deeds.specs.ReadDeeds.{quick_entries}
use Rattle.read_deeds.proofs.EntryLaws.{plain_quick, none_next, entry_next, quick_put}
use Rattle.read_deeds.proofs.entries.next_quick.Goals as goal

pub returns-in_default : goal.returns-in_default
returns-in_default c =
    let a = c.args in
    none_next quick_entries plain_quick a.m.now a.left c.stay.result c.in_default.ensures

pub returns : goal.returns
returns c =
    let a = c.args in
    let (e, i, is, x) = c.in-Some.ensures in
    entry_next quick_entries plain_quick a.m.now a.left c.pass.result _ e _ x (λ range. quick_put a.m.now a.left _ e is) c.pass.ensures
