use Rattle.lists.proofs.Kit.{rules, subst, arith}
use Rattle.read_deeds.specs.ReadDeeds.{status_entries}
use Rattle.read_deeds.proofs.EntryLaws.{plain_status, none_next, entry_next, status_put}
use Rattle.read_deeds.proofs.entries.next_status.Goals as goal

pub returns-in_default : goal.returns-in_default
returns-in_default c =
    let a = c.args in
    none_next status_entries plain_status a.m.now a.left c.stay.result c.in_default.ensures

pub returns-then-place-lt32 : goal.returns-then-place-lt32
returns-then-place-lt32 c =
    let a = c.args in
    let (e, i, is, x) = c.in-Some.ensures in
    absurd (omega (arith, is.index, i.0))

pub returns : goal.returns
returns c =
    let a = c.args in
    let (e, i, is, x) = c.in-Some.ensures in
    entry_next status_entries plain_status a.m.now a.left c.pass.result _ e _ x (λ range. status_put a.m.now a.left _ e is) c.pass.ensures
