use Rattle.lists.proofs.Kit.{rules, ◌∙◌, ap, subst}
use Rattle.read_deeds.specs.ReadDeeds.{line_entries}
use Rattle.read_deeds.proofs.EntryLaws.{plain_lines, none_next, entry_next, line_put}
use Rattle.read_deeds.proofs.entries.next_line.Goals as goal

pub returns-in_default : goal.returns-in_default
returns-in_default c =
    let a = c.args in
    none_next line_entries plain_lines a.m.now a.left c.stay.result c.in_default.ensures

pub returns : goal.returns
returns c =
    let a = c.args in
    let n = c.number_code-code in
    let k = c.line_key in
    let (e, i, is, x) = c.in-Some.ensures in
    let (code, low) = n.ensures e.number is.middle i.0 is.number in
    entry_next line_entries plain_lines a.m.now a.left c.pass.result _ e _ x (λ range. line_put a.m.now a.left _ e n.result k.result is code (k.ensures low)) c.pass.ensures
