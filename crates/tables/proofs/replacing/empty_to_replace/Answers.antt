use Rattle.lists.proofs.Kit.{rules, sym, ap, ◌∙◌, length, replicate}
use Rattle.tables.specs.Apply.{start_from}
use Rattle.tables.proofs.replacing.empty_to_replace.Goals as goal

pub returns-in-Replace : goal.returns-in-Replace
returns-in-Replace c =
    let a = c.args in
    let y = c.wipe in
    y.ensures ∙ sym (ap (λ o. start_from o (replicate (length a.part.now) 0) a.part.now) c.in-Replace.is)
