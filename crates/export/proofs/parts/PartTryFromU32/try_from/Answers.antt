use Rattle.lists.proofs.Kit.{◌-◌, ◌∙◌, arith}
use Rattle.export.proofs.PartWriting.{ten_at, part_within}
use Rattle.export.proofs.parts.PartTryFromU32.try_from.Goals as goal

pub returns : goal.returns
returns c =
    let n = c.args.number in
    (part_within n (n - 1) (omega arith) (omega arith), ten_at (n - 1) (omega arith) ∙ omega arith)
