use Rattle.lists.proofs.Kit.{rules, arith}
use Rattle.read_deeds.proofs.CodeLaws.{number_coded}
use Rattle.read_deeds.proofs.codes.number_code.Goals as goal

pub returns : goal.returns
returns c =
    let a = c.args in
    let h = c.line_head-head in
    number_coded a.m.now _ a.place h.result c.kept_code.result (omega arith) h.ensures c.kept_code.ensures
