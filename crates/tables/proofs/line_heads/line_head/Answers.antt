use Rattle.lists.proofs.Kit.{rules}
use Rattle.tables.proofs.FillLaws.{head_made}
use Rattle.tables.proofs.line_heads.line_head.Goals as goal

pub returns : goal.returns
returns c =
    let a = c.args in
    let f = c.line_flag_byte in
    let k = c.bit_of in
    let d = c.put_digits in
    head_made a.m.now a.flags a.place f.result k.result d.new.dst f.ensures k.ensures.0 c.head-2-1.given d.ensures
