use Rattle.working.proofs.CountLaws.{heads_lent, heads_counted}
use Rattle.working.proofs.heads.run_units.Goals as goal

pub counted-requires : goal.counted-requires
counted-requires c =
    let a = c.args in
    let p = c.requires in
    let end = c.heads_end-end in
    heads_lent a.store.now a.run end.result a.n end.ensures p.0 p.1 p.2

pub returns : goal.returns
returns c =
    let a = c.args in
    let p = c.requires in
    let end = c.heads_end-end in
    heads_counted a.store.now a.run end.result a.n end.ensures p.0 p.1 p.2 c.counted.result c.counted.ensures
