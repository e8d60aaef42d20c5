use Rattle.counted_lists.proofs.ListLaws.{dropped}
use Rattle.counted_lists.proofs.changes.drop_keyed.Goals as goal

-- `counted_lists::changes::drop_keyed` meets its contract. Assumes nothing.
pub returns : goal.returns
returns c =
    let a = c.args in
    let m = c.others-left in
    let y = c.remove_all in
    let t = c.set_count in
    dropped a.w a.o a.key.now a.part.now c.in-Some.end m.result y.new.s t.new.part c.in-Some.ensures m.ensures y.ensures t.ensures
