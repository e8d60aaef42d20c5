use Rattle.working.proofs.CountLaws.{run_counted}
use Rattle.working.proofs.sums.run_bytes.Goals as goal

pub returns : goal.returns
returns c =
    let end = c.slots_end-end in
    run_counted c.args.work.now c.args.run end.result c.slots_bytes.result end.ensures c.requires.0.few c.slots_bytes.ensures
