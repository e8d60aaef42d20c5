use Rattle.working.proofs.StepLaws.{run_asks, run_loaded}
use Rattle.working.proofs.loading.load_run.Goals as goal

pub load_widths-requires : goal.load_widths-requires
load_widths-requires c =
    let s = c.slots_end-end in
    let h = c.heads_end-tail in
    let a = c.args in
    run_asks a.run a.work.now a.store.now a.texts.now a.place s.result h.result s.ensures h.ensures c.requires.1 c.requires.2 c.requires.3 c.requires.0.narrow

pub returns : goal.returns
returns c =
    let s = c.slots_end-end in
    let h = c.heads_end-tail in
    let a = c.args in
    let t = c.load_widths in
    run_loaded a.run a.work.now a.store.now a.texts.now a.place s.result h.result s.ensures h.ensures c.requires.1 c.requires.2 t.result t.new.slots t.ensures
