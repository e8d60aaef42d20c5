use Rattle.working.proofs.SaveTables.{texts_ask, texts_saved}
use Rattle.working.proofs.saving.save_run_texts.Goals as goal

pub save_texts-requires : goal.save_texts-requires
save_texts-requires c =
    let s = c.slots_end-end in
    (texts_ask c.args.run c.args.work.now s.result s.ensures c.requires.1, c.requires.2, c.requires.0.whole)

pub returns : goal.returns
returns c =
    let a = c.args in
    let s = c.slots_end-end in
    let t = c.save_texts in
    (t.ensures.0, texts_saved a.run a.work.now s.result s.ensures a.place t.result _ a.area.now t.new.area t.ensures.1)
