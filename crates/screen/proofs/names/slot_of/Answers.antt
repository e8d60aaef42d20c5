use Rattle.lists.proofs.Kit.{arith}
use Rattle.screen.proofs.SlotLaws.{run_near, slot_found, slot_nowhere}
use Rattle.screen.proofs.names.slot_of.Goals as goal

pub returns-then-k-ge-TEXT_TABLES : goal.returns-then-k-ge-TEXT_TABLES
returns-then-k-ge-TEXT_TABLES c =
    let a = c.args in
    let spot = c.spot_of-spot in
    slot_nowhere a.limits.texts a.limits a.row spot.result spot.ensures (omega arith)

pub overflow_add-run : goal.overflow_add-run
overflow_add-run c =
    let h = c.requires in
    omega (arith, (c.table_run-run.ensures (omega arith) (h.few_channels, h.few_lines)).1.narrow)

pub overflow_add-run-2 : goal.overflow_add-run-2
overflow_add-run-2 c =
    let h = c.requires in
    omega (arith, (c.table_run-run.ensures (omega arith) (h.few_channels, h.few_lines)).1.narrow)

pub slot_in-requires : goal.slot_in-requires
slot_in-requires c =
    let run = c.table_run-run in
    run_near c.args.limits.texts run.result (run.ensures (omega arith) (c.requires.few_channels, c.requires.few_lines)).1 c.by_form-base.ensures c.by_form-width.ensures

pub returns : goal.returns
returns c =
    let a = c.args in
    let spot = c.spot_of-spot in
    let run = c.table_run-run in
    slot_found a.limits.texts a.limits a.row spot.result run.result c.by_form-base.result c.by_form-width.result c.slot_in.result spot.ensures (omega arith) (run.ensures (omega arith) (c.requires.few_channels, c.requires.few_lines)).0
    c.by_form-base.ensures c.by_form-width.ensures c.slot_in.ensures
