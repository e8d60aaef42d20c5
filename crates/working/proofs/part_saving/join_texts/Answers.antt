use Rattle.lists.proofs.Kit.{rules, arith}
use Rattle.working.proofs.PartMoves.{kept_room, area_joined}
use Rattle.working.proofs.part_saving.join_texts.Goals as goal

pub save_run_texts-next-requires : goal.save_run_texts-next-requires
save_run_texts-next-requires c = (c.requires.0, omega (arith, c.requires.1, c.requires.2), c.requires.3)

pub returns-then-area-next : goal.returns-then-area-next
returns-then-area-next c =
    λ h.
    let p = c.requires in
    let a = c.args in
    let t = c.save_run_texts-next in
    absurd (omega (arith, kept_room a.run a.work.now c.copy_run.new.dst a.area.now a.spare a.behind a.n p.1 p.2 p.4 c.copy_run.ensures a.place t.result t.new.area (search rules) t.ensures.1 h))

pub returns : goal.returns
returns c =
    λ h.
    let p = c.requires in
    let a = c.args in
    let t = c.save_run_texts-next in
    area_joined a.run a.work.now c.copy_run.new.dst a.area.now a.spare a.behind a.n p.1 p.2 p.4 c.copy_run.ensures a.place t.result t.new.area (search rules) t.ensures.1 h
    c.copy_run-2.new.dst c.wipe.new.s c.copy_run-2.ensures c.wipe.ensures
