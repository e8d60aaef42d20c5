use Rattle.lists.proofs.Kit.{arith}
use Rattle.reporting.proofs.TableLaws.{place_within, place_written}
use Rattle.reporting.proofs.walk.write_place.Goals as goal

pub overflow_mul-start : goal.overflow_mul-start
overflow_mul-start c =
    let a = c.args in
    let p = c.requires in
    omega (arith, p.1, place_within a.limits a.asked c.start_of.ensures c.width_of-width.ensures a.place p.2 p.0)

pub overflow_add-start : goal.overflow_add-start
overflow_add-start c =
    let a = c.args in
    let p = c.requires in
    omega (arith, p.1, place_within a.limits a.asked c.start_of.ensures c.width_of-width.ensures a.place p.2 p.0)

pub overflow_add-end : goal.overflow_add-end
overflow_add-end c =
    let a = c.args in
    let p = c.requires in
    omega (arith, p.1, place_within a.limits a.asked c.start_of.ensures c.width_of-width.ensures a.place p.2 p.0)

pub slice_bounds-write_item-end : goal.slice_bounds-write_item-end
slice_bounds-write_item-end c =
    let a = c.args in
    let p = c.requires in
    omega (arith, p.1, place_within a.limits a.asked c.start_of.ensures c.width_of-width.ensures a.place p.2 p.0)

pub returns : goal.returns
returns c =
    let a = c.args in
    let w = c.write_item in
    place_written a.limits a.asked c.start_of.ensures c.width_of-width.ensures a.place c.requires.2 a.work.now a.rank a.scratch.now w.new.buffer w.result w.ensures
