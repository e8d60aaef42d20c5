use Rattle.lists.proofs.Kit.{rules, arith, ◌-◌, length}
use Rattle.writing.specs.Settings.{unicode16, eight_bit}
use Rattle.tables.proofs.TextLaws.{units_in, units_out, text_absent, text_put}
use Rattle.tables.proofs.texts.put_text.Goals as goal

pub returns-then-m-place : goal.returns-then-m-place
returns-then-m-place c =
    let a = c.args in
    text_absent a.m.now (λ i. (c.shared_slice_known-1.given i).fits) a.place _ c.unit_bytes-width.ensures a.dst.now a.dst.now (omega arith)

pub returns-then-m-place-2 : goal.returns-then-m-place-2
returns-then-m-place-2 c =
    let a = c.args in
    text_absent a.m.now (λ i. (c.shared_slice_known-1.given i).fits) a.place c.unit_bytes-width.result c.unit_bytes-width.ensures a.dst.now a.dst.now
    (omega (arith, units_out c.unit_bytes-width.result (length a.m.now - a.place.start) a.place.units (omega arith) (omega arith)))

pub overflow_mul-e : goal.overflow_mul-e
overflow_mul-e c =
    let a = c.args in
    omega (arith, units_in c.unit_bytes-width.result (length a.m.now - a.place.start) a.place.units (omega arith) (omega arith))

pub overflow_add-e : goal.overflow_add-e
overflow_add-e c =
    let a = c.args in
    omega (arith, units_in c.unit_bytes-width.result (length a.m.now - a.place.start) a.place.units (omega arith) (omega arith))

pub slice_bounds-copy_padded-end : goal.slice_bounds-copy_padded-end
slice_bounds-copy_padded-end c =
    let a = c.args in
    omega (arith, units_in c.unit_bytes-width.result (length a.m.now - a.place.start) a.place.units (omega arith) (omega arith))

pub slice_bounds-widen_padded-end : goal.slice_bounds-widen_padded-end
slice_bounds-widen_padded-end c =
    let a = c.args in
    omega (arith, units_in c.unit_bytes-width.result (length a.m.now - a.place.start) a.place.units (omega arith) (omega arith))

pub returns-in-Unicode16 : goal.returns-in-Unicode16
returns-in-Unicode16 c =
    let a = c.args in
    let p = c.copy_padded in
    text_put a.m.now (λ i. (c.shared_slice_known-1.given i).fits) a.place _ c.unit_bytes-width.ensures a.dst.now p.new.dst unicode16 c.in-Unicode16.is p.ensures

pub returns-in-EightBit : goal.returns-in-EightBit
returns-in-EightBit c =
    let a = c.args in
    let p = c.widen_padded in
    text_put a.m.now (λ i. (c.shared_slice_known-1.given i).fits) a.place _ c.unit_bytes-width.ensures a.dst.now p.new.dst eight_bit c.in-EightBit.is p.ensures
