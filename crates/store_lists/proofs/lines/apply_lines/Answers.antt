use Rattle.lists.proofs.Kit.{rules, arith, ◌-◌, ◌<◌, ◌≡◌, refl, length, true, false, not-true, not-false}
use Rattle.store_lists.proofs.KeyedLaws.{KeyedLeft, keyed_start, keyed_end, keyed_stuck, keyed_on, keyed_full}
use Rattle.store_lists.proofs.LineLaws.{by_number, no_line, next_line, lines_applied}
use Rattle.store_lists.proofs.lines.apply_lines.Goals as goal

pub loop-init : goal.loop-init
loop-init c =
    let a = c.args in
    (refl, refl, λ low. keyed_start (by_number a.flags a.entries.coding) a.operation a.m.now a.entries _)

pub returns-in_default : goal.returns-in_default
returns-in_default c =
    let a = c.args in
    let z = c.empty_to_replace in
    let l = c.loop in
    lines_applied a.operation a.m.now a.flags a.entries a.list.now z.new.part l.list false z.ensures
    (λ low. keyed_stuck (by_number a.flags a.entries.coding) a.operation a.m.now a.entries z.new.part l.p l.counter l.list (omega arith) (l.invariant.2 low) l.list false
    (no_line a.flags a.entries.coding a.m.now l.p c.in_default.ensures refl))

pub returns-then-not-step_line : goal.returns-then-not-step_line
returns-then-not-step_line c =
    let a = c.args in
    let z = c.empty_to_replace in
    let l = c.loop in
    let x = c.line_slot-slot in
    let k = c.step_line in
    lines_applied a.operation a.m.now a.flags a.entries a.list.now z.new.part k.new.list false z.ensures
    (λ low. keyed_full (by_number a.flags a.entries.coding) a.operation a.m.now a.entries z.new.part l.p l.counter l.list (omega arith) (l.invariant.2 low) _ x.result
    (next_line a.flags a.entries.coding a.m.now l.p c.in-Some.ensures _ _ refl x.result x.ensures low)
    k.new.list k.result k.ensures (not-true k.result c.if-not-step_line.true-raw))

pub loop-preserved : goal.loop-preserved
loop-preserved c =
    let a = c.args in
    let z = c.empty_to_replace in
    let l = c.loop in
    let x = c.line_slot-slot in
    let k = c.step_line in (
      search rules,
      l.invariant.1,
      λ low. keyed_on (by_number a.flags a.entries.coding) a.operation a.m.now a.entries z.new.part l.p l.counter l.list (omega arith) (l.invariant.2 low) _ x.result
          (next_line a.flags a.entries.coding a.m.now l.p c.in-Some.ensures _ _ refl x.result x.ensures low)
          k.new.list k.result k.ensures (not-false k.result c.if-not-step_line.false-raw),
    )

pub returns : goal.returns
returns c =
    let a = c.args in
    let z = c.empty_to_replace in
    let l = c.loop in
    lines_applied a.operation a.m.now a.flags a.entries a.list.now z.new.part l.list true z.ensures
    (λ low. keyed_end (by_number a.flags a.entries.coding) a.operation a.m.now a.entries z.new.part l.p l.counter l.list (omega arith) (l.invariant.2 low))
