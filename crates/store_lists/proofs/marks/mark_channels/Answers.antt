use Rattle.lists.proofs.Kit.{rules, arith, ◌-◌, ℕ, ◌≡◌, refl, subst, length}
use Rattle.store_lists.specs.Lists.{OneMarked}
use Rattle.store_lists.proofs.MarkLaws.{MarkedTo, marked_on, marked_end, marked_short, marked_past}
use Rattle.store_lists.proofs.marks.mark_channels.Goals as goal

pub returns-then-list-lt2 : goal.returns-then-list-lt2
returns-then-list-lt2 c = let a = c.args in marked_short a.list.now a.marks.now (omega arith)

pub returns-then-list-held : goal.returns-then-list-held
returns-then-list-held c =
    let a = c.args in
    let h = c.count-held in
    marked_past a.list.now a.marks.now h.result h.ensures (omega arith) c.if-list-held.true

pub loop-i-init : goal.loop-i-init
loop-i-init c = (refl, λ k l. absurd (omega arith))

pub loop-i-preserved : goal.loop-i-preserved
loop-i-preserved c =
    let a = c.args in
    let l = c.loop-i in
    let v = c.pair in
    let k = c.mark in (
      search rules,
      marked_on a.list.now l.marks k.new.marks l.i l.invariant.1 (search rules) (subst (λ (n : ℕ). OneMarked n l.marks k.new.marks) v.ensures k.ensures),
    )

pub returns : goal.returns
returns c =
    let a = c.args in
    let l = c.loop-i in
    let h = c.count-held in
    marked_end a.list.now l.marks l.i h.result h.ensures (omega arith) l.invariant.1
