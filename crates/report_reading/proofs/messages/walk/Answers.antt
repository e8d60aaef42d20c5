use Rattle.lists.proofs.Kit.{rules, arith, ℕ, ◌-◌, ◌+◌, sym, ap, subst, refl, eqb}
use Rattle.report_reading.proofs.WalkLaws.{Passed, none_passed, walk_stops, walk_wrong, walk_next, walk_ends}
use Rattle.report_reading.proofs.messages.walk.Goals as goal

pub loop-read-init : goal.loop-read-init
loop-read-init c =
    let a = c.args in
    subst (λ (left : ℕ). Passed a.m.now a.count a.last 10 left) (omega arith) (none_passed _ _ _)

pub returns-in_default : goal.returns-in_default
returns-in_default c = walk_stops c.loop-read.invariant (omega arith) c.in_default.ensures refl

pub returns-then-misplaced : goal.returns-then-misplaced
returns-then-misplaced c =
    walk_wrong c.loop-read.invariant c.in-Some.item c.in-Some.next (omega arith) c.in-Some.ensures refl c.is_error.ensures c.misplaced.ensures c.if-misplaced.true

pub loop-read-preserved : goal.loop-read-preserved
loop-read-preserved c =
    let a = c.args in
    subst (λ (left : ℕ). Passed a.m.now a.count a.last c.in-Some.next left) (omega arith)
    (walk_next c.loop-read.invariant c.in-Some.item c.in-Some.next (omega arith) c.in-Some.ensures refl c.is_error.ensures c.misplaced.ensures c.if-misplaced.false)

pub returns : goal.returns
returns c = walk_ends c.loop-read.invariant _ (omega arith) (sym (ap (λ n. eqb n 0) c.remaining.ensures))
