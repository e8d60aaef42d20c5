use Rattle.lists.proofs.Kit.{rules, arith, ◌+◌, ◌≡◌, refl, ap, subst, subst⁻¹, length, not-true, not-false}
use Rattle.lists.specs.Bytes.{Bytes}
use Rattle.plain_log.specs.Checking.{RecordIs, AreaIs}
use Rattle.plain_log.proofs.AreaLaws.{frame_here, frame_not, used_not, turn_start, turn_end, turn_many, turn_none, turn_stuck, turn_much, turn_more}
use Rattle.plain_log.proofs.checks.check_area.Goals as goal

pub returns-then-weights-ne-WEIGHTS : goal.returns-then-weights-ne-WEIGHTS
returns-then-weights-ne-WEIGHTS c = λ z a. c.if-weights-ne-WEIGHTS.true (ap length z)

pub returns-then-used : goal.returns-then-used
returns-then-used c =
    let a = c.args in
    used_not a.area.now a.weights.now a.weights.now c.in_ok-used.used c.in_ok-used.ensures c.if-used.true

pub slice_bounds-is_clear-count : goal.slice_bounds-is_clear-count
slice_bounds-is_clear-count c =
    let u = c.in_ok-used.ensures in
    let long : length c.args.area.now ≡ 32768 = u.size in
    omega (arith, long, c.if-used.false)

pub slice_bounds-is_clear-start : goal.slice_bounds-is_clear-start
slice_bounds-is_clear-start c =
    let u = c.in_ok-used.ensures in
    let long : length c.args.area.now ≡ 32768 = u.size in
    omega (arith, long, c.if-used.false)

pub returns-then-not-is_clear : goal.returns-then-not-is_clear
returns-then-not-is_clear c =
    let z = c.is_clear in
    let a = c.args in
    frame_not a.area.now a.weights.now a.weights.now c.in_ok-used.used z.result c.in_ok-used.ensures z.ensures (not-true _ c.if-not-is_clear.true-raw)

pub loop-at-init : goal.loop-at-init
loop-at-init c =
    let z = c.is_clear in
    let a = c.args in
    let bytes : Bytes a.area.now = λ i. (c.shared_slice_known-1.given i).fits in
    (refl, turn_start a.area.now a.weights.now c.in_ok-used.used (frame_here a.area.now c.in_ok-used.used z.result c.in_ok-used.ensures c.if-used.false bytes z.ensures (not-false _ c.if-not-is_clear.false-raw)))

pub shape_of-weights-then-deeds-ge-DEEDS : goal.shape_of-weights-then-deeds-ge-DEEDS
shape_of-weights-then-deeds-ge-DEEDS c = search (rules, c.loop-at.invariant.0)

pub returns-then-deeds-ge-DEEDS : goal.returns-then-deeds-ge-DEEDS
returns-then-deeds-ge-DEEDS c =
    let l = c.loop-at in
    let a = c.args in
    let used = c.in_ok-used.used in
    turn_many a.area.now a.weights.now used (4 + used) l.at l.deeds l.hash l.weights l.invariant.1 l.weights c.if-deeds-ge-DEEDS.true

pub shape_of-weights-in_err-record : goal.shape_of-weights-in_err-record
shape_of-weights-in_err-record c = search (rules, c.loop-at.invariant.0)

pub returns-in_err-record : goal.returns-in_err-record
returns-in_err-record c =
    let l = c.loop-at in
    let a = c.args in
    let used = c.in_ok-used.used in
    let r = subst (RecordIs a.area.now l.at (4 + used) l.deeds l.weights _) c.in_err-record.was c.check_record.ensures in
    subst⁻¹ (AreaIs a.area.now a.weights.now _) c.from_residual-in_err-record.ensures
    (turn_none a.area.now a.weights.now used (4 + used) l.at l.deeds l.hash l.weights l.invariant.1 c.loop-at-test.true c.check_record.new.weights r)

pub shape_of-weights-then-record-at : goal.shape_of-weights-then-record-at
shape_of-weights-then-record-at c = search (rules, c.loop-at.invariant.0)

pub returns-then-record-at : goal.returns-then-record-at
returns-then-record-at c =
    let l = c.loop-at in
    let a = c.args in
    let used = c.in_ok-used.used in
    let r = subst (RecordIs a.area.now l.at (4 + used) l.deeds l.weights _) c.in_ok-record.was c.check_record.ensures in
    turn_stuck a.area.now a.weights.now used (4 + used) l.at l.deeds l.hash l.weights l.invariant.1 c.loop-at-test.true _ c.in_ok-record.record.next c.in_ok-record.record.deeds c.in_ok-record.record.hash r c.if-record-at.true

pub shape_of-weights-then-record-ge-DEEDS : goal.shape_of-weights-then-record-ge-DEEDS
shape_of-weights-then-record-ge-DEEDS c = search (rules, c.loop-at.invariant.0)

pub returns-then-record-ge-DEEDS : goal.returns-then-record-ge-DEEDS
returns-then-record-ge-DEEDS c =
    let l = c.loop-at in
    let a = c.args in
    let used = c.in_ok-used.used in
    let r = subst (RecordIs a.area.now l.at (4 + used) l.deeds l.weights _) c.in_ok-record.was c.check_record.ensures in
    turn_much a.area.now a.weights.now used (4 + used) l.at l.deeds l.hash l.weights l.invariant.1 c.loop-at-test.true _ c.in_ok-record.record.next c.in_ok-record.record.deeds c.in_ok-record.record.hash r c.if-record-ge-DEEDS.true

pub loop-at-preserved : goal.loop-at-preserved
loop-at-preserved c =
    let l = c.loop-at in
    let a = c.args in
    let used = c.in_ok-used.used in
    let r = subst (RecordIs a.area.now l.at (4 + used) l.deeds l.weights _) c.in_ok-record.was c.check_record.ensures in
    (search (rules, l.invariant.0), turn_more a.area.now a.weights.now used (4 + used) l.at l.deeds l.hash l.weights l.invariant.1 c.loop-at-test.true _ c.in_ok-record.record.next c.in_ok-record.record.deeds c.in_ok-record.record.hash r)

pub shape_of-weights : goal.shape_of-weights
shape_of-weights c = search (rules, c.loop-at.invariant.0)

pub returns : goal.returns
returns c =
    let l = c.loop-at in
    let a = c.args in
    let used = c.in_ok-used.used in
    turn_end a.area.now a.weights.now used (4 + used) l.at l.deeds l.hash l.weights l.invariant.1 c.loop-at-test.false
