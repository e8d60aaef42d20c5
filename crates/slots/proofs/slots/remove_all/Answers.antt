use Rattle.lists.proofs.Kit.{rules, arith, ◌+◌, ◌-◌, ◌*◌, ◌≤◌, refl, sym, ◌∙◌, length, zero-mul, sub-zero, le-div_iff_mul-le}
use Rattle.slots.proofs.Gaps.{gone_start, gone_end, fewer_left, turn_of, turn_key, turn_miss, turn_hit}
use Rattle.slots.proofs.slots.remove_all.Goals as goal
use Rattle.slots.proofs.slots.remove_all.Goals.{then-same, else-same}

pub loop-k-init : goal.loop-k-init
loop-k-init c =
    let a = c.args in
    let f = c.key_fits.ensures.0 c.if-not-key_fits.false in
    (refl, record { wide = f.0; inside = f.1 }, λ xs q e. simp (zero-mul, sub-zero) (gone_start a.w a.o a.key.now xs a.s.now e))

pub loop-k-preserved : goal.loop-k-preserved
loop-k-preserved c =
    let l = c.loop-k in
    let i = l.invariant in
    let a = c.args in
    let n = length a.s.now in
    let at = n - (l.k + 1) * a.w in
    let h : (l.k + 1) * a.w ≤ n = (le-div_iff_mul-le i.1.wide).0 (omega arith) in
    elim c.if-same.branch [
      | then-same w ↦ (
        rw w.s-is (search rules),
        i.1,
        λ xs q e.
            let t = turn_of a.w a.o a.key.now xs l.s n l.k q i.1.wide (i.2 xs q e) h in
            rw w.s-is (turn_hit a.w a.o a.key.now xs l.s at t w.shift.new.s (turn_key a.w a.o a.key.now xs l.s at t i.1.inside (sym c.same.ensures ∙ w.if-same.true)) w.shift.ensures),
      )
      | else-same w ↦ (
        rw w.s-is i.0,
        i.1,
        λ xs q e.
            let t = turn_of a.w a.o a.key.now xs l.s n l.k q i.1.wide (i.2 xs q e) h in
            rw w.s-is (turn_miss a.w a.o a.key.now xs l.s at t (turn_key a.w a.o a.key.now xs l.s at t i.1.inside (sym c.same.ensures ∙ w.if-same.false))),
      )
    ]

pub returns : goal.returns
returns c =
    let l = c.loop-k in
    let i = l.invariant in
    let a = c.args in
    let n = length a.s.now in
    record {
      gone = λ k xs q e. gone_end a.w a.o a.key.now xs l.s (n - l.k * a.w) q (i.2 xs q e) (fewer_left n a.w l.k i.1.wide (omega arith));
      kept = λ h. absurd (h i.1);
    }
