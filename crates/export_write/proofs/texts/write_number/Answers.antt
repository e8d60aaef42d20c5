use Rattle.lists.proofs.Kit.{subst, ◌≡◌, refl, length-set, ℕ, ◌/◌, arith}
use Rattle.export_write.proofs.NumberWriting.{numbered_start, Numbered, numbered_more, numbered_end}
use Rattle.export_write.proofs.texts.write_number.Goals as goal

pub loop-i-init : goal.loop-i-init
loop-i-init c = let a = c.args in (refl, omega arith, numbered_start a.digits.now a.buffer.now a.at (omega arith))

pub loop-i-preserved : goal.loop-i-preserved
loop-i-preserved c =
    let a = c.args in
    let l = c.loop-i in
    let u = c.used-pairs in
    let p = c.digit in
    let q = c.digit-in-loop-i in (
      simp length-set l.invariant.0,
      omega arith,
      numbered_more a.digits.now a.buffer.now l.buffer a.at l.i u.result u.ensures l.invariant.2 p.result q.result (omega arith) (omega arith) p.ensures q.ensures,
    )

pub returns : goal.returns
returns c =
    let a = c.args in
    let l = c.loop-i in
    let u = c.used-pairs in
    let p = c.digit-2 in
    let e : l.i ≡ u.result / 2 = omega arith in
    let g = subst (λ (k : ℕ). Numbered a.digits.now a.buffer.now l.buffer a.at k) e l.invariant.2 in
    record {
      from = omega arith;
      most = omega (arith, u.ensures.within);
      wrote = numbered_end a.digits.now a.buffer.now l.buffer a.at (u.result / 2) u.result u.ensures g p.result refl (omega (arith, u.ensures.within)) p.ensures;
    }
