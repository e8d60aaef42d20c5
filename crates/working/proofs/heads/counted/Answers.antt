use Rattle.lists.proofs.Kit.{ℕ, suc, ◌-◌, ◌≡◌, ap, sub-zero, drop, arith}
use Rattle.shared_texts.specs.Regions.{last_bytes}
use Rattle.shared_texts.proofs.Rows.{last_step}
use Rattle.working.proofs.SlotLaws.{slot_inside, slot_next}
use Rattle.working.proofs.heads.counted.Goals as goal

pub loop-i-init : goal.loop-i-init
loop-i-init c =
    let e = ap (λ (j : ℕ). last_bytes c.args.own j c.args.heads.now) (sub-zero c.args.n) in
    (omega arith, omega arith, omega arith, omega (arith, e))

pub overflow_add-last : goal.overflow_add-last
overflow_add-last c = omega (arith, slot_inside c.loop-i.i c.args.n (suc c.args.own) (omega arith))

pub bounds-heads-last : goal.bounds-heads-last
bounds-heads-last c = omega (arith, slot_inside c.loop-i.i c.args.n (suc c.args.own) (omega arith))

pub overflow_add-sum : goal.overflow_add-sum
overflow_add-sum c = omega arith

pub overflow_add-at : goal.overflow_add-at
overflow_add-at c = omega (arith, slot_inside c.loop-i.i c.args.n (suc c.args.own) (omega arith))

pub loop-i-smaller : goal.loop-i-smaller
loop-i-smaller c = omega arith

pub loop-i-preserved : goal.loop-i-preserved
loop-i-preserved c =
    let e = last_step c.args.own c.args.heads.now c.loop-i.at c.args.n c.loop-i.i (omega arith) in
    let k = slot_next c.loop-i.i (suc c.args.own) in
    (omega arith, omega (arith, k), omega arith, omega (arith, e))

pub returns : goal.returns
returns c =
    let h : c.args.n - c.loop-i.i ≡ 0 = omega arith in
    let e = ap (λ (j : ℕ). last_bytes c.args.own j (drop c.loop-i.at c.args.heads.now)) h in
    (omega (arith, e), omega arith)
