use Rattle.lists.proofs.Kit.{arith, ◌≤◌, drop_of_length-le}
use Rattle.lists.proofs.Every.{all_from}
use Rattle.tables.proofs.AnswerLaws.{refused, granted}
use Rattle.store_check.proofs.checks_entries.at_most.Goals as goal

pub loop-i-init : goal.loop-i-init
loop-i-init c = (λ p. p, λ p. p)

pub returns-then-most-s : goal.returns-then-most-s
returns-then-most-s c = refused (λ p. omega (arith, ((all_from (λ x. x ≤ c.args.most) c.args.s.now c.loop-i.i 0 (omega arith)).1 (c.loop-i.invariant.0 p)).0))

pub loop-i-preserved : goal.loop-i-preserved
loop-i-preserved c =
    let e = all_from (λ x. x ≤ c.args.most) c.args.s.now c.loop-i.i 0 (omega arith) in
    (λ p. (e.1 (c.loop-i.invariant.0 p)).1, λ p. c.loop-i.invariant.1 (e.0 (omega arith, p)))

pub returns : goal.returns
returns c = granted (c.loop-i.invariant.1 (rw (drop_of_length-le c.args.s.now {i = c.loop-i.i} (omega arith)) tt))
