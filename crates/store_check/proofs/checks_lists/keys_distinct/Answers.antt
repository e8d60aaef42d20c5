use Rattle.lists.proofs.Kit.{rules, arith, ℕ, ◌≡◌, refl, ◌∙◌, ◌≤◌, length, length-set, List}
use Rattle.tables.proofs.AnswerLaws.{refused, granted}
use Rattle.store_check.specs.Checks.{Filled}
use Rattle.store_check.proofs.DistinctLaws.{Behind, distinct_start, distinct_more, distinct_stop, distinct_end}
use Rattle.store_check.proofs.checks_lists.keys_distinct.Goals as goal

pub loop-at-init : goal.loop-at-init
loop-at-init c =
    (omega arith, c.used-end.ensures.within, refl, λ n xs t. distinct_start c.args.w c.args.o c.args.k c.requires.0 c.requires.2 n xs c.args.s.now t c.used-end.result c.used-end.ensures _)

pub returns-then-not-key_new : goal.returns-then-not-key_new
returns-then-not-key_new c =
    let u = c.used-end in
    let l = c.loop-at in
    let m = c.mark-m in
    let y = c.key_new in
    λ n xs t. refused (distinct_stop c.args.w c.args.o c.args.k c.requires.0 c.requires.2 n xs c.args.s.now t u.result u.ensures l.at l.seen (l.invariant.3 n xs t) (omega arith) m.result m.ensures.0 y.result y.ensures c.if-not-key_new.true-raw)

pub loop-at-preserved : goal.loop-at-preserved
loop-at-preserved c =
    let u = c.used-end in
    let l = c.loop-at in
    let m = c.mark-m in
    let y = c.key_new in (
      omega arith,
      l.invariant.1,
      length-set l.seen m.result 1 ∙ l.invariant.2,
      λ n xs t. distinct_more c.args.w c.args.o c.args.k c.requires.0 c.requires.2 n xs c.args.s.now t u.result u.ensures l.at l.seen (l.invariant.3 n xs t) (omega arith) m.result m.ensures.0 y.result y.ensures (omega (arith, m.ensures.1, l.invariant.2)) c.if-not-key_new.false-raw,
    )

pub returns : goal.returns
returns c =
    let l = c.loop-at in
    λ n xs t. granted (distinct_end c.args.w c.args.o c.args.k c.requires.0 c.requires.2 n xs c.args.s.now t l.at l.seen (l.invariant.3 n xs t) (omega arith))
