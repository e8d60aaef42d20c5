use mathlib.Core.Path.{sym, ◌∙◌}
use native.Mathlib.Omega.{arith}
use mathlib.Core.Bool.{true≢false}
use Rattle.orders.proofs.Steps.{refused}
use Rattle.orders.proofs.Checking.{entry_before, entries_more, order_entry, order_answer}
use Rattle.orders.proofs.orders.order_ok.Goals as goal

pub returns-then-not-entry_ok : goal.returns-then-not-entry_ok
returns-then-not-entry_ok c =
    let a = c.args in
    let l = c.loop-i in
    let e = c.entry_ok in
    λ h. refused (λ g. true≢false (sym ((e.ensures h (omega arith) (omega arith) (entry_before a.w a.o a.k a.n a.count a.s.now h (omega arith) l.i (l.invariant h))).1 (order_entry a.w a.o a.k a.n a.count a.s.now h g l.i (omega arith))) ∙ c.if-not-entry_ok.true))

pub loop-i-preserved : goal.loop-i-preserved
loop-i-preserved c =
    let a = c.args in
    let l = c.loop-i in
    let e = c.entry_ok in
    (λ h. entries_more a.w a.o a.k a.n a.count a.s.now h l.i (l.invariant h) ((e.ensures h (omega arith) (omega arith) (entry_before a.w a.o a.k a.n a.count a.s.now h (omega arith) l.i (l.invariant h))).0 c.if-not-entry_ok.false))

pub returns : goal.returns
returns c =
    let a = c.args in
    let l = c.loop-i in
    λ h. order_answer a.w a.o a.k a.n a.count a.s.now h c.is_zeros.result (omega arith) (λ j m. l.invariant h j (omega arith)) c.is_zeros.ensures
