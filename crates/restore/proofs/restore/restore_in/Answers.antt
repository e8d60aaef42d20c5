use Rattle.lists.proofs.Kit.{rules, refl, arith, inl, inr}
use Rattle.tables.specs.Tables.{fresh}
use Rattle.tables.proofs.AnswerLaws.{not_said, was_said}
use Rattle.restore.proofs.RestoreLaws.{started_fresh}
use Rattle.restore.proofs.Restored.{fresh_ready}
use Rattle.restore.proofs.restore.restore_in.Goals as goal

pub returns-then-reply-lt20 : goal.returns-then-reply-lt20
returns-then-reply-lt20 c =
    λ x size. inl (c.if-reply-lt20.true, refl)

pub returns-then-not-is_store : goal.returns-then-not-is_store
returns-then-not-is_store c =
    λ x size. inr ((λ h. omega (arith, c.if-reply-lt20.false)), inl (not_said c.is_store.result c.is_store.ensures c.if-not-is_store.true-raw, refl))

pub returns-then-buffer-limits : goal.returns-then-buffer-limits
returns-then-buffer-limits c =
    λ x size. inr ((λ h. omega (arith, c.if-reply-lt20.false)), inr ((λ n. n (was_said c.is_store.result c.is_store.ensures c.if-not-is_store.false-raw)), inl (c.if-buffer-limits.true, refl)))

pub returns-then-not-is_store-2 : goal.returns-then-not-is_store-2
returns-then-not-is_store-2 c =
    λ x size. inr ((λ h. omega (arith, c.if-reply-lt20.false)), inr ((λ n. n (was_said c.is_store.result c.is_store.ensures c.if-not-is_store.false-raw)), inr ((λ h. omega (arith, c.if-buffer-limits.false)), inl (not_said c.is_store-2.result c.is_store-2.ensures c.if-not-is_store-2.true-raw, refl))))

pub returns : goal.returns
returns c =
    let a = c.args in
    let if1 = c.if-reply-lt20 in
    let if3 = c.if-buffer-limits in
    let k = c.is_store in
    let l = c.is_store-2 in
    let there = was_said k.result k.ensures c.if-not-is_store.false-raw in
    let here = was_said l.result l.ensures c.if-not-is_store-2.false-raw in
    let s = c.start in
    let m = c.move_parts in
    let fresh-now = started_fresh a.limits a.to.now _ there s.result s.ensures in
    λ x size. inr ((λ n. omega (arith, if1.false)), inr ((λ n. n there), inr ((λ n. omega (arith, if3.false)), inr ((λ n. n here), (here.store.tables, (here.store.allowed, here.store.bytes_are), m.ensures here.store.tables fresh x here.roomy (here.store.allowed, here.store.bytes_are) fresh-now (fresh_ready a.limits.texts) (record { message = if3.false; answer = if1.false; copy = size }))))))
