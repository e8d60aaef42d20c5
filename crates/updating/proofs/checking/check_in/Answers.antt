use Rattle.lists.proofs.Kit.{rules, ◌≡◌, ◌∙◌, arith, length, not-true, not-false, true≢false, sym}
use Rattle.tables.proofs.AnswerLaws.{not_said, was_said}
use Rattle.updating.proofs.CheckLaws.{says_first, says_second, no_is_request, no_refused, no_other, says_yes, copied, wide}
use Rattle.updating.proofs.checking.check_in.Goals as goal

pub returns-then-not-is_store : goal.returns-then-not-is_store
returns-then-not-is_store c =
    let a = c.args in
    λ i j. says_first a.limits a.first.now a.second.now a.message.now (not_said c.is_store.result c.is_store.ensures c.if-not-is_store.true-raw)

pub returns-then-not-is_store-2 : goal.returns-then-not-is_store-2
returns-then-not-is_store-2 c =
    let a = c.args in
    let s = was_said c.is_store.result c.is_store.ensures c.if-not-is_store.false-raw in
    λ i j. says_second a.limits a.first.now a.second.now a.message.now s (not_said c.is_store-2.result c.is_store-2.ensures c.if-not-is_store-2.true-raw)

pub returns-then-not-is_request : goal.returns-then-not-is_request
returns-then-not-is_request c =
    let a = c.args in
    let s = was_said c.is_store.result c.is_store.ensures c.if-not-is_store.false-raw in
    let z = was_said c.is_store-2.result c.is_store-2.ensures c.if-not-is_store-2.false-raw in
    λ i j. no_is_request a.limits a.first.now a.second.now a.message.now s z (not_said c.is_request.result c.is_request.ensures c.if-not-is_request.true-raw)

pub returns-then-not-takes : goal.returns-then-not-takes
returns-then-not-takes c =
    let a = c.args in
    let s = was_said c.is_store.result c.is_store.ensures c.if-not-is_store.false-raw in
    let z = was_said c.is_store-2.result c.is_store-2.ensures c.if-not-is_store-2.false-raw in
    let k = c.takes in
    λ i j. no_refused a.limits a.first.now a.second.now a.message.now s z k.result _
    (copied a.limits a.first.now a.message.now a.after.now _ _ k.result s i c.copy.ensures (k.ensures j))
    (λ e. true≢false (sym e ∙ not-true k.result c.if-not-takes.true-raw))

pub returns-then-not-same_tables : goal.returns-then-not-same_tables
returns-then-not-same_tables c =
    let a = c.args in
    let s = was_said c.is_store.result c.is_store.ensures c.if-not-is_store.false-raw in
    let z = was_said c.is_store-2.result c.is_store-2.ensures c.if-not-is_store-2.false-raw in
    let k = c.takes in
    let t = c.same_tables in
    let l : length k.new.store ≡ length a.after.now = search rules in
    λ i j. no_other a.limits a.first.now a.second.now a.message.now s z k.result _
    (copied a.limits a.first.now a.message.now a.after.now _ _ k.result s i c.copy.ensures (k.ensures j))
    (not_said t.result (t.ensures (omega (arith, wide a.limits a.first.now s, l, i)) (omega (arith, wide a.limits a.first.now s, z.size))) c.if-not-same_tables.true-raw)

pub returns : goal.returns
returns c =
    let a = c.args in
    let s = was_said c.is_store.result c.is_store.ensures c.if-not-is_store.false-raw in
    let z = was_said c.is_store-2.result c.is_store-2.ensures c.if-not-is_store-2.false-raw in
    let k = c.takes in
    let t = c.same_tables in
    let q = c.is_request in
    let l : length k.new.store ≡ length a.after.now = search rules in
    λ i j. says_yes a.limits a.first.now a.second.now a.message.now s z k.result _
    (copied a.limits a.first.now a.message.now a.after.now _ _ k.result s i c.copy.ensures (k.ensures j))
    (was_said q.result q.ensures c.if-not-is_request.false-raw) (not-false k.result c.if-not-takes.false-raw)
    (was_said t.result (t.ensures (omega (arith, wide a.limits a.first.now s, l, i)) (omega (arith, wide a.limits a.first.now s, z.size))) c.if-not-same_tables.false-raw)
