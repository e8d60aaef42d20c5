use Rattle.lists.proofs.Kit.{rules}
use Rattle.tables.proofs.AnswerLaws.{refused, not_said, was_said, turned}
use Rattle.store_check.proofs.EntryChecks.{member_is}
use Rattle.store_check.proofs.checks_entries.named_ok.Goals as goal

pub returns-then-not-address_ok : goal.returns-then-not-address_ok
returns-then-not-address_ok c =
    let a = c.args in
    refused (λ x. not_said c.address_ok.result c.address_ok.ensures c.if-not-address_ok.true-raw ((member_is a.form a.s.now).1 x).0)

pub returns : goal.returns
returns c =
    let b = c.args in
    let t = member_is b.form b.s.now in
    let a = was_said c.address_ok.result c.address_ok.ensures c.if-not-address_ok.false-raw in
    turned c.text_ok.result c.text_ok.ensures (λ x. t.0 (a, x)) (λ x. (t.1 x).1)
