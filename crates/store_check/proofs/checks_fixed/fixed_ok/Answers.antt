use Rattle.lists.proofs.Kit.{rules}
use Rattle.tables.proofs.AnswerLaws.{refused, not_said, was_said, turned}
use Rattle.store_check.proofs.checks_fixed.fixed_ok.Goals as goal

pub returns-then-not-hash_ok : goal.returns-then-not-hash_ok
returns-then-not-hash_ok c = refused (λ x. not_said c.hash_ok.result c.hash_ok.ensures c.if-not-hash_ok.true-raw x.0)

pub returns-then-not-key_ok : goal.returns-then-not-key_ok
returns-then-not-key_ok c = refused (λ x. not_said c.key_ok.result c.key_ok.ensures c.if-not-key_ok.true-raw x.1.0)

pub returns-then-not-home_ok : goal.returns-then-not-home_ok
returns-then-not-home_ok c = refused (λ x. not_said c.home_ok.result c.home_ok.ensures c.if-not-home_ok.true-raw x.1.1.0)

pub returns : goal.returns
returns c =
    let h = was_said c.hash_ok.result c.hash_ok.ensures c.if-not-hash_ok.false-raw in
    let k = was_said c.key_ok.result c.key_ok.ensures c.if-not-key_ok.false-raw in
    let n = was_said c.home_ok.result c.home_ok.ensures c.if-not-home_ok.false-raw in
    turned c.system_ok.result c.system_ok.ensures (λ x. (h, (k, (n, (x, tt))))) (λ x. x.1.1.1.0)
