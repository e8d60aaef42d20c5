use Rattle.lists.proofs.Kit.{rules, arith}
use Rattle.tables.proofs.AnswerLaws.{refused, turned}
use Rattle.store_check.proofs.EntryChecks.{individual_is}
use Rattle.store_check.proofs.checks_entries.individual_ok.Goals as goal

pub returns-then-s-gt15 : goal.returns-then-s-gt15
returns-then-s-gt15 c =
    refused (λ x. omega (arith, ((individual_is c.args.form c.args.s.now (omega (arith, c.requires))).1 x).0))

pub returns : goal.returns
returns c =
    let t = individual_is c.args.form c.args.s.now (omega (arith, c.requires)) in
    turned c.named_ok.result c.named_ok.ensures (λ x. t.0 (omega arith, x)) (λ x. (t.1 x).1)
