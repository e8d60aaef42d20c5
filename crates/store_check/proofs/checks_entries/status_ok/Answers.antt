use Rattle.lists.proofs.Kit.{rules, arith}
use Rattle.tables.proofs.AnswerLaws.{refused, turned}
use Rattle.store_check.proofs.EntryChecks.{status_is}
use Rattle.store_check.proofs.checks_entries.status_ok.Goals as goal

pub returns-then-s-ne1 : goal.returns-then-s-ne1
returns-then-s-ne1 c =
    refused (λ x. c.if-s-ne1.true ((status_is c.args.form c.args.s.now (omega (arith, c.requires))).1 x).0)

pub returns : goal.returns
returns c =
    let t = status_is c.args.form c.args.s.now (omega (arith, c.requires)) in
    turned c.text_ok.result c.text_ok.ensures (λ x. t.0 (c.if-s-ne1.false, x)) (λ x. (t.1 x).1)
