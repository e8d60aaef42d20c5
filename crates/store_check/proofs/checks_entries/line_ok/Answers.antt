use Rattle.lists.proofs.Kit.{rules, arith}
use Rattle.tables.proofs.AnswerLaws.{refused, not_said, was_said, turned}
use Rattle.store_check.specs.declared.forms.Form.TheVariants.{Placed}
use Rattle.store_check.proofs.EntryChecks.{line_is}
use Rattle.store_check.proofs.checks_entries.line_ok.Goals as goal

pub returns-then-s-gt15 : goal.returns-then-s-gt15
returns-then-s-gt15 c =
    refused (λ x. omega (arith, ((line_is Placed c.args.s.now (omega (arith, c.requires))).1 x).0))

pub returns-then-s-gt1 : goal.returns-then-s-gt1
returns-then-s-gt1 c =
    refused (λ x. omega (arith, ((line_is Placed c.args.s.now (omega (arith, c.requires))).1 x).1.0))

pub returns-then-not-digits_ok : goal.returns-then-not-digits_ok
returns-then-not-digits_ok c =
    refused (λ x. not_said c.digits_ok.result c.digits_ok.ensures c.if-not-digits_ok.true-raw ((line_is Placed c.args.s.now (omega (arith, c.requires))).1 x).1.1.0)

pub returns : goal.returns
returns c =
    let t = line_is Placed c.args.s.now (omega (arith, c.requires)) in
    let d = was_said c.digits_ok.result c.digits_ok.ensures c.if-not-digits_ok.false-raw in
    turned c.text_ok.result c.text_ok.ensures (λ x. t.0 (omega arith, (omega arith, (d, x)))) (λ x. (t.1 x).1.1.1)
