use Rattle.lists.proofs.Kit.{rules, arith}
use Rattle.tables.proofs.AnswerLaws.{refused, turned}
use Rattle.store_check.proofs.EntryChecks.{group_is}
use Rattle.store_check.proofs.checks_entries.group_ok.Goals as goal

pub returns-then-s-lt64 : goal.returns-then-s-lt64
returns-then-s-lt64 c =
    refused (λ x. omega (arith, ((group_is c.args.form c.args.s.now (omega (arith, c.requires))).1 x).0))

pub returns : goal.returns
returns c =
    let t = group_is c.args.form c.args.s.now (omega (arith, c.requires)) in
    turned c.named_ok.result c.named_ok.ensures (λ x. t.0 ((omega arith, omega (arith, c.shared_slice_known-1.given 0)), x)) (λ x. (t.1 x).1)
