use Rattle.lists.proofs.Kit.{rules}
use Rattle.tables.proofs.AnswerLaws.{refused}
use Rattle.store_check.proofs.TextChecks.{digits_first, digits_gap, digits_last}
use Rattle.store_check.proofs.checks_entries.digits_ok.Goals as goal

pub returns-then-s-eq0 : goal.returns-then-s-eq0
returns-then-s-eq0 c = refused (λ x. digits_first c.args.s.now x c.if-s-eq0.true)

pub returns-then-not-digits_fall : goal.returns-then-not-digits_fall
returns-then-not-digits_fall c = refused (digits_gap c.args.s.now c.requires c.if-s-eq0.false c.digits_fall.result c.digits_fall.ensures c.if-not-digits_fall.true-raw)

pub returns : goal.returns
returns c = digits_last c.args.s.now c.requires c.if-s-eq0.false c.digits_fall.result c.digits_fall.ensures c.if-not-digits_fall.false-raw
