use Rattle.lists.proofs.Kit.{rules, sym, ◌∙◌}
use Rattle.tables.proofs.AnswerLaws.{granted}
use Rattle.store_check.proofs.TextChecks.{text_is, text_full}
use Rattle.store_check.proofs.checks_entries.units_ok.Goals as goal

pub returns-then-units_shown : goal.returns-then-units_shown
returns-then-units_shown c = λ n l. granted (text_full n c.args.s.now l (λ i. (c.shared_slice_known-1.given i).fits) (sym c.units_shown.ensures ∙ c.if-units_shown.true))

pub returns : goal.returns
returns c = λ n l. text_is n c.args.s.now c.used-units.result l (λ i. (c.shared_slice_known-1.given i).fits) c.used-units.ensures c.is_clear.result c.is_clear.ensures
