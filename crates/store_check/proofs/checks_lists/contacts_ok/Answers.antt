use Rattle.lists.proofs.Kit.{rules, sym, ap}
use Rattle.tables.proofs.AnswerLaws.{refused, not_said, was_said}
use Rattle.store_check.specs.declared.checks_tables.Table.TheVariants.{Members as Of}
use Rattle.store_check.specs.declared.forms.Form.{Form}
use Rattle.store_check.specs.Checks.{width_in}
use Rattle.store_check.proofs.KeyedChecks.{contacts_counted, contacts_decided}
use Rattle.store_check.proofs.checks_lists.contacts_ok.Goals as goal

pub returns-then-not-counted_ok : goal.returns-then-not-counted_ok
returns-then-not-counted_ok c =
    let a = c.args in
    λ n l. refused (λ x. not_said c.counted_ok.result (c.counted_ok.ensures n l) c.if-not-counted_ok.true-raw (contacts_counted a.form a.who n a.s.now x))

pub returns-in-Placed : goal.returns-in-Placed
returns-in-Placed c =
    let a = c.args in
    λ n l.
    contacts_decided a.form a.who n a.s.now 36 (sym (ap (λ (f : Form). width_in f (Of a.who)) c.in-Placed.is)) c.keys_distinct.result c.keys_distinct.ensures
    (was_said c.counted_ok.result (c.counted_ok.ensures n l) c.if-not-counted_ok.false-raw)

pub returns-in-Shared : goal.returns-in-Shared
returns-in-Shared c =
    let a = c.args in
    λ n l.
    contacts_decided a.form a.who n a.s.now 5 (sym (ap (λ (f : Form). width_in f (Of a.who)) c.in-Shared.is)) c.keys_distinct-in-Shared.result c.keys_distinct-in-Shared.ensures
    (was_said c.counted_ok.result (c.counted_ok.ensures n l) c.if-not-counted_ok.false-raw)
