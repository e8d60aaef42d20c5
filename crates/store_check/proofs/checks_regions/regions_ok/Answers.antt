use Rattle.lists.proofs.Kit.{rules, arith}
use Rattle.tables.proofs.AnswerLaws.{refused, not_said, was_said, turned}
use Rattle.store_check.proofs.StoreChecks.{regions_are, channels_told, lines_told}
use Rattle.store_check.proofs.checks_regions.regions_ok.Goals as goal

pub returns-then-not-fixed_ok : goal.returns-then-not-fixed_ok
returns-then-not-fixed_ok c =
    let a = c.args in
    refused (λ x. not_said c.fixed_ok.result c.fixed_ok.ensures c.if-not-fixed_ok.true-raw ((regions_are a.form a.limits a.store.now).1 x).0)

pub returns-then-not-indexed_ok : goal.returns-then-not-indexed_ok
returns-then-not-indexed_ok c =
    let a = c.args in
    refused (λ x. not_said c.indexed_ok.result c.indexed_ok.ensures c.if-not-indexed_ok.true-raw ((regions_are a.form a.limits a.store.now).1 x).1.0)

pub returns-then-not-contact_lists_ok : goal.returns-then-not-contact_lists_ok
returns-then-not-contact_lists_ok c =
    let a = c.args in
    refused (λ x. not_said c.contact_lists_ok.result c.contact_lists_ok.ensures c.if-not-contact_lists_ok.true-raw ((regions_are a.form a.limits a.store.now).1 x).1.1.0)

pub returns-then-not-channels_ok : goal.returns-then-not-channels_ok
returns-then-not-channels_ok c =
    let a = c.args in
    let w = c.starts_of-at.ensures in
    let t = c.channels_ok in
    refused (λ x. not_said t.result (channels_told a.form a.limits a.store.now _ _ w.channels (omega (arith, w.channels)) (omega (arith, c.requires.2, w.channels)) t.result t.ensures) c.if-not-channels_ok.true-raw ((regions_are a.form a.limits a.store.now).1 x).1.1.1.0)

pub returns : goal.returns
returns c =
    let a = c.args in
    let w = c.starts_of-at.ensures in
    let t = regions_are a.form a.limits a.store.now in
    let f = was_said c.fixed_ok.result c.fixed_ok.ensures c.if-not-fixed_ok.false-raw in
    let i = was_said c.indexed_ok.result c.indexed_ok.ensures c.if-not-indexed_ok.false-raw in
    let k = was_said c.contact_lists_ok.result c.contact_lists_ok.ensures c.if-not-contact_lists_ok.false-raw in
    let n = was_said c.channels_ok.result (channels_told a.form a.limits a.store.now _ _ w.channels (omega (arith, w.channels)) (omega (arith, c.requires.2, w.channels)) c.channels_ok.result c.channels_ok.ensures) c.if-not-channels_ok.false-raw in
    let u = lines_told a.form a.limits a.store.now _ _ (omega (arith, w.channels)) c.regions_end-end.ensures c.lines_ok.result c.lines_ok.ensures in
    turned c.lines_ok.result u (λ x. t.0 (f, (i, (k, (n, x))))) (λ x. (t.1 x).1.1.1.1)
