use Rattle.lists.proofs.Kit.{rules}
use Rattle.tables.proofs.AnswerLaws.{refused, not_said, was_said, turned}
use Rattle.store_check.proofs.StoreChecks.{quick_told, status_told, groups_told, individuals_told, line_slots_told}
use Rattle.store_check.proofs.checks_regions.indexed_ok.Goals as goal

pub returns-then-not-places_ok : goal.returns-then-not-places_ok
returns-then-not-places_ok c =
    let w = c.starts_of-at in
    let t = c.places_ok in
    refused (λ x. not_said t.result (quick_told c.args.form c.args.store.now w.result w.ensures c.requires t.result t.ensures) c.if-not-places_ok.true-raw x.0)

pub returns-then-not-places_ok-2 : goal.returns-then-not-places_ok-2
returns-then-not-places_ok-2 c =
    let w = c.starts_of-at in
    let t = c.places_ok-2 in
    refused (λ x. not_said t.result (status_told c.args.form c.args.store.now w.result w.ensures c.requires t.result t.ensures) c.if-not-places_ok-2.true-raw x.1.0)

pub returns-then-not-places_ok-3 : goal.returns-then-not-places_ok-3
returns-then-not-places_ok-3 c =
    let w = c.starts_of-at in
    let t = c.places_ok-3 in
    refused (λ x. not_said t.result (groups_told c.args.form c.args.store.now w.result w.ensures c.requires t.result t.ensures) c.if-not-places_ok-3.true-raw x.1.1.0)

pub returns-then-not-places_ok-4 : goal.returns-then-not-places_ok-4
returns-then-not-places_ok-4 c =
    let w = c.starts_of-at in
    let t = c.places_ok-4 in
    refused (λ x. not_said t.result (individuals_told c.args.form c.args.store.now w.result w.ensures c.requires t.result t.ensures) c.if-not-places_ok-4.true-raw x.1.1.1.0)

pub returns : goal.returns
returns c =
    let f = c.args.form in
    let s = c.args.store.now in
    let w = c.starts_of-at in
    let q = was_said c.places_ok.result (quick_told f s w.result w.ensures c.requires c.places_ok.result c.places_ok.ensures) c.if-not-places_ok.false-raw in
    let u = was_said c.places_ok-2.result (status_told f s w.result w.ensures c.requires c.places_ok-2.result c.places_ok-2.ensures) c.if-not-places_ok-2.false-raw in
    let g = was_said c.places_ok-3.result (groups_told f s w.result w.ensures c.requires c.places_ok-3.result c.places_ok-3.ensures) c.if-not-places_ok-3.false-raw in
    let i = was_said c.places_ok-4.result (individuals_told f s w.result w.ensures c.requires c.places_ok-4.result c.places_ok-4.ensures) c.if-not-places_ok-4.false-raw in
    turned c.places_ok-5.result (line_slots_told f s w.result w.ensures c.requires c.places_ok-5.result c.places_ok-5.ensures) (λ x. (q, (u, (g, (i, (x, tt)))))) (λ x. x.1.1.1.1.0)
