use Rattle.lists.proofs.Kit.{rules, arith}
use Rattle.tables.proofs.AnswerLaws.{refused}
use Rattle.store_check.proofs.CountChecks.{no_places, no_list, counted_told}
use Rattle.store_check.proofs.TableChecks.{wide_in}
use Rattle.store_check.proofs.checks_lists.counted_ok.Goals as goal

pub returns-then-not-places_ok : goal.returns-then-not-places_ok
returns-then-not-places_ok c =
    let p = c.places_ok in
    λ n l. refused (no_places c.args.form c.args.t n c.args.s.now c.requires p.result (p.ensures n (omega arith)) c.if-not-places_ok.true-raw)

pub returns-then-not-is_clear : goal.returns-then-not-is_clear
returns-then-not-is_clear c =
    let p = c.places_ok in
    let w = c.width-w in
    let u = c.used-end in
    let z = c.is_clear in
    λ n l. refused (no_list c.args.form c.args.t n c.args.s.now c.requires p.result (p.ensures n (omega arith)) w.result w.ensures.0 c.if-not-places_ok.false-raw u.result u.ensures z.result z.ensures c.if-not-is_clear.true-raw)

pub nonzero_div-end : goal.nonzero_div-end
nonzero_div-end c = omega (arith, wide_in c.args.form c.args.t, c.width-w.ensures.0)

pub returns : goal.returns
returns c =
    let p = c.places_ok in
    let w = c.width-w in
    let u = c.used-end in
    let z = c.is_clear in
    λ n l.
    counted_told c.args.form c.args.t n c.args.s.now c.requires p.result (p.ensures n (omega arith)) w.result w.ensures.0 c.if-not-places_ok.false-raw u.result u.ensures z.result z.ensures c.if-not-is_clear.false-raw c.count_is.result c.count_is.ensures
