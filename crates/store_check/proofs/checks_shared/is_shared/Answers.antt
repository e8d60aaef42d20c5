use Rattle.lists.proofs.Kit.{rules, arith}
use Rattle.tables.proofs.AnswerLaws.{refused, not_said, was_said}
use Rattle.store_check.proofs.SharedStores.{heads_there, area_there, shared_told}
use Rattle.store_check.proofs.checks_shared.is_shared.Goals as goal

pub returns-then-not-regions_ok : goal.returns-then-not-regions_ok
returns-then-not-regions_ok c =
    let a = c.args in
    refused (λ x. not_said c.regions_ok.result c.regions_ok.ensures c.if-not-regions_ok.true-raw (heads_there a.limits a.area a.store.now c.requires.0 c.requires.1 (λ i. (c.shared_slice_known-1.given i).fits) x))

pub returns-then-not-area_ok : goal.returns-then-not-area_ok
returns-then-not-area_ok c =
    let a = c.args in
    let u = c.units_in-units in
    let e = c.regions_end-texts in
    refused (λ x. not_said c.area_ok.result c.area_ok.ensures c.if-not-area_ok.true-raw
    (area_there a.limits a.area a.store.now c.requires.0 c.requires.1 (λ j. (c.shared_slice_known-1.given j).fits) e.result u.result e.ensures (u.ensures.1 (c.requires.0.few_channels, c.requires.0.few_lines) (omega (arith, c.requires.0.fits, c.requires.1))) x))

pub returns : goal.returns
returns c =
    let a = c.args in
    let u = c.units_in-units in
    let e = c.regions_end-texts in
    let h = was_said c.regions_ok.result c.regions_ok.ensures c.if-not-regions_ok.false-raw in
    let f = was_said c.area_ok.result c.area_ok.ensures c.if-not-area_ok.false-raw in
    shared_told a.limits a.area a.store.now c.requires.0 c.requires.1 (λ j. (c.shared_slice_known-1.given j).fits) e.result u.result e.ensures (u.ensures.1 (c.requires.0.few_channels, c.requires.0.few_lines) (omega (arith, c.requires.0.fits, c.requires.1))) h f c.is_clear.result c.is_clear.ensures
