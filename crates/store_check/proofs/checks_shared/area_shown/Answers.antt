use Rattle.lists.proofs.Kit.{rules, arith, refl, ◌∙◌, ap, List, ℕ, [], subst, sym}
use Rattle.store_check.proofs.AreaLaws.{Behind, block_more, block_stop, block_end}
use Rattle.store_check.proofs.checks_shared.area_shown.Goals as goal

pub loop-block-init : goal.loop-block-init
loop-block-init c = (search rules, subst (Behind c.args.s.now) (search rules) (([], 0, refl, refl), refl))

pub returns-then-not-units_shown : goal.returns-then-not-units_shown
returns-then-not-units_shown c =
    let step = c.in-Some.ensures.steps.1 in
    block_stop c.args.s.now _ c.in-Some.block.now _ step.0 (step.1 ∙ c.loop-block.invariant.0) c.loop-block.invariant.1 c.units_shown.result c.units_shown.ensures c.if-not-units_shown.true

pub loop-block-preserved : goal.loop-block-preserved
loop-block-preserved c =
    let step = c.in-Some.ensures.steps.1 in (
      c.next.ensures.steps.0 ∙ c.loop-block.invariant.0,
      block_more c.args.s.now _ c.in-Some.block.now _ step.0 (step.1 ∙ c.loop-block.invariant.0) c.loop-block.invariant.1 c.units_shown.result c.units_shown.ensures c.if-not-units_shown.false,
    )

pub returns : goal.returns
returns c =
    block_end c.args.s.now _ c.remainder-rest.result.now c.loop-block.invariant.1 (omega (arith, c.in-None.ensures.steps.1.0, c.loop-block.invariant.0)) (c.remainder-rest.ensures ∙ c.chunks_exact-blocks.ensures.remainder) c.units_shown-2.result c.units_shown-2.ensures
