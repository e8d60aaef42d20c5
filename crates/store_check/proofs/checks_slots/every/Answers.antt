use Rattle.lists.proofs.Kit.{rules, ap, sym, ◌∙◌, subst, ◌<◌, ℕ, length}
use Rattle.tables.proofs.AnswerLaws.{refused, granted, said_no}
use Rattle.store_check.proofs.TableChecks.{RestIn, rest_start, rest_pass, rest_stop, rest_end}
use Rattle.store_check.proofs.checks_slots.every.Goals as goal

pub loop-slot-init : goal.loop-slot-init
loop-slot-init g c = (search rules, λ f t n e told l. subst (RestIn f t n c.args.s.now) (search rules) (rest_start f t c.args.s.now g.row.W e n l))

pub returns-then-not-takes : goal.returns-then-not-takes
returns-then-not-takes g c =
    let x = c.in-Some.slot in
    let step = c.in-Some.ensures.steps.1 in
    let long = step.1 ∙ c.loop-slot.invariant.0 in
    λ f t n e told l. refused (rest_stop f t c.args.s.now g.row.W e n _ x.now _ step.0 long (said_no _ (told x c.takes.result (long ∙ e) c.takes.ensures) c.if-not-takes.true) (c.loop-slot.invariant.1 f t n e told l))

pub loop-slot-preserved : goal.loop-slot-preserved
loop-slot-preserved g c =
    let x = c.in-Some.slot in
    let step = c.in-Some.ensures.steps.1 in
    let long = step.1 ∙ c.loop-slot.invariant.0 in (
      c.next.ensures.steps.0 ∙ c.loop-slot.invariant.0,
      λ f t n e told l. rest_pass f t c.args.s.now g.row.W e n _ x.now _ step.0 long ((told x c.takes.result (long ∙ e) c.takes.ensures).0 c.if-not-takes.false) (c.loop-slot.invariant.1 f t n e told l),
    )

pub returns : goal.returns
returns g c = λ f t n e told l. granted (rest_end f t c.args.s.now g.row.W e n _ (subst (λ v. length c.loop-slot.slot-iterator.rest.now < v) c.loop-slot.invariant.0 c.in-None.ensures.steps.1.0) (c.loop-slot.invariant.1 f t n e told l))
