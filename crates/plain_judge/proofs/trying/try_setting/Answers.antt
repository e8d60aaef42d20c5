use Rattle.lists.proofs.Kit.{◌+◌, ◌-◌, ◌∙◌, ap, subst, subst⁻¹, get_or}
use Rattle.tables.specs.declared.limits.Texts.TheVariants.{Shared}
use Rattle.requests.specs.Trying.{HeldAfter}
use Rattle.plain_look.specs.Looking.{kind_number}
use Rattle.plain_judge.specs.Judging.{TryIs}
use Rattle.plain_judge.proofs.TryLaws.{tried_full, tried_over, tried_done}
use Rattle.plain_judge.proofs.trying.try_setting.Goals as goal

pub returns-in_err-weight : goal.returns-in_err-weight
returns-in_err-weight c =
    let a = c.args in
    let kind = c.kind_of in
    let number = c.kind_number-k in
    let was = c.weight_at-was in
    let turn = c.begin in
    let tried = c.weigh_setting in
    subst⁻¹ (TryIs a.log.now a.m.now a.before a.setting a.weights.now a.weights.now) c.from_residual.ensures
    (tried_full a.log.now a.m.now c.args.before a.setting a.weights.now number.result (number.ensures.0 ∙ ap kind_number kind.ensures) was.result was.ensures turn.result turn.ensures tried.result tried.ensures a.weights.now c.in_err-weight.was)

pub returns-in_default : goal.returns-in_default
returns-in_default c =
    let a = c.args in
    let kind = c.kind_of in
    let number = c.kind_number-k in
    let was = c.weight_at-was in
    let turn = c.begin in
    let tried = c.weigh_setting in
    tried_over a.log.now a.m.now c.args.before a.setting a.weights.now number.result (number.ensures.0 ∙ ap kind_number kind.ensures) was.result was.ensures turn.result turn.ensures tried.result tried.ensures c.in_ok-weight.weight c.in_ok-weight.passed c.in_ok-weight.was a.weights.now (subst (HeldAfter (Shared 4096) (get_or a.weights.now 26 0 - was.result.bytes + c.in_ok-weight.weight.bytes)) c.in_default.is c.sum_after.ensures)

pub returns : goal.returns
returns c =
    let a = c.args in
    let kind = c.kind_of in
    let number = c.kind_number-k in
    let was = c.weight_at-was in
    let turn = c.begin in
    let tried = c.weigh_setting in
    tried_done a.log.now a.m.now c.args.before a.setting a.weights.now number.result (number.ensures.0 ∙ ap kind_number kind.ensures) was.result was.ensures turn.result turn.ensures tried.result tried.ensures c.in_ok-weight.weight c.in_ok-weight.passed c.in_ok-weight.was _ c.in-Some.sum (subst (HeldAfter (Shared 4096) (get_or a.weights.now 26 0 - was.result.bytes + c.in_ok-weight.weight.bytes)) c.in-Some.is c.sum_after.ensures) c.put_weight.ensures
