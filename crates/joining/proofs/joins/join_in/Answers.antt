use Rattle.lists.proofs.Kit.{arith, subst, refl, inl}
use Rattle.joining.specs.Checking.{RequestIs}
use Rattle.joining.proofs.JoinLaws.{wrong_first, wrong_second, joins_both}
use Rattle.joining.proofs.joins.join_in.Goals as goal

pub returns-then-buffer-most : goal.returns-then-buffer-most
returns-then-buffer-most c = λ can. inl (omega arith, refl)

pub join_both-requires : goal.join_both-requires
join_both-requires c = let a = c.args in
    let f = subst (RequestIs a.most a.first.now) c.in-Ok.is c.check_request.ensures in
    let g = subst (RequestIs a.most a.second.now) c.in-Ok-check_request.is c.check_request-2.ensures in
    (omega arith, f.long, f.size.1, g.long)

pub returns-in-Err : goal.returns-in-Err
returns-in-Err c = let a = c.args in
    λ can. wrong_first a.most a.first.now a.second.now a.buffer.now (omega arith) (subst (RequestIs a.most a.first.now) c.in-Err.is c.check_request.ensures)

pub returns-in-Err-check_request : goal.returns-in-Err-check_request
returns-in-Err-check_request c = let a = c.args in
    λ can. wrong_second a.most a.first.now a.second.now a.buffer.now (omega arith) _ (subst (RequestIs a.most a.first.now) c.in-Ok.is c.check_request.ensures) (subst (RequestIs a.most a.second.now) c.in-Err-check_request.is c.check_request-2.ensures)

pub returns : goal.returns
returns c = let a = c.args in
    λ can. joins_both a.most a.first.now a.second.now a.buffer.now (omega arith) _ (subst (RequestIs a.most a.first.now) c.in-Ok.is c.check_request.ensures) _ (subst (RequestIs a.most a.second.now) c.in-Ok-check_request.is c.check_request-2.ensures) _ c.join_both.result c.join_both.ensures can
