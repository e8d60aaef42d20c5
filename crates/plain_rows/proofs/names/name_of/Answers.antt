use Rattle.lists.proofs.Kit.{refl, subst, inl, inr, arith}
use Rattle.plain_log.specs.Checking.{AreaIs}
use Rattle.plain_rows.proofs.RowAnswers.{name_answers}
use Rattle.plain_rows.proofs.names.name_of.Goals as goal

-- `plain_rows::names::name_of` meets its contract. Assumes nothing.
pub returns-then-room-lt64 : goal.returns-then-room-lt64
returns-then-room-lt64 c = inl (c.if-room-lt64.true, refl)

pub returns-in_default : goal.returns-in_default
returns-in_default c =
    let a = c.args in
    let k = c.check_area in
    inr (λ h. omega (arith, c.if-room-lt64.false), inl (subst (AreaIs a.area.now _ _) c.in_default.is k.ensures refl, refl))

pub returns : goal.returns
returns c =
    let a = c.args in
    name_answers a.area.now _ a.row a.room c.in-Some.seen c.find.result c.name_found.result (omega (arith, c.if-room-lt64.false))
    (subst (AreaIs a.area.now _ _) c.in-Some.is c.check_area.ensures refl) c.find.ensures c.name_found.ensures
