use Rattle.lists.proofs.Kit.{refl, inl, inr, arith}
use Rattle.tables.proofs.AnswerLaws.{not_said, was_said}
use Rattle.screen.proofs.RowAnswers.{name_answers}
use Rattle.screen.proofs.names.name_of.Goals as goal

-- `screen::names::name_of` meets its contract. Assumes nothing.
pub returns-then-room-lt36 : goal.returns-then-room-lt36
returns-then-room-lt36 c = inl (c.if-room-lt36.true, refl)

pub returns-then-not-is_store : goal.returns-then-not-is_store
returns-then-not-is_store c =
    inr (λ h. omega (arith, c.if-room-lt36.false), inl (not_said c.is_store.result c.is_store.ensures c.if-not-is_store.true-raw, refl))

pub name_in-requires : goal.name_in-requires
name_in-requires c = was_said c.is_store.result c.is_store.ensures c.if-not-is_store.false-raw

pub returns : goal.returns
returns c =
    let a = c.args in
    name_answers a.limits a.store.now a.row a.room c.name_in.result (omega (arith, c.if-room-lt36.false))
    (was_said c.is_store.result c.is_store.ensures c.if-not-is_store.false-raw) c.name_in.ensures
