use Rattle.lists.proofs.Kit.{refl, none, inl, inr}
use Rattle.tables.proofs.AnswerLaws.{not_said, was_said}
use Rattle.callers.proofs.LookupLaws.{looked_up, no_idtype, answered}
use Rattle.callers.proofs.lookup.line_of_in.Goals as goal

pub returns-then-not-is_store : goal.returns-then-not-is_store
returns-then-not-is_store c = inl (not_said c.is_store.result c.is_store.ensures c.if-not-is_store.true-raw, refl)

pub returns-then-not-is_number : goal.returns-then-not-is_number
returns-then-not-is_number c =
    let s = was_said c.is_store.result c.is_store.ensures c.if-not-is_store.false-raw in
    inr (λ m. m s, inl (not_said c.is_number.result c.is_number.ensures c.if-not-is_number.true-raw, refl))

pub returns-then-idtype-gt1 : goal.returns-then-idtype-gt1
returns-then-idtype-gt1 c =
    let a = c.args in
    let s = was_said c.is_store.result c.is_store.ensures c.if-not-is_store.false-raw in
    let n = was_said c.is_number.result c.is_number.ensures c.if-not-is_number.false-raw in
    looked_up a.limits a.idtype a.digits.now a.store.now s n none (no_idtype a.idtype a.digits.now s.store.tables c.if-idtype-gt1.true)

pub key_of-key-requires : goal.key_of-key-requires
key_of-key-requires c = was_said c.is_number.result c.is_number.ensures c.if-not-is_number.false-raw

pub find_line-requires : goal.find_line-requires
find_line-requires c = let s = was_said c.is_store.result c.is_store.ensures c.if-not-is_store.false-raw in (s.roomy, s.size)

pub returns : goal.returns
returns c =
    let a = c.args in
    let s = was_said c.is_store.result c.is_store.ensures c.if-not-is_store.false-raw in
    let n = was_said c.is_number.result c.is_number.ensures c.if-not-is_number.false-raw in
    answered a.limits a.idtype a.digits.now a.store.now s n c.key_of-key.result c.key_of-key.ensures c.find_line.result c.find_line.ensures
