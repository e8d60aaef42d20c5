use Rattle.lists.proofs.Kit.{refl, inl}
use Rattle.tables.proofs.AnswerLaws.{not_said, was_said}
use Rattle.values.proofs.tuning.channel_in.Goals as goal

pub returns-then-not-is_store : goal.returns-then-not-is_store
returns-then-not-is_store c = inl (not_said c.is_store.result c.is_store.ensures c.if-not-is_store.true-raw, refl)

pub tuned-requires : goal.tuned-requires
tuned-requires c = was_said c.is_store.result c.is_store.ensures c.if-not-is_store.false-raw

pub returns : goal.returns
returns c = c.tuned.ensures
