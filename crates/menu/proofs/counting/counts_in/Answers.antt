use Rattle.lists.proofs.Kit.{refl, inl, inr}
use Rattle.tables.proofs.AnswerLaws.{not_said, was_said}
use Rattle.menu.proofs.counting.counts_in.Goals as goal

pub returns-then-not-is_store : goal.returns-then-not-is_store
returns-then-not-is_store c = inl (not_said c.is_store.result c.is_store.ensures c.if-not-is_store.true-raw, refl)

pub read_counts-requires : goal.read_counts-requires
read_counts-requires c = let h = was_said c.is_store.result c.is_store.ensures c.if-not-is_store.false-raw in (h.roomy, h.size)

pub returns : goal.returns
returns c =
    let h = was_said c.is_store.result c.is_store.ensures c.if-not-is_store.false-raw in
    inr (λ n. n h, (h.store.tables, (h.store.allowed, h.store.bytes_are), c.read_counts.ensures h.store.tables (h.store.allowed, h.store.bytes_are)))
