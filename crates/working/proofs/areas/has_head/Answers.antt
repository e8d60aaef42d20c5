use Rattle.lists.proofs.Kit.{◌≤◌, arith, sym, subst, le-leb, leb-true}
use Rattle.tables.proofs.AnswerLaws.{refused, not_said, was_said}
use Rattle.shared_texts.specs.declared.Run.{Run}
use Rattle.working.proofs.areas.has_head.Goals as goal

pub returns-then-k-ge-TEXT_TABLES : goal.returns-then-k-ge-TEXT_TABLES
returns-then-k-ge-TEXT_TABLES c = refused (λ x. omega (arith, x.table))

pub returns-then-not-countable : goal.returns-then-not-countable
returns-then-not-countable c = refused (λ x. not_said c.countable.result c.countable.ensures c.if-not-countable.true-raw (x.few_channels, x.few_lines))

pub heads_size-requires : goal.heads_size-requires
heads_size-requires c = was_said c.countable.result c.countable.ensures c.if-not-countable.false-raw

pub returns-then-store-heads_size : goal.returns-then-store-heads_size
returns-then-store-heads_size c = refused (λ x. omega (arith, x.heads, c.heads_size.ensures))

pub run_of-run-requires : goal.run_of-run-requires
run_of-run-requires c = let h = was_said c.countable.result c.countable.ensures c.if-not-countable.false-raw in (omega arith, h.0, h.1)

pub returns : goal.returns
returns c =
    let r = c.run_of-run in
    let n = c.args.n in
    let h = was_said c.countable.result c.countable.ensures c.if-not-countable.false-raw in (
      λ e. record { few_channels = h.0; few_lines = h.1; heads = omega (arith, c.heads_size.ensures); table = omega arith; place = subst (λ (x : Run). n ≤ x.many) r.ensures.0 (leb-true _ _ e) },
      λ x. le-leb _ _ (subst (λ (y : Run). n ≤ y.many) (sym r.ensures.0) x.place),
    )
