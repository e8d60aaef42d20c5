use Rattle.lists.proofs.Kit.{arith, sym, ◌∙◌}
use Rattle.joining.proofs.JoinLaws.{both_codings, both_many, both_long, both_written}
use Rattle.joining.proofs.joins.join_both.Goals as goal

pub returns-then-coding_byte : goal.returns-then-coding_byte
returns-then-coding_byte c = let a = c.args in
    both_codings a.most a.first.now a.second.now a.buffer.now a.a a.b (λ e. c.if-coding_byte.true (c.coding_byte.ensures ∙ e ∙ sym c.coding_byte-2.ensures))

pub returns-then-count-more : goal.returns-then-count-more
returns-then-count-more c = let a = c.args in
    both_many a.most a.first.now a.second.now a.buffer.now a.a a.b (sym c.coding_byte.ensures ∙ c.if-coding_byte.false ∙ c.coding_byte-2.ensures) (omega arith) c.if-count-more.true

pub returns-then-most-first : goal.returns-then-most-first
returns-then-most-first c = let a = c.args in
    both_long a.most a.first.now a.second.now a.buffer.now a.a a.b (sym c.coding_byte.ensures ∙ c.if-coding_byte.false ∙ c.coding_byte-2.ensures) (omega arith) (omega arith) (omega arith) (omega arith) c.if-count-more.false c.if-most-first.true

pub returns : goal.returns
returns c = let a = c.args in
    both_written a.most a.first.now a.second.now a.buffer.now a.a a.b (sym c.coding_byte.ensures ∙ c.if-coding_byte.false ∙ c.coding_byte-2.ensures) (omega arith) (omega arith) (omega arith) (omega arith) c.if-count-more.false _ _ c.if-most-first.false c.write_joined.ensures
