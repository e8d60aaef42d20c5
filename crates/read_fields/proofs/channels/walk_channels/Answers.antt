use Rattle.lists.proofs.Kit.{arith, ℕ, ◌/◌, ◌%◌, ◌+◌, sym, subst}
use Rattle.writing.specs.Ranges.{InChannel}
use Rattle.read_fields.specs.Entries.{OutOfRange}
use Rattle.read_fields.proofs.ChannelWalk.{ChannelsPassed, no_channel_yet, no_pair, pair_passed, channels_end, no_last, last_ends}
use Rattle.read_fields.proofs.channels.walk_channels.Goals as goal
use Rattle.read_fields.proofs.channels.walk_channels.Goals.{then-out_of_range-via-then-out_of_range, then-out_of_range-via-else-out_of_range+then-out_of_range-2}

pub loop-init : goal.loop-init
loop-init c =
    let a = c.args in
    subst (λ (left : ℕ). ChannelsPassed a.m.now a.at a.count a.at left) (omega arith) (no_channel_yet _ _ _)

pub returns-then-remaining-lt3 : goal.returns-then-remaining-lt3
returns-then-remaining-lt3 c = no_pair _ _ _ _ _ (λ i. (c.type_inv.m i).fits) c.loop.invariant (omega arith) (λ r i j. omega arith)

pub returns-then-out_of_range : goal.returns-then-out_of_range
returns-then-out_of_range c =
    let n = c.number-pair in
    no_pair _ _ _ _ _ (λ i. (c.type_inv.m i).fits) c.loop.invariant (omega arith)
    (λ r i j. elim c.then-out_of_range.branch [
      | then-out_of_range-via-then-out_of_range w ↦
          subst (OutOfRange (n.result / 4096)) w.if-out_of_range.true c.out_of_range.ensures (subst (λ x. InChannel (x / 4096)) (sym (n.ensures (omega arith, omega arith))) i)
      | then-out_of_range-via-else-out_of_range+then-out_of_range-2 w ↦
          subst (OutOfRange (n.result % 4096)) w.if-out_of_range-2.true w.out_of_range-else-out_of_range.ensures (subst (λ x. InChannel (x % 4096)) (sym (n.ensures (omega arith, omega arith))) j)
    ])

pub loop-preserved : goal.loop-preserved
loop-preserved c =
    let a = c.args in
    let l = c.loop in
    let n = c.number-pair in
    subst (λ (left : ℕ). ChannelsPassed a.m.now a.at a.count (l.p + 3) left) (omega arith)
    (pair_passed _ _ _ _ _ (λ i. (c.type_inv.m i).fits) l.invariant (omega arith) (omega arith) (subst (λ x. InChannel (x / 4096)) (n.ensures (omega arith, omega arith)) c.if-out_of_range.ensures) (subst (λ x. InChannel (x % 4096)) (n.ensures (omega arith, omega arith)) c.if-out_of_range-2.ensures))

pub returns-then-count-eq0 : goal.returns-then-count-eq0
returns-then-count-eq0 c = channels_end _ _ _ _ _ (λ i. (c.type_inv.m i).fits) c.loop.invariant (omega arith)

pub returns-then-remaining-lt2 : goal.returns-then-remaining-lt2
returns-then-remaining-lt2 c = no_last _ _ _ _ _ (λ i. (c.type_inv.m i).fits) c.loop.invariant (omega arith) (λ r f i. omega arith)

pub returns-then-one-ne15 : goal.returns-then-one-ne15
returns-then-one-ne15 c =
    let n = c.number-one in
    no_last _ _ _ _ _ (λ i. (c.type_inv.m i).fits) c.loop.invariant (omega arith) (λ r f i. omega (arith, n.ensures (omega arith, omega arith)))

pub returns-then-out_of_range-3 : goal.returns-then-out_of_range-3
returns-then-out_of_range-3 c =
    let n = c.number-one in
    no_last _ _ _ _ _ (λ i. (c.type_inv.m i).fits) c.loop.invariant (omega arith) (λ r f i. c.if-out_of_range-3.ensures (subst (λ x. InChannel (x / 16)) (sym (n.ensures (omega arith, omega arith))) i))

pub returns : goal.returns
returns c =
    let n = c.number-one in
    last_ends _ _ _ _ _ (λ i. (c.type_inv.m i).fits) c.loop.invariant (omega arith) (omega arith) (omega (arith, n.ensures (omega arith, omega arith))) (subst (λ x. InChannel (x / 16)) (n.ensures (omega arith, omega arith)) c.if-out_of_range-3.ensures)
