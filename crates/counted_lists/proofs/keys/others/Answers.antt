use Rattle.lists.proofs.Kit.{◌+◌, refl, ap, ◌∙◌, subst, Bool, cond, arith, length, length-append}
use Rattle.std.specs.Slice.Iter.{chunks_exact_rest}
use Rattle.slots.specs.Slots.{hit}
use Rattle.slots.proofs.Search.{slot_hit}
use Rattle.counted_lists.proofs.KeyLaws.{Tally, tally_more, tally_end}
use Rattle.counted_lists.proofs.keys.others.Goals as goal

pub loop-slot-preserved-then-not-same : goal.loop-slot-preserved-then-not-same
loop-slot-preserved-then-not-same c =
    let l = c.loop-slot in
    let a = c.args in
    let i = l.invariant in
    let n = c.in-Some.ensures.steps in
    let x = c.in-Some.slot.now in
    let t = chunks_exact_rest c.next.new.self in
    let h = slot_hit x a.o _ a.key.now refl c.same.ensures ∙ c.if-not-same.true in (
      omega (arith, length-append x t, ap length n.1.0, n.1.1, i.0, i.1, c.requires.wide),
      n.0 ∙ i.1,
      λ xs q e. subst (λ (b : Bool). Tally (hit a.o a.key.now) a.w t (cond b l.n (l.n + 1)) xs) h (tally_more (hit a.o a.key.now) a.w l.n xs _ x t (i.2 xs q e) c.requires.wide n.1.0 (n.1.1 ∙ i.1)),
    )

pub loop-slot-preserved : goal.loop-slot-preserved
loop-slot-preserved c =
    let l = c.loop-slot in
    let a = c.args in
    let i = l.invariant in
    let n = c.in-Some.ensures.steps in
    let x = c.in-Some.slot.now in
    let t = chunks_exact_rest c.next.new.self in
    let h = slot_hit x a.o _ a.key.now refl c.same.ensures ∙ c.if-not-same.false in (
      omega (arith, length-append x t, ap length n.1.0, i.0),
      n.0 ∙ i.1,
      λ xs q e. subst (λ (b : Bool). Tally (hit a.o a.key.now) a.w t (cond b l.n (l.n + 1)) xs) h (tally_more (hit a.o a.key.now) a.w l.n xs _ x t (i.2 xs q e) c.requires.wide n.1.0 (n.1.1 ∙ i.1)),
    )

pub returns : goal.returns
returns c =
    let l = c.loop-slot in
    let a = c.args in
    let i = l.invariant in
    λ xs q e. tally_end (hit a.o a.key.now) a.w l.n xs _ (i.2 xs q e) (omega (arith, c.in-None.ensures.steps.1.0, i.1))
