use Rattle.lists.proofs.Kit.{arith, ◌≡◌, true, sym, ap, ◌∙◌, ◌||◌}
use Rattle.slots.specs.Slots.{zeros?, fit}
use Rattle.slots.proofs.Search.{search_more, search_stop, search_end, chunk, chunk_end, slot_hit}
use Rattle.slots.proofs.slots.place_of.Goals as goal
use Rattle.slots.proofs.slots.place_of.Goals.{then-alike-via-then-alike, then-alike-via-else-alike+then-is_zeros}

pub returns-then-alike : goal.returns-then-alike
returns-then-alike c =
    let l = c.loop-slot in
    let a = c.args in
    let i = l.invariant in
    let n = c.in-Some.ensures.steps in
    let k = chunk a.s.now l.at a.w _ _ _ i.2 n.1.0 (n.1.1 ∙ i.1) in
    let h = slot_hit c.in-Some.slot.now a.o a.n a.key.now c.if-key-n.false c.alike.ensures in
    let z : fit a.o a.key.now c.in-Some.slot.now ≡ true
    = elim c.then-alike.branch [
      | then-alike-via-then-alike w ↦ rw (h, w.if-alike.true)
      | then-alike-via-else-alike+then-is_zeros w ↦ rw (h, w.if-alike.false) (sym w.is_zeros.ensures ∙ w.if-is_zeros.true)
    ] in
    record {
      within = i.0;
      first = λ g xs q e. search_stop (fit a.o a.key.now) a.s.now a.w l.at xs (i.4 xs q e) i.3.wide k.fits (ap (fit a.o a.key.now) k.is ∙ z);
      cannot = λ g. absurd (g (i.3, c.if-key-n.false));
    }

pub loop-slot-preserved : goal.loop-slot-preserved
loop-slot-preserved c =
    let l = c.loop-slot in
    let a = c.args in
    let i = l.invariant in
    let n = c.in-Some.ensures.steps in
    let k = chunk a.s.now l.at a.w _ _ _ i.2 n.1.0 (n.1.1 ∙ i.1) in
    let h = slot_hit c.in-Some.slot.now a.o a.n a.key.now c.if-key-n.false c.alike.ensures in
    let z = ap (fit a.o a.key.now) k.is ∙ ap (λ b. b || zeros? c.in-Some.slot.now) (h ∙ c.if-alike.false) ∙ sym c.is_zeros.ensures ∙ c.if-is_zeros.false in
    (omega (arith, k.fits), n.0 ∙ i.1, k.rest, i.3, λ xs q e. search_more (fit a.o a.key.now) a.s.now a.w l.at xs (i.4 xs q e) i.3.wide k.fits z)

pub returns : goal.returns
returns c =
    let l = c.loop-slot in
    let a = c.args in
    let i = l.invariant in
    let d = chunk_end a.s.now l.at a.w _ _ i.2 i.1 c.in-None.ensures.steps.1.0 in
    record {
      within = i.0;
      first = λ k xs q e. search_end (fit a.o a.key.now) a.s.now a.w l.at xs (i.4 xs q e) d;
      cannot = λ h. absurd (h (i.3, c.if-key-n.false));
    }
