use Rattle.lists.proofs.Kit.{ap, ◌∙◌, arith}
use Rattle.slots.specs.Slots.{hit}
use Rattle.slots.proofs.Search.{search_more, search_stop, search_end, chunk, chunk_end, slot_hit}
use Rattle.counted_lists.proofs.keys.find_key.Goals as goal

pub returns-then-alike : goal.returns-then-alike
returns-then-alike c =
    let l = c.loop-slot in
    let a = c.args in
    let i = l.invariant in
    let n = c.in-Some.ensures.steps in
    let k = chunk a.s.now l.at a.w _ _ _ i.2 n.1.0 (n.1.1 ∙ i.1) in
    let t = ap (hit a.o a.key.now) k.is ∙ slot_hit c.in-Some.slot.now a.o a.k a.key.now c.requires.1 c.alike.ensures ∙ c.if-alike.true in
    record { within = i.0; first = λ xs q e. search_stop (hit a.o a.key.now) a.s.now a.w l.at xs (i.3 xs q e) c.requires.0.wide k.fits t }

pub loop-slot-preserved : goal.loop-slot-preserved
loop-slot-preserved c =
    let l = c.loop-slot in
    let a = c.args in
    let i = l.invariant in
    let n = c.in-Some.ensures.steps in
    let k = chunk a.s.now l.at a.w _ _ _ i.2 n.1.0 (n.1.1 ∙ i.1) in
    let t = ap (hit a.o a.key.now) k.is ∙ slot_hit c.in-Some.slot.now a.o a.k a.key.now c.requires.1 c.alike.ensures ∙ c.if-alike.false in
    (omega (arith, k.fits), n.0 ∙ i.1, k.rest, λ xs q e. search_more (hit a.o a.key.now) a.s.now a.w l.at xs (i.3 xs q e) c.requires.0.wide k.fits t)

pub returns : goal.returns
returns c =
    let l = c.loop-slot in
    let a = c.args in
    let i = l.invariant in
    let d = chunk_end a.s.now l.at a.w _ _ i.2 i.1 c.in-None.ensures.steps.1.0 in
    record { within = i.0; first = λ xs q e. search_end (hit a.o a.key.now) a.s.now a.w l.at xs (i.3 xs q e) d }
