use Rattle.lists.proofs.Kit.{arith, sym, ap, ◌∙◌}
use Rattle.slots.specs.Slots.{zeros?}
use Rattle.slots.proofs.Search.{search_more, search_stop, search_end, chunk, chunk_end}
use Rattle.slots.proofs.slots.used.Goals as goal

pub returns-then-is_zeros : goal.returns-then-is_zeros
returns-then-is_zeros c =
    let l = c.loop-slot in
    let a = c.args in
    let i = l.invariant in
    let n = c.in-Some.ensures.steps in
    let k = chunk a.s.now l.at a.w _ _ _ i.2 n.1.0 (n.1.1 ∙ i.1) in
    let z = ap zeros? k.is ∙ sym c.is_zeros.ensures ∙ c.if-is_zeros.true in
    record { within = i.0; first = λ h xs q e. search_stop zeros? a.s.now a.w l.at xs (i.3 xs q e) h k.fits z; cannot = λ h. absurd (h (omega arith)) }

pub loop-slot-preserved : goal.loop-slot-preserved
loop-slot-preserved c =
    let l = c.loop-slot in
    let a = c.args in
    let i = l.invariant in
    let n = c.in-Some.ensures.steps in
    let k = chunk a.s.now l.at a.w _ _ _ i.2 n.1.0 (n.1.1 ∙ i.1) in
    let z = ap zeros? k.is ∙ sym c.is_zeros.ensures ∙ c.if-is_zeros.false in
    (omega (arith, k.fits), n.0 ∙ i.1, k.rest, λ xs q e. search_more zeros? a.s.now a.w l.at xs (i.3 xs q e) (omega arith) k.fits z)

pub returns : goal.returns
returns c =
    let l = c.loop-slot in
    let a = c.args in
    let i = l.invariant in
    let d = chunk_end a.s.now l.at a.w _ _ i.2 i.1 c.in-None.ensures.steps.1.0 in
    record { within = i.0; first = λ h xs q e. search_end zeros? a.s.now a.w l.at xs (i.3 xs q e) d; cannot = λ h. absurd (h (omega arith)) }
