use mathlib.Core.Path.{refl, ◌∙◌}
use native.Mathlib.Omega.{arith}
use lib.ListN.{length, length-set}
use Rattle.orders.proofs.Steps.{put_more, put_end}
use Rattle.orders.proofs.entries.put_in.Goals as goal

pub loop-i-init : goal.loop-i-init
loop-i-init c = (refl, λ h. refl)

pub loop-i-preserved : goal.loop-i-preserved
loop-i-preserved c =
    let l = c.loop-i in
    (length-set l.d l.i l.next ∙ l.invariant.0, λ h. put_more l.d l.next l.i (omega arith) ∙ l.invariant.1 h)

pub returns : goal.returns
returns c =
    let l = c.loop-i in
    let a = c.args in
    λ h. put_end l.d l.next l.i (length a.d.now) _ l.invariant.0 (omega arith) (omega arith) (l.invariant.1 h)
