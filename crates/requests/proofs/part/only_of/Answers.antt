use Rattle.lists.proofs.Kit.{rules, ℕ, ◌-◌, sym, ap, ◌∙◌, subst, arith, drop, not-false}
use native.Mathlib.Nat.{sub-zero}
use Rattle.working.specs.Parts.{copied?}
use Rattle.requests.specs.Parts.{OnlyOf}
use Rattle.requests.proofs.KindLaws.{up_to_fault, up_to_end, up_to_next, only_fault}
use Rattle.requests.proofs.part.only_of.Goals as goal

pub loop-seen-init : goal.loop-seen-init
loop-seen-init c =
    let a = c.args in
    (omega arith, λ o. subst (λ (n : ℕ). OnlyOf a.request.coding a.kind n (drop a.request.at a.m.now)) (sub-zero a.request.count) o)

pub returns-in_default : goal.returns-in_default
returns-in_default c =
    let a = c.args in
    let l = c.loop-seen in
    λ e. up_to_fault a.request.coding a.kind a.m.now a.request.count a.request.at l.seen l.p l.invariant.1 c.loop-seen-test.true (only_fault a.request.coding a.kind a.m.now (a.request.count - l.seen - 1) l.p _ c.in_default.ensures)

pub loop-seen-preserved : goal.loop-seen-preserved
loop-seen-preserved c =
    let a = c.args in
    let l = c.loop-seen in
    let z = c.in-Ok.ensures in
    let k = c.kind_of in (
      search rules,
      up_to_next a.request.coding a.kind a.m.now a.request.count a.request.at l.seen l.p c.in-Ok.next c.in-Ok.setting l.invariant.1 c.loop-seen-test.true z
          (ap (copied? a.kind) (sym k.ensures) ∙ c.is_copied.ensures (not-false _ c.if-not-is_copied.false-raw)),
    )

pub returns : goal.returns
returns c =
    let a = c.args in
    let l = c.loop-seen in
    λ e. up_to_end a.request.coding a.kind a.m.now a.request.count a.request.at l.seen l.p l.invariant.1 c.loop-seen-test.false
