use Rattle.lists.proofs.Kit.{rules, ◌≤◌, ◌-◌, ◌≡◌, refl, arith, length, subst, ℕ}
use Rattle.tables.specs.Tables.{Tables}
use Rattle.updating.specs.Updating.{Both, Known}
use Rattle.updating.proofs.Parts.{known_first}
use Rattle.updating.proofs.ProposeLaws.{known_turn}
use Rattle.updating.proofs.proposing.compare_parts.Goals as goal

pub loop-done-init : goal.loop-done-init
loop-done-init c = (refl, refl, refl, omega arith, λ t u h. known_first t u)

pub loop-done-preserved : goal.loop-done-preserved
loop-done-preserved c =
    let s = c.args in
    let l = c.loop-done in
    let k = c.same_part-alike in (
      search rules,
      search rules,
      search rules,
      search rules,
      known_turn s.limits s.first.now s.second.now s.a.now s.b.now s.work.now l.a l.b l.work l.done l.found c.note-found.result k.result (omega (arith, c.loop-done-test.true))
          l.invariant.0 l.invariant.1 l.invariant.2 k.ensures c.note-found.ensures l.invariant.4,
    )

pub returns : goal.returns
returns c =
    let l = c.loop-done in
    let e : l.done ≡ 10 = omega (arith, l.invariant.3, c.loop-done-test.false) in
    λ t u h. subst (λ (k : ℕ). Known t u k l.found) e (l.invariant.4 t u h)
