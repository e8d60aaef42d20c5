use Rattle.lists.proofs.Kit.{sym, ◌∙◌, subst⁻¹, true, eq-eqb, not-false}
use Rattle.read_deeds.specs.declared.deeds.Deed.{Deed}
use Rattle.plain_look.specs.Looking.{KnowStep}
use Rattle.plain_look.proofs.LookLaws.{know_puts}
use Rattle.plain_look.proofs.known.know.Goals as goal

pub returns-else-put-key : goal.returns-else-put-key
returns-else-put-key c =
    let a = c.args in
    let s = c.same_kind-in-Puts in
    let p = c.know_put in
    subst⁻¹ (λ (x : Deed). KnowStep a.kind a.key a.number x a.known p.result) c.in-Puts.is
    (know_puts a.kind a.key a.number a.known _ _ true true p.result (sym (not-false _ c.if-not-same_kind.false-raw) ∙ s.ensures) (sym (eq-eqb _ _ c.if-put-key.false)) p.ensures)
