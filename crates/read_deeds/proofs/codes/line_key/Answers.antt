use Rattle.lists.proofs.Kit.{rules, arith, ◌≡◌, subst⁻¹, sym, ap, ◌+◌, ◌*◌, Bool}
use Rattle.writing.specs.Writing.{bit}
use Rattle.read_deeds.proofs.codes.line_key.Goals as goal

pub returns-then-pabx : goal.returns-then-pabx
returns-then-pabx c = λ _. ap (λ (b : Bool). 2 * c.args.code + bit b) (sym c.if-pabx.true)

pub returns-else-pabx : goal.returns-else-pabx
returns-else-pabx c = λ _. subst⁻¹ (λ (b : Bool). 2 * c.args.code ≡ 2 * c.args.code + bit b) c.if-pabx.false (omega arith)
