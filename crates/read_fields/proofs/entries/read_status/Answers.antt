use Rattle.lists.proofs.Kit.{rules, arith, ◌%◌, ◌≤◌, refl, subst⁻¹, [], ◌∷◌}
use Rattle.writing.specs.Fields.{val}
use Rattle.writing.specs.Ranges.{text_limits, InStatus}
use Rattle.read_fields.specs.Entries.{StatusAt}
use Rattle.read_fields.proofs.EntryLaws.{status_byte, no_byte, no_index, no_entry_text, the_entry}
use Rattle.read_fields.proofs.entries.read_status.Goals as goal

pub returns-then-remaining-lt1 : goal.returns-then-remaining-lt1
returns-then-remaining-lt1 c = no_byte 1 (λ i. val 8 i ∷ []) (λ N. N % 256) status_byte c.args.coding (InStatus text_limits) c.args.m.now c.args.at (λ i. (c.type_inv.m i).fits) (omega arith)

pub returns-then-not-contains : goal.returns-then-not-contains
returns-then-not-contains c = no_index 1 (λ i. val 8 i ∷ []) (λ N. N % 256) status_byte c.args.coding (InStatus text_limits) c.args.m.now c.args.at (λ i. (c.type_inv.m i).fits) (c.number.ensures (omega arith, omega arith))
    (λ e i d.
    let low : 32 ≤ c.number.result % 256 = omega (arith, i.0, d) in
    let high : c.number.result % 256 ≤ 127 = omega (arith, i.1, d) in
    search rules)

pub returns-in_err-text : goal.returns-in_err-text
returns-in_err-text c =
    let a = c.args in
    subst⁻¹ (StatusAt a.coding text_limits a.m.now a.at) c.from_residual.ensures
    (no_entry_text 1 (λ i. val 8 i ∷ []) (λ N. N % 256) status_byte a.coding (InStatus text_limits) a.m.now a.at (λ i. (c.type_inv.m i).fits) (c.number.ensures (omega arith, omega arith)) 16 (λ e i. i.2) c.in_err-text.ensures refl)

pub returns : goal.returns
returns c = the_entry 1 (λ i. val 8 i ∷ []) (λ N. N % 256) status_byte c.args.coding (InStatus text_limits) c.args.m.now c.args.at (λ i. (c.type_inv.m i).fits) (c.number.ensures (omega arith, omega arith)) 16 (λ e i. i.2) _ _ c.in_ok-text.ensures refl _ refl (omega arith) (λ us l e. (search rules, search rules, l))
