use Rattle.lists.proofs.Kit.{arith, ◌%◌, refl, subst⁻¹, [], ◌∷◌}
use Rattle.writing.specs.Fields.{val, res}
use Rattle.writing.specs.Ranges.{text_limits}
use Rattle.read_fields.specs.Entries.{QuickFrom, QuickAt}
use Rattle.read_fields.proofs.EntryLaws.{quick_byte, no_byte, no_entry_text, no_such_text, the_entry}
use Rattle.read_fields.proofs.entries.read_quick.Goals as goal

pub returns-then-remaining-lt1 : goal.returns-then-remaining-lt1
returns-then-remaining-lt1 c = no_byte 1 (λ i. res 2 ∷ val 6 i ∷ []) (λ N. N % 64) quick_byte c.args.coding (QuickFrom text_limits c.args.least) c.args.m.now c.args.at (λ i. (c.type_inv.m i).fits) (omega arith)

pub returns-in_err-text : goal.returns-in_err-text
returns-in_err-text c =
    let a = c.args in
    subst⁻¹ (QuickAt a.coding text_limits a.least a.m.now a.at) c.from_residual.ensures
    (no_entry_text 1 (λ i. res 2 ∷ val 6 i ∷ []) (λ N. N % 64) quick_byte a.coding (QuickFrom text_limits a.least) a.m.now a.at (λ i. (c.type_inv.m i).fits) (c.number.ensures (omega arith, omega arith)) 23 (λ e i. i.1) c.in_err-text.ensures refl)

pub returns-then-text-least : goal.returns-then-text-least
returns-then-text-least c = no_such_text 1 (λ i. res 2 ∷ val 6 i ∷ []) (λ N. N % 64) quick_byte c.args.coding (QuickFrom text_limits c.args.least) c.args.m.now c.args.at (λ i. (c.type_inv.m i).fits) (c.number.ensures (omega arith, omega arith)) 23 (λ e i. i.1) _ _ c.in_ok-text.ensures refl (λ e i l. omega (arith, i.0))

pub returns : goal.returns
returns c = the_entry 1 (λ i. res 2 ∷ val 6 i ∷ []) (λ N. N % 64) quick_byte c.args.coding (QuickFrom text_limits c.args.least) c.args.m.now c.args.at (λ i. (c.type_inv.m i).fits) (c.number.ensures (omega arith, omega arith)) 23 (λ e i. i.1) _ _ c.in_ok-text.ensures refl _ refl (omega arith) (λ us l e. (omega arith, l))
