use Rattle.lists.proofs.Kit.{arith, ◌%◌, refl, subst, subst⁻¹}
use Rattle.lists.specs.Bytes.{Bytes}
use Rattle.writing.specs.Ranges.{text_limits, InAddress}
use Rattle.writing.specs.Writing.{address}
use Rattle.read_fields.specs.Entries.{AddressedAt}
use Rattle.read_fields.proofs.EntryLaws.{address_bytes, InEntry, no_byte, no_index, no_entry_text, the_entry, no_addressed, the_addressed}
use Rattle.read_fields.proofs.entries.read_addressed.Goals as goal

pub returns-then-remaining-lt3 : goal.returns-then-remaining-lt3
returns-then-remaining-lt3 c =
    let a = c.args in
    let h : Bytes a.m.now = λ i. (c.type_inv.m i).fits in
    no_addressed a.coding text_limits a.m.now a.at (no_byte 3 address (λ N. N % 16777216) address_bytes a.coding (InEntry text_limits) a.m.now a.at h (omega arith))

pub returns-then-address_refused : goal.returns-then-address_refused
returns-then-address_refused c =
    let a = c.args in
    let h : Bytes a.m.now = λ i. (c.type_inv.m i).fits in
    no_addressed a.coding text_limits a.m.now a.at (no_index 3 address (λ N. N % 16777216) address_bytes a.coding (InEntry text_limits) a.m.now a.at h (c.number.ensures (omega arith, omega arith)) (λ e i d. c.if-address_refused.ensures (subst InAddress d i.0)))

pub returns-in_err-text : goal.returns-in_err-text
returns-in_err-text c =
    let a = c.args in
    let h : Bytes a.m.now = λ i. (c.type_inv.m i).fits in
    subst⁻¹ (AddressedAt a.coding text_limits a.m.now a.at) c.from_residual.ensures
    (no_addressed a.coding text_limits a.m.now a.at (no_entry_text 3 address (λ N. N % 16777216) address_bytes a.coding (InEntry text_limits) a.m.now a.at h (c.number.ensures (omega arith, omega arith)) 16 (λ e i. i.1) c.in_err-text.ensures refl))

pub returns : goal.returns
returns c =
    let a = c.args in
    let h : Bytes a.m.now = λ i. (c.type_inv.m i).fits in
    the_addressed a.coding text_limits a.m.now a.at _ _ (the_entry 3 address (λ N. N % 16777216) address_bytes a.coding (InEntry text_limits) a.m.now a.at h (c.number.ensures (omega arith, omega arith)) 16 (λ e i. i.1) _ _ c.in_ok-text.ensures refl _ refl (omega arith) (λ us l e. (c.if-address_refused.ensures, l)))
