use Rattle.lists.proofs.Kit.{arith, ◌≡◌, refl, []}
use Rattle.screen.specs.declared.names.Name.TheVariants.{Text as TextAt, Digits, Group as GroupNumber, Individual as IndividualNumber}
use Rattle.screen.specs.declared.names.Name.{Name}
use Rattle.screen.specs.Rows.{group, individual}
use Rattle.plan.specs.Numbers.{Individual as IndividualPlan, Group as GroupPlan}
use Rattle.screen.proofs.AnswerLaws.{InRow, Kept, row_found, text_placed, digits_kept, digits_placed, address_placed}
use Rattle.screen.proofs.ShowLaws.{place_refused}
use Rattle.screen.proofs.show.place_in.Goals as goal

pub overflow_add-end : goal.overflow_add-end
overflow_add-end c =
    let found : (case : Name) → Kept case → c.name_of-name.result ≡ case → InRow c.args.limits c.args.store.now c.args.scratch.now c.args.row case = λ case k e. row_found case k e c.name_of-name.ensures in
    omega (arith, (found (Digits c.in-Digits.at) tt c.in-Digits.is).is.4)

pub slice_bounds-write_line-end : goal.slice_bounds-write_line-end
slice_bounds-write_line-end c =
    let found : (case : Name) → Kept case → c.name_of-name.result ≡ case → InRow c.args.limits c.args.store.now c.args.scratch.now c.args.row case = λ case k e. row_found case k e c.name_of-name.ensures in
    omega (arith, (found (Digits c.in-Digits.at) tt c.in-Digits.is).is.4)

pub write_line-requires : goal.write_line-requires
write_line-requires c =
    let found : (case : Name) → Kept case → c.name_of-name.result ≡ case → InRow c.args.limits c.args.store.now c.args.scratch.now c.args.row case = λ case k e. row_found case k e c.name_of-name.ensures in
    let i = found (Digits c.in-Digits.at) tt c.in-Digits.is in
    (i.big, digits_kept i)

pub write_address-requires : goal.write_address-requires
write_address-requires c =
    let found : (case : Name) → Kept case → c.name_of-name.result ≡ case → InRow c.args.limits c.args.store.now c.args.scratch.now c.args.row case = λ case k e. row_found case k e c.name_of-name.ensures in
    (found (GroupNumber c.in-Group.a) tt c.in-Group.is).big

pub write_address-requires-in-Individual : goal.write_address-requires-in-Individual
write_address-requires-in-Individual c =
    let found : (case : Name) → Kept case → c.name_of-name.result ≡ case → InRow c.args.limits c.args.store.now c.args.scratch.now c.args.row case = λ case k e. row_found case k e c.name_of-name.ensures in
    (found (IndividualNumber c.in-Individual.a) tt c.in-Individual.is).big

pub returns-in-Refused : goal.returns-in-Refused
returns-in-Refused c =
    let a = c.args in
    let n = c.name_of-name in
    place_refused a.limits a.store.now a.scratch.now a.row n.result c.in-Refused.why c.in-Refused.is n.ensures

pub returns-in-Text : goal.returns-in-Text
returns-in-Text c =
    let found : (case : Name) → Kept case → c.name_of-name.result ≡ case → InRow c.args.limits c.args.store.now c.args.scratch.now c.args.row case = λ case k e. row_found case k e c.name_of-name.ensures in
    text_placed (found (TextAt c.in-Text.at c.in-Text.bytes) tt c.in-Text.is)

pub returns-in-Digits : goal.returns-in-Digits
returns-in-Digits c =
    let found : (case : Name) → Kept case → c.name_of-name.result ≡ case → InRow c.args.limits c.args.store.now c.args.scratch.now c.args.row case = λ case k e. row_found case k e c.name_of-name.ensures in
    digits_placed (found (Digits c.in-Digits.at) tt c.in-Digits.is) c.write_line.ensures

pub returns-in-Group : goal.returns-in-Group
returns-in-Group c =
    let found : (case : Name) → Kept case → c.name_of-name.result ≡ case → InRow c.args.limits c.args.store.now c.args.scratch.now c.args.row case = λ case k e. row_found case k e c.name_of-name.ensures in
    let i = found (GroupNumber c.in-Group.a) tt c.in-Group.is in
    let d = c.dialled_of_group in
    address_placed GroupPlan i (group [] c.in-Group.a) d.result c.in-Group.a.0 i.is (λ ns p. (ns, p, refl)) d.ensures c.write_address.ensures

pub returns-in-Individual : goal.returns-in-Individual
returns-in-Individual c =
    let found : (case : Name) → Kept case → c.name_of-name.result ≡ case → InRow c.args.limits c.args.store.now c.args.scratch.now c.args.row case = λ case k e. row_found case k e c.name_of-name.ensures in
    let i = found (IndividualNumber c.in-Individual.a) tt c.in-Individual.is in
    let d = c.dialled_of_individual in
    address_placed IndividualPlan i (individual [] c.in-Individual.a) d.result c.in-Individual.a.0 i.is (λ ns p. (ns, p, refl)) d.ensures c.write_address-in-Individual.ensures
