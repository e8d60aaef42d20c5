use Rattle.lists.proofs.Kit.{◌≡◌, refl, ap, ◌∙◌, []}
use Rattle.plan.specs.Numbers.{Individual as IndividualPlan, Group as GroupPlan}
use Rattle.screen.specs.Rows.{group, individual}
use Rattle.std.specs.declared.result.Result.TheVariants.{Ok}
use Rattle.plain_rows.specs.Naming.{Naming}
use Rattle.plain_rows.specs.declared.names.Name.TheVariants.{Text as TextAt, Line as LineNumber, Group as GroupNumber, Individual as IndividualNumber}
use Rattle.plain_rows.proofs.DeskLaws.{InRow, Kept, row_found, place_refused, text_placed, line_placed, address_placed}
use Rattle.plain_rows.proofs.desk.row_place.Goals as goal

pub returns-in-Err : goal.returns-in-Err
returns-in-Err c =
    let a = c.args in
    let n = c.name_of in
    place_refused a.area.now a.scratch.now a.row n.result c.in-Err.why c.in-Err.is n.ensures

pub returns-in-Text : goal.returns-in-Text
returns-in-Text c =
    let found : (case : Naming) → Kept case → c.name_of.result ≡ case → InRow c.args.area.now c.args.scratch.now c.args.row case = λ case k e. row_found c.args.area.now c.args.scratch.now c.args.row case k e c.name_of.ensures in
    let n = c in
    let a = c.args in
    text_placed a.area.now a.scratch.now a.row (found (Ok (TextAt c.in-Text.place)) tt (c.in-Ok.is ∙ ap Ok c.in-Text.is)) c.write_text.ensures

pub returns-in-Line : goal.returns-in-Line
returns-in-Line c =
    let found : (case : Naming) → Kept case → c.name_of.result ≡ case → InRow c.args.area.now c.args.scratch.now c.args.row case = λ case k e. row_found c.args.area.now c.args.scratch.now c.args.row case k e c.name_of.ensures in
    let n = c in
    let a = c.args in
    line_placed a.area.now a.scratch.now a.row (found (Ok (LineNumber c.in-Line.code)) tt (c.in-Ok.is ∙ ap Ok c.in-Line.is)) c.write_line.ensures

pub returns-in-Group : goal.returns-in-Group
returns-in-Group c =
    let found : (case : Naming) → Kept case → c.name_of.result ≡ case → InRow c.args.area.now c.args.scratch.now c.args.row case = λ case k e. row_found c.args.area.now c.args.scratch.now c.args.row case k e c.name_of.ensures in
    let n = c in
    let a = c.args in
    let i = found (Ok (GroupNumber c.in-Group.a)) tt (c.in-Ok.is ∙ ap Ok c.in-Group.is) in
    let d = c.dialled_of_group in
    address_placed a.area.now a.scratch.now a.row GroupPlan i (group [] c.in-Group.a) d.result c.in-Group.a.0 i.is (λ ns p. (ns, p, refl)) d.ensures c.write_dialled.ensures

pub returns-in-Individual : goal.returns-in-Individual
returns-in-Individual c =
    let found : (case : Naming) → Kept case → c.name_of.result ≡ case → InRow c.args.area.now c.args.scratch.now c.args.row case = λ case k e. row_found c.args.area.now c.args.scratch.now c.args.row case k e c.name_of.ensures in
    let n = c in
    let a = c.args in
    let i = found (Ok (IndividualNumber c.in-Individual.a)) tt (c.in-Ok.is ∙ ap Ok c.in-Individual.is) in
    let d = c.dialled_of_individual in
    address_placed a.area.now a.scratch.now a.row IndividualPlan i (individual [] c.in-Individual.a) d.result c.in-Individual.a.0 i.is (λ ns p. (ns, p, refl)) d.ensures c.write_dialled-in-Individual.ensures
