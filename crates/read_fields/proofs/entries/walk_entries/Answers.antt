use Rattle.lists.proofs.Kit.{arith, ℕ, subst, subst⁻¹}
use Rattle.read_fields.specs.Entries.{form_of, range_of, EntriesAt}
use Rattle.read_fields.proofs.EntryLaws.{list_ends, list_whole}
use Rattle.read_fields.proofs.Walk.{Passed, none_passed, walk_on, walk_stops, walk_ends}
use Rattle.writing.specs.Ranges.{text_limits}
use Rattle.read_fields.proofs.entries.walk_entries.Goals as goal

pub loop-init : goal.loop-init
loop-init c =
    let a = c.args in
    subst (λ (left : ℕ). Passed (form_of a.list a.coding) (range_of a.list text_limits) (list_ends a.list a.coding) (list_whole a.list a.coding) a.m.now a.at a.count a.at left) (omega arith)
    (none_passed (form_of a.list a.coding) (range_of a.list text_limits) (list_ends a.list a.coding) (list_whole a.list a.coding) _ _ _)

pub returns-in_err-p : goal.returns-in_err-p
returns-in_err-p c =
    let a = c.args in
    let l = c.loop in
    subst⁻¹ (EntriesAt a.list a.coding text_limits a.m.now a.at a.count) c.from_residual.ensures
    (walk_stops (form_of a.list a.coding) (range_of a.list text_limits) (list_ends a.list a.coding) (list_whole a.list a.coding) _ _ _ _ _ (omega arith) l.invariant c.in_err-p.ensures)

pub loop-preserved : goal.loop-preserved
loop-preserved c =
    let a = c.args in
    let l = c.loop in
    let z = c.in_ok-p.ensures in
    subst (λ (left : ℕ). Passed (form_of a.list a.coding) (range_of a.list text_limits) (list_ends a.list a.coding) (list_whole a.list a.coding) a.m.now a.at a.count c.in_ok-p.p left) (omega arith)
    (walk_on (form_of a.list a.coding) (range_of a.list text_limits) (list_ends a.list a.coding) (list_whole a.list a.coding) _ _ _ _ _ _ z.0 (omega arith) l.invariant z.1 z.2)

pub returns : goal.returns
returns c =
    let a = c.args in
    walk_ends (form_of a.list a.coding) (range_of a.list text_limits) (list_ends a.list a.coding) (list_whole a.list a.coding) _ _ _ _ _ (omega arith) c.loop.invariant
