use Rattle.lists.proofs.Kit.{refl, sym, subst, ◌∙◌}
use Rattle.working.specs.Runs.{text_number, NumberIs}
use Rattle.working.proofs.PartLoadTables.{channels_loaded, kind_loaded, no_table}
use Rattle.working.proofs.part_loading.load_kind.Goals as goal

pub returns-then-is_channels : goal.returns-then-is_channels
returns-then-is_channels c =
    let a = c.args in
    channels_loaded a.limits a.area a.store.now a.kind a.work.now c.load_channels.new.work (sym c.is_channels.ensures ∙ c.if-is_channels.true) c.load_channels.ensures

pub returns-in-Some : goal.returns-in-Some
returns-in-Some c =
    let a = c.args in
    let n = subst (NumberIs a.kind) c.in-Some.is c.number_of.ensures in
    kind_loaded a.limits a.area a.store.now a.kind c.in-Some.k a.work.now c.load_table_part.new.work (sym c.is_channels.ensures ∙ c.if-is_channels.false) n.0 c.load_table_part.ensures

pub returns-in_default : goal.returns-in_default
returns-in_default c =
    let a = c.args in
    let n = subst (NumberIs a.kind) c.in_default.is c.number_of.ensures in
    kind_loaded a.limits a.area a.store.now a.kind (text_number a.kind) a.work.now a.work.now (sym c.is_channels.ensures ∙ c.if-is_channels.false) refl (no_table a.limits a.area a.store.now (text_number a.kind) a.work.now n)
