use Rattle.lists.proofs.Kit.{rules, ◌+◌, subst⁻¹, arith}
use Rattle.read_deeds.specs.declared.cursors.Cursor.{Cursor}
use Rattle.read_deeds.specs.Cursors.{NextRecord}
use Rattle.read_deeds.specs.declared.deeds.Deed.TheVariants.{Nothing}
use Rattle.read_deeds.proofs.CursorLaws.{record_short, record_moved}
use Rattle.read_deeds.proofs.cursors.next_record.Goals as goal
use Rattle.read_deeds.proofs.cursors.next_record.Goals.{then-m-lt10-via-then-m-lt10, then-m-lt10-via-else-m-lt10+then-m-at}

pub returns-then-m-lt10 : goal.returns-then-m-lt10
returns-then-m-lt10 c =
    let a = c.args in
    record_short a.m.now a.cursor c.stay.result (elim c.then-m-lt10.branch [
      | then-m-lt10-via-then-m-lt10 w ↦ omega (arith, w.if-m-lt10.true)
      | then-m-lt10-via-else-m-lt10+then-m-at w ↦ omega (arith, w.if-m-lt10.false, w.if-m-at.true)
    ])

pub overflow_cast-m : goal.overflow_cast-m
overflow_cast-m c = omega (arith, (c.type_inv.m (c.args.cursor.at + 9)).fits)

pub returns : goal.returns
returns c =
    let a = c.args in
    subst⁻¹ (λ (k : Cursor). NextRecord a.m.now a.cursor (record { deed = Nothing; cursor = k })) c.at_settings.ensures
    (record_moved a.m.now a.cursor c.coding_of.result c.coding_of.ensures)
