use Rattle.lists.proofs.Kit.{sym, ◌∙◌, arith}
use Rattle.report_write.proofs.SlotLaws.{no_room, no_slot, none_wrote, one_wrote}
use Rattle.report_write.proofs.items.write_item.Goals as goal

pub returns-then-buffer-lt-ITEM : goal.returns-then-buffer-lt-ITEM
returns-then-buffer-lt-ITEM c =
    let a = c.args in
    no_room a.asked a.slot.now a.place a.rank a.buffer.now (omega arith)

pub returns-then-slot-width_of : goal.returns-then-slot-width_of
returns-then-slot-width_of c =
    let a = c.args in
    let k = c.width_of in
    no_slot a.asked a.slot.now a.place a.rank a.buffer.now (λ e. omega (arith, e, k.ensures))

pub returns-then-is_empty : goal.returns-then-is_empty
returns-then-is_empty c =
    let a = c.args in
    let k = c.is_empty in
    none_wrote a.asked a.slot.now a.place a.rank a.buffer.now (sym k.ensures ∙ c.if-is_empty.true)

pub returns : goal.returns
returns c =
    let a = c.args in
    let k = c.is_empty in
    let w = c.write_entry in
    one_wrote a.asked a.slot.now a.place a.rank a.buffer.now w.new.buffer w.result (sym k.ensures ∙ c.if-is_empty.false) w.ensures
