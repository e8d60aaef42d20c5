use Rattle.lists.proofs.Kit.{rules, arith}
use Rattle.read_deeds.proofs.CursorLaws.{entry_moved}
use Rattle.read_deeds.proofs.cursors.next_deed.Goals as goal

pub returns-then-entries-ne0 : goal.returns-then-entries-ne0
returns-then-entries-ne0 c =
    let a = c.args in
    let t = c.next_entry-turn in
    entry_moved a.m.now a.cursor t.result c.if-entries-ne0.true t.ensures

pub returns-then-cursor-ne0 : goal.returns-then-cursor-ne0
returns-then-cursor-ne0 c = λ d ds x. c.next_setting.ensures d ds (omega arith) c.if-cursor-ne0.true x

pub returns : goal.returns
returns c = λ d ds x. c.next_record.ensures d ds (omega arith) (omega arith) x
