use Rattle.lists.proofs.Kit.{arith}
use Rattle.working.proofs.ChunkLaws.{widths_ask, widths_answer}
use Rattle.working.proofs.loading.load_widths.Goals as goal

pub load_table-requires-then-own-eq-STATUS_TEXT : goal.load_table-requires-then-own-eq-STATUS_TEXT
load_table-requires-then-own-eq-STATUS_TEXT c =
    let a = c.args in
    widths_ask a.slots.now a.heads.now a.area.now a.n a.from {own = a.own} {room = a.room} {o = 1} {r = 32} (omega arith) (omega arith) c.requires

pub returns-then-own-eq-STATUS_TEXT : goal.returns-then-own-eq-STATUS_TEXT
returns-then-own-eq-STATUS_TEXT c =
    let a = c.args in
    let t = c.load_table-then-own-eq-STATUS_TEXT in
    widths_answer a.slots.now a.heads.now a.area.now a.n a.from {own = a.own} {room = a.room} {o = 1} {r = 32} (omega arith) (omega arith) t.result t.new.slots t.ensures

pub load_table-requires-then-own-eq-MEMBER_TEXT : goal.load_table-requires-then-own-eq-MEMBER_TEXT
load_table-requires-then-own-eq-MEMBER_TEXT c =
    let a = c.args in
    widths_ask a.slots.now a.heads.now a.area.now a.n a.from {own = a.own} {room = a.room} {o = 4} {r = 32} (omega arith) (omega arith) c.requires

pub returns-then-own-eq-MEMBER_TEXT : goal.returns-then-own-eq-MEMBER_TEXT
returns-then-own-eq-MEMBER_TEXT c =
    let a = c.args in
    let t = c.load_table-then-own-eq-MEMBER_TEXT in
    widths_answer a.slots.now a.heads.now a.area.now a.n a.from {own = a.own} {room = a.room} {o = 4} {r = 32} (omega arith) (omega arith) t.result t.new.slots t.ensures

pub load_table-requires-then-own-eq-LINE_TEXT : goal.load_table-requires-then-own-eq-LINE_TEXT
load_table-requires-then-own-eq-LINE_TEXT c =
    let a = c.args in
    widths_ask a.slots.now a.heads.now a.area.now a.n a.from {own = a.own} {room = a.room} {o = 20} {r = 32} (omega arith) (omega arith) c.requires

pub returns-then-own-eq-LINE_TEXT : goal.returns-then-own-eq-LINE_TEXT
returns-then-own-eq-LINE_TEXT c =
    let a = c.args in
    let t = c.load_table-then-own-eq-LINE_TEXT in
    widths_answer a.slots.now a.heads.now a.area.now a.n a.from {own = a.own} {room = a.room} {o = 20} {r = 32} (omega arith) (omega arith) t.result t.new.slots t.ensures

pub load_table-requires-2 : goal.load_table-requires-2
load_table-requires-2 c =
    let a = c.args in
    widths_ask a.slots.now a.heads.now a.area.now a.n a.from {own = a.own} {room = a.room} {o = a.own} {r = 32} (omega arith) (omega arith) c.requires

pub returns : goal.returns
returns c =
    let a = c.args in
    let t = c.load_table-2 in
    widths_answer a.slots.now a.heads.now a.area.now a.n a.from {own = a.own} {room = a.room} {o = a.own} {r = 32} (omega arith) (omega arith) t.result t.new.slots t.ensures
