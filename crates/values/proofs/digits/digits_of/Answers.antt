use Rattle.lists.proofs.Kit.{arith, mid_len, length}
use Rattle.values.proofs.DigitLaws.{line_digits, no_digits}
use Rattle.values.proofs.EntryLaws.{line_kind, no_line, kind_wide}
use borrow.Enum.Refused.{opened as is_one_of}
use Rattle.values.proofs.digits.digits_of.Goals as goal

pub slice_bounds-write_kept-end : goal.slice_bounds-write_kept-end
slice_bounds-write_kept-end c =
    kind_wide c.args.row 1 (length c.args.slot.now) (line_kind c.args.row c.in-Line.in-Line-own.keys1) c.requires.0

pub write_kept-requires : goal.write_kept-requires
write_kept-requires c =
    let h = kind_wide c.args.row 1 (length c.args.slot.now) (line_kind c.args.row c.in-Line.in-Line-own.keys1) c.requires.0 in
    (omega (arith, mid_len 2 20 c.args.slot.now h), c.requires.1)

pub returns-in-Line : goal.returns-in-Line
returns-in-Line c =
    let a = c.args in
    let w = c.write_kept in
    line_digits a.row a.slot.now a.buffer.now w.new.buffer w.result (line_kind a.row c.in-Line.in-Line-own.keys1) w.ensures

pub returns-in_default : goal.returns-in_default
returns-in_default c =
    let a = c.args in
    no_digits a.row a.slot.now a.buffer.now (no_line a.row (is_one_of c.in_default.in_default-own.keys2))
