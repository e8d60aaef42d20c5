use Rattle.lists.proofs.Kit.{arith}
use Rattle.plain_rows.proofs.TextCopies.{text_long, text_wide, text_past, text_past_16, text_past_8, text_copied, text_widened}
use Rattle.plain_rows.proofs.writing_out.write_text.Goals as goal

-- `plain_rows::writing_out::write_text` meets its contract. Assumes nothing.
pub returns-then-units-gt32 : goal.returns-then-units-gt32
returns-then-units-gt32 c =
    let a = c.args in
    text_long a.area.now (λ i. (c.shared_slice_known-1.given i).fits) a.place a.scratch.now c.if-units-gt32.true

pub returns-then-scratch-bytes : goal.returns-then-scratch-bytes
returns-then-scratch-bytes c =
    let a = c.args in
    text_wide a.area.now (λ i. (c.shared_slice_known-1.given i).fits) a.place a.scratch.now c.if-scratch-bytes.true

pub returns-then-area-start : goal.returns-then-area-start
returns-then-area-start c =
    let a = c.args in
    text_past a.area.now (λ i. (c.shared_slice_known-1.given i).fits) a.place a.scratch.now c.if-area-start.true

pub returns-then-area-start-2 : goal.returns-then-area-start-2
returns-then-area-start-2 c =
    let a = c.args in
    text_past_16 a.area.now (λ i. (c.shared_slice_known-1.given i).fits) a.place a.scratch.now c.in-Unicode16.is (omega (arith, c.if-area-start.false)) c.if-area-start-2.true

pub returns-then-area-start-3 : goal.returns-then-area-start-3
returns-then-area-start-3 c =
    let a = c.args in
    text_past_8 a.area.now (λ i. (c.shared_slice_known-1.given i).fits) a.place a.scratch.now c.in-EightBit.is (omega (arith, c.if-area-start.false)) c.if-area-start-3.true

pub returns-else-area-start-2 : goal.returns-else-area-start-2
returns-else-area-start-2 c =
    let a = c.args in
    text_copied a.area.now (λ i. (c.shared_slice_known-1.given i).fits) a.place a.scratch.now (omega (arith, c.if-scratch-bytes.false)) c.copy.new.dst
    c.in-Unicode16.is (omega (arith, c.if-area-start.false, c.if-area-start-2.false)) c.copy.ensures

pub returns-else-area-start-3 : goal.returns-else-area-start-3
returns-else-area-start-3 c =
    let a = c.args in
    text_widened a.area.now (λ i. (c.shared_slice_known-1.given i).fits) a.place a.scratch.now (omega (arith, c.if-scratch-bytes.false)) c.widen_padded.new.dst
    c.in-EightBit.is (omega (arith, c.if-area-start.false, c.if-area-start-3.false)) c.widen_padded.ensures
