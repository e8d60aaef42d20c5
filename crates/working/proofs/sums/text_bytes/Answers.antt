use Rattle.lists.proofs.Kit.{subst, arith}
use Rattle.tables.proofs.AnswerLaws.{said_no}
use Rattle.working.specs.Saving.{TextEnds}
use Rattle.working.proofs.SlotLaws.{reading_start, reading_unit, reading_ends, reading_goes, reading_end}
use Rattle.working.proofs.sums.text_bytes.Goals as goal

pub loop-i-init : goal.loop-i-init
loop-i-init c = reading_start _ c.requires

pub overflow_mul-i : goal.overflow_mul-i
overflow_mul-i c = omega (arith, reading_unit c.loop-i.invariant (omega arith))

pub is_end-requires : goal.is_end-requires
is_end-requires c = reading_unit c.loop-i.invariant (omega arith)

pub overflow_mul-result : goal.overflow_mul-result
overflow_mul-result c = omega (arith, reading_unit c.loop-i.invariant (omega arith))

pub returns-then-is_end : goal.returns-then-is_end
returns-then-is_end c = reading_ends c.loop-i.invariant (omega arith) (c.is_end.ensures.0 c.if-is_end.true)

pub loop-i-preserved : goal.loop-i-preserved
loop-i-preserved c = reading_goes c.loop-i.invariant (omega arith) (said_no c.is_end.result c.is_end.ensures c.if-is_end.false)

pub returns : goal.returns
returns c = subst (TextEnds c.args.place.now) (omega (arith, c.requires, c.loop-i.auto.i-end)) (reading_end c.loop-i.invariant (omega arith))
