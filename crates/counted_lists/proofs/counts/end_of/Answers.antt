use Rattle.lists.proofs.Kit.{arith}
use Rattle.counted_lists.proofs.CountLaws.{counted_length, end_not}
use Rattle.counted_lists.proofs.counts.end_of.Goals as goal
use Rattle.counted_lists.proofs.counts.end_of.Goals.{then-part-lt2-via-then-part-lt2, then-part-lt2-via-else-part-lt2+then-w-eq0, then-part-lt2-via-else-part-lt2+else-w-eq0+then-part-w}

pub returns-then-part-lt2 : goal.returns-then-part-lt2
returns-then-part-lt2 c =
    let a = c.args in
    elim c.then-part-lt2.branch [
      | then-part-lt2-via-then-part-lt2 w ↦ (λ n xs k. absurd (omega (arith, counted_length a.w n xs a.part.now k)))
      | then-part-lt2-via-else-part-lt2+then-w-eq0 w ↦ (λ n xs k. absurd (omega (arith, k.wide)))
      | then-part-lt2-via-else-part-lt2+else-w-eq0+then-part-w w ↦ end_not a.w a.part.now c.count-n.result (λ n xs k. c.count-n.ensures.says a.w n xs k) w.if-part-w.true
    ]
