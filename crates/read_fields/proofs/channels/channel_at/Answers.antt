use Rattle.lists.proofs.Kit.{arith}
use Rattle.read_fields.proofs.ChannelPlace.{channel_here, here_room, even_is, odd_is}
use Rattle.read_fields.proofs.channels.channel_at.Goals as goal

pub returns-then-remaining-pairs : goal.returns-then-remaining-pairs
returns-then-remaining-pairs c = λ es next x l. let z = channel_here c.args.m.now (λ k. (c.shared_slice_known-1.given k).fits) c.args.i es c.args.start next x l in absurd (omega (arith, here_room c.args.m.now (λ k. (c.shared_slice_known-1.given k).fits) z))

pub returns-then-remaining-lt2 : goal.returns-then-remaining-lt2
returns-then-remaining-lt2 c = λ es next x l. let z = channel_here c.args.m.now (λ k. (c.shared_slice_known-1.given k).fits) c.args.i es c.args.start next x l in absurd (omega (arith, here_room c.args.m.now (λ k. (c.shared_slice_known-1.given k).fits) z))

pub returns-then-i-eq0 : goal.returns-then-i-eq0
returns-then-i-eq0 c = λ es next x l. let z = channel_here c.args.m.now (λ k. (c.shared_slice_known-1.given k).fits) c.args.i es c.args.start next x l in even_is c.args.m.now (λ k. (c.shared_slice_known-1.given k).fits) z c.if-i-eq0.true (c.number.ensures (omega arith, omega arith))

pub returns-then-remaining-lt3 : goal.returns-then-remaining-lt3
returns-then-remaining-lt3 c = λ es next x l. let z = channel_here c.args.m.now (λ k. (c.shared_slice_known-1.given k).fits) c.args.i es c.args.start next x l in absurd (omega (arith, (z.odd (omega arith)).0))

pub returns : goal.returns
returns c = λ es next x l. let z = channel_here c.args.m.now (λ k. (c.shared_slice_known-1.given k).fits) c.args.i es c.args.start next x l in odd_is c.args.m.now (λ k. (c.shared_slice_known-1.given k).fits) z c.if-i-eq0.false (c.number-2.ensures (omega arith, omega arith))
