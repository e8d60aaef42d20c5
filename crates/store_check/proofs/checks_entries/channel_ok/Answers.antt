use Rattle.lists.proofs.Kit.{rules, arith}
use Rattle.tables.proofs.AnswerLaws.{refused}
use Rattle.store_check.proofs.EntryChecks.{channel_low, channel_high}
use Rattle.store_check.proofs.checks_entries.channel_ok.Goals as goal

pub returns-then-channel-lt241 : goal.returns-then-channel-lt241
returns-then-channel-lt241 c = refused (channel_low c.args.s.now c.requires (λ i. (c.shared_slice_known-1.given i).fits) c.pair-channel.result c.pair-channel.ensures.0 (omega arith))

pub returns : goal.returns
returns c = channel_high c.args.s.now c.requires (λ i. (c.shared_slice_known-1.given i).fits) c.pair-channel.result c.pair-channel.ensures.0 (omega arith)
