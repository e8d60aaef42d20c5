use Rattle.lists.proofs.Kit.{arith}
use Rattle.values.proofs.TuningLaws.{channel_absent, channel_within, channel_there}
use Rattle.values.proofs.tuning.tuned.Goals as goal

pub returns-then-count-position : goal.returns-then-count-position
returns-then-count-position c =
    let from = c.channels_at-channels in
    let to = c.lines_at-lines in
    channel_absent c.args.limits c.args.store.now c.requires from.result to.result from.ensures.0 (to.ensures.2 c.requires.roomy.few_channels).1 c.count.result c.count.ensures c.args.position c.if-count-position.true

pub slice_bounds-pair_of-end : goal.slice_bounds-pair_of-end
slice_bounds-pair_of-end c =
    let from = c.channels_at-channels in
    let to = c.lines_at-lines in
    let w = channel_within c.args.limits c.args.store.now c.requires from.result to.result from.ensures.0 (to.ensures.2 c.requires.roomy.few_channels).1 c.count.result c.count.ensures c.args.position c.if-count-position.false in
    omega (arith, w, to.ensures.0, c.requires.size, c.requires.roomy.fits)

pub returns : goal.returns
returns c =
    let from = c.channels_at-channels in
    let to = c.lines_at-lines in
    let count = c.count in
    channel_there c.args.limits c.args.store.now c.requires from.result to.result from.ensures.0 (to.ensures.2 c.requires.roomy.few_channels).1 count.result count.ensures c.args.position c.if-count-position.false c.pair_of.result c.pair_of.ensures
