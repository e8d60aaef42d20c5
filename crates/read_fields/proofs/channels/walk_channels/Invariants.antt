use Rattle.lists.proofs.Kit.{◌-◌, ◌*◌}
use Rattle.read_fields.proofs.ChannelWalk.{ChannelsPassed}
use Rattle.read_fields.proofs.channels.walk_channels.Given as goal

abbrev pub invariant-loop : goal.invariant-loop
invariant-loop l = ChannelsPassed l.m l.at l.count l.p (l.count - 2 * l.counter)
