use Rattle.lists.proofs.Kit.{◌≡◌, ◌+◌}
use Rattle.plain_weigh.proofs.TurnLaws.{WeighsOn}
use Rattle.plain_weigh.proofs.weighing.weigh_setting.Given as goal

abbrev pub invariant-loop : goal.invariant-loop
invariant-loop l = (l.here.passed ≡ l.fn.before.passed + 1 + l.counter) × WeighsOn l.log l.m l.end l.initial.left l.initial.so_far l.initial.here l.left l.so_far l.here l.counter
