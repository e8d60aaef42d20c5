use Rattle.lists.proofs.Kit.{suc, ◌+◌, ◌-◌, ◌*◌, ◌≤◌, ◌≡◌, drop}
use Rattle.shared_texts.specs.Regions.{last_bytes}
use Rattle.working.proofs.heads.counted.Given as goal

abbrev pub invariant-loop-i : goal.invariant-loop-i
invariant-loop-i l = (l.i ≤ l.n) × (l.at ≡ l.i * suc l.own) × (l.sum ≤ 255 * l.i) × (l.sum + last_bytes l.own (l.n - l.i) (drop l.at l.heads) ≡ last_bytes l.own l.n l.heads)
