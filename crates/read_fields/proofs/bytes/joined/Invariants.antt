use Rattle.lists.proofs.Kit.{◌<◌, ◌*◌, ◌^◌, ◌≡◌, drop, take}
use Rattle.read_fields.specs.Places.{be}
use Rattle.read_fields.proofs.bytes.joined.Given as goal

-- n is the number of the bytes passed, and below 2 ^ (8 * so many).
abbrev pub invariant-loop-i : goal.invariant-loop-i
invariant-loop-i l = (l.n < 2 ^ (8 * l.i)) × (l.n ≡ be 0 (take l.i (drop l.at l.m)))
