use Rattle.lists.proofs.Kit.{rules, arith, ◌-◌, ◌<◌, ◌≡◌, refl, length, true, false, not-true, not-false}
use Rattle.store_lists.proofs.KeyedLaws.{KeyedLeft, keyed_start, keyed_end, keyed_stuck, keyed_on, keyed_full}
use Rattle.store_lists.proofs.LineLaws.{by_number, no_line, next_line, lines_applied}
use Rattle.store_lists.proofs.lines.apply_lines.Given as goal

abbrev pub invariant-loop : goal.invariant-loop
invariant-loop l =
    (length l.list ≡ length l.initial.list)
    × (l.end ≡ l.fn.entries.count)
    × (l.flags.priority < 4 → KeyedLeft (by_number l.flags l.fn.entries.coding) l.operation l.m l.fn.entries l.initial.list l.p l.counter l.list)
