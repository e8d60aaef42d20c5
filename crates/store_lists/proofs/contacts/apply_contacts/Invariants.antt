use Rattle.lists.proofs.Kit.{rules, arith, ◌-◌, ◌≡◌, refl, length, true, false, not-true, not-false}
use Rattle.tables.specs.declared.members.Members.{Members}
use Rattle.tables.specs.MemberKinds.{FlagsIn}
use Rattle.tables.specs.Members.{flags_of}
use Rattle.store_lists.specs.Lists.{FlagsOk}
use Rattle.store_lists.proofs.KeyedLaws.{KeyedLeft, keyed_start, keyed_end, keyed_stuck, keyed_on, keyed_full}
use Rattle.store_lists.proofs.ContactLaws.{by_address, no_contact, next_contact, contacts_applied}
use Rattle.store_lists.proofs.contacts.apply_contacts.Given as goal

abbrev pub invariant-loop : goal.invariant-loop
invariant-loop l =
    (length l.list ≡ length l.initial.list)
    × (l.end ≡ l.fn.entries.count)
    × ((w : Members) (f : FlagsIn w) → l.flags ≡ flags_of w f → FlagsOk w f → KeyedLeft (by_address w f l.fn.entries.coding) l.operation l.m l.fn.entries l.initial.list l.p l.counter l.list)
