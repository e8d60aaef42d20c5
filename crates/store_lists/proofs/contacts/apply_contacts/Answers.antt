use Rattle.lists.proofs.Kit.{rules, arith, ◌-◌, ◌≡◌, refl, length, true, false, not-true, not-false}
use Rattle.tables.specs.declared.members.Members.{Members}
use Rattle.tables.specs.MemberKinds.{FlagsIn}
use Rattle.tables.specs.Members.{flags_of}
use Rattle.store_lists.specs.Lists.{FlagsOk}
use Rattle.store_lists.proofs.KeyedLaws.{KeyedLeft, keyed_start, keyed_end, keyed_stuck, keyed_on, keyed_full}
use Rattle.store_lists.proofs.ContactLaws.{by_address, no_contact, next_contact, contacts_applied}
use Rattle.store_lists.proofs.contacts.apply_contacts.Goals as goal

pub loop-init : goal.loop-init
loop-init c =
    let a = c.args in
    (refl, refl, λ w f byte ok. keyed_start (by_address w f a.entries.coding) a.operation a.m.now a.entries _)

pub returns-in_default : goal.returns-in_default
returns-in_default c =
    let a = c.args in
    let z = c.empty_to_replace in
    let l = c.loop in
    contacts_applied a.operation a.m.now a.flags a.entries a.list.now z.new.part l.list false z.ensures
    (λ w f byte ok. keyed_stuck (by_address w f a.entries.coding) a.operation a.m.now a.entries z.new.part l.p l.counter l.list (omega arith) (l.invariant.2 w f byte ok) l.list false
    (no_contact w f a.entries.coding a.m.now l.p c.in_default.ensures refl))

pub returns-then-not-step_contact : goal.returns-then-not-step_contact
returns-then-not-step_contact c =
    let a = c.args in
    let z = c.empty_to_replace in
    let l = c.loop in
    let x = c.contact_slot-slot in
    let k = c.step_contact in
    contacts_applied a.operation a.m.now a.flags a.entries a.list.now z.new.part k.new.list false z.ensures
    (λ w f byte ok. keyed_full (by_address w f a.entries.coding) a.operation a.m.now a.entries z.new.part l.p l.counter l.list (omega arith) (l.invariant.2 w f byte ok) _ x.result
    (next_contact w f a.entries.coding a.m.now l.p c.in-Some.ensures _ _ refl a.flags x.result x.ensures byte ok)
    k.new.list k.result k.ensures (not-true k.result c.if-not-step_contact.true-raw))

pub loop-preserved : goal.loop-preserved
loop-preserved c =
    let a = c.args in
    let z = c.empty_to_replace in
    let l = c.loop in
    let x = c.contact_slot-slot in
    let k = c.step_contact in (
      search rules,
      l.invariant.1,
      λ w f byte ok. keyed_on (by_address w f a.entries.coding) a.operation a.m.now a.entries z.new.part l.p l.counter l.list (omega arith) (l.invariant.2 w f byte ok) _ x.result
          (next_contact w f a.entries.coding a.m.now l.p c.in-Some.ensures _ _ refl a.flags x.result x.ensures byte ok)
          k.new.list k.result k.ensures (not-false k.result c.if-not-step_contact.false-raw),
    )

pub returns : goal.returns
returns c =
    let a = c.args in
    let z = c.empty_to_replace in
    let l = c.loop in
    contacts_applied a.operation a.m.now a.flags a.entries a.list.now z.new.part l.list true z.ensures
    (λ w f byte ok. keyed_end (by_address w f a.entries.coding) a.operation a.m.now a.entries z.new.part l.p l.counter l.list (omega arith) (l.invariant.2 w f byte ok))
