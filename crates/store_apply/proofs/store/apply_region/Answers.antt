use borrow.Author.Rules.{rules}
use native.Mathlib.Omega.{arith}
use Prim.Native.Nat.{◌+◌, ◌-◌}
use Rattle.settings.specs.declared.settings.Setting.TheVariants.{GroupContacts, IndividualContacts, Lines, Channels}
use Rattle.tables.specs.Layout.{channels_at, channels_size, lines_at, lines_size}
use Rattle.store_apply.proofs.StoreLaws.{as_read, store_group_contacts, store_individual_contacts, store_channels, store_lines, unlisted}
use borrow.Enum.Refused.{opened as is_one_of}
use Rattle.store_apply.proofs.store.apply_region.Goals as goal

pub apply_place-requires : goal.apply_place-requires
apply_place-requires c = (omega arith, unlisted c.args.setting (is_one_of c.in_default.in_default-own.keys5))

pub returns-in-GroupContacts : goal.returns-in-GroupContacts
returns-in-GroupContacts c =
    let a = c.args in
    let y = c.apply_contacts in
    let b = c.group_flag_byte-byte in
    as_read a.limits a.m.now a.store.now _ y.result a.setting (GroupContacts c.in-GroupContacts.op c.in-GroupContacts.flags c.in-GroupContacts.list) c.in-GroupContacts.is
    (store_group_contacts a.limits a.m.now a.store.now y.new.list c.in-GroupContacts.op c.in-GroupContacts.flags c.in-GroupContacts.list b.result y.result b.ensures y.ensures)

pub returns-in-IndividualContacts : goal.returns-in-IndividualContacts
returns-in-IndividualContacts c =
    let a = c.args in
    let y = c.apply_contacts-in-IndividualContacts in
    let b = c.individual_flag_byte-byte in
    as_read a.limits a.m.now a.store.now _ y.result a.setting (IndividualContacts c.in-IndividualContacts.op c.in-IndividualContacts.flags c.in-IndividualContacts.list) c.in-IndividualContacts.is
    (store_individual_contacts a.limits a.m.now a.store.now y.new.list c.in-IndividualContacts.op c.in-IndividualContacts.flags c.in-IndividualContacts.list b.result y.result b.ensures y.ensures)

pub returns-in-Lines : goal.returns-in-Lines
returns-in-Lines c =
    let a = c.args in
    let y = c.apply_lines in
    as_read a.limits a.m.now a.store.now _ y.result a.setting (Lines c.in-Lines.op c.in-Lines.flags c.in-Lines.list) c.in-Lines.is
    (store_lines a.limits a.m.now a.store.now y.new.list c.in-Lines.op c.in-Lines.flags c.in-Lines.list (lines_at a.limits) (lines_at a.limits + lines_size a.limits - lines_at a.limits) y.result (omega arith) (omega arith) y.ensures)

pub returns-in-Channels : goal.returns-in-Channels
returns-in-Channels c =
    let a = c.args in
    let y = c.apply_channels in
    as_read a.limits a.m.now a.store.now _ y.result a.setting (Channels c.in-Channels.op c.in-Channels.list) c.in-Channels.is
    (store_channels a.limits a.m.now a.store.now y.new.list c.in-Channels.op c.in-Channels.list (channels_at + channels_size a.limits - channels_at) y.result (omega arith) y.ensures)

pub returns-in_default : goal.returns-in_default
returns-in_default c = c.apply_place.ensures c.args.limits
