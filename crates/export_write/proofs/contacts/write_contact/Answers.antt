use Rattle.lists.proofs.Kit.{mid_len, sym, ◌∙◌, arith}
use Rattle.export_write.specs.ContactSettings.{contact_add}
use Rattle.export_write.specs.ContactWriters.{contact_room}
use Rattle.export_write.proofs.ContactWriting.{contact_wrote, flag_few}
use Rattle.export_write.proofs.StartLaws.{setting_writes}
use Rattle.tables.specs.Layout.{member_width}
use Rattle.export_write.proofs.contacts.write_contact.Goals as goal

pub start_setting-requires : goal.start_setting-requires
start_setting-requires c = let a = c.args in (omega arith, omega arith, omega (arith, flag_few a.which))

pub returns : goal.returns
returns c =
    let a = c.args in
    let p = c.requires in
    let f = c.write_flags-count in
    let v = c.write_bytes-text in
    let w = c.write_text-end in
    let k = c.contact_type in
    let z = c.start_setting in
    let t = mid_len 4 member_width a.slot.now (omega (arith, p.0)) in
    setting_writes _ (contact_add a.which) _ a.at (contact_room a.which) w.result z.result a.buffer.now w.new.buffer z.new.buffer z.ensures (omega arith) (omega (arith, t))
    (λ x h. let (t, l, m) = contact_wrote a.which a.slot.now a.at f.result v.result w.result a.buffer.now f.new.buffer v.new.buffer w.new.buffer f.ensures.1 v.ensures w.ensures x h in (t ∙ sym k.ensures, l, m))
