use Rattle.lists.proofs.Kit.{mid_len, sym, ◌∙◌, arith}
use Rattle.export_write.specs.MemberWriters.{member_setting}
use Rattle.export_write.proofs.MemberWriting.{member_wrote}
use Rattle.export_write.proofs.StartLaws.{setting_writes}
use Rattle.tables.specs.Layout.{member_width}
use Rattle.export_write.proofs.members.write_member.Goals as goal

pub returns : goal.returns
returns c =
    let a = c.args in
    let p = c.requires in
    let b = c.member_bits-head in
    let v = c.write_bytes-text in
    let w = c.write_text-end in
    let k = c.type_of in
    let z = c.start_setting in
    let t = mid_len 4 member_width a.slot.now (omega (arith, p.0)) in
    setting_writes _ (member_setting a.which a.index) _ a.at 42 w.result z.result a.buffer.now w.new.buffer z.new.buffer z.ensures (omega arith) (omega (arith, t))
    (λ x h. let (t, l, m) = member_wrote a.index p.2 a.which a.slot.now a.at b.result v.result w.result a.buffer.now v.new.buffer w.new.buffer b.ensures v.ensures w.ensures x h in (t ∙ sym k.ensures, l, m))
