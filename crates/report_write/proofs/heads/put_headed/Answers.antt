use Rattle.report_write.proofs.HeadLaws.{headed_wrote}
use Rattle.report_write.proofs.heads.put_headed.Goals as goal

pub returns : goal.returns
returns c =
    let a = c.args in
    let v = c.put_bytes-at in
    let w = c.put_text in
    headed_wrote a.head.now a.text.now a.buffer.now v.new.buffer w.new.buffer v.result w.result c.requires v.ensures w.ensures
