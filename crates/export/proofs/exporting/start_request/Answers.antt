use Rattle.export_write.proofs.WroteLaws.{wrote_copied}
use Rattle.export.proofs.RequestLaws.{request_headed}
use Rattle.lists.proofs.Kit.{arith}
use Rattle.export.proofs.exporting.start_request.Goals as goal

pub returns-then-end-lt-FIRST : goal.returns-then-end-lt-FIRST
returns-then-end-lt-FIRST c = (omega arith, λ h. absurd (omega arith))

pub returns-then-buffer-end : goal.returns-then-buffer-end
returns-then-buffer-end c = (omega arith, λ h. absurd (omega arith))

pub returns : goal.returns
returns c =
    let a = c.args in
    let k = c.copy in
    request_headed a.count a.end _ a.buffer.now _ (omega arith) (omega arith) (wrote_copied _ 0 a.buffer.now k.new.dst (omega arith) k.ensures)
