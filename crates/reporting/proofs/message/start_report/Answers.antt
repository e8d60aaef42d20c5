use Rattle.lists.proofs.Kit.{arith}
use Rattle.export_write.proofs.WroteLaws.{wrote_copied}
use Rattle.reporting.proofs.HeadLaws.{report_headed}
use Rattle.reporting.proofs.message.start_report.Goals as goal

pub returns-then-end-lt-FIRST : goal.returns-then-end-lt-FIRST
returns-then-end-lt-FIRST c = λ h. absurd (omega (arith, h.0))

pub returns-then-buffer-end : goal.returns-then-buffer-end
returns-then-buffer-end c = λ h. absurd (omega (arith, h.1))

pub returns : goal.returns
returns c =
    let a = c.args in
    let k = c.copy in
    report_headed a.total a.index a.count a.end _ a.buffer.now _ (omega arith) (omega arith) (omega arith) (wrote_copied _ 0 a.buffer.now k.new.dst (omega arith) k.ensures)
