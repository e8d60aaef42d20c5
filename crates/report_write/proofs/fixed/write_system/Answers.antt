use Rattle.lists.proofs.Kit.{ℕ, ◌+◌, ◌*◌, ◌%◌, ap, get_or}
use Rattle.report_write.proofs.FixedItems.{system_writes}
use Rattle.report_write.proofs.fixed.write_system.Goals as goal

pub returns : goal.returns
returns c =
    let a = c.args in
    let k = c.pair in
    let v = c.put_bits in
    system_writes a.slot.now a.buffer.now v.new.buffer (k.result % 4096 * 4096 + get_or a.slot.now 2 0 % 128 * 32) v.result (ap (λ (x : ℕ). x % 4096 * 4096 + get_or a.slot.now 2 0 % 128 * 32) k.ensures.0) v.ensures
