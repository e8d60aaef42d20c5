use Rattle.lists.proofs.Kit.{ℕ, ◌+◌, ◌*◌, ◌%◌, ap₂}
use Rattle.report_write.proofs.FixedItems.{home_writes}
use Rattle.report_write.proofs.fixed.write_home.Goals as goal

pub returns : goal.returns
returns c =
    let a = c.args in
    let j = c.pair in
    let k = c.pair-2 in
    let v = c.put_bits in
    home_writes a.slot.now a.buffer.now v.new.buffer (j.result % 512 * 32768 + k.result % 1024 * 32) v.result (ap₂ (λ (x y : ℕ). x % 512 * 32768 + y % 1024 * 32) j.ensures.0 k.ensures.0) v.ensures
