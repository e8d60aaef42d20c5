use Rattle.lists.proofs.Kit.{ℕ, ◌-◌, ◌≡◌, sym, ap, zero-add, arith, take}
use Rattle.plain_rows.specs.PlainRows.{bytes_in}
use Rattle.plain_rows.proofs.DeskLaws.{no_bytes}
use borrow.Enum.Refused.{opened as is_one_of}
use Rattle.plain_rows.proofs.desk.pick.Goals as goal

pub returns-in_default : goal.returns-in_default
returns-in_default c =
    let a = c.args in
    record {
      ptr = ap (λ (i : ℕ). (a.scratch.ref_ptr.0, i)) (zero-add a.scratch.ref_ptr.1);
      bytes = λ h. ap (λ (n : ℕ). take n a.scratch.now) (sym (no_bytes a.place (is_one_of c.in_default.in_default-own.keys2)));
    }

pub returns-then-scratch-bytes : goal.returns-then-scratch-bytes
returns-then-scratch-bytes c =
    let a = c.args in
    record {
      ptr = ap (λ (i : ℕ). (a.scratch.ref_ptr.0, i)) (zero-add a.scratch.ref_ptr.1);
      bytes = λ h. absurd (omega (arith, ap bytes_in c.in-Scratch.is, c.if-scratch-bytes.true));
    }

pub returns : goal.returns
returns c =
    let a = c.args in
    let e : c.in-Scratch.bytes - 0 ≡ bytes_in a.place = omega (arith, ap bytes_in c.in-Scratch.is) in
    record {
      ptr = ap (λ (i : ℕ). (a.scratch.ref_ptr.0, i)) (zero-add a.scratch.ref_ptr.1);
      bytes = λ h. ap (λ (n : ℕ). take n a.scratch.now) e;
    }
