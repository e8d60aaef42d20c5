use native.Mathlib.Omega.{arith}
use Rattle.printing.proofs.TextLaws.{one_byte, two_bytes, three_bytes, four_bytes}
use Rattle.printing.proofs.utf8.encode.Goals as goal

-- `printing::utf8::encode` meets its contract. Assumes nothing.
pub returns-then-code-lt128 : goal.returns-then-code-lt128
returns-then-code-lt128 c = (one_byte c.args.code (omega arith), omega arith)

pub returns-then-code-lt2048 : goal.returns-then-code-lt2048
returns-then-code-lt2048 c = (two_bytes c.args.code c.following.result (omega arith) (omega arith) c.following.ensures, omega arith)

pub returns-then-code-lt65536 : goal.returns-then-code-lt65536
returns-then-code-lt65536 c = (three_bytes c.args.code c.following-then-code-lt65536.result c.following-then-code-lt65536-2.result (omega arith) (omega arith) c.following-then-code-lt65536.ensures c.following-then-code-lt65536-2.ensures, omega arith)

pub returns : goal.returns
returns c =
    (four_bytes c.args.code c.following-2.result c.following-3.result c.following-4.result (omega arith) c.following-2.ensures c.following-3.ensures c.following-4.ensures, omega arith)
