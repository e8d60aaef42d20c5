use native.Mathlib.Omega.{arith}
use borrow.Author.Tests.{lt-ltb, le-ltb}
use Rattle.orders.proofs.entries.lowered.Goals as goal

pub returns-then-v-b : goal.returns-then-v-b
returns-then-v-b c = rw (lt-ltb c.args.v c.args.b (omega arith))

pub returns : goal.returns
returns c = rw (le-ltb c.args.v c.args.b (omega arith))
