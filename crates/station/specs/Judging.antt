-- What judging a message answers and writes: "judging, which writes the reply that committing would write and leaves the store as it is".
use Rattle.std.specs.Prelude.{ℕ, ◌≡◌, List}
use Rattle.lists.specs.Ladder.{Answers}
use Rattle.tables.specs.declared.limits.Limits.{Limits}
use Rattle.station.specs.Answers.{Said}
use Rattle.station.specs.Taking.{AfterTaking, taken}

-- an outcome that committing the message is allowed, of which the answer and the reply come to pass: "the same numbers and order from both"
pub record Judges (lim : Limits) (message store reply : List ℕ) (answer : Said) (reply_after : List ℕ) : Type 0 where
  pub after : AfterTaking
  pub allowed : Answers (taken lim message store reply) after
  pub says : answer ≡ after.answer
  pub writes : reply_after ≡ after.reply
