-- Two requests under one header: docs/RULES.md, "Joining requests".
use Rattle.std.specs.Prelude.{ℕ, ◌+◌, ◌≤◌, List, ◌++◌, length}
use Rattle.lists.specs.Every.{All}
use Rattle.writing.specs.declared.Coding.{Coding}
use Rattle.writing.specs.Carrier.{InSize, RequestOf}
use Rattle.writing.specs.Ranges.{text_limits, InRange}
use Rattle.writing.specs.Settings.{Setting}
use Rattle.writing.specs.Writing.{WrittenAll}

-- "A request may be joined where it has no FF item and each of its settings is in range": an FF is in range only where none is counted after it
pub record Joinable (most : ℕ) (c : Coding) (l : List Setting) (settings message : List ℕ) : Type 0 where
  pub size : InSize most message
  pub request : RequestOf c (length l) settings message
  pub written : WrittenAll c l settings
  pub in_range : All (InRange text_limits 1) l

-- "one header, with the sum of both counts, and behind it the settings' bytes of the first and then of the second, as they were received"
pub record JoinedAs (most : ℕ) (c : Coding) (a b : List Setting) (first second message : List ℕ) : Type 0 where
  pub size : InSize most message
  pub few : length a + length b ≤ 255
  pub request : RequestOf c (length a + length b) (first ++ second) message
