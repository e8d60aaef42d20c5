-- How a number is written, a row placed and its part picked: inner steps, no promise cites these.
use Rattle.std.specs.Prelude.{ℕ, ◌+◌, ◌*◌, ◌≤◌, ◌≡◌, List, ◌++◌, map, length, drop, Option, Some, None}
use Rattle.std.specs.Borrow.{Bor}
use Rattle.lists.specs.Ladder.{Answers}
use Rattle.plan.specs.declared.numbers.DialledNumber.{DialledNumber}
use Rattle.writing.specs.Ranges.{InNumber}
use Rattle.writing.specs.Settings.{Text, Number}
use Rattle.tables.specs.declared.limits.Limits.{Limits}
use Rattle.tables.specs.Layout.{digit_bytes}
use Rattle.screen.specs.declared.rows.Row.{Row}
use Rattle.screen.specs.Rows.{ascii, digits, unit_bytes}
use Rattle.screen.specs.declared.answers.Place.{Place}
use Rattle.screen.specs.declared.answers.Place.TheVariants.{Store, Scratch, Refused as NoPlace}
use Rattle.screen.specs.Screen.{showing, leaves, bytes_of, points_to}

-- ---- numbers

-- the units were written at the start of s, which became t, and take r bytes
pub record Written (us : Text) (s t : List ℕ) (r : ℕ) : Type 0 where
  pub bytes : t ≡ unit_bytes us ++ drop (2 * length us) s
  pub many : r ≡ 2 * length us

-- the digits of a line were written, as its slot keeps them
abbrev pub DigitsWritten : List ℕ → List ℕ → List ℕ → ℕ → Type 0
DigitsWritten kept s t r = (ds : Number) → InNumber ds → kept ≡ digit_bytes ds → Written (map ascii ds) s t r

-- the digits of an address: dialled ones, or its own where its plan has none
abbrev pub dialled_digits : Option DialledNumber → ℕ → List ℕ
dialled_digits (Some d) address = digits 10 8 d.0
dialled_digits None address = digits 16 6 address

-- ---- places and parts

-- the place lies in its slice
abbrev pub PlaceFits : List ℕ → List ℕ → Place → Type 0
PlaceFits store scratch (Store at n) = at + n ≤ length store
PlaceFits store scratch (Scratch n) = n ≤ length scratch
PlaceFits store scratch (NoPlace r) = Unit {0}

-- the answer with a place, and the scratch afterwards
pub record Placed (lim : Limits) (store scratch after : List ℕ) (row : Row) (r : Place) : Type 0 where
  pub allowed : Answers (showing lim store scratch row) (leaves r after)
  pub fits : PlaceFits store after r

-- the part of a place: which slice, where, and its bytes
pub record Picked (store scratch : Bor (List ℕ)) (place : Place) (r : Bor (List ℕ)) : Type 0 where
  pub block : r.ref_ptr.0 ≡ (points_to (leaves place scratch.now).part store scratch).0
  pub offset : r.ref_ptr.1 ≡ (points_to (leaves place scratch.now).part store scratch).1
  pub bytes : r.now ≡ bytes_of (leaves place scratch.now).part store.now scratch.now
