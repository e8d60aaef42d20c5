-- A table's heads and texts, made of its slots in a working copy. Inner steps, no promise cites these.
use Rattle.std.specs.Prelude.{ℕ, suc, ◌+◌, ◌*◌, ◌≤◌, ◌≡◌, List, ◌++◌, length, take, get_or}
use borrow.Rule.Slice.PartMut.{mid_of}
use Rattle.tables.specs.declared.limits.Limits.{Limits}
use Rattle.shared_texts.specs.declared.Run.{Run}
use Rattle.shared_texts.specs.Moves.{used_units, gathered_heads, gathered_texts, placed_units, run_sum, work_sum, saved_area, saved}
use Rattle.shared_texts.specs.Shared.{slots_in}
use Rattle.working.specs.Runs.{slots_before, gap}

-- how many bytes a table's heads have in a store
abbrev pub own_size : Run → ℕ
own_size x = x.many * suc x.own

-- the heads, of slots in w
abbrev pub gathered_in : Run → List ℕ → List ℕ
gathered_in x w = gathered_heads x.own x.room x.many (slots_in w x)

-- the texts, one after another
abbrev pub texts_in_slots : List ℕ → Run → List ℕ
texts_in_slots w x = gathered_texts x.own x.room x.many (slots_in w x)

-- the unit at a place is 0
abbrev pub UnitEnds : List ℕ → ℕ → Type 0
UnitEnds s at = (get_or s at 0 ≡ 0) × (get_or s (at + 1) 0 ≡ 0)

-- a text's place ends with r bytes of units, and then a unit that is 0, or nothing
abbrev pub TextEnds : List ℕ → ℕ → Type 0
TextEnds s r = (r ≡ 2 * used_units s) × (r ≤ length s)

-- the texts of n slots were saved in an area that was b and is a, from a place on, and the next goes to r
abbrev pub TextsSaved : (own room n : ℕ) → List ℕ → ℕ → List ℕ → ℕ → List ℕ → Type 0
TextsSaved own room n slots from b r a = (r ≡ from + 2 * placed_units own room n slots) × (take r a ≡ take from b ++ gathered_texts own room n slots)

-- where the texts of the next table go
abbrev pub next_text : Run → List ℕ → ℕ → ℕ
next_text x w place = place + run_sum w x

-- what stands in a working copy before the slots of table k
abbrev pub worked_gap : Limits → List ℕ → ℕ → List ℕ
worked_gap lim w k = mid_of (slots_before lim k) (gap lim k) w

-- the texts of a working copy take r bytes
unfoldable pub SumIs : Limits → List ℕ → ℕ → Type 0
SumIs lim w r = r ≡ work_sum lim w

-- at most n
unfoldable pub SumIn : Limits → List ℕ → ℕ → Type 0
SumIn lim w n = work_sum lim w ≤ n

-- these bytes are the area of n bytes that its texts are gathered into
unfoldable pub IsArea : Limits → List ℕ → ℕ → List ℕ → Type 0
IsArea lim w n s = s ≡ saved_area lim n w

-- these bytes are what a working copy is saved as
unfoldable pub IsSaved : Limits → ℕ → List ℕ → List ℕ → Type 0
IsSaved lim a w s = s ≡ saved lim a w
