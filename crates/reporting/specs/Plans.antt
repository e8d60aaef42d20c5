-- What planning a report promises: the parameters from a cursor on, and the walk over them. No promise of the call cites these.
use Rattle.std.specs.Prelude.{ℕ, ◌+◌, ◌≤◌, ◌<◌, ◌≡◌, Bool, true, false, List, [], ◌∷◌, length, get_or, take, drop}
use Rattle.std.proofs.Math.Option.{Option, none, some}
use Rattle.tables.specs.declared.limits.Limits.{Limits}
use Rattle.tables.specs.Store.{Works}
use Rattle.tables.specs.Tables.{Tables}
use Rattle.reports.specs.declared.Asked.{Asked}
use Rattle.reports.specs.Asked.{asked}
use Rattle.reports.specs.Cut.{split, item_size}
use Rattle.reports.specs.Items.{Item, unknown}
use Rattle.reports.specs.Types.{asked_by}
use Rattle.reports.proofs.Cursor.{from_here}
use Rattle.reports.proofs.PlanLaws.{Planned}
use Rattle.reporting.specs.declared.planning.Cursor.{Cursor}
use Rattle.reporting.specs.declared.planning.Walk.{Walk}

-- ---- the parameters from a cursor on

-- of a type that may be unknown, and then more
abbrev pub from_type : Limits → Tables → ℕ → Option Asked → ℕ → ℕ → List Item → List Item
from_type lim t b none place rank more = unknown b ∷ []
from_type lim t b (some a) place rank more = from_here lim t a place rank more

abbrev pub from_types : Limits → Tables → List ℕ → ℕ → ℕ → List Item
from_types lim t [] place rank = []
from_types lim t (b ∷ l) place rank = from_type lim t b (asked_by b) place rank (asked t l)

abbrev pub items_from : Limits → Tables → List ℕ → Cursor → List Item
items_from lim t types c = from_types lim t (drop c.ask types) c.place c.rank

-- ---- the walk

abbrev pub FitsIs : (count used size room : ℕ) → Bool → Type 0
FitsIs count used size room true = (count < 255) × (used + size ≤ room)
FitsIs count used size room false = count < 255 → used + size ≤ room → ⊥

-- no rank is larger than its place
abbrev pub Ranked : Cursor → Type 0
Ranked c = c.rank ≤ c.place

-- the walk stands before the parameters that are left
pub record At (all : List (List Item)) (room j : ℕ) (from : Cursor → List Item) (rest : List Item) (w : Walk) : Type 0 where
  pub own : List Item
  pub counted : length own ≡ w.own
  pub planned : Planned item_size room 255 all j w.closed w.used w.count own (from w.from) rest

-- at most n messages were closed and n parameters taken
pub record Grown (n : ℕ) (w r : Walk) : Type 0 where
  pub closed : r.closed ≤ w.closed + n
  pub own : r.own ≤ w.own + n

-- one parameter more
pub record Steps (room j size : ℕ) (here : Cursor) (w r : Walk) : Type 0 where
  pub grown : Grown 1 w r
  pub ranked : Ranked w.from → Ranked here → Ranked r.from
  pub steps : (all : List (List Item)) (from : Cursor → List Item) (i : Item) (rest : List Item) → item_size i ≡ size → from here ≡ i ∷ rest
      → At all room j from (i ∷ rest) w → At all room j from rest r

-- from the first parameter of a table up to what is left of it, past at most n places
pub record Walked (lim : Limits) (a : Asked) (work : List ℕ) (ask room j n : ℕ) (rest : Tables → List Item → List Item) (w r : Walk) : Type 0 where
  pub grown : Grown n w r
  pub ranked : Ranked w.from → Ranked r.from
  pub steps : (t : Tables) → Works lim t work → (all : List (List Item)) (from : Cursor → List Item) (more : List Item)
      → ((p q : ℕ) → from (record { ask = ask; place = p; rank = q }) ≡ from_here lim t a p q more)
      → At all room j from (from_here lim t a 0 0 more) w → At all room j from (rest t more) r

-- all of them
abbrev pub TableWalked : Limits → Asked → (work : List ℕ) → (ask room j : ℕ) → Walk → Walk → Type 0
TableWalked lim a work ask room j w r = Walked lim a work ask room j 65535 (λ t more. more) w r

-- how many messages there are, and message j: as many as it has, from where it starts
pub record PlanIs (lim : Limits) (types work : List ℕ) (room j : ℕ) (r : Walk) : Type 0 where
  pub closed : r.closed ≤ 16777216
  pub ranked : Ranked r.from
  pub total : (t : Tables) → Works lim t work → length (split item_size room 255 0 0 (asked t types)) ≡ r.closed + 1
  pub message : (t : Tables) → Works lim t work → j ≤ r.closed
      → (get_or (split item_size room 255 0 0 (asked t types)) j [] ≡ take r.own (items_from lim t types r.from))
      × (length (get_or (split item_size room 255 0 0 (asked t types)) j []) ≡ r.own)
