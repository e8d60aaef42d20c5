-- What writing one message of a report promises. No promise of the call cites these.
use Rattle.std.specs.Prelude.{ℕ, ◌+◌, ◌≤◌, ◌≡◌, List, ◌++◌, length, take}
use Rattle.lists.specs.Ladder.{Ladder, rung, foot}
use Rattle.tables.specs.declared.limits.Limits.{Limits}
use Rattle.tables.specs.Store.{Works}
use Rattle.tables.specs.Tables.{Tables}
use Rattle.export_write.specs.Writers.{Wrote}
use Rattle.reports.specs.declared.Asked.{Asked}
use Rattle.reports.specs.Cut.{report_bytes}
use Rattle.reports.specs.Items.{Item, items_bytes}
use Rattle.reports.specs.Reporting.{After, stays, TooMany, NoIndex, Reports}
use Rattle.reports.specs.Types.{asked_by}
use Rattle.reports.proofs.Cursor.{from_here}
use Rattle.reporting.specs.declared.planning.Walk.{Walk}
use Rattle.reporting.specs.declared.message.Spot.{Spot}
use Rattle.reporting.specs.Plans.{from_type, items_from}

-- of so many parameters from `here` on, some were written, and so many are left from `more` on
pub record WroteSome (here : List Item) (count : ℕ) (more : List Item) (left at : ℕ) (before after : List ℕ) (end : ℕ) : Type 0 where
  pub done : List Item
  pub wrote : Wrote (items_bytes done) at before after end
  pub whole : take count here ≡ done ++ take left more

-- where they fit the buffer
abbrev pub Puts : (here : List Item) → Spot → (more : List Item) → (before after : List ℕ) → Spot → Type 0
Puts here s more before after r =
    s.end + length (items_bytes (take s.left here)) ≤ length before → WroteSome here s.left more r.left s.end before after r.end

-- whatever the tables of the working copy, and whatever follows
abbrev pub PutsFrom : Limits → (work : List ℕ) → (here rest : Tables → List Item → List Item) → Spot → (before after : List ℕ) → Spot → Type 0
PutsFrom lim work here rest s before after r = (t : Tables) → Works lim t work → (more : List Item) → Puts (here t more) s (rest t more) before after r

-- from a place of a table on
abbrev pub from_place : Limits → Asked → Spot → Tables → List Item → List Item
from_place lim a s t more = from_here lim t a s.place s.rank more

-- the parameter of a place
pub record PlacePut (lim : Limits) (a : Asked) (work : List ℕ) (s : Spot) (before after : List ℕ) (r : Spot) : Type 0 where
  pub next : r.place ≡ s.place + 1
  pub ranked : r.rank ≤ r.place
  pub puts : PutsFrom lim work (from_place lim a s) (from_place lim a r) s before after r

-- all parameters up to what follows, which is then to be written from its first place on
pub record AllPut (lim : Limits) (work : List ℕ) (here : Tables → List Item → List Item) (s : Spot) (before after : List ℕ) (r : Spot) : Type 0 where
  pub first : (r.place ≡ 0) × (r.rank ≡ 0)
  pub puts : PutsFrom lim work here (λ t more. more) s before after r

-- those of a table, and of a type that may be unknown
abbrev pub TablePut : Limits → Asked → (work : List ℕ) → Spot → (before after : List ℕ) → Spot → Type 0
TablePut lim a work s before after r = AllPut lim work (from_place lim a s) s before after r

abbrev pub TypePut : Limits → (b : ℕ) → (work : List ℕ) → Spot → (before after : List ℕ) → Spot → Type 0
TypePut lim b work s before after r = AllPut lim work (λ t more. from_type lim t b (asked_by b) s.place s.rank more) s before after r

-- the parameters of a message, behind a report's head
abbrev pub ItemsPut : Limits → (types work : List ℕ) → Walk → (before after : List ℕ) → ℕ → Type 0
ItemsPut lim types work w before after r =
    (t : Tables) → Works lim t work → 10 + length (items_bytes (take w.own (items_from lim t types w.from))) ≤ length before
    → Wrote (items_bytes (take w.own (items_from lim t types w.from))) 10 before after r

-- the parameters that were written up to `end` were given a report's head
pub record Headed (total index count end : ℕ) (before after : List ℕ) (r : ℕ) : Type 0 where
  pub same : r ≡ end
  pub report : (items : List Item) (was : List ℕ) → length items ≡ count → Wrote (items_bytes items) 10 was before end → Wrote (report_bytes total index items) 0 was after r

-- what the call answers to a query of these types, once a query was read
abbrev pub answering : Limits → (query : List ℕ) → (index : ℕ) → (store buffer : List ℕ) → Ladder After
answering lim query index store buffer =
    rung (TooMany lim query index store buffer) (stays lim query index store buffer 4)
    (rung (NoIndex lim query index store buffer) (stays lim query index store buffer 16)
    (foot (Reports lim query index store buffer)))
