-- What the walks over the tables of a working copy promise. No promise of the call cites these.
use Rattle.std.specs.Prelude.{ℕ, ◌≤◌, ◌≡◌, List, length, get_or}
use Rattle.std.proofs.Math.Option.{none}
use Rattle.tables.specs.declared.limits.Limits.{Limits}
use Rattle.tables.specs.Store.{Works}
use Rattle.tables.specs.Tables.{Tables}
use Rattle.export_write.specs.Writers.{Wrote}
use Rattle.reports.specs.declared.Asked.{Asked}
use Rattle.reports.specs.TableSlots.{slots_of, slot_item}
use Rattle.report_write.specs.ItemWriters.{item_most}

-- the bytes of the parameter in a place, before which so many entries stand; an empty place has none
abbrev pub place_item : Limits → Tables → Asked → ℕ → ℕ → List ℕ
place_item lim t a place rank = slot_item a place rank (get_or (slots_of lim t a) place none)

-- the place's parameter was written at the scratch's start
pub record PlaceWritten (lim : Limits) (a : Asked) (work : List ℕ) (place rank : ℕ) (before after : List ℕ) (r : ℕ) : Type 0 where
  pub most : r ≤ item_most
  pub wrote : (t : Tables) → Works lim t work → item_most ≤ length before → Wrote (place_item lim t a place rank) 0 before after r

-- it has so many bytes
abbrev pub SizeIs : Limits → Asked → List ℕ → ℕ → ℕ → ℕ → Type 0
SizeIs lim a work place rank r = (t : Tables) → Works lim t work → r ≡ length (place_item lim t a place rank)
