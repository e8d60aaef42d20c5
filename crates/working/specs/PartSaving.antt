-- A table with texts, saved from a working copy of part of the tables: its region of heads, and the area with its texts anew. Inner steps, no promise cites these.
use Rattle.std.specs.Prelude.{ℕ, ◌+◌, ◌-◌, ◌*◌, ◌≤◌, ◌≡◌, List, ◌++◌, take}
use borrow.Rule.Slice.PartMut.{put_mid, mid_of}
use Rattle.slots.specs.Slots.{pad}
use Rattle.tables.specs.declared.limits.Limits.{Limits}
use Rattle.tables.specs.Layout.{used_size}
use Rattle.tables.specs.SharedLayout.{heads_size}
use Rattle.shared_texts.specs.declared.Run.{Run}
use Rattle.shared_texts.specs.Shared.{text_runs, counted_before, stored_units}
use Rattle.working.specs.PartLoading.{count_of, order_of}
use Rattle.working.specs.Runs.{run_of, slots_end}
use Rattle.working.specs.Saving.{own_size, gathered_in, texts_in_slots, next_text}

-- ---- its region

-- the region x of a store has i bytes more before it and j behind it
abbrev pub region_size : Run → (i j : ℕ) → ℕ
region_size x i j = i + (own_size x + j)

-- what it is saved as
abbrev pub saved_region : Run → (i j : ℕ) → List ℕ → List ℕ
saved_region x i j w = mid_of (x.from - i) i w ++ (gathered_in x w ++ mid_of (slots_end x) j w)

-- the store with it
unfoldable pub RegionSaved : Limits → ℕ → (work store after : List ℕ) → Type 0
RegionSaved lim k w s r =
    r ≡ put_mid ((run_of lim k).start - count_of k) (region_size (run_of lim k) (count_of k) (order_of lim k)) s (saved_region (run_of lim k) (count_of k) (order_of lim k) w)

-- ---- the area

-- the texts before a place, those of the table, and n bytes of others from another place on
abbrev pub joined_texts : Run → List ℕ → (place behind n : ℕ) → List ℕ → List ℕ
joined_texts x w place behind n texts = take place texts ++ (texts_in_slots w x ++ mid_of behind n texts)

-- the units of the texts before those of table k, with its own, and of all, as a store's heads count them
unfoldable pub units_ahead : Limits → List ℕ → ℕ → ℕ
units_ahead lim s k = counted_before s (text_runs lim) k 0

unfoldable pub units_through : Limits → List ℕ → ℕ → ℕ
units_through lim s k = counted_before s (text_runs lim) k (run_of lim k).many

unfoldable pub units_all : Limits → List ℕ → ℕ
units_all lim s = stored_units lim s

-- the bytes of the texts behind its own
abbrev pub kept_size : Limits → List ℕ → ℕ → ℕ
kept_size lim s k = units_all lim s * 2 - units_through lim s k * 2

-- ---- both

-- where the old texts and the new ones have room, the store has the table as the working copy has it
unfoldable pub TableSaved : Limits → ℕ → ℕ → (work store after : List ℕ) → Type 0
TableSaved lim a k w s r =
    units_all lim s * 2 ≤ a → used_size lim + a ≤ lim.size → next_text (run_of lim k) w (units_ahead lim s k * 2) + kept_size lim s k ≤ a
    → (s₁ : List ℕ) → RegionSaved lim k w s s₁
    → r ≡ put_mid (heads_size lim) a s₁ (pad 0 a (joined_texts (run_of lim k) w (units_ahead lim s k * 2) (units_through lim s k * 2) (kept_size lim s k) (mid_of (heads_size lim) a s)))
