-- Texts moved from the area to places of their own and back: what loading and saving a working copy do.
use Rattle.std.specs.Prelude.{ℕ, zero, suc, ◌+◌, ◌*◌, ◌-◌, cond, List, [], ◌∷◌, ◌++◌, map, take, drop, get_or, replicate}
use borrow.Rule.Slice.PartMut.{mid_of}
use Rattle.slots.specs.Slots.{flat, sum, pad, zeros?}
use Rattle.tables.specs.declared.limits.Limits.{Limits}
use Rattle.tables.specs.Layout.{count_size, channels_size, line_width, used_size, quick_at, group_contacts_at, individual_contacts_at, channels_at, lines_at}
use Rattle.shared_texts.specs.declared.Run.{Run}
use Rattle.tables.specs.Heads.{line_own}
use Rattle.tables.specs.SharedLayout.{heads_size, shared_size, group_contact_heads_at, individual_contact_heads_at, shared_channels_at, line_heads_at}
use Rattle.shared_texts.specs.Shared.{text_runs, no_run, heads_in, slots_in, counted_before}

-- ---- loading

-- n slots of h bytes and a number of units, and the units that stand in s, become slots with v bytes for a text
abbrev pub spread : (h v n : ℕ) → List ℕ → List ℕ → List ℕ
spread h v zero heads s = []
spread h v (suc n) heads s =
    (take h heads ++ pad 0 v (take (2 * get_or heads h 0) s)) ++ spread h v n (drop (suc h) heads) (drop (2 * get_or heads h 0) s)

-- ---- saving

-- how many units stand before the first that is 0
abbrev pub used_units : List ℕ → ℕ
used_units [] = 0
used_units (b ∷ []) = 0
used_units (b ∷ c ∷ s) = cond (zeros? (b ∷ c ∷ [])) 0 (suc (used_units s))

-- those of a slot that has v bytes for a text behind h others
abbrev pub slot_units : (h v : ℕ) → List ℕ → ℕ
slot_units h v s = used_units (take v (drop h s))

-- the heads of n slots
abbrev pub gathered_heads : (h v n : ℕ) → List ℕ → List ℕ
gathered_heads h v zero s = []
gathered_heads h v (suc n) s = (take h s ++ (slot_units h v s ∷ [])) ++ gathered_heads h v n (drop (h + v) s)

-- the units of their texts, one after another
abbrev pub gathered_texts : (h v n : ℕ) → List ℕ → List ℕ
gathered_texts h v zero s = []
gathered_texts h v (suc n) s = take (2 * slot_units h v s) (drop h s) ++ gathered_texts h v n (drop (h + v) s)

-- and how many they are
abbrev pub placed_units : (h v n : ℕ) → List ℕ → ℕ
placed_units h v zero s = 0
placed_units h v (suc n) s = slot_units h v s + placed_units h v n (drop (h + v) s)

-- ---- the whole store

-- table k's slots, from the heads of a store and the area behind the texts that the heads before it count
abbrev pub loaded_run : Limits → ℕ → List ℕ → ℕ → List ℕ
loaded_run lim a s k =
    spread (get_or (text_runs lim) k no_run).own (get_or (text_runs lim) k no_run).room (get_or (text_runs lim) k no_run).many (heads_in s (get_or (text_runs lim) k no_run))
    (drop (2 * counted_before s (text_runs lim) k 0) (mid_of (heads_size lim) a s))

-- a working copy of a store: counts, channels and the lines' order as they are
abbrev pub loaded : Limits → ℕ → List ℕ → List ℕ
loaded lim a s =
    flat (
    mid_of 0 quick_at s
    ∷ loaded_run lim a s 0
    ∷ loaded_run lim a s 1
    ∷ loaded_run lim a s 2
    ∷ loaded_run lim a s 3
    ∷ loaded_run lim a s 4
    ∷ mid_of group_contact_heads_at count_size s
    ∷ loaded_run lim a s 5
    ∷ mid_of individual_contact_heads_at count_size s
    ∷ loaded_run lim a s 6
    ∷ mid_of shared_channels_at (channels_size lim) s
    ∷ mid_of (line_heads_at lim) count_size s
    ∷ loaded_run lim a s 7
    ∷ mid_of (line_heads_at lim + (count_size + lim.lines * suc line_own)) lim.lines s
    ∷ replicate (lim.size - used_size lim) 0
    ∷ [])

-- table k's heads, from its slots in a working copy
abbrev pub saved_run : Limits → List ℕ → ℕ → List ℕ
saved_run lim w k =
    gathered_heads (get_or (text_runs lim) k no_run).own (get_or (text_runs lim) k no_run).room (get_or (text_runs lim) k no_run).many (slots_in w (get_or (text_runs lim) k no_run))

-- the texts of all tables, from their slots
abbrev pub saved_area : Limits → ℕ → List ℕ → List ℕ
saved_area lim a w = pad 0 a (flat (map (λ x. gathered_texts x.own x.room x.many (slots_in w x)) (text_runs lim)))

-- the store that a working copy is saved as
abbrev pub saved : Limits → ℕ → List ℕ → List ℕ
saved lim a w =
    flat (
    mid_of 0 quick_at w
    ∷ saved_run lim w 0
    ∷ saved_run lim w 1
    ∷ saved_run lim w 2
    ∷ saved_run lim w 3
    ∷ saved_run lim w 4
    ∷ mid_of group_contacts_at count_size w
    ∷ saved_run lim w 5
    ∷ mid_of individual_contacts_at count_size w
    ∷ saved_run lim w 6
    ∷ mid_of channels_at (channels_size lim) w
    ∷ mid_of (lines_at lim) count_size w
    ∷ saved_run lim w 7
    ∷ mid_of (lines_at lim + (count_size + lim.lines * line_width)) lim.lines w
    ∷ saved_area lim a w
    ∷ replicate (lim.size - shared_size lim a) 0
    ∷ [])

-- ---- the sum, read from a working copy

-- the units that stand in a table's slots
abbrev pub slots_units : List ℕ → Run → ℕ
slots_units w x = placed_units x.own x.room x.many (slots_in w x)

-- the bytes that they take
abbrev pub run_sum : List ℕ → Run → ℕ
run_sum w x = 2 * slots_units w x

-- and those of all tables
abbrev pub work_sum : Limits → List ℕ → ℕ
work_sum lim w = 2 * sum (map (slots_units w) (text_runs lim))
