-- What a working copy of part of the tables takes from a store, table by table. Inner steps, no promise cites these.
use Rattle.std.specs.Prelude.{ℕ, ◌+◌, ◌-◌, ◌≡◌, Bool, true, false, cond, List, ◌++◌, eqb, ltb}
use borrow.Rule.Slice.PartMut.{put_mid, mid_of}
use Rattle.writing.specs.declared.Kind.{Kind}
use Rattle.writing.specs.declared.Kind.TheVariants.{GroupContacts, IndividualContacts, Lines, Key, QuickTexts, Home, Channels, System, StatusTexts, Group, Individual, LineSlot, Last}
use Rattle.tables.specs.declared.limits.Limits.{Limits}
use Rattle.tables.specs.Layout.{count_size, channels_size, channels_at}
use Rattle.tables.specs.SharedLayout.{shared_channels_at}
use Rattle.shared_texts.specs.Moves.{loaded_run}
use Rattle.working.specs.Loading.{slots_size, TextsIn}
use Rattle.working.specs.Runs.{run_of, text_number, heads_end}

-- how many bytes table k has before its rows: a list has its count there
abbrev pub count_of : ℕ → ℕ
count_of k = cond (ltb k 5) 0 count_size

-- and behind them: the lines have their order there
abbrev pub order_of : Limits → ℕ → ℕ
order_of lim k = cond (eqb k 7) lim.lines 0

-- where it starts in a working copy, and how many bytes it has there
abbrev pub table_at : Limits → ℕ → ℕ
table_at lim k = (run_of lim k).from - count_of k

abbrev pub table_size : Limits → ℕ → ℕ
table_size lim k = count_of k + (slots_size (run_of lim k) + order_of lim k)

-- these bytes, made of a store's
abbrev pub table_of : Limits → ℕ → List ℕ → ℕ → List ℕ
table_of lim a s k =
    mid_of ((run_of lim k).start - count_of k) (count_of k) s ++ (loaded_run lim a s k ++ mid_of (heads_end (run_of lim k)) (order_of lim k) s)

-- w with them; there is no table 8
abbrev pub table_put : Limits → ℕ → List ℕ → ℕ → List ℕ → List ℕ
table_put lim a s k w = cond (ltb k 8) (put_mid (table_at lim k) (table_size lim k) w (table_of lim a s k)) w

-- the rows of table k were loaded into w, which is u after it
unfoldable pub RowsLoaded : Limits → ℕ → List ℕ → ℕ → (w u : List ℕ) → Type 0
RowsLoaded lim a s k w u = TextsIn lim s a → u ≡ put_mid (run_of lim k).from (slots_size (run_of lim k)) w (loaded_run lim a s k)

-- and so was all of it
unfoldable pub TableLoaded : Limits → ℕ → List ℕ → ℕ → (w u : List ℕ) → Type 0
TableLoaded lim a s k w u = TextsIn lim s a → u ≡ table_put lim a s k w

-- the kind of the one list without texts
abbrev pub channels? : Kind → Bool
channels? GroupContacts = false
channels? IndividualContacts = false
channels? Lines = false
channels? Key = false
channels? QuickTexts = false
channels? Home = false
channels? Channels = true
channels? System = false
channels? StatusTexts = false
channels? Group = false
channels? Individual = false
channels? LineSlot = false
channels? Last = false

-- w with the table of a kind
abbrev pub kind_put : Limits → ℕ → List ℕ → Kind → List ℕ → List ℕ
kind_put lim a s k w =
    cond (channels? k) (put_mid channels_at (channels_size lim) w (mid_of shared_channels_at (channels_size lim) s)) (table_put lim a s (text_number k) w)

-- it was loaded
unfoldable pub KindLoaded : Limits → ℕ → List ℕ → Kind → (w u : List ℕ) → Type 0
KindLoaded lim a s k w u = TextsIn lim s a → u ≡ kind_put lim a s k w
