-- The tables that have texts, by number: where their slots stand, and how many bytes those take. Inner steps, no promise cites these.
use Rattle.std.specs.Prelude.{ℕ, zero, suc, ◌+◌, ◌-◌, ◌*◌, ◌/◌, ◌≤◌, ◌<◌, ◌≡◌, List, [], ◌++◌, get_or, Option, Some, None}
use Rattle.writing.specs.declared.Kind.{Kind}
use Rattle.writing.specs.declared.Kind.TheVariants.{GroupContacts, IndividualContacts, Lines, Key, QuickTexts, Home, Channels, System, StatusTexts, Group, Individual, LineSlot, Last}
use Rattle.tables.specs.declared.limits.Limits.{Limits}
use Rattle.tables.specs.Layout.{used_size}
use Rattle.shared_texts.specs.declared.Run.{Run}
use Rattle.tables.specs.SharedLayout.{heads_size}
use Rattle.shared_texts.specs.Shared.{text_runs, no_run}

-- table k
abbrev pub run_of : Limits → ℕ → Run
run_of lim k = get_or (text_runs lim) k no_run

-- the number of a kind's table, 8 where it has no texts
abbrev pub text_number : Kind → ℕ
text_number QuickTexts = 0
text_number StatusTexts = 1
text_number Group = 2
text_number Individual = 3
text_number LineSlot = 4
text_number GroupContacts = 5
text_number IndividualContacts = 6
text_number Lines = 7
text_number Key = 8
text_number Home = 8
text_number Channels = 8
text_number System = 8
text_number Last = 8

-- it, for a kind whose table has texts
abbrev pub NumberIs : Kind → Option ℕ → Type 0
NumberIs k (Some n) = (n ≡ text_number k) × (n < 8)
NumberIs k None = 8 ≤ text_number k

-- where a table's slots end in a working copy
abbrev pub slots_end : Run → ℕ
slots_end x = x.from + x.many * (x.own + x.room)

-- and where its heads end in a store
abbrev pub heads_end : Run → ℕ
heads_end x = x.start + x.many * suc x.own

-- few narrow slots with room for whole units, which end not far from the start
pub record Small (x : Run) : Type 0 where
  pub slots : slots_end x ≤ 200000
  pub heads : heads_end x ≤ 200000
  pub few : x.many ≤ 255
  pub narrow : x.own + x.room < 500
  pub whole : x.room ≡ x.room / 2 * 2

-- both forms have room for the table
pub record Inside (lim : Limits) (x : Run) : Type 0 where
  pub slots : slots_end x ≤ used_size lim
  pub heads : heads_end x ≤ heads_size lim

-- where what stands before table k starts, in a working copy
abbrev pub slots_before : Limits → ℕ → ℕ
slots_before lim zero = 0
slots_before lim (suc k) = slots_end (run_of lim k)

-- and in a store
abbrev pub heads_before : Limits → ℕ → ℕ
heads_before lim zero = 0
heads_before lim (suc k) = heads_end (run_of lim k)

-- how many bytes it has, which are the same in both
abbrev pub gap : Limits → ℕ → ℕ
gap lim k = (run_of lim k).start - heads_before lim k

-- runs of bytes g and p, one of each in turn, k of them
abbrev pub in_turn : (g p : ℕ → List ℕ) → ℕ → List ℕ
in_turn g p zero = []
in_turn g p (suc k) = in_turn g p k ++ (g k ++ p k)
