-- What a reader knows of a key after deeds, what a deed then weighs in its table, and the rows that are found so.
use Rattle.std.specs.Prelude.{ℕ, suc, ◌+◌, ◌-◌, ◌<◌, ◌≡◌, Bool, true, false, cond, ◌||◌, List, [], ◌∷◌, ◌++◌, map, eqb, ltb}
use Rattle.std.proofs.Math.Option.{Option, none, some}
use Rattle.writing.specs.declared.Kind.{Kind}
use Rattle.writing.specs.declared.Kind.TheVariants.{GroupContacts, IndividualContacts, Lines, Key, QuickTexts, Home, Channels, System, StatusTexts, Group, Individual, LineSlot, Last}
use Rattle.writing.specs.Ranges.{InNumber}
use Rattle.writing.specs.Settings.{Text}
use Rattle.tables.specs.declared.limits.Limits.{Limits}
use Rattle.tables.specs.Apply.{and_then}
use Rattle.tables.specs.Limits.{quick_places, status_places, slot_places, contact_places}
use Rattle.tables.specs.Owns.{only, own}
use Rattle.tables.specs.Tables.{Tables}
use Rattle.tables.specs.Texts.{text_size}
use Rattle.events.specs.Events.{clear, put, remove, birth, found, entry, weight}
use Rattle.events.specs.Settings.{Does}
use Rattle.events.specs.Logs.{History, Tells}
use Rattle.events.specs.Sums.{many, text_bytes, InPlaces}
use Rattle.events.specs.Rows.{Cell}
use Rattle.events.specs.Deeds.{Seen, number_code, background, Deed, nothing, clears, puts, removes, told, as_seen, Spoken}

-- ---- one key of one table

-- the number of the deed that its entry was born at, with the entry; and how often it was put since it last was not there
pub record Known : Type 0 where
  pub found_at : Option (ℕ × Seen)
  pub often : ℕ

abbrev pub unknown : Known
unknown = record { found_at = none; often = 0 }

-- "Quick texts: add to an index that has a text does nothing": of these the first entry stays, of others the latest
abbrev pub first_stays : Kind → Bool
first_stays k = only k QuickTexts

abbrev pub staying : Bool → Option (ℕ × Seen) → Seen → Seen
staying first none a = a
staying first (some e) a = cond first e.1 a

abbrev pub put_known : Kind → ℕ → Seen → Known → Known
put_known k n a o = record { found_at = some (birth n o.found_at, staying (first_stays k) o.found_at a); often = suc o.often }

-- what is known of the key c of the table of kind k after one deed more, which has number n
abbrev pub know_step : Kind → ℕ → ℕ → Deed → Known → Known
know_step k c n nothing o = o
know_step k c n (clears j) o = cond (only j k) unknown o
know_step k c n (puts j a) o = cond (only j k) (cond (eqb a.key c) (put_known k n a o) o) o
know_step k c n (removes j d) o = cond (only j k) (cond (eqb d c) unknown o) o

-- after deeds that have the numbers from n on
abbrev pub know_on : Kind → ℕ → ℕ → List Deed → Known → Known
know_on k c n [] o = o
know_on k c n (d ∷ ds) o = know_on k c (suc n) ds (know_step k c n d o)

-- from the first
abbrev pub know : Kind → ℕ → List Deed → Known
know k c ds = know_on k c 0 ds unknown

-- ---- what a deed weighs

-- how many entries the table has, and how many bytes their texts take
pub record Weight : Type 0 where
  pub entries : ℕ
  pub bytes : ℕ

-- which tables can be full, and at how many entries
abbrev pub room_of : Limits → Kind → Option ℕ
room_of lim GroupContacts = some contact_places
room_of lim IndividualContacts = some contact_places
room_of lim Lines = some lim.lines
room_of lim Key = none
room_of lim QuickTexts = none
room_of lim Home = none
room_of lim Channels = some lim.channels
room_of lim System = none
room_of lim StatusTexts = none
room_of lim Group = none
room_of lim Individual = none
room_of lim LineSlot = none
room_of lim Last = none

-- whether an entry takes the place of one with its key: "Channels: add always appends, so repeats are kept"
abbrev pub takes_place : Kind → Known → Bool
takes_place k o = cond (only k Channels) false (found o.found_at)

-- how many entries there are when one more is put: none where there is no room
abbrev pub entries_put : Option ℕ → Bool → ℕ → Option ℕ
entries_put none known n = some 0
entries_put (some room) true n = some n
entries_put (some room) false n = cond (ltb n room) (some (suc n)) none

-- when those with a key go
abbrev pub gone : Kind → Known → ℕ
gone k o = cond (only k Channels) o.often (cond (found o.found_at) 1 0)

abbrev pub entries_removed : Option ℕ → ℕ → ℕ → ℕ
entries_removed none less n = 0
entries_removed (some room) less n = n - less

-- the bytes of what is known
abbrev pub known_bytes : Known → ℕ
known_bytes o = weight (λ a. text_bytes a.text) (entry o.found_at)

abbrev pub with_bytes : Option ℕ → ℕ → Option Weight
with_bytes none b = none
with_bytes (some n) b = some (record { entries = n; bytes = b })

-- what a deed makes of what its own table weighs, by what is known of its key
abbrev pub weigh : Limits → Deed → Known → Weight → Option Weight
weigh lim nothing o w = some w
weigh lim (clears k) o w = some (record { entries = 0; bytes = 0 })
weigh lim (puts k a) o w = with_bytes (entries_put (room_of lim k) (takes_place k o) w.entries) (w.bytes + text_bytes (staying (first_stays k) o.found_at a).text - known_bytes o)
weigh lim (removes k c) o w = some (record { entries = entries_removed (room_of lim k) (gone k o) w.entries; bytes = w.bytes - known_bytes o })

-- the key that a deed is about, and what is known of it
abbrev pub known_for : List Deed → Deed → Known
known_for read nothing = unknown
known_for read (clears k) = unknown
known_for read (puts k a) = know k a.key read
known_for read (removes k c) = know k c read

-- deeds in turn, which follow those that were read; they are for one table
abbrev pub weigh_all : Limits → List Deed → List Deed → Weight → Option Weight
weigh_all lim read [] w = some w
weigh_all lim read (d ∷ ds) w = and_then (weigh lim d (known_for read d) w) (weigh_all lim (read ++ (d ∷ [])) ds)

-- what the table of a kind weighs
abbrev pub weight_of : Kind → Tables → Weight
weight_of k t = record { entries = many k (own k t); bytes = text_size k (own k t) }

-- ---- rows

-- what is shown of an entry, by its row
pub record Shown : Type 0 where
  pub name : ℕ
  pub hidden : Bool
  pub text : Text

abbrev pub shown_of : Seen → Shown
shown_of a = record { name = a.name; hidden = a.hidden; text = a.text }

-- the same of what stands in a row; the tables without rows show nothing
abbrev pub cell_shown : (k : Kind) → Cell k → Shown
cell_shown GroupContacts g = record { name = g.address.0; hidden = background g; text = g.text }
cell_shown IndividualContacts i = record { name = i.address.0; hidden = false; text = i.text }
cell_shown Lines l = record { name = number_code l.number; hidden = false; text = l.text }
cell_shown Key x = record { name = 0; hidden = false; text = [] }
cell_shown QuickTexts us = record { name = 0; hidden = false; text = us }
cell_shown Home x = record { name = 0; hidden = false; text = [] }
cell_shown Channels n = record { name = 0; hidden = false; text = [] }
cell_shown System x = record { name = 0; hidden = false; text = [] }
cell_shown StatusTexts us = record { name = 0; hidden = false; text = us }
cell_shown Group g = record { name = g.address.0; hidden = background g; text = g.text }
cell_shown Individual i = record { name = i.address.0; hidden = false; text = i.text }
cell_shown LineSlot l = record { name = number_code l.number; hidden = false; text = l.text }
cell_shown Last x = record { name = 0; hidden = false; text = [] }

-- how many places the table of a kind has where rows go by place; a list has no such bound
abbrev pub InRow : Kind → ℕ → Type 0
InRow GroupContacts i = Unit {0}
InRow IndividualContacts i = Unit {0}
InRow Lines i = Unit {0}
InRow Key i = ⊥
InRow QuickTexts i = i < quick_places
InRow Home i = ⊥
InRow Channels i = ⊥
InRow System i = ⊥
InRow StatusTexts i = i < status_places
InRow Group i = i < slot_places
InRow Individual i = i < slot_places
InRow LineSlot i = i < slot_places
InRow Last i = ⊥

-- row i of a list: the i-th deed that put an entry which is still found, born there
abbrev pub born_here : ℕ → Option (ℕ × Seen) → Bool
born_here n none = false
born_here n (some e) = eqb e.0 n

abbrev pub row_on : Kind → List Deed → ℕ → List Deed → ℕ → Option Seen
row_on k all n [] i = none
row_on k all n (nothing ∷ ds) i = row_on k all (suc n) ds i
row_on k all n (clears j ∷ ds) i = row_on k all (suc n) ds i
row_on k all n (puts j a ∷ ds) i =
    cond (only j k)
    (cond (born_here n (know k a.key all).found_at)
    (cond (eqb i 0) (entry (know k a.key all).found_at) (row_on k all (suc n) ds (i - 1)))
    (row_on k all (suc n) ds i))
    (row_on k all (suc n) ds i)
row_on k all n (removes j c ∷ ds) i = row_on k all (suc n) ds i

-- what stands in row i of the table of a kind: in a list by position, else by place
abbrev pub listed : Kind → Bool
listed k = only k GroupContacts || only k IndividualContacts || only k Lines

abbrev pub row_seen : Kind → List Deed → ℕ → Option Seen
row_seen k ds i = cond (listed k) (row_on k ds 0 ds i) (entry (know k i ds).found_at)

-- ---- deeds that tell tables

-- the keys of lines are numbers in range, so that no two are seen as one
abbrev pub LineKeys : List (Does Lines) → Type 0
LineKeys [] = Unit {0}
LineKeys (clear ∷ es) = LineKeys es
LineKeys (put n l ∷ es) = InNumber l.number × LineKeys es
LineKeys (remove j ∷ es) = InNumber j.number × LineKeys es

-- the deeds are those of a history that tells the tables
pub record Telling (lim : Limits) (ds : List Deed) (t : Tables) : Type 0 where
  pub history : History
  pub tells : Tells lim history t
  pub seen : (k : Kind) → Spoken k → told k 0 ds ≡ map (as_seen k) (history k)
  pub inside : (k : Kind) → InPlaces k (history k)
  pub keys : LineKeys (history Lines)
