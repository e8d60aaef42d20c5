-- The texts of tables, in the one order in which they share a room, and the room's bytes: document 02, A11.
use Rattle.std.specs.Prelude.{ℕ, zero, suc, ◌+◌, ◌*◌, ◌≤◌, ◌<◌, ◌≡◌, true, ◌≢◌, List, [], ◌∷◌, ◌++◌, map, length, take, drop, get_or}
use Rattle.std.proofs.Math.Option
use Rattle.std.proofs.Math.Option.{Option, none, some}
use Rattle.lists.specs.Every.{All}
use Rattle.slots.specs.Slots.{flat, sum, pad, u16, zeros?}
use Rattle.writing.specs.declared.Kind.{Kind}
use Rattle.writing.specs.declared.Kind.TheVariants.{GroupContacts, IndividualContacts, Lines, Key, QuickTexts, Home, Channels, System, StatusTexts, Group, Individual, LineSlot, Last}
use Rattle.writing.specs.Settings.{Text}
use Rattle.tables.specs.declared.limits.Texts.{Texts}
use Rattle.tables.specs.declared.limits.Texts.TheVariants.{Placed, Shared}
use Rattle.tables.specs.Owns.{Own, own}
use Rattle.tables.specs.Tables.{Tables}

-- ---- which texts, in which order

-- a table seen as the texts of its rows
abbrev pub rows : {A : Type 0} → (A → Text) → List (Option A) → List (Option Text)
rows text os = map (Option.map text) os

-- the texts of the rows of a table, by kind; a table without texts has none
abbrev pub row_texts : (k : Kind) → Own k → List (Option Text)
row_texts GroupContacts xs = rows (λ g. g.text) (map some xs)
row_texts IndividualContacts xs = rows (λ i. i.text) (map some xs)
row_texts Lines xs = rows (λ l. l.text) (map some xs)
row_texts Key x = []
row_texts QuickTexts os = rows (λ us. us) os
row_texts Home x = []
row_texts Channels x = []
row_texts System x = []
row_texts StatusTexts os = rows (λ us. us) os
row_texts Group os = rows (λ g. g.text) os
row_texts Individual os = rows (λ i. i.text) os
row_texts LineSlot os = rows (λ l. l.text) os
row_texts Last x = []

-- the tables that have texts, in the order of their regions in the store
abbrev pub text_kinds : List Kind
text_kinds = QuickTexts ∷ StatusTexts ∷ Group ∷ Individual ∷ LineSlot ∷ GroupContacts ∷ IndividualContacts ∷ Lines ∷ []

abbrev pub text_tables : Tables → List (List (Option Text))
text_tables t = map (λ k. row_texts k (own k t)) text_kinds

-- the texts that are there
abbrev pub present : List (Option Text) → List Text
present [] = []
present (none ∷ os) = present os
present (some us ∷ os) = us ∷ present os

-- lists, one after another
abbrev pub together : {A : Type 0} → List (List A) → List A
together [] = []
together (xs ∷ xss) = xs ++ together xss

-- the texts of the tables, table by table and row by row
abbrev pub texts_in : List (List (Option Text)) → List Text
texts_in tables = together (map present tables)

abbrev pub texts_of : Tables → List Text
texts_of t = texts_in (text_tables t)

-- ---- how much room they take

-- their units
abbrev pub units_of : List Text → ℕ
units_of ts = sum (map length ts)

-- two bytes a unit, without ends
abbrev pub text_sum : Tables → ℕ
text_sum t = 2 * units_of (texts_of t)

-- the same of one table
abbrev pub table_sum : List (Option Text) → ℕ
table_sum os = 2 * units_of (present os)

-- and of the table of a kind
abbrev pub text_size : (k : Kind) → Own k → ℕ
text_size k x = table_sum (row_texts k x)

-- texts that take n bytes have room: "the vehicle keeps them, and no sum binds it"
abbrev pub TextRoom : Texts → ℕ → Type 0
TextRoom Placed n = Unit {0}
TextRoom (Shared a) n = n ≤ a

-- and those that pass the area have none
abbrev pub Passes : Texts → ℕ → Type 0
Passes Placed n = ⊥
Passes (Shared a) n = a < n

-- what is asked only where texts share an area
abbrev pub WhereShared : Texts → Type 0 → Type 0
WhereShared Placed P = Unit {0}
WhereShared (Shared a) P = P

-- the units of all texts before row r of table k
abbrev pub units_before : List (List (Option Text)) → ℕ → ℕ → ℕ
units_before tables k r = units_of (texts_in (take k tables)) + units_of (present (take r (get_or tables k [])))

-- ---- the room's bytes

-- a text's units, high byte first
abbrev pub unit_bytes : Text → List ℕ
unit_bytes us = flat (map u16 us)

-- one area of a bytes: the texts one after another, and zeros behind the last
abbrev pub area : ℕ → List Text → List ℕ
area a ts = pad 0 a (flat (map unit_bytes ts))

-- n units that stand in front
abbrev pub front_units : ℕ → List ℕ → Text
front_units zero s = []
front_units (suc n) s = (get_or s 0 0 * 256 + get_or s 1 0) ∷ front_units n (drop 2 s)

-- the texts that stand in an area, by how many units each has
abbrev pub cut : List ℕ → List ℕ → List Text
cut [] s = []
cut (n ∷ ns) s = front_units n s ∷ cut ns (drop (2 * n) s)

-- an area in which n units stand, none of them 0, and zeros behind them
pub record AreaFilled (n : ℕ) (s : List ℕ) : Type 0 where
  pub room : 2 * n ≤ length s
  pub units : All (λ u. u ≢ 0) (front_units n s)
  pub rest : zeros? (drop (2 * n) s) ≡ true
