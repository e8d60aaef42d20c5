-- What stands in a row of tables that deeds tell is what a reader finds there by the deeds alone. Assumes nothing.
use Rattle.lists.proofs.Kit.{ℕ, zero, suc, ◌-◌, ◌<◌, ◌≡◌, refl, sym, ap, ap₂, ◌∙◌, subst, Bool, true, false, cond, List, [], ◌∷◌, map, Option, none, some, arith, eqb, lt-ltb, ne_eqb, get_or}
use Rattle.writing.specs.declared.Kind.{Kind}
use Rattle.writing.specs.declared.Kind.TheVariants.{GroupContacts, IndividualContacts, Lines, Key, QuickTexts, Home, Channels, System, StatusTexts, Group, Individual, LineSlot, Last}
use Rattle.writing.specs.Ranges.{InNumber}
use Rattle.tables.specs.declared.limits.Limits.{Limits}
use Rattle.tables.specs.declared.members.Members.TheVariants.{OfGroups, OfIndividuals}
use Rattle.tables.specs.Apply.{same_key}
use Rattle.tables.specs.Limits.{quick_places, status_places, slot_places}
use Rattle.tables.specs.MemberKinds.{contact_key}
use Rattle.tables.specs.Owns.{own, only}
use Rattle.tables.specs.Tables.{Line, LineKey, line_key, Tables}
use Rattle.events.specs.Events.{Event, clear, put, remove, entry, born_at, Rising, look, rows, row}
use Rattle.events.specs.Places.{spot}
use Rattle.events.specs.Settings.{quick_place, quick_change, status_place, status_change, slot_place, slot_change, Puts, Names, Does}
use Rattle.events.specs.Rows.{in_row, listed_row, placed_row, read_row}
use Rattle.events.specs.Deeds.{Seen, seen_as, code_of, Deed, nothing, clears, puts, removes, told, as_seen, Spoken}
use Rattle.events.specs.Knowing.{know, Shown, shown_of, cell_shown, InRow, born_here, row_on, row_seen, LineKeys, Telling}
use Rattle.events.proofs.ToldRows.{row_told}
use Rattle.events.proofs.DeedLaws.{told_rising, seen_rising}
use Rattle.events.proofs.Mapping.{known_groups, known_individuals, known_lines, known_quick, known_status, known_group_slots, known_individual_slots, known_line_slots}

-- ---- rows by the deeds are rows by the events that they tell

-- at an entry that is put: the row is here, is behind it, or goes on as before
row_turn : (n i : ℕ) (o : Option (ℕ × Seen)) (l : List (ℕ × Seen)) (r : ℕ → Option Seen) → ((j : ℕ) → r j ≡ entry (get_or (map some l) j none))
    → cond (born_here n o) (cond (eqb i 0) (entry o) (r (i - 1))) (r i) ≡ entry (get_or (map some (born_at n o l)) i none)
row_turn n i none l r h = h i
row_turn n i (some e) l r h = go (eqb e.0 n) i
  where
    go : (b : Bool) (j : ℕ) → cond b (cond (eqb j 0) (some e.1) (r (j - 1))) (r j) ≡ entry (get_or (map some (cond b (e ∷ l) l)) j none)
    go true zero = refl
    go true (suc j) =
        let less : suc j - 1 ≡ j = omega arith in
        ap (λ b. cond b (some e.1) (r (suc j - 1))) (ne_eqb (suc j) 0 (λ q. absurd (omega (arith, q)))) ∙ ap r less ∙ h j
    go false j = h j

-- what is seen of an entry that is put has its key there
abbrev pub seen_key : Seen → ℕ
seen_key a = a.key

-- what a reader who has read all deeds knows of a key
abbrev pub finds : Kind → List Deed → ℕ → Option (ℕ × Seen)
finds k all c = (know k c all).found_at

-- an event that puts nothing makes no row, whether it is for this table or not
no_row : (f : ℕ → Option (ℕ × Seen)) (v : Event Seen ℕ) (es : List (Event Seen ℕ)) (i : ℕ) (b : Bool) → rows seen_key eqb f (v ∷ es) ≡ rows seen_key eqb f es
    → row seen_key eqb f es i ≡ row seen_key eqb f (cond b (v ∷ es) es) i
no_row f v es i true h = ap (λ (l : List (ℕ × Seen)). get_or (map some l) i none) (sym h)
no_row f v es i false h = refl

-- ROW-BY-TOLD: row i by the deeds from number n on, where all deeds were read, is row i by the events that they tell
pub row_by_told : (k : Kind) (all : List Deed) (n : ℕ) (ds : List Deed) (i : ℕ) → row_on k all n ds i ≡ entry (row seen_key eqb (finds k all) (told k n ds) i)
row_by_told k all n [] i = refl
row_by_told k all n (nothing ∷ ds) i = row_by_told k all (suc n) ds i
row_by_told k all n (clears j ∷ ds) i = row_by_told k all (suc n) ds i ∙ ap entry (no_row (finds k all) clear (told k (suc n) ds) i (only j k) refl)
row_by_told k all n (puts j a ∷ ds) i = go (only j k) (row_by_told k all (suc n) ds)
  where
    es : List (Event Seen ℕ)
    es = told k (suc n) ds

    f : ℕ → Option (ℕ × Seen)
    f = finds k all

    rest : ℕ → Option Seen
    rest = row_on k all (suc n) ds

    go : (b : Bool) → ((m : ℕ) → rest m ≡ entry (row seen_key eqb f es m))
        → cond b (cond (born_here n (f a.key)) (cond (eqb i 0) (entry (f a.key)) (rest (i - 1))) (rest i)) (rest i) ≡ entry (row seen_key eqb f (cond b (put n a ∷ es) es) i)
    go true h = row_turn n i (f a.key) (rows seen_key eqb f es) rest h
    go false h = h i
row_by_told k all n (removes j c ∷ ds) i = row_by_told k all (suc n) ds i ∙ ap entry (no_row (finds k all) (remove c) (told k (suc n) ds) i (only j k) refl)

-- ---- rows by what is seen of events are rows by the events

-- an entry where it was born, as it is seen
abbrev pub born_seen : (k : Kind) → ℕ × Puts k → ℕ × Seen
born_seen k e = (e.0, seen_as k e.1)

-- row i of entries as they are seen
row_seen_as : (k : Kind) (l : List (ℕ × Puts k)) (i : ℕ) → entry (get_or (map some (map (born_seen k) l)) i none) ≡ mathlib.Core.Option.map (seen_as k) (entry (get_or (map some l) i none))
row_seen_as k [] i = refl
row_seen_as k (e ∷ l) zero = refl
row_seen_as k (e ∷ l) (suc i) = row_seen_as k l i

-- an entry that was born at n, before others, as they are seen
born_mapped : (k : Kind) (n : ℕ) (o : Option (ℕ × Puts k)) (l : List (ℕ × Puts k)) → born_at n (mathlib.Core.Option.map (born_seen k) o) (map (born_seen k) l) ≡ map (born_seen k) (born_at n o l)
born_mapped k n none l = refl
born_mapped k n (some e) l = go (eqb e.0 n)
  where
    go : (b : Bool) → cond b (born_seen k e ∷ map (born_seen k) l) (map (born_seen k) l) ≡ map (born_seen k) (cond b (e ∷ l) l)
    go true = refl
    go false = refl

module _ (k : Kind) (named : Puts k → Names k) (same : Names k → Names k → Bool) (f : ℕ → Option (ℕ × Seen)) (g : Names k → Option (ℕ × Puts k)) where
  -- each entry that is put is found by what is seen of it as by its key
  abbrev pub Agrees : List (Does k) → Type 0
  Agrees [] = Unit {0}
  Agrees (clear ∷ es) = Agrees es
  Agrees (put n a ∷ es) = (f (seen_as k a).key ≡ mathlib.Core.Option.map (born_seen k) (g (named a))) × Agrees es
  Agrees (remove j ∷ es) = Agrees es

  -- then the rows are those of the events, as they are seen
  rows_mapped : (es : List (Does k)) → Agrees es → rows seen_key eqb f (map (as_seen k) es) ≡ map (born_seen k) (rows named same g es)
  rows_mapped [] h = refl
  rows_mapped (clear ∷ es) h = rows_mapped es h
  rows_mapped (put n a ∷ es) h =
      ap₂ (λ (o : Option (ℕ × Seen)) (l : List (ℕ × Seen)). born_at n o l) h.0 (rows_mapped es h.1)
      ∙ born_mapped k n (g (named a)) (rows named same g es)
  rows_mapped (remove j ∷ es) h = rows_mapped es h

  -- ROW-MAPPED: and so is row i
  pub row_mapped : (es : List (Does k)) (i : ℕ) → Agrees es → entry (row seen_key eqb f (map (as_seen k) es) i) ≡ mathlib.Core.Option.map (seen_as k) (entry (row named same g es i))
  row_mapped es i h = ap (λ (l : List (ℕ × Seen)). entry (get_or (map some l) i none)) (rows_mapped es h) ∙ row_seen_as k (rows named same g es) i

  -- where every key is found so, each entry is
  agrees_all : ((κ : Names k) → f (code_of k κ) ≡ mathlib.Core.Option.map (born_seen k) (g κ)) → ((a : Puts k) → (seen_as k a).key ≡ code_of k (named a)) → (es : List (Does k)) → Agrees es
  agrees_all h c [] = tt
  agrees_all h c (clear ∷ es) = agrees_all h c es
  agrees_all h c (put n a ∷ es) = (ap f (c a) ∙ h (named a), agrees_all h c es)
  agrees_all h c (remove j ∷ es) = agrees_all h c es

-- of lines the keys that are in range are enough
agrees_lines : (f : ℕ → Option (ℕ × Seen)) (g : LineKey → Option (ℕ × Line)) → ((κ : LineKey) → InNumber κ.number → f (code_of Lines κ) ≡ mathlib.Core.Option.map (born_seen Lines) (g κ)) → (es : List (Does Lines)) → LineKeys es
    → Agrees Lines line_key same_key f g es
agrees_lines f g h [] q = tt
agrees_lines f g h (clear ∷ es) q = agrees_lines f g h es q
agrees_lines f g h (put n a ∷ es) q = (h (line_key a) q.0, agrees_lines f g h es q.1)
agrees_lines f g h (remove j ∷ es) q = agrees_lines f g h es q.1

-- ---- rows of lists

-- KEYED-ROWS: row i by the deeds is the row by the events that they tell, as it is seen
pub keyed_rows : (k : Kind) (named : Puts k → Names k) (same : Names k → Names k → Bool) (ds : List Deed) (es : List (Does k)) (i : ℕ) → told k 0 ds ≡ map (as_seen k) es
    → Agrees k named same (finds k ds) (λ κ. look named same κ es) es → row_on k ds 0 ds i ≡ mathlib.Core.Option.map (seen_as k) (listed_row named same es i)
keyed_rows k named same ds es i e h =
    row_by_told k ds 0 ds i
    ∙ ap (λ (vs : List (Event Seen ℕ)). entry (row seen_key eqb (finds k ds) vs i)) e
    ∙ row_mapped k named same (finds k ds) (λ κ. look named same κ es) es i h

-- what is shown of an entry is shown of what is seen of it
shown_seen : {A : Type 0} (cell : A → Shown) (seen : A → Seen) → ((a : A) → cell a ≡ shown_of (seen a)) → (o : Option A) → mathlib.Core.Option.map cell o ≡ mathlib.Core.Option.map shown_of (mathlib.Core.Option.map seen o)
shown_seen cell seen h none = refl
shown_seen cell seen h (some a) = ap some (h a)

-- so what is shown of a row of events is shown of the row by the deeds
listed_shown : (k : Kind) (named : Puts k → Names k) (same : Names k → Names k → Bool) (cell : Puts k → Shown) → ((a : Puts k) → cell a ≡ shown_of (seen_as k a)) → (ds : List Deed) (es : List (Does k)) (i : ℕ)
    → told k 0 ds ≡ map (as_seen k) es → Agrees k named same (finds k ds) (λ κ. look named same κ es) es → mathlib.Core.Option.map cell (listed_row named same es i) ≡ mathlib.Core.Option.map shown_of (row_on k ds 0 ds i)
listed_shown k named same cell c ds es i e h = shown_seen cell (seen_as k) c (listed_row named same es i) ∙ sym (ap (mathlib.Core.Option.map shown_of) (keyed_rows k named same ds es i e h))

-- of group contacts, of individual contacts, and of lines whose keys are in range
groups_shown : (ds : List Deed) (es : List (Does GroupContacts)) (i : ℕ) → told GroupContacts 0 ds ≡ map (as_seen GroupContacts) es
    → mathlib.Core.Option.map (cell_shown GroupContacts) (read_row GroupContacts es i) ≡ mathlib.Core.Option.map shown_of (row_on GroupContacts ds 0 ds i)
groups_shown ds es i e =
    listed_shown GroupContacts (contact_key OfGroups) eqb (cell_shown GroupContacts) (λ a. refl) ds es i e
    (agrees_all GroupContacts (contact_key OfGroups) eqb (finds GroupContacts ds) (λ κ. look (contact_key OfGroups) eqb κ es) (λ κ. known_groups κ ds es e) (λ a. refl) es)

individuals_shown : (ds : List Deed) (es : List (Does IndividualContacts)) (i : ℕ) → told IndividualContacts 0 ds ≡ map (as_seen IndividualContacts) es
    → mathlib.Core.Option.map (cell_shown IndividualContacts) (read_row IndividualContacts es i) ≡ mathlib.Core.Option.map shown_of (row_on IndividualContacts ds 0 ds i)
individuals_shown ds es i e =
    listed_shown IndividualContacts (contact_key OfIndividuals) eqb (cell_shown IndividualContacts) (λ a. refl) ds es i e
    (agrees_all IndividualContacts (contact_key OfIndividuals) eqb (finds IndividualContacts ds) (λ κ. look (contact_key OfIndividuals) eqb κ es) (λ κ. known_individuals κ ds es e) (λ a. refl) es)

lines_shown : (ds : List Deed) (es : List (Does Lines)) (i : ℕ) → told Lines 0 ds ≡ map (as_seen Lines) es → LineKeys es → mathlib.Core.Option.map (cell_shown Lines) (read_row Lines es i) ≡ mathlib.Core.Option.map shown_of (row_on Lines ds 0 ds i)
lines_shown ds es i e q =
    listed_shown Lines line_key same_key (cell_shown Lines) (λ a. refl) ds es i e (agrees_lines (finds Lines ds) (λ κ. look line_key same_key κ es) (λ κ p. known_lines κ ds es e p q) es q)

-- ---- rows of every table

-- a place among n is read where it is
inside_row : {A B : Type 0} (place : A → ℕ) (change : Option B → A → Option B) (n : ℕ) (es : List (Event A ℕ)) (i : ℕ) → i < n → placed_row place change n es i ≡ spot place change i es
inside_row place change n es i h = ap (λ b. cond b (spot place change i es) none) (lt-ltb i n h)

-- a row of tables that deeds tell is read from the events
row_read : (lim : Limits) (ds : List Deed) (t : Tables) (k : Kind) (i : ℕ) (h : Telling lim ds t) → Spoken k → in_row k (own k t) i ≡ read_row k (h.history k) i
row_read lim ds t k i h p = row_told lim k (h.history k) (own k t) i (seen_rising k 0 (h.history k) (subst (Rising 0) (h.seen k p) (told_rising k 0 ds))) (h.tells k)

-- a table with rows is one of which something is seen
row_spoken : (k : Kind) (i : ℕ) → InRow k i → Spoken k
row_spoken GroupContacts i r = tt
row_spoken IndividualContacts i r = tt
row_spoken Lines i r = tt
row_spoken Key i r = r
row_spoken QuickTexts i r = tt
row_spoken Home i r = r
row_spoken Channels i r = tt
row_spoken System i r = r
row_spoken StatusTexts i r = tt
row_spoken Group i r = tt
row_spoken Individual i r = tt
row_spoken LineSlot i r = tt
row_spoken Last i r = r

-- what is read from the events is what a reader finds by the deeds
read_shown : (lim : Limits) (ds : List Deed) (t : Tables) (k : Kind) (i : ℕ) (h : Telling lim ds t) → InRow k i → mathlib.Core.Option.map (cell_shown k) (read_row k (h.history k) i) ≡ mathlib.Core.Option.map shown_of (row_seen k ds i)
read_shown lim ds t GroupContacts i h r = groups_shown ds (h.history GroupContacts) i (h.seen GroupContacts tt)
read_shown lim ds t IndividualContacts i h r = individuals_shown ds (h.history IndividualContacts) i (h.seen IndividualContacts tt)
read_shown lim ds t Lines i h r = lines_shown ds (h.history Lines) i (h.seen Lines tt) h.keys
read_shown lim ds t QuickTexts i h r = ap (mathlib.Core.Option.map (cell_shown QuickTexts)) (inside_row quick_place quick_change quick_places (h.history QuickTexts) i r) ∙ known_quick i ds (h.history QuickTexts) (h.seen QuickTexts tt)
read_shown lim ds t StatusTexts i h r = ap (mathlib.Core.Option.map (cell_shown StatusTexts)) (inside_row status_place status_change status_places (h.history StatusTexts) i r) ∙ known_status i ds (h.history StatusTexts) (h.seen StatusTexts tt)
read_shown lim ds t Group i h r = ap (mathlib.Core.Option.map (cell_shown Group)) (inside_row slot_place slot_change slot_places (h.history Group) i r) ∙ known_group_slots i ds (h.history Group) (h.seen Group tt)
read_shown lim ds t Individual i h r = ap (mathlib.Core.Option.map (cell_shown Individual)) (inside_row slot_place slot_change slot_places (h.history Individual) i r) ∙ known_individual_slots i ds (h.history Individual) (h.seen Individual tt)
read_shown lim ds t LineSlot i h r = ap (mathlib.Core.Option.map (cell_shown LineSlot)) (inside_row slot_place slot_change slot_places (h.history LineSlot) i r) ∙ known_line_slots i ds (h.history LineSlot) (h.seen LineSlot tt)
read_shown lim ds t Key i h r = absurd r
read_shown lim ds t Home i h r = absurd r
read_shown lim ds t Channels i h r = absurd r
read_shown lim ds t System i h r = absurd r
read_shown lim ds t Last i h r = absurd r

-- ROW-SHOWN: what is shown of row i of a table is what is shown of the row that a reader finds by the deeds that tell the tables
pub row_shown : (lim : Limits) (ds : List Deed) (t : Tables) (k : Kind) (i : ℕ) → Telling lim ds t → InRow k i → mathlib.Core.Option.map (cell_shown k) (in_row k (own k t) i) ≡ mathlib.Core.Option.map shown_of (row_seen k ds i)
row_shown lim ds t k i h r = ap (mathlib.Core.Option.map (cell_shown k)) (row_read lim ds t k i h (row_spoken k i r)) ∙ read_shown lim ds t k i h r
