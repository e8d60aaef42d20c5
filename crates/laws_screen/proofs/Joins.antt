-- Taking and the screen together: after any messages from a start, a row shows the tables after the settings taken, in order. Assumes nothing.
use Rattle.lists.proofs.Kit.{ℕ, zero, suc, ◌≤◌, ◌<◌, ◌≡◌, refl, sym, ap, ◌∙◌, subst, ◌≢◌, inl, inr, ◌↔◌, Bool, true, false, cond, List, [], ◌∷◌, Option, none, some, option_some_injective, option_none_ne_some, eqb, arith, length, get_or, get_or-replicate}
use denote.Ref.{Bor}
use Rattle.lists.specs.Ladder.{Answers}
use Rattle.writing.specs.Settings.{Setting, Text}
use Rattle.tables.specs.declared.limits.Limits.{Limits}
use Rattle.tables.specs.Limits.{slot_places}
use Rattle.tables.specs.Store.{StoreOf, Holds}
use Rattle.tables.specs.Apply.{and_then}
use Rattle.tables.specs.Tables.{Tables, Line, GroupMember, IndividualMember, fresh}
use Rattle.shared_texts.proofs.Forms.{holds_store}
use Rattle.menu.specs.Menu.{Told, counting, counts_of}
use Rattle.menu.proofs.Theorems.{counts_are}
use Rattle.screen.specs.declared.rows.Row.{Row}
use Rattle.screen.specs.declared.rows.Row.TheVariants.{Group, Individual, LineSlot}
use Rattle.screen.specs.Rows.{Caption, text, line, group, individual, line_row, individual_row, group_row, caption, of, text_of, Display, Displays, units, text_or, unit_bytes}
use Rattle.screen.specs.Screen.{AfterRow, bytes_of, RowBytes, showing, numbering, PartGiven}
use Rattle.screen.proofs.AnswerLaws.{one_tables}
use Rattle.screen.proofs.Background.{in_slot, group_shown}
use Rattle.screen.proofs.Theorems.{from_entry, whole_text}
use Rattle.laws_screen.specs.Reached.{Reached, InOrder, all_of, to_group, to_individual, to_line_slot, LastSent}
use Rattle.laws_screen.proofs.Reaching.{in_order_one, reached_holds}
use Rattle.laws_screen.proofs.Sent.{sent_exactly}
use Rattle.laws_screen.proofs.SlotSent.{group_places, individual_places, line_slot_places}

-- the number of a row that is there, and of one that is not
abbrev pub RowNumber : Option Caption → ℕ → Type 0
RowNumber none n = n ≡ 17
RowNumber (some c) n = n ≡ 0

module _ (lim : Limits) (log : List (List Setting)) (store : List ℕ) (r : Reached lim log store) (t : Tables) (o : InOrder lim fresh log t) where
  -- the tables after the settings taken are those of the store
  pub reached_tables : StoreOf lim store × Holds lim t store
  reached_tables =
      let (u, roomy, holds, order) = reached_holds lim log store r in
      let e : u ≡ t = in_order_one lim fresh u t log order o in
      (holds_store lim u store roomy holds, subst (λ (x : Tables). Holds lim x store) e holds)

  -- JOINED: a row's bytes are the text of the tables after the settings taken, in order, or the row's number
  pub joined : (scratch : List ℕ) (row : Row) (a : AfterRow) → 36 ≤ length scratch → Answers (showing lim store scratch row) a → RowBytes (caption t row) (bytes_of a.part store a.scratch)
  joined scratch row a big x = whole_text lim store row scratch a x t reached_tables.0 reached_tables.1 big

  -- JOINED NUMBER: 0 for a row of those tables, 17 for any other
  pub joined_number : (scratch : List ℕ) (row : Row) (n : ℕ) → 36 ≤ length scratch → Answers (numbering lim store scratch row) n → RowNumber (caption t row) n
  joined_number scratch row n big x = by x (caption t row) refl
    where
      by : Answers (numbering lim store scratch row) n → (c : Option Caption) → caption t row ≡ c → RowNumber c n
      by (inl (l, e)) c k = absurd (omega arith)
      by (inr (l, inl (never, e))) c k = absurd (never reached_tables.0)
      by (inr (l, inr (s, inl (none_there, e)))) c k = subst (λ (d : Option Caption). RowNumber d n) (sym (none_there t reached_tables.1) ∙ k) e
      by (inr (l, inr (s, inr (some_there, e)))) none k = absurd (some_there (λ u h. ap (λ v. caption v row) (one_tables lim store u t h reached_tables.1) ∙ k))
      by (inr (l, inr (s, inr (some_there, e)))) (some c) k = e

  -- JOINED COUNTS: the counts' call answers 0 and the lengths of the lists of those tables
  pub joined_counts : (a : Told) → Answers (counting lim store) a → a ≡ counts_of t
  joined_counts a x = counts_are lim store t a reached_tables.0.roomy reached_tables.1 x

-- WHOLE PART: the part that the call gives of a store of these tables is the row's text or number, and empty for an absent row
pub whole_part : (lim : Limits) (store scratch : Bor (List ℕ)) (row : Row) (r : Bor (List ℕ)) (t : Tables) → StoreOf lim store.now → Holds lim t store.now → 36 ≤ length scratch.now
    → PartGiven lim store scratch row r → RowBytes (caption t row) r.now
whole_part lim store scratch row r t s h big g =
    subst (RowBytes (caption t row)) (sym g.bytes) (whole_text lim store.now row scratch.now g.after g.allowed t s h big)

-- JOINED PART: so it is of the tables after the settings taken, in order
pub joined_part : (lim : Limits) (log : List (List Setting)) (store scratch : Bor (List ℕ)) (row : Row) (r : Bor (List ℕ)) (t : Tables) → Reached lim log store.now → InOrder lim fresh log t → 36 ≤ length scratch.now
    → PartGiven lim store scratch row r → RowBytes (caption t row) r.now
joined_part lim log store scratch row r t x o = let (s, h) = reached_tables lim log store.now x t o in whole_part lim store scratch row r t s h

-- ---- a row's name

-- a name that is not empty is shown
name_bytes : (Number : Text → Type 0) (us : Text) (d : Display) → us ≢ [] → text_or us Number d → units d ≡ us
name_bytes Number [] d n s = absurd (n refl)
name_bytes Number (u ∷ us) d n s = ap units s

shown_name : (c : Caption) (d : Display) → text_of c ≢ [] → Displays c d → units d ≡ text_of c
shown_name (text us) d n s = ap units s
shown_name (line us ds) d n s = name_bytes _ us d n s
shown_name (group us a) d n s = name_bytes _ us d n s
shown_name (individual us a) d n s = name_bytes _ us d n s

pub named_bytes : (c : Caption) (bytes : List ℕ) → text_of c ≢ [] → RowBytes (some c) bytes → bytes ≡ unit_bytes (text_of c)
named_bytes c bytes n (d, shown, is) = is ∙ ap unit_bytes (shown_name c d n shown)

-- ROW NAME: the part of a row whose text is not empty is that text
pub row_name : (lim : Limits) (log : List (List Setting)) (store scratch : Bor (List ℕ)) (row : Row) (r : Bor (List ℕ)) (t : Tables) → Reached lim log store.now → InOrder lim fresh log t → 36 ≤ length scratch.now
    → PartGiven lim store scratch row r → (c : Caption) → caption t row ≡ some c → text_of c ≢ [] → r.now ≡ unit_bytes (text_of c)
row_name lim log store scratch row r t x o big p c e n =
    named_bytes c r.now n (subst (λ (k : Option Caption). RowBytes k r.now) e (joined_part lim log store scratch row r t x o big p))

-- what is shown of a group is its text and its address
pub group_shows : (g : GroupMember) (c : Caption) → group_row g ≡ some c → c ≡ group g.text g.address
group_shows g c e = go (eqb g.flags.attribute 1) e
  where
    go : (b : Bool) → cond b none (some (group g.text g.address)) ≡ some c → c ≡ group g.text g.address
    go true k = absurd (option_none_ne_some c k)
    go false k = sym (option_some_injective (group g.text g.address) c k)

-- what comes of an entry comes of one that is there
pub came_of : {A B : Type 0} (o : Option A) (f : A → Option B) (b : B) → and_then o f ≡ some b → (a : A) × (o ≡ some a) × (f a ≡ some b)
came_of none f b e = absurd (option_none_ne_some b e)
came_of (some a) f b e = (a, refl, e)

-- a place that holds something is one of the table's
pub in_table : {A : Type 0} (os : List (Option A)) (i : ℕ) (a : A) → get_or os i none ≡ some a → i < length os
in_table [] i a e = absurd (option_none_ne_some a e)
in_table (o ∷ os) zero a e = omega arith
in_table (o ∷ os) (suc i) a e = let h : i < length os = in_table os i a e in omega (arith, h)

in_slots : {A : Type 0} (os : List (Option A)) (i : ℕ) (a : A) → length os ≡ slot_places → get_or os i none ≡ some a → i < slot_places
in_slots os i a many e = subst (λ (n : ℕ). i < n) many (in_table os i a e)

-- ---- names and addresses

module _ (lim : Limits) (log : List (List Setting)) (t : Tables) (o : InOrder lim fresh log t) (i : ℕ) (h : i < slot_places) where
  -- GROUP SENT: a group slot holds a member exactly if the last setting for it sent that member, name and address together
  pub group_sent : (g : GroupMember) → (get_or t.groups i none ≡ some g) ↔ LastSent (to_group i) (all_of log) g
  group_sent = sent_exactly (λ x. get_or x.groups i none) (λ x. i < length x.groups) (to_group i) (group_places i) lim log t o h (get_or-replicate slot_places i none none h)

  -- INDIVIDUAL SENT: and so does an individual slot
  pub individual_sent : (g : IndividualMember) → (get_or t.individuals i none ≡ some g) ↔ LastSent (to_individual i) (all_of log) g
  individual_sent = sent_exactly (λ x. get_or x.individuals i none) (λ x. i < length x.individuals) (to_individual i) (individual_places i) lim log t o h (get_or-replicate slot_places i none none h)

  -- LINE SLOT SENT: and a line slot, name and number together
  pub line_slot_sent : (l : Line) → (get_or t.line_slots i none ≡ some l) ↔ LastSent (to_line_slot i) (all_of log) l
  line_slot_sent = sent_exactly (λ x. get_or x.line_slots i none) (λ x. i < length x.line_slots) (to_line_slot i) (line_slot_places i) lim log t o h (get_or-replicate slot_places i none none h)

module _ (lim : Limits) (log : List (List Setting)) (store scratch : Bor (List ℕ)) (r : Bor (List ℕ)) (t : Tables) (x : Reached lim log store.now) (o : InOrder lim fresh log t) (big : 36 ≤ length scratch.now) (i : ℕ) (h : i < slot_places) where
  -- GROUP NAME: the name shown beside a group's address is the one that was last sent with it; a background group has no row
  pub group_name : (g : GroupMember) → LastSent (to_group i) (all_of log) g → g.flags.attribute ≢ 1 → g.text ≢ [] → PartGiven lim store scratch (Group i) r → r.now ≡ unit_bytes g.text
  group_name g s k n p =
      row_name lim log store scratch (Group i) r t x o big p (group g.text g.address) (group_shown {t = t} (in_slot {n = i} ((group_sent lim log t o i h g).1 s)) k) n

  -- INDIVIDUAL NAME: the same of an individual's
  pub individual_name : (g : IndividualMember) → LastSent (to_individual i) (all_of log) g → g.text ≢ [] → PartGiven lim store scratch (Individual i) r → r.now ≡ unit_bytes g.text
  individual_name g s n p =
      row_name lim log store scratch (Individual i) r t x o big p (individual_row g) (ap (of individual_row) ((individual_sent lim log t o i h g).1 s)) n

  -- LINE SLOT NAME: and of a line slot's number
  pub line_slot_name : (l : Line) → LastSent (to_line_slot i) (all_of log) l → l.text ≢ [] → PartGiven lim store scratch (LineSlot i) r → r.now ≡ unit_bytes l.text
  line_slot_name l s n p = row_name lim log store scratch (LineSlot i) r t x o big p (line_row l) (ap (of line_row) ((line_slot_sent lim log t o i h l).1 s)) n

module _ (lim : Limits) (log : List (List Setting)) (store : List ℕ) (x : Reached lim log store) (t : Tables) (o : InOrder lim fresh log t) (i : ℕ) where
  -- GROUP HELD: the member in a group slot is the one that was last sent for that slot
  pub group_held : (g : GroupMember) → get_or t.groups i none ≡ some g → LastSent (to_group i) (all_of log) g
  group_held g is = (group_sent lim log t o i (in_slots t.groups i g (reached_tables lim log store x t o).1.0.groups.0 is) g).0 is

  -- INDIVIDUAL HELD: and that in an individual slot
  pub individual_held : (g : IndividualMember) → get_or t.individuals i none ≡ some g → LastSent (to_individual i) (all_of log) g
  individual_held g is = (individual_sent lim log t o i (in_slots t.individuals i g (reached_tables lim log store x t o).1.0.individuals.0 is) g).0 is

  -- LINE SLOT HELD: and the line in a line slot
  pub line_slot_held : (l : Line) → get_or t.line_slots i none ≡ some l → LastSent (to_line_slot i) (all_of log) l
  line_slot_held l is = (line_slot_sent lim log t o i (in_slots t.line_slots i l (reached_tables lim log store x t o).1.0.line_slots.0 is) l).0 is

  module _ (c : Caption) where
    -- GROUP ROW SENT: what stands in a group row, name and address, was sent in one setting, the last for that slot
    pub group_row_sent : caption t (Group i) ≡ some c → (g : GroupMember) × LastSent (to_group i) (all_of log) g × (c ≡ group g.text g.address)
    group_row_sent e = let (g, is, d) = came_of (get_or t.groups i none) group_row c e in (g, group_held g is, group_shows g c d)

    -- INDIVIDUAL ROW SENT: and in an individual row
    pub individual_row_sent : caption t (Individual i) ≡ some c → (g : IndividualMember) × LastSent (to_individual i) (all_of log) g × (c ≡ individual g.text g.address)
    individual_row_sent e = let (g, is, d) = from_entry individual_row (get_or t.individuals i none) e in (g, individual_held g is, d)

    -- LINE SLOT ROW SENT: and in the row of a line slot
    pub line_slot_row_sent : caption t (LineSlot i) ≡ some c → (l : Line) × LastSent (to_line_slot i) (all_of log) l × (c ≡ line l.text l.number)
    line_slot_row_sent e = let (l, is, d) = from_entry line_row (get_or t.line_slots i none) e in (l, line_slot_held l is, d)
