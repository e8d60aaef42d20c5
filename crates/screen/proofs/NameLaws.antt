-- What is found in a row of a store is what stands there. Assumes nothing.
use Rattle.lists.proofs.Kit.{ℕ, ◌+◌, ◌*◌, ◌-◌, ◌/◌, ◌<◌, ◌≡◌, refl, sym, ap, ap₂, ◌∙◌, subst, ◌≢◌, inl, inr, Bool, true, false, cond, List, [], ◌∷◌, map, none, some, option_none_ne_some, arith, ltb-false, mid_of, eqb, ltb, length, get_or, length-map}
use denote.Enum.Declared.{tag_of}
use types.Run.{OneOf}
use Rattle.lists.specs.Every.{All}
use Rattle.slots.specs.Slots.{u24, zeros?}
use Rattle.writing.specs.Settings.{Text}
use Rattle.tables.specs.declared.limits.Limits.{Limits}
use Rattle.tables.specs.declared.limits.Texts.{Texts}
use Rattle.tables.specs.declared.limits.Texts.TheVariants.{Placed, Shared}
use Rattle.tables.specs.Allowed.{Allowed}
use Rattle.tables.specs.Apply.{and_then}
use Rattle.tables.specs.Layout.{digits_at}
use Rattle.tables.specs.Store.{StoreOf, Holds}
use Rattle.tables.specs.Tables.{Tables}
use Rattle.screen.specs.declared.areas.Span.{Span}
use Rattle.screen.specs.declared.names.Name.{Name}
use Rattle.screen.specs.declared.names.Name.TheVariants.{Refused, Text as TextAt, Digits, Group as GroupNumber, Individual as IndividualNumber}
use Rattle.screen.specs.declared.rows.Refusal.TheVariants.{Absent}
use Rattle.screen.specs.declared.names.Slot.{Slot}
use Rattle.std.specs.Prelude.{Option as Maybe, Some, None}
use Rattle.screen.specs.declared.rows.Row.{Row}
use Rattle.screen.specs.declared.rows.Row.TheVariants.{Line, QuickText, StatusText, Group, Individual, GroupContact, IndividualContact, LineSlot, NoTable}
use Rattle.screen.specs.contracts.rows.Row.{the_type}
use Rattle.screen.specs.Naming.{SlotIs, hidden, TextIs, NameIs, Named}
use Rattle.screen.specs.Rows.{Caption, text, line, group, individual, line_row, individual_row, group_row, caption, text_of, of, Displays, stored, start_by, text_start}
use Rattle.screen.proofs.EntryLaws.{kind_at, kind_of, HeadIn, Captioned, row_seen, none_past}
use Rattle.screen.proofs.SlotLaws.{SlotFits, slot_fits, head_at, text_behind}

-- ---- rows beyond the tables

-- a row that has no slot is absent
row_beyond : (lim : Limits) (t : Tables) → Allowed lim t → (row : Row) → SlotIs lim row None → caption t row ≡ none
row_beyond lim t ok (Line n) x = none_past (of line_row) (map some t.lines) n refl (omega (arith, length-map t.lines some, ok.lines.0))
row_beyond lim t ok (QuickText n) x = none_past (of text) t.quick n refl (omega (arith, ok.quick.0))
row_beyond lim t ok (StatusText n) x = go (ltb n 32) refl
  where
    go : (b : Bool) → ltb n 32 ≡ b → caption t (StatusText n) ≡ none
    go true e = rw e
    go false e = rw e (none_past (of text) t.status (n - 32) refl (omega (arith, ok.status.0, x (ltb-false n 32 e))))
row_beyond lim t ok (Group n) x = none_past (λ o. and_then o group_row) t.groups n refl (omega (arith, ok.groups.0))
row_beyond lim t ok (Individual n) x = none_past (of individual_row) t.individuals n refl (omega (arith, ok.individuals.0))
row_beyond lim t ok (GroupContact n) x =
    none_past (λ o. and_then o group_row) (map some t.group_contacts) n refl (omega (arith, length-map t.group_contacts some, ok.group_contacts.0))
row_beyond lim t ok (IndividualContact n) x =
    none_past (of individual_row) (map some t.individual_contacts) n refl (omega (arith, length-map t.individual_contacts some, ok.individual_contacts.0))
row_beyond lim t ok (LineSlot n) x = none_past (of line_row) t.line_slots n refl (omega (arith, ok.line_slots.0))
row_beyond lim t ok NoTable x = refl

pub named_beyond : (lim : Limits) (s : List ℕ) (row : Row) (r : Maybe Slot) → SlotIs lim row r → r ≡ None → NameIs lim s row (Refused Absent)
named_beyond lim s row r x e t h = row_beyond lim t h.0 row (subst (SlotIs lim row) e x)

-- ---- rows with a slot

-- no row's text stands at the store's first byte
pub text_starts_late : (lim : Limits) (t : Tables) (row : Row) (c : Caption) → caption t row ≡ some c → 0 < text_start lim t row
text_starts_late lim t row c e = go lim.texts row e
  where
    go : (x : Texts) (row : Row) → caption t row ≡ some c → 0 < start_by x lim t row
    go Placed (Line n) e = omega arith
    go Placed (QuickText n) e = omega arith
    go Placed (StatusText n) e = omega arith
    go Placed (Group n) e = omega arith
    go Placed (Individual n) e = omega arith
    go Placed (GroupContact n) e = omega arith
    go Placed (IndividualContact n) e = omega arith
    go Placed (LineSlot n) e = omega arith
    go Placed NoTable e = absurd (option_none_ne_some c e)
    go (Shared a) row e = omega arith

-- a text that is not empty is shown
shows_text : (c : Caption) → length (text_of c) ≢ 0 → Displays c (stored (text_of c))
shows_text (text us) n = refl
shows_text (line [] ds) n = absurd (n refl)
shows_text (line (u ∷ us) ds) n = refl
shows_text (group [] a) n = absurd (n refl)
shows_text (group (u ∷ us) a) n = refl
shows_text (individual [] a) n = absurd (n refl)
shows_text (individual (u ∷ us) a) n = refl

-- a text of no bytes is empty
no_units : (us : Text) → 0 ≡ 2 * length us → us ≡ []
no_units [] e = refl
no_units (u ∷ us) e = absurd (omega arith)

-- ---- rows by their case

-- the rows of each kind, and those that are no groups, by their case in the code
abbrev text_rows : List ℕ
text_rows = 1 ∷ 2 ∷ 8 ∷ []

abbrev line_rows : List ℕ
line_rows = 0 ∷ 7 ∷ []

abbrev group_rows : List ℕ
group_rows = 3 ∷ 5 ∷ []

abbrev individual_rows : List ℕ
individual_rows = 4 ∷ 6 ∷ []

abbrev other_rows : List ℕ
other_rows = 0 ∷ 1 ∷ 2 ∷ 4 ∷ 6 ∷ 7 ∷ 8 ∷ []

-- what is the same for each of some cases is that for a row of one of them
pub at_case : {A : Type 0} (f : ℕ → A) (a : A) (ks : List ℕ) (n : ℕ) → All (λ k. f k ≡ a) ks → OneOf ks n → f n ≡ a
at_case f a [] n h e = absurd e
at_case f a (k ∷ []) n h e = ap f e ∙ h.0
at_case f a (k ∷ j ∷ ks) n h (inl e) = ap f e ∙ h.0
at_case f a (k ∷ j ∷ ks) n h (inr e) = at_case f a (j ∷ ks) n h.1 e

-- only a group's flags can hide a row
hidden_by : (row : Row) (b : ℕ) → cond (eqb (kind_at (tag_of the_type row)) 2) (eqb (b / 64) 1) false ≡ hidden row b
hidden_by (Line n) b = refl
hidden_by (QuickText n) b = refl
hidden_by (StatusText n) b = refl
hidden_by (Group n) b = refl
hidden_by (Individual n) b = refl
hidden_by (GroupContact n) b = refl
hidden_by (IndividualContact n) b = refl
hidden_by (LineSlot n) b = refl
hidden_by NoTable b = refl

pub hidden_group : (row : Row) (b : ℕ) → OneOf group_rows (tag_of the_type row) → eqb (b / 64) 1 ≡ hidden row b
hidden_group row b k =
    let e : eqb (kind_at (tag_of the_type row)) 2 ≡ true = at_case (λ n. eqb (kind_at n) 2) true group_rows (tag_of the_type row) (refl, (refl, tt)) k in
    ap (λ g. cond g (eqb (b / 64) 1) false) (sym e) ∙ hidden_by row b

pub hidden_other : (row : Row) (b : ℕ) → OneOf other_rows (tag_of the_type row) → false ≡ hidden row b
hidden_other row b k =
    let e : eqb (kind_at (tag_of the_type row)) 2 ≡ false = at_case (λ n. eqb (kind_at n) 2) false other_rows (tag_of the_type row) (refl, (refl, (refl, (refl, (refl, (refl, (refl, tt))))))) k in
    ap (λ g. cond g (eqb (b / 64) 1) false) (sym e) ∙ hidden_by row b

-- ---- a slot in the store

-- a slot in the store, found for the row
pub record Here (lim : Limits) (s : List ℕ) (row : Row) (slot : Slot) : Type 0 where
  pub store : StoreOf lim s
  pub is : SlotIs lim row (Some slot)

pub here : {lim : Limits} {s : List ℕ} {row : Row} {r : Maybe Slot} {slot : Slot} → StoreOf lim s → SlotIs lim row r → r ≡ Some slot → Here lim s row slot
here {lim} {s} {row} store x e = record { store = store; is = subst (SlotIs lim row) e x }

module _ {lim : Limits} {s : List ℕ} {row : Row} {slot : Slot} (h : Here lim s row slot) where
  pub found_fits : SlotFits slot (length s)
  found_fits = subst (SlotFits slot) (sym h.store.size) (slot_fits lim.texts lim h.store.roomy h.store.roomy.area row slot h.is)

  -- the text of each of some cases stands so many bytes behind its slot's start
  text_at : (a : ℕ) (ks : List ℕ) → All (λ k. head_at k ≡ a) ks → OneOf ks (tag_of the_type row) → slot.text ≡ slot.start + a
  text_at a ks e k = text_behind lim.texts lim row slot h.is ∙ ap (λ i. slot.start + i) (at_case head_at a ks (tag_of the_type row) e k)

  -- a group's four
  pub group_text : OneOf group_rows (tag_of the_type row) → slot.text ≡ slot.start + 4
  group_text = text_at 4 group_rows (refl, (refl, tt))

  -- and an individual's
  pub individual_text : OneOf individual_rows (tag_of the_type row) → slot.text ≡ slot.start + 4
  individual_text = text_at 4 individual_rows (refl, (refl, tt))

  -- zeros are no row
  pub named_zeros : zeros? (mid_of slot.start (slot.end - slot.start) s) ≡ true → NameIs lim s row (Refused Absent)
  named_zeros z t o = (row_seen lim t s row slot o h.is).gone z

  -- and so are the flags of a background group
  pub named_hidden : zeros? (mid_of slot.start (slot.end - slot.start) s) ≡ false → hidden row (get_or s slot.start 0) ≡ true → NameIs lim s row (Refused Absent)
  named_hidden z y t o = (row_seen lim t s row slot o h.is).hides z y

-- a row that is there: its slot is not all zeros, and its flags do not hide it
pub record Shown (lim : Limits) (s : List ℕ) (row : Row) (slot : Slot) : Type 0 where
  pub found : Here lim s row slot
  pub filled : zeros? (mid_of slot.start (slot.end - slot.start) s) ≡ false
  pub not_hidden : hidden row (get_or s slot.start 0) ≡ false

module _ {lim : Limits} {s : List ℕ} {row : Row} {slot : Slot} (h : Shown lim s row slot) (x : Span) (f : TextIs lim s row x) where
  fits : SlotFits slot (length s)
  fits = found_fits h.found

  -- what the row's slot holds
  seen : (t : Tables) → Holds lim t s → Captioned lim.texts s slot row (caption t row)
  seen t o = (row_seen lim t s row slot o h.found.is).held h.filled h.not_hidden

  -- a text
  pub named_text : x.bytes ≢ 0 → NameIs lim s row (TextAt x.start x.bytes)
  named_text n t o =
      let c = seen t o in
      let (b, l, i) = f t o c.row_is c.there in
      (c.row_is, c.there, shows_text c.row_is (λ q. n (l ∙ ap (λ i. 2 * i) q)), b, l, i)

  module _ (zero_bytes : x.bytes ≡ 0) where
    -- the text is empty
    empty : (t : Tables) (o : Holds lim t s) → text_of (seen t o).row_is ≡ []
    empty t o = let c = seen t o in no_units (text_of c.row_is) (sym zero_bytes ∙ (f t o c.row_is c.there).1)

    -- what the row names, by its kind
    named_kind : (r : Name) (k : ℕ) (ks : List ℕ) → All (λ i. kind_at i ≡ k) ks → OneOf ks (tag_of the_type row)
        → ((t : Tables) → Holds lim t s → (d : Caption) → k ≡ kind_of d → caption t row ≡ some d → HeadIn s slot.start d → text_of d ≡ [] → Named lim t s row r) → NameIs lim s row r
    named_kind r k ks same one by t o =
        let c = seen t o in
        by t o c.row_is (sym (at_case kind_at k ks (tag_of the_type row) same one) ∙ c.kind) c.there c.head (empty t o)

    -- nothing: an empty text
    pub named_empty : OneOf text_rows (tag_of the_type row) → NameIs lim s row (TextAt x.start x.bytes)
    named_empty k = named_kind (TextAt x.start x.bytes) 0 text_rows (refl, (refl, (refl, tt))) k by
      where
        by : (t : Tables) → Holds lim t s → (d : Caption) → 0 ≡ kind_of d → caption t row ≡ some d → HeadIn s slot.start d → text_of d ≡ [] → Named lim t s row (TextAt x.start x.bytes)
        by t o (text us) e q w l = let (b, n, i) = f t o (text us) q in (text us, q, refl, b, n, i)
        by t o (line us ds) e q w l = absurd (omega arith)
        by t o (group us a) e q w l = absurd (omega arith)
        by t o (individual us a) e q w l = absurd (omega arith)

    -- a line's digits
    pub named_digits : OneOf line_rows (tag_of the_type row) → NameIs lim s row (Digits (slot.start + digits_at))
    named_digits k = named_kind (Digits (slot.start + digits_at)) 1 line_rows (refl, (refl, tt)) k by
      where
        by : (t : Tables) → Holds lim t s → (d : Caption) → 1 ≡ kind_of d → caption t row ≡ some d → HeadIn s slot.start d → text_of d ≡ [] → Named lim t s row (Digits (slot.start + digits_at))
        by t o (line us ds) e q w l =
            (ds, q ∙ ap (λ v. some (line v ds)) l, w.0, w.1, omega (arith, text_at h.found 20 line_rows (refl, (refl, tt)) k, fits.ends, fits.inside))
        by t o (text us) e q w l = absurd (omega arith)
        by t o (group us a) e q w l = absurd (omega arith)
        by t o (individual us a) e q w l = absurd (omega arith)

    module _ (a : ℕ) (read : (b : ℕ) → mid_of (slot.start + 1) (slot.text - (slot.start + 1)) s ≡ u24 b → a ≡ b) where
      -- the address that was read is the one that the slot keeps
      same_address : (b : ℕ) → slot.text ≡ slot.start + 4 → mid_of (slot.start + 1) 3 s ≡ u24 b → b ≡ a
      same_address b k w =
          let three : slot.text - (slot.start + 1) ≡ 3 = omega arith in
          sym (read b (ap (λ i. mid_of (slot.start + 1) i s) three ∙ w))

      -- a group's address
      pub named_group : OneOf group_rows (tag_of the_type row) → NameIs lim s row (GroupNumber (record { 0 = a }))
      named_group k = named_kind (GroupNumber (record { 0 = a })) 2 group_rows (refl, (refl, tt)) k by
        where
          by : (t : Tables) → Holds lim t s → (d : Caption) → 2 ≡ kind_of d → caption t row ≡ some d → HeadIn s slot.start d → text_of d ≡ [] → caption t row ≡ some (group [] (record { 0 = a }))
          by t o (group us b) e q w l = q ∙ ap₂ (λ v i. some (group v (record { 0 = i }))) l (same_address b.0 (group_text h.found k) w)
          by t o (text us) e q w l = absurd (omega arith)
          by t o (line us ds) e q w l = absurd (omega arith)
          by t o (individual us b) e q w l = absurd (omega arith)

      -- an individual's
      pub named_individual : OneOf individual_rows (tag_of the_type row) → NameIs lim s row (IndividualNumber (record { 0 = a }))
      named_individual k = named_kind (IndividualNumber (record { 0 = a })) 3 individual_rows (refl, (refl, tt)) k by
        where
          by : (t : Tables) → Holds lim t s → (d : Caption) → 3 ≡ kind_of d → caption t row ≡ some d → HeadIn s slot.start d → text_of d ≡ [] → caption t row ≡ some (individual [] (record { 0 = a }))
          by t o (individual us b) e q w l = q ∙ ap₂ (λ v i. some (individual v (record { 0 = i }))) l (same_address b.0 (individual_text h.found k) w)
          by t o (text us) e q w l = absurd (omega arith)
          by t o (line us ds) e q w l = absurd (omega arith)
          by t o (group us b) e q w l = absurd (omega arith)
