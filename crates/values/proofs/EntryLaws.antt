-- What a row's slot keeps, and what is answered of it. Assumes nothing.
use Rattle.lists.proofs.Kit.{ℕ, suc, ◌+◌, ◌-◌, ◌*◌, ◌≤◌, ◌≡◌, refl, sym, ap, ap₂, ◌∙◌, subst, ◌⊎◌, inl, inr, true, false, true≢false, List, [], ◌∷◌, map, Option, none, some, option_none_ne_some, arith, mid_of, mid_len, eqb, length, take, drop, get_or, length-map, take_at, take-take}
use denote.Enum.Declared.{tag_of}
use types.Run.{OneOf}
use Rattle.lists.specs.Every.{All}
use Rattle.lists.specs.Ladder.{Answers, rung, foot}
use Rattle.slots.specs.Slots.{zeros?, front, u24, Placed, Listed}
use Rattle.slots.proofs.Keys.{Keyed, keyed_shown}
use Rattle.writing.specs.declared.LineFlags.{LineFlags}
use Rattle.writing.specs.declared.GroupFlags.{GroupFlags}
use Rattle.writing.specs.declared.IndividualFlags.{IndividualFlags}
use Rattle.tables.specs.declared.limits.Limits.{Limits}
use Rattle.tables.specs.declared.limits.Texts.{Texts}
use Rattle.tables.specs.declared.limits.Texts.TheVariants.{Placed as InPlaces, Shared}
use Rattle.tables.specs.Allowed.{Allowed, GroupOk, IndividualOk, LineOk}
use Rattle.tables.specs.Forms.{region_start, slot_width, group_as, individual_as, line_as}
use Rattle.tables.specs.Heads.{member_own, line_own}
use Rattle.tables.specs.Layout.{count_size, text_bytes}
use Rattle.tables.specs.Limits.{slot_places, contact_places}
use Rattle.tables.specs.Store.{StoreOf, Holds}
use Rattle.tables.specs.Tables.{Line as LineEntry, GroupMember, IndividualMember, Tables}
use Rattle.tables.proofs.TextCodes.{digits_length}
use Rattle.shared_texts.proofs.Forms.{layout_one}
use Rattle.shared_texts.proofs.FormFrames.{short_units, group_slots, individual_slots, line_slots, group_contact_slots, individual_contact_slots, line_contact_slots}
use Rattle.shared_texts.proofs.FormLists.{line_as_keyed, group_as_keyed, individual_as_keyed}
use Rattle.screen.specs.declared.names.Slot.{Slot}
use Rattle.std.specs.Prelude.{Option as Maybe, Some, None}
use Rattle.screen.specs.declared.rows.Row.{Row}
use Rattle.screen.specs.declared.rows.Row.TheVariants.{Line, QuickText, StatusText, Group, Individual, GroupContact, IndividualContact, LineSlot, NoTable}
use Rattle.screen.specs.Naming.{Slotted, SlotIs}
use Rattle.screen.specs.Rows.{of}
use Rattle.screen.proofs.EntryLaws.{slot_entry, slot_none, listed_placed, none_past}
use Rattle.screen.proofs.NameLaws.{Here, at_case, found_fits}
use Rattle.screen.proofs.SeenLaws.{front_get}
use Rattle.screen.specs.contracts.rows.Row.{the_type}
use Rattle.std.specs.Prelude.{Result, Ok, Err}
use Rattle.values.specs.declared.answers.NoValue.{NoValue}
use Rattle.values.specs.declared.answers.NoValue.TheVariants.{Absent}
use Rattle.values.specs.declared.answers.Target.{Target}
use Rattle.values.specs.declared.answers.Target.TheVariants.{Line as ToLine, Group as ToGroup, Individual as ToIndividual}
use Rattle.values.specs.Entries.{LineFlagsAre, GroupFlagsAre, IndividualFlagsAre, Standing, line, group, individual, standing, target_of, line_own_bytes, group_own_bytes, individual_own_bytes, own_bytes, EntryOk, kind_is, kind_of, own_of, Kept, text, entry, Filled, Reads, either, said, TargetIs}
use Rattle.values.specs.Values.{line_target, group_target, individual_target, entry_at, entering, told}

-- ---- a row's slot

-- the bytes of its own that a slot has
abbrev pub own_part : Slot → List ℕ → List ℕ
own_part slot s = mid_of slot.start (slot.text - slot.start) s

-- what a slot says of what stands behind its row
record InSlot (row : Row) (s : List ℕ) (slot : Slot) (o : Option Standing) : Type 0 where
  gone : zeros? (mid_of slot.start (slot.end - slot.start) s) ≡ true → o ≡ none
  kept : zeros? (mid_of slot.start (slot.end - slot.start) s) ≡ false → Kept row (own_part slot s) o

-- how the entries of a table stand behind rows: slots of w bytes, of which the first h are their own
record Stands {A : Type 0} (P : A → Type 0) (w h : ℕ) (f : A → List ℕ) (k : ℕ) (as_one : A → Standing) : Type 0 where
  inside : h ≤ w
  long : (a : A) → length (f a) ≡ w
  shown : (a : A) → P a → zeros? (f a) ≡ false
  ok : (a : A) → P a → EntryOk (as_one a)
  own : (a : A) → take h (f a) ≡ own_bytes (as_one a)
  kind : (a : A) → k ≡ kind_is (as_one a)

-- IN-TABLE: a slot of a table
in_table : {A : Type 0} {P : A → Type 0} {w h : ℕ} {f : A → List ℕ} {k : ℕ} {as_one : A → Standing} (x : Stands P w h f k as_one) (row : Row) → kind_of row ≡ k
    → (n base : ℕ) (os : List (Option A)) {s l : List ℕ} (same : s ≡ l) (p : Placed P w f n os (mid_of base (n * w) l)) (i : ℕ) (slot : Slot) (at : Slotted base n i w h (Some slot))
    → InSlot row s slot (of as_one (get_or os i none))
in_table {w = w} {h = h} {as_one = as_one} x row r n base os {s} same p i slot at =
    record {
      gone = λ z. ap (of as_one) (slot_none x.long h n base os same p i slot at x.shown z);
      kept = λ z.
          let (a, e, q, b) = slot_entry x.long h n base os same p i slot at z in
          let v : slot.text - slot.start ≡ h = omega (arith, at.1, at.2) in
          let o : own_part slot s ≡ own_bytes (as_one a)
          = ap (λ (j : ℕ). mid_of slot.start j s) v ∙ sym (take-take h w (drop slot.start s) x.inside) ∙ ap (take h) b ∙ x.own a in
          subst (Kept row (own_part slot s)) (sym (ap (of as_one) e)) (entry (as_one a) (r ∙ x.kind a) (x.ok a q) o);
    }

-- and one of a list
in_list : {A : Type 0} {P : A → Type 0} {w h : ℕ} {f : A → List ℕ} {k : ℕ} {as_one : A → Standing} (x : Stands P w h f k as_one) (row : Row) → kind_of row ≡ k
    → (n base : ℕ) (xs : List A) {s l : List ℕ} (same : s ≡ l) (p : Listed P w f n xs (mid_of base (n * w) l)) (i : ℕ) (slot : Slot) (at : Slotted base n i w h (Some slot))
    → InSlot row s slot (of as_one (get_or (map some xs) i none))
in_list {A = A} {as_one = as_one} x row r n base xs {s} same p i slot at =
    subst (λ (o : Option A). InSlot row s slot (of as_one o)) (front_get n xs i at.0) (in_table x row r n base (front n xs) same (listed_placed p) i slot at)

-- ---- entries in either form

-- entries that have a key behind their flags stand so
keyed_stands : {A : Type 0} {P : A → Type 0} {w o m : ℕ} {f key : A → List ℕ} (d : Keyed P w f o m key) (h k : ℕ) (as_one : A → Standing)
    → h ≤ w → ((a : A) → P a → EntryOk (as_one a)) → ((a : A) → take h (f a) ≡ own_bytes (as_one a)) → ((a : A) → k ≡ kind_is (as_one a)) → Stands P w h f k as_one
keyed_stands {P = P} {w = w} {o = o} {m = m} {f = f} {key = key} d h k as_one inside ok own kind =
    record { inside = inside; long = d.long; shown = keyed_shown P w f o m key d; ok = ok; own = own; kind = kind }

-- a slot holds the bytes of its own
own_inside : (x : Texts) (h n : ℕ) → h ≤ slot_width x h n
own_inside InPlaces h n = omega arith
own_inside (Shared a) h n = omega arith

module _ (x : Texts) where
  lines : Stands LineOk (slot_width x line_own short_units) line_own (line_as x) 1 line
  lines = keyed_stands (line_as_keyed x) line_own 1 line (own_inside x line_own short_units) (λ l p. p) (own x) (λ l. refl)
    where
      long : (l : LineEntry) → length (line_own_bytes l) ≡ line_own
      long l = ap (λ (i : ℕ). suc (suc i)) (digits_length l.number)

      own : (x : Texts) (l : LineEntry) → take line_own (line_as x l) ≡ line_own_bytes l
      own InPlaces l = take_at (line_own_bytes l) (text_bytes short_units l.text) line_own (long l)
      own (Shared a) l = take_at (line_own_bytes l) (length l.text ∷ []) line_own (long l)

  groups : Stands GroupOk (slot_width x member_own short_units) member_own (group_as x) 2 group
  groups = keyed_stands (group_as_keyed x) member_own 2 group (own_inside x member_own short_units) (λ g p. p) (own x) (λ g. refl)
    where
      own : (x : Texts) (g : GroupMember) → take member_own (group_as x g) ≡ group_own_bytes g
      own InPlaces g = refl
      own (Shared a) g = refl

  individuals : Stands IndividualOk (slot_width x member_own short_units) member_own (individual_as x) 3 individual
  individuals = keyed_stands (individual_as_keyed x) member_own 3 individual (own_inside x member_own short_units) (λ i p. p) (own x) (λ i. refl)
    where
      own : (x : Texts) (i : IndividualMember) → take member_own (individual_as x i) ≡ individual_own_bytes i
      own InPlaces i = refl
      own (Shared a) i = refl

-- a text names nothing
in_text : (row : Row) (s : List ℕ) (slot : Slot) → kind_of row ≡ 0 → InSlot row s slot none
in_text row s slot k = record { gone = λ z. refl; kept = λ z. text k }

-- ROW-KEPT: a row's slot keeps what stands behind the row
row_kept : (lim : Limits) (t : Tables) (s : List ℕ) (row : Row) (slot : Slot) → Holds lim t s → SlotIs lim row (Some slot) → InSlot row s slot (standing t row)
row_kept lim t s (Line n) slot (ok, e) z = in_list (lines lim.texts) (Line n) refl lim.lines (region_start lim 12 + count_size) t.lines e (line_contact_slots lim t ok) n slot z
row_kept lim t s (QuickText n) slot h z = in_text (QuickText n) s slot refl
row_kept lim t s (StatusText n) slot h z = in_text (StatusText n) s slot refl
row_kept lim t s (Group n) slot (ok, e) z = in_table (groups lim.texts) (Group n) refl slot_places (region_start lim 6) t.groups e (group_slots lim t ok) n slot z
row_kept lim t s (Individual n) slot (ok, e) z = in_table (individuals lim.texts) (Individual n) refl slot_places (region_start lim 7) t.individuals e (individual_slots lim t ok) n slot z
row_kept lim t s (GroupContact n) slot (ok, e) z =
    in_list (groups lim.texts) (GroupContact n) refl contact_places (region_start lim 9 + count_size) t.group_contacts e (group_contact_slots lim t ok) n slot z
row_kept lim t s (IndividualContact n) slot (ok, e) z =
    in_list (individuals lim.texts) (IndividualContact n) refl contact_places (region_start lim 10 + count_size) t.individual_contacts e (individual_contact_slots lim t ok) n slot z
row_kept lim t s (LineSlot n) slot (ok, e) z = in_table (lines lim.texts) (LineSlot n) refl slot_places (region_start lim 8) t.line_slots e (line_slots lim t ok) n slot z
row_kept lim t s NoTable slot h z = absurd z

-- OWN-BEHIND: and it has as many bytes of its own as the row says
own_behind : (lim : Limits) (row : Row) (slot : Slot) → SlotIs lim row (Some slot) → slot.text ≡ slot.start + own_of row
own_behind lim (Line n) slot z = omega (arith, z.1, z.2)
own_behind lim (QuickText n) slot z = omega (arith, z.1, z.2)
own_behind lim (StatusText n) slot (h, z) = omega (arith, z.1, z.2)
own_behind lim (Group n) slot z = omega (arith, z.1, z.2)
own_behind lim (Individual n) slot z = omega (arith, z.1, z.2)
own_behind lim (GroupContact n) slot z = omega (arith, z.1, z.2)
own_behind lim (IndividualContact n) slot z = omega (arith, z.1, z.2)
own_behind lim (LineSlot n) slot z = omega (arith, z.1, z.2)
own_behind lim NoTable slot z = absurd z

-- ROW-BEYOND: behind a row that has no slot nothing stands
row_beyond : (lim : Limits) (t : Tables) → Allowed lim t → (row : Row) → SlotIs lim row None → standing t row ≡ none
row_beyond lim t ok (Line n) x = none_past (of line) (map some t.lines) n refl (omega (arith, length-map t.lines some, ok.lines.0))
row_beyond lim t ok (QuickText n) x = refl
row_beyond lim t ok (StatusText n) x = refl
row_beyond lim t ok (Group n) x = none_past (of group) t.groups n refl (omega (arith, ok.groups.0))
row_beyond lim t ok (Individual n) x = none_past (of individual) t.individuals n refl (omega (arith, ok.individuals.0))
row_beyond lim t ok (GroupContact n) x = none_past (of group) (map some t.group_contacts) n refl (omega (arith, length-map t.group_contacts some, ok.group_contacts.0))
row_beyond lim t ok (IndividualContact n) x = none_past (of individual) (map some t.individual_contacts) n refl (omega (arith, length-map t.individual_contacts some, ok.individual_contacts.0))
row_beyond lim t ok (LineSlot n) x = none_past (of line) t.line_slots n refl (omega (arith, ok.line_slots.0))
row_beyond lim t ok NoTable x = refl

-- ---- the slot that was found

pub filled_beyond : (lim : Limits) (s : List ℕ) (row : Row) (r : Maybe Slot) → SlotIs lim row r → r ≡ None → Filled lim s row None
filled_beyond lim s row r x e t h = row_beyond lim t h.0 row (subst (SlotIs lim row) e x)

module _ {lim : Limits} {s : List ℕ} {row : Row} {slot : Slot} (h : Here lim s row slot) where
  pub filled_gone : zeros? (mid_of slot.start (slot.end - slot.start) s) ≡ true → Filled lim s row None
  filled_gone z t o = (row_kept lim t s row slot o h.is).gone z

  pub filled_here : zeros? (mid_of slot.start (slot.end - slot.start) s) ≡ false → Filled lim s row (Some slot)
  filled_here z =
      let f = found_fits h in
      (own_behind lim row slot h.is, omega (arith, f.ends, f.inside), λ t o. (row_kept lim t s row slot o h.is).kept z)

-- its own bytes lie in the store
pub record SlotIn (s : List ℕ) (row : Row) (slot : Slot) : Type 0 where
  pub own : slot.text ≡ slot.start + own_of row
  pub inside : slot.text ≤ length s
  pub many : own_of row ≤ length (own_part slot s)

pub slot_in : (lim : Limits) (s : List ℕ) (row : Row) {place : Maybe Slot} (slot : Slot) → Filled lim s row place → place ≡ Some slot → SlotIn s row slot
slot_in lim s row slot f e =
    let g = subst (Filled lim s row) e f in
    record { own = g.0; inside = g.1; many = omega (arith, g.0, mid_len slot.start slot.text s g.1) }

-- ---- what is read of a slot

-- the kinds of the rows in their order
abbrev kind_at : ℕ → ℕ
kind_at n = get_or (1 ∷ 0 ∷ 0 ∷ 2 ∷ 3 ∷ 2 ∷ 3 ∷ 1 ∷ []) n 0

kind_by : (row : Row) → kind_at (tag_of the_type row) ≡ kind_of row
kind_by (Line n) = refl
kind_by (QuickText n) = refl
kind_by (StatusText n) = refl
kind_by (Group n) = refl
kind_by (Individual n) = refl
kind_by (GroupContact n) = refl
kind_by (IndividualContact n) = refl
kind_by (LineSlot n) = refl
kind_by NoTable = refl

-- the kind of a row that is one of some cases
row_kind : (row : Row) (k : ℕ) (ks : List ℕ) → All (λ i. kind_at i ≡ k) ks → OneOf ks (tag_of the_type row) → kind_of row ≡ k
row_kind row k ks same one = sym (kind_by row) ∙ at_case kind_at k ks (tag_of the_type row) same one

-- those of the rows that have entries, and of the others
pub line_kind : (row : Row) → OneOf (0 ∷ 7 ∷ []) (tag_of the_type row) → kind_of row ≡ 1
line_kind row = row_kind row 1 (0 ∷ 7 ∷ []) (refl, (refl, tt))

pub group_kind : (row : Row) → OneOf (3 ∷ 5 ∷ []) (tag_of the_type row) → kind_of row ≡ 2
group_kind row = row_kind row 2 (3 ∷ 5 ∷ []) (refl, (refl, tt))

pub individual_kind : (row : Row) → OneOf (4 ∷ 6 ∷ []) (tag_of the_type row) → kind_of row ≡ 3
individual_kind row = row_kind row 3 (4 ∷ 6 ∷ []) (refl, (refl, tt))

pub text_kind : (row : Row) → OneOf (1 ∷ 2 ∷ 8 ∷ []) (tag_of the_type row) → kind_of row ≡ 0
text_kind row = row_kind row 0 (1 ∷ 2 ∷ 8 ∷ []) (refl, (refl, (refl, tt)))

-- how many bytes of its own the slot of a row has by its kind, a text's aside
abbrev pub own_at : ℕ → ℕ
own_at k = get_or (0 ∷ line_own ∷ member_own ∷ member_own ∷ []) k 0

own_by : (row : Row) → own_at (kind_of row) ≤ own_of row
own_by (Line n) = omega arith
own_by (QuickText n) = omega arith
own_by (StatusText n) = omega arith
own_by (Group n) = omega arith
own_by (Individual n) = omega arith
own_by (GroupContact n) = omega arith
own_by (IndividualContact n) = omega arith
own_by (LineSlot n) = omega arith
own_by NoTable = omega arith

-- KIND-WIDE: so bytes that are enough for the row are enough for what its kind reads
pub kind_wide : (row : Row) (k n : ℕ) → kind_of row ≡ k → own_of row ≤ n → own_at k ≤ n
kind_wide row k n e h = let b = own_by row in subst (λ (i : ℕ). own_at i ≤ n) e (omega (arith, b))

-- and those that are no lines
pub no_line : (row : Row) → OneOf (1 ∷ 2 ∷ 3 ∷ 4 ∷ 5 ∷ 6 ∷ 8 ∷ []) (tag_of the_type row) → kind_of row ≡ 1 → ⊥
no_line row one e =
    true≢false
    (sym (ap (λ k. eqb k 1) (kind_by row ∙ e))
    ∙ at_case (λ n. eqb (kind_at n) 1) false (1 ∷ 2 ∷ 3 ∷ 4 ∷ 5 ∷ 6 ∷ 8 ∷ []) (tag_of the_type row) (refl, (refl, (refl, (refl, (refl, (refl, (refl, tt))))))) one)

-- the target of a slot's bytes, by kind: its flags, and the address behind them
pub line_reads : (slot : List ℕ) (f : LineFlags) → LineFlagsAre (get_or slot 0 0) (get_or slot 1 0) f → Reads LineOk line_own_bytes line_target slot (ToLine f)
line_reads slot f is l ok e = ap ToLine (is l.flags ok.priority (ap (λ x. get_or x 0 0) e) (ap (λ x. get_or x 1 0) e))

pub group_reads : (slot : List ℕ) (f : GroupFlags) (a : ℕ) → GroupFlagsAre (get_or slot 0 0) f → ((b : ℕ) → mid_of 1 3 slot ≡ u24 b → a ≡ b) → Reads GroupOk group_own_bytes group_target slot (ToGroup f (record { 0 = a }))
group_reads slot f a is read g ok e =
    ap₂ (λ x y. ToGroup x (record { 0 = y })) (is g.flags ok.priority (ap (λ x. get_or x 0 0) e)) (read g.address.0 (ap (mid_of 1 3) e))

pub individual_reads : (slot : List ℕ) (f : IndividualFlags) (a : ℕ) → IndividualFlagsAre (get_or slot 0 0) f → ((b : ℕ) → mid_of 1 3 slot ≡ u24 b → a ≡ b) → Reads IndividualOk individual_own_bytes individual_target slot (ToIndividual f (record { 0 = a }))
individual_reads slot f a is read g ok e =
    ap₂ (λ x y. ToIndividual x (record { 0 = y })) (is g.flags ok.priority (ap (λ x. get_or x 0 0) e)) (read g.address.0 (ap (mid_of 1 3) e))

-- KIND-READ: what reads the entries of a row's kind reads what its slot keeps
kind_read : (row : Row) (slot : List ℕ) (r : Target) → ((x : Standing) → kind_of row ≡ kind_is x → EntryOk x → slot ≡ own_bytes x → r ≡ target_of x) → (kind_of row ≡ 0 → ⊥) → TargetIs row slot (Ok r)
kind_read row slot r read some_kind o (text k) = absurd (some_kind k)
kind_read row slot r read some_kind o (entry x k ok b) = ap (λ v. told (Ok v)) (read x k ok b)

pub line_read : (row : Row) (slot : List ℕ) (r : Target) → kind_of row ≡ 1 → Reads LineOk line_own_bytes line_target slot r → TargetIs row slot (Ok r)
line_read row slot r k read = kind_read row slot r by (λ z. omega arith)
  where
    by : (x : Standing) → kind_of row ≡ kind_is x → EntryOk x → slot ≡ own_bytes x → r ≡ target_of x
    by (line l) e ok b = read l ok b
    by (group g) e ok b = absurd (omega arith)
    by (individual i) e ok b = absurd (omega arith)

pub group_read : (row : Row) (slot : List ℕ) (r : Target) → kind_of row ≡ 2 → Reads GroupOk group_own_bytes group_target slot r → TargetIs row slot (Ok r)
group_read row slot r k read = kind_read row slot r by (λ z. omega arith)
  where
    by : (x : Standing) → kind_of row ≡ kind_is x → EntryOk x → slot ≡ own_bytes x → r ≡ target_of x
    by (group g) e ok b = read g ok b
    by (line l) e ok b = absurd (omega arith)
    by (individual i) e ok b = absurd (omega arith)

pub individual_read : (row : Row) (slot : List ℕ) (r : Target) → kind_of row ≡ 3 → Reads IndividualOk individual_own_bytes individual_target slot r → TargetIs row slot (Ok r)
individual_read row slot r k read = kind_read row slot r by (λ z. omega arith)
  where
    by : (x : Standing) → kind_of row ≡ kind_is x → EntryOk x → slot ≡ own_bytes x → r ≡ target_of x
    by (individual i) e ok b = read i ok b
    by (line l) e ok b = absurd (omega arith)
    by (group g) e ok b = absurd (omega arith)

pub text_read : (row : Row) (slot : List ℕ) → kind_of row ≡ 0 → TargetIs row slot (Err Absent)
text_read row slot k o (text z) = refl
text_read row slot k o (entry (line l) e ok b) = absurd (omega arith)
text_read row slot k o (entry (group g) e ok b) = absurd (omega arith)
text_read row slot k o (entry (individual i) e ok b) = absurd (omega arith)

-- ---- the answer

-- ANSWERED: of a store, what its tables have is answered, or that they have none
pub answered : {A B : Type 0} (lim : Limits) (what : Tables → Option A) (store : List ℕ) (s : StoreOf lim store) (no_one : B) (yes_one : A → B) (r : B)
    → ((t : Tables) → Holds lim t store → r ≡ either no_one yes_one (what t))
    → Answers (rung ((t : Tables) → Holds lim t store → what t ≡ none) no_one (foot (λ a. (t : Tables) × Holds lim t store × (v : A) × (what t ≡ some v) × (a ≡ yes_one v)))) r
answered {A} {B} lim what store s no_one yes_one r is = go (what t) refl (is t holds)
  where
    t : Tables
    t = s.store.tables

    holds : Holds lim t store
    holds = (s.store.allowed, s.store.bytes_are)

    go : (o : Option A) → what t ≡ o → r ≡ either no_one yes_one (what t)
        → (((t : Tables) → Holds lim t store → what t ≡ none) × (r ≡ no_one)) ⊎ ((((t : Tables) → Holds lim t store → what t ≡ none) → ⊥) × ((t : Tables) × Holds lim t store × (v : A) × (what t ≡ some v) × (r ≡ yes_one v)))
    go none e q = inl (λ u h. ap what (layout_one lim u t h.0 holds.0 (sym h.1 ∙ holds.1)) ∙ e, q ∙ ap (either no_one yes_one) e)
    go (some v) e q = inr (λ n. option_none_ne_some v (sym (n t holds) ∙ e), (t, holds, v, e, q ∙ ap (either no_one yes_one) e))

-- what is seen of an entry is seen of what stands there
pub seen_of : {A B : Type 0} (as_one : A → Standing) (see : Option A → Option B) (out : Option Standing → Option B) → see none ≡ out none → ((a : A) → see (some a) ≡ out (some (as_one a)))
    → (o : Option A) → see o ≡ out (of as_one o)
seen_of as_one see out p q none = p
seen_of as_one see out p q (some a) = q a

entry_stands : (t : Tables) (row : Row) → entry_at t row ≡ of target_of (standing t row)
entry_stands t (Line n) = seen_of line (of line_target) (of target_of) refl (λ l. refl) (get_or (map some t.lines) n none)
entry_stands t (QuickText n) = refl
entry_stands t (StatusText n) = refl
entry_stands t (Group n) = seen_of group (of group_target) (of target_of) refl (λ g. refl) (get_or t.groups n none)
entry_stands t (Individual n) = seen_of individual (of individual_target) (of target_of) refl (λ i. refl) (get_or t.individuals n none)
entry_stands t (GroupContact n) = seen_of group (of group_target) (of target_of) refl (λ g. refl) (get_or (map some t.group_contacts) n none)
entry_stands t (IndividualContact n) = seen_of individual (of individual_target) (of target_of) refl (λ i. refl) (get_or (map some t.individual_contacts) n none)
entry_stands t (LineSlot n) = seen_of line (of line_target) (of target_of) refl (λ l. refl) (get_or t.line_slots n none)
entry_stands t NoTable = refl

module _ {lim : Limits} {s : List ℕ} (row : Row) (store : StoreOf lim s) (place : Maybe Slot) (f : Filled lim s row place) where
  entered : (r : Result Target NoValue) → ((t : Tables) → Holds lim t s → told r ≡ said (of target_of (standing t row))) → Answers (entering lim row s) (told r)
  entered r is = inr (λ m. m store, answered lim (λ t. entry_at t row) s store _ _ (told r) (λ t h. is t h ∙ ap said (sym (entry_stands t row))))

  -- ENTRY-NONE: nothing stands there
  pub entry_none : place ≡ None → Answers (entering lim row s) (told (Err Absent))
  entry_none e = let g = subst (Filled lim s row) e f in entered (Err Absent) (λ t h. ap (λ o. said (of target_of o)) (sym (g t h)))

  -- ENTRY-THERE: what was read of the slot
  pub entry_there : (slot : Slot) → place ≡ Some slot → (r : Result Target NoValue) → TargetIs row (own_part slot s) r → Answers (entering lim row s) (told r)
  entry_there slot e r is = let g = subst (Filled lim s row) e f in entered r (λ t h. is (standing t row) (g.2 t h))
