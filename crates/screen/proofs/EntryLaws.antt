-- The entries of the tables as captions, in either form of the store, and what each row shows of them. Assumes nothing.
use Rattle.lists.proofs.Kit.{ℕ, suc, ◌+◌, ◌*◌, ◌-◌, ◌/◌, ◌≤◌, ◌<◌, ◌≡◌, refl, sym, ap, ap₂, ◌∙◌, subst, Bool, true, false, true≢false, cond, List, [], ◌∷◌, ◌++◌, map, Option, none, some, option_none_ne_some, option_some_injective, arith, le-ltb, ltb-false, mid_of, eqb, ltb, length, take, drop, get_or, length-append, length-map, list_getD_eq_default, take-take, take_all, take_at, drop_at}
use denote.Enum.Declared.{tag_of}
use Rattle.slots.specs.Slots.{slot as slot_of, front, u24, zeros?, Placed, Listed}
use Rattle.slots.proofs.Tables.{front_length, all_front, place_none, place_some, place_read}
use Rattle.writing.specs.Ranges.{text_limits, InNumber}
use Rattle.writing.specs.Settings.{Text}
use Rattle.tables.specs.declared.limits.Limits.{Limits}
use Rattle.tables.specs.declared.limits.Texts.{Texts}
use Rattle.tables.specs.declared.limits.Texts.TheVariants.{Placed as InPlaces, Shared}
use Rattle.tables.specs.Allowed.{Allowed, TextOk, QuickOk, StatusOk, GroupOk, IndividualOk, LineOk}
use Rattle.tables.specs.Apply.{and_then}
use Rattle.tables.specs.Forms.{region_start, slot_width, quick_as, status_as, group_as, individual_as, line_as}
use Rattle.tables.specs.Heads.{text_halves, line_halves, member_halves, quick_own, status_own, member_own, line_own}
use Rattle.tables.specs.Layout.{text_bytes, group_flags, individual_flags, digit_bytes, digits_at, count_size}
use Rattle.tables.specs.LineHeads.{head_bytes}
use Rattle.tables.specs.Limits.{quick_places, status_places, slot_places, contact_places}
use Rattle.tables.specs.Store.{Holds}
use Rattle.tables.specs.Tables.{Line as LineEntry, GroupMember, IndividualMember, Tables}
use Rattle.tables.proofs.EntryCodes.{bit_small, quick_shown, group_shown, individual_shown, line_shown}
use Rattle.tables.proofs.TextCodes.{digits_length, text_length}
use Rattle.shared_texts.proofs.FormFrames.{quick_slots, status_slots, group_slots, individual_slots, line_slots, group_contact_slots, individual_contact_slots, line_contact_slots}
use Rattle.shared_texts.proofs.HeadCodes.{quick_kept, group_kept, individual_kept, line_kept}
use Rattle.screen.specs.declared.names.Slot.{Slot}
use Rattle.std.specs.Prelude.{Some}
use Rattle.screen.specs.declared.rows.Row.{Row}
use Rattle.screen.specs.declared.rows.Row.TheVariants.{Line, QuickText, StatusText, Group, Individual, GroupContact, IndividualContact, LineSlot, NoTable}
use Rattle.screen.specs.contracts.rows.Row.{the_type}
use Rattle.screen.specs.Naming.{Slotted, SlotIs, hidden}
use Rattle.screen.specs.Rows.{Caption, text, line, group, individual, line_row, individual_row, group_row, caption, text_of, of}
use Rattle.screen.proofs.SeenLaws.{part_part, part_known, part_first, front_get}
use Rattle.screen.proofs.SlotLaws.{slot_within}

-- ---- what a row's slot shows

-- the kind of the rows in their order, and that of a caption: 0 a text, 1 a line, 2 a group, 3 an individual
abbrev pub kind_at : ℕ → ℕ
kind_at n = get_or (1 ∷ 0 ∷ 0 ∷ 2 ∷ 3 ∷ 2 ∷ 3 ∷ 1 ∷ []) n 0

abbrev pub kind_of : Caption → ℕ
kind_of (text us) = 0
kind_of (line us ds) = 1
kind_of (group us a) = 2
kind_of (individual us a) = 3

-- the caption is of the row's kind
abbrev pub OfKind : Row → Caption → Type 0
OfKind row c = kind_at (tag_of the_type row) ≡ kind_of c

-- what the head of a slot keeps of a caption
abbrev pub HeadIn : List ℕ → ℕ → Caption → Type 0
HeadIn s start (text us) = Unit {0}
HeadIn s start (line us ds) = InNumber ds × (mid_of (start + digits_at) 18 s ≡ digit_bytes ds)
HeadIn s start (group us a) = mid_of (start + 1) 3 s ≡ u24 a.0
HeadIn s start (individual us a) = mid_of (start + 1) 3 s ≡ u24 a.0

-- what a slot keeps behind its own bytes: the text, in a place for n units, or how many units it has
abbrev pub kept_as : Texts → ℕ → Text → List ℕ
kept_as InPlaces n us = text_bytes n us
kept_as (Shared a) n us = length us ∷ []

-- a caption that a slot holds
pub record Captioned (x : Texts) (s : List ℕ) (slot : Slot) (row : Row) (o : Option Caption) : Type 0 where
  pub row_is : Caption
  pub there : o ≡ some row_is
  pub kind : OfKind row row_is
  pub head : HeadIn s slot.start row_is
  pub units : ℕ
  pub ok : TextOk units (text_of row_is)
  pub keeps : mid_of slot.text (slot.end - slot.text) s ≡ kept_as x units (text_of row_is)

-- what a slot shows of a row
pub record Seen (x : Texts) (s : List ℕ) (slot : Slot) (row : Row) (o : Option Caption) : Type 0 where
  pub gone : zeros? (mid_of slot.start (slot.end - slot.start) s) ≡ true → o ≡ none
  pub hides : zeros? (mid_of slot.start (slot.end - slot.start) s) ≡ false → hidden row (get_or s slot.start 0) ≡ true → o ≡ none
  pub held : zeros? (mid_of slot.start (slot.end - slot.start) s) ≡ false → hidden row (get_or s slot.start 0) ≡ false → Captioned x s slot row o

-- how the entries of a table are captions: what is kept of their text stands behind their own bytes, which are the same in both forms
pub record Entries {A : Type 0} (x : Texts) (P : A → Type 0) (own units : ℕ) (f : A → List ℕ) (cap : A → Caption) : Type 0 where
  pub first : A → List ℕ
  pub many : (a : A) → length (first a) ≡ own
  pub bytes : (a : A) → f a ≡ first a ++ kept_as x units (text_of (cap a))
  pub shown : (a : A) → P a → zeros? (f a) ≡ false
  pub some_unit : 0 < units
  pub ok : (a : A) → P a → TextOk units (text_of (cap a))
  pub head_in : (s : List ℕ) (start : ℕ) (a : A) → P a → mid_of start own s ≡ first a → HeadIn s start (cap a)

-- what is kept fills the slot
kept_wide : (x : Texts) (own n : ℕ) (us : Text) → own + length (kept_as x n us) ≡ slot_width x own n
kept_wide InPlaces own n us = ap (λ (i : ℕ). own + i) (text_length n us)
kept_wide (Shared a) own n us = omega arith

-- and no slot is empty
pub width_some : (x : Texts) (own n : ℕ) → 0 < n → 0 < slot_width x own n
width_some InPlaces own n h = omega arith
width_some (Shared a) own n h = omega arith

-- an entry fills its slot
pub entry_long : {A : Type 0} {x : Texts} {P : A → Type 0} {own units : ℕ} {f : A → List ℕ} {cap : A → Caption} → Entries x P own units f cap → (a : A) → length (f a) ≡ slot_width x own units
entry_long {x = x} {own = own} {units = units} {cap = cap} y a =
    ap length (y.bytes a) ∙ length-append (y.first a) (kept_as x units (text_of (cap a))) ∙ ap (λ (i : ℕ). i + length (kept_as x units (text_of (cap a)))) (y.many a) ∙ kept_wide x own units (text_of (cap a))

-- how a row sees the entries of its table: nothing of none and of a hidden one, and the caption of any other
record Sees {A : Type 0} (P : A → Type 0) (f : A → List ℕ) (cap : A → Caption) (row : Row) (see : Option A → Option Caption) : Type 0 where
  kind : (a : A) → OfKind row (cap a)
  absent : see none ≡ none
  hides : (a : A) → P a → hidden row (get_or (f a) 0 0) ≡ true → see (some a) ≡ none
  shows : (a : A) → P a → hidden row (get_or (f a) 0 0) ≡ false → see (some a) ≡ some (cap a)

-- a slot of a table, whatever its entries are
module _ {A : Type 0} {P : A → Type 0} {w : ℕ} {f : A → List ℕ} (long : (a : A) → length (f a) ≡ w)
    (h n base : ℕ) (os : List (Option A)) {s l : List ℕ} (same : s ≡ l) (p : Placed P w f n os (mid_of base (n * w) l)) (i : ℕ) (slot : Slot) (at : Slotted base n i w h (Some slot)) where
  -- the table's part of the store
  placed : Placed P w f n os (mid_of base (n * w) s)
  placed = subst (λ (v : List ℕ). Placed P w f n os (mid_of base (n * w) v)) (sym same) p

  -- the slot's width
  pub slot_wide : slot.end - slot.start ≡ w
  slot_wide = omega (arith, at.1, at.3)

  -- the slot, cut out of the table
  slot_here : mid_of (i * w) (i * w + w - i * w) (mid_of base (n * w) s) ≡ mid_of slot.start (slot.end - slot.start) s
  slot_here =
      let e : i * w + w - i * w ≡ slot.end - slot.start = omega (arith, slot_wide) in
      ap (λ j. mid_of (i * w) j (mid_of base (n * w) s)) e
      ∙ part_part s base (n * w) (i * w) (slot.end - slot.start) (omega (arith, slot_wide, slot_within i n w at.0))
      ∙ ap (λ b. mid_of b (slot.end - slot.start) s) (sym at.1)

  -- SLOT-ENTRY: what is not zeros is an entry
  pub slot_entry : zeros? (mid_of slot.start (slot.end - slot.start) s) ≡ false → (a : A) × (get_or os i none ≡ some a) × P a × (mid_of slot.start w s ≡ f a)
  slot_entry z =
      let (a, e, q) = place_some P w f long n os (mid_of base (n * w) s) placed i at.0 (ap zeros? slot_here ∙ z) in
      (a, e, q, ap (λ j. mid_of slot.start j s) (sym slot_wide) ∙ sym slot_here ∙ place_read P w f long n os (mid_of base (n * w) s) placed i at.0 ∙ ap (slot_of w f) e)

  -- SLOT-NONE: zeros are none
  pub slot_none : ((a : A) → P a → zeros? (f a) ≡ false) → zeros? (mid_of slot.start (slot.end - slot.start) s) ≡ true → get_or os i none ≡ none
  slot_none shown z = place_none P w f long n os (mid_of base (n * w) s) placed i at.0 shown (ap zeros? slot_here ∙ z)

-- the slots of a list are a table whose first places are used
pub listed_placed : {A : Type 0} {P : A → Type 0} {w : ℕ} {f : A → List ℕ} {n : ℕ} {xs : List A} {s : List ℕ} → Listed P w f n xs s → Placed P w f n (front n xs) s
listed_placed {P = P} {n = n} {xs = xs} p = record { many = front_length n xs; each = all_front P n xs p.each; bytes = p.bytes }

module _ {A : Type 0} {x : Texts} {P : A → Type 0} {own units : ℕ} {f : A → List ℕ} {cap : A → Caption} (y : Entries x P own units f cap) {row : Row} {see : Option A → Option Caption} (v : Sees P f cap row see)
    (n base : ℕ) (os : List (Option A)) {s l : List ℕ} (same : s ≡ l) (p : Placed P (slot_width x own units) f n os (mid_of base (n * slot_width x own units) l)) (i : ℕ) (slot : Slot) (at : Slotted base n i (slot_width x own units) own (Some slot)) where
  -- the slot's width
  abbrev w : ℕ
  w = slot_width x own units

  entry : zeros? (mid_of slot.start (slot.end - slot.start) s) ≡ false → (a : A) × (get_or os i none ≡ some a) × P a × (mid_of slot.start w s ≡ f a)
  entry = slot_entry (entry_long y) own n base os same p i slot at

  -- the first byte of an entry's slot
  first_byte : (a : A) → mid_of slot.start w s ≡ f a → get_or s slot.start 0 ≡ get_or (f a) 0 0
  first_byte a b = part_first s (f a) slot.start w (width_some x own units y.some_unit) b

  -- one that is hidden by its first byte is not seen
  hides : zeros? (mid_of slot.start (slot.end - slot.start) s) ≡ false → hidden row (get_or s slot.start 0) ≡ true → see (get_or os i none) ≡ none
  hides z h =
      let (a, e, q, b) = entry z in
      ap see e ∙ v.hides a q (ap (hidden row) (sym (first_byte a b)) ∙ h)

  -- what the slot of any other keeps
  held : zeros? (mid_of slot.start (slot.end - slot.start) s) ≡ false → hidden row (get_or s slot.start 0) ≡ false → Captioned x s slot row (see (get_or os i none))
  held z h =
      let (a, e, q, b) = entry z in
      let k : List ℕ = kept_as x units (text_of (cap a)) in
      let g : own + length k ≡ w = kept_wide x own units (text_of (cap a)) in
      let j : slot.text ≡ slot.start + own = omega (arith, at.1, at.2) in
      let d : slot.end - slot.text ≡ length k = omega (arith, at.2, at.3) in
      let o : mid_of slot.start own s ≡ y.first a
      = sym (take-take own w (drop slot.start s) (omega arith)) ∙ ap (take own) (b ∙ y.bytes a) ∙ take_at (y.first a) k own (y.many a) in
      let r : mid_of own (length k) (f a) ≡ k
      = ap (mid_of own (length k)) (y.bytes a) ∙ ap (take (length k)) (drop_at (y.first a) k own (y.many a)) ∙ take_all (length k) k (omega arith) in
      record {
        row_is = cap a;
        there = ap see e ∙ v.shows a q (ap (hidden row) (sym (first_byte a b)) ∙ h);
        kind = v.kind a;
        head = y.head_in s slot.start a q o;
        units = units;
        ok = y.ok a q;
        keeps = ap₂ (λ (i j : ℕ). mid_of i j s) j d ∙ part_known s (f a) slot.start w own (length k) b (omega arith) ∙ r;
      }

  -- the slot shows the row
  seen : Seen x s slot row (see (get_or os i none))
  seen =
      record {
        gone = λ z. ap see (slot_none (entry_long y) own n base os same p i slot at y.shown z) ∙ v.absent;
        hides = hides;
        held = held;
      }

-- and so does the slot of a list: an entry's place is its position
list_seen : {A : Type 0} {x : Texts} {P : A → Type 0} {own units : ℕ} {f : A → List ℕ} {cap : A → Caption} (y : Entries x P own units f cap) {row : Row} {see : Option A → Option Caption} (v : Sees P f cap row see)
    (n base : ℕ) (xs : List A) {s l : List ℕ} (same : s ≡ l) (p : Listed P (slot_width x own units) f n xs (mid_of base (n * slot_width x own units) l)) (i : ℕ) (slot : Slot) (at : Slotted base n i (slot_width x own units) own (Some slot))
    → Seen x s slot row (see (get_or (map some xs) i none))
list_seen {A} {x} {P} {own} {units} {f} {cap} y {row} {see} v n base xs {s} same p i slot at =
    subst (λ (o : Option A). Seen x s slot row (see o)) (front_get n xs i at.0)
    (seen y v n base (front n xs) same (listed_placed p) i slot at)

-- ---- the tables

-- quick texts have nothing of their own
pub quick : (x : Texts) → Entries x QuickOk quick_own text_limits.quick (quick_as x) text
quick x = record { first = λ us. []; many = λ us. refl; bytes = bytes x; shown = shown x; some_unit = omega arith; ok = λ us p. p.text; head_in = λ s start us p e. tt }
  where
    bytes : (x : Texts) (us : Text) → quick_as x us ≡ kept_as x text_limits.quick us
    bytes InPlaces us = refl
    bytes (Shared a) us = refl

    shown : (x : Texts) (us : Text) → QuickOk us → zeros? (quick_as x us) ≡ false
    shown InPlaces us p = quick_shown us p
    shown (Shared a) us p = quick_kept.headed.shown (text_halves.head us) (quick_kept.halved.head_ok us p)

-- a status text has the byte 1 before it
pub status : (x : Texts) → Entries x StatusOk status_own text_limits.short (status_as x) text
status x = record { first = λ us. 1 ∷ []; many = λ us. refl; bytes = bytes x; shown = shown x; some_unit = omega arith; ok = λ us p. p; head_in = λ s start us p e. tt }
  where
    bytes : (x : Texts) (us : Text) → status_as x us ≡ 1 ∷ kept_as x text_limits.short us
    bytes InPlaces us = refl
    bytes (Shared a) us = refl

    shown : (x : Texts) (us : Text) → StatusOk us → zeros? (status_as x us) ≡ false
    shown InPlaces us p = refl
    shown (Shared a) us p = refl

-- what a group's row shows of it, where it shows it
abbrev pub group_caption : GroupMember → Caption
group_caption g = group g.text g.address

-- a group has flags and an address before its text
pub groups : (x : Texts) → Entries x GroupOk member_own text_limits.short (group_as x) group_caption
groups x =
    record {
      first = λ g. group_flags g.flags ∷ u24 g.address.0;
      many = λ g. refl;
      bytes = bytes x;
      shown = shown x;
      some_unit = omega arith;
      ok = λ g p. p.text;
      head_in = λ s start g p e. part_known s (group_flags g.flags ∷ u24 g.address.0) start member_own 1 3 e (omega arith);
    }
  where
    bytes : (x : Texts) (g : GroupMember) → group_as x g ≡ group_flags g.flags ∷ u24 g.address.0 ++ kept_as x text_limits.short g.text
    bytes InPlaces g = refl
    bytes (Shared a) g = refl

    shown : (x : Texts) (g : GroupMember) → GroupOk g → zeros? (group_as x g) ≡ false
    shown InPlaces g p = group_shown g p
    shown (Shared a) g p = group_kept.headed.shown (member_halves.head g) (group_kept.halved.head_ok g p)

-- and so has an individual
pub individuals : (x : Texts) → Entries x IndividualOk member_own text_limits.short (individual_as x) individual_row
individuals x =
    record {
      first = λ i. individual_flags i.flags ∷ u24 i.address.0;
      many = λ i. refl;
      bytes = bytes x;
      shown = shown x;
      some_unit = omega arith;
      ok = λ i p. p.text;
      head_in = λ s start i p e. part_known s (individual_flags i.flags ∷ u24 i.address.0) start member_own 1 3 e (omega arith);
    }
  where
    bytes : (x : Texts) (i : IndividualMember) → individual_as x i ≡ individual_flags i.flags ∷ u24 i.address.0 ++ kept_as x text_limits.short i.text
    bytes InPlaces i = refl
    bytes (Shared a) i = refl

    shown : (x : Texts) (i : IndividualMember) → IndividualOk i → zeros? (individual_as x i) ≡ false
    shown InPlaces i p = individual_shown i p
    shown (Shared a) i p = individual_kept.headed.shown (member_halves.head i) (individual_kept.halved.head_ok i p)

-- a line has flags, IDtype and digits before its text
pub lines : (x : Texts) → Entries x LineOk line_own text_limits.short (line_as x) line_row
lines x =
    record {
      first = λ l. head_bytes l.flags l.number;
      many = λ l. ap (λ (i : ℕ). suc (suc i)) (digits_length l.number);
      bytes = bytes x;
      shown = shown x;
      some_unit = omega arith;
      ok = λ l p. p.text;
      head_in = λ s start l p e. (
        p.number,
        part_known s (head_bytes l.flags l.number) start line_own digits_at 18 e (omega arith) ∙ take_all 18 (digit_bytes l.number) (omega (arith, digits_length l.number)),
      );
    }
  where
    bytes : (x : Texts) (l : LineEntry) → line_as x l ≡ head_bytes l.flags l.number ++ kept_as x text_limits.short l.text
    bytes InPlaces l = refl
    bytes (Shared a) l = refl

    shown : (x : Texts) (l : LineEntry) → LineOk l → zeros? (line_as x l) ≡ false
    shown InPlaces l p = line_shown l p
    shown (Shared a) l p = line_kept.headed.shown (line_halves.head l) (line_kept.halved.head_ok l p)

-- ---- what is hidden

-- a group's attribute stands above the other flags
pub attribute_kept : (g : GroupMember) → GroupOk g → group_flags g.flags / 64 ≡ g.flags.attribute
attribute_kept g p =
    omega (arith, p.priority, bit_small g.flags.broadcast, bit_small g.flags.encryption, bit_small g.flags.ovcm, bit_small g.flags.emergency)

-- a row of groups hides those whose attribute says background
sees_groups : (x : Texts) {row : Row} → ((g : GroupMember) → OfKind row (group_caption g)) → ((b : ℕ) → hidden row b ≡ eqb (b / 64) 1) → Sees GroupOk (group_as x) group_caption row (λ o. and_then o group_row)
sees_groups x {row} kind by = record { kind = kind; absent = refl; hides = λ g p e. chosen g p true e; shows = λ g p e. chosen g p false e }
  where
    flags_first : (x : Texts) (g : GroupMember) → get_or (group_as x g) 0 0 ≡ group_flags g.flags
    flags_first InPlaces g = refl
    flags_first (Shared a) g = refl

    chosen : (g : GroupMember) → GroupOk g → (h : Bool) → hidden row (get_or (group_as x g) 0 0) ≡ h → group_row g ≡ cond h none (some (group_caption g))
    chosen g p h e =
        let a : get_or (group_as x g) 0 0 / 64 ≡ g.flags.attribute = ap (λ (b : ℕ). b / 64) (flags_first x g) ∙ attribute_kept g p in
        ap (λ b. cond b none (some (group_caption g))) (ap (λ (n : ℕ). eqb n 1) (sym a) ∙ sym (by (get_or (group_as x g) 0 0)) ∙ e)

-- any other row hides none
sees_all : {A : Type 0} {P : A → Type 0} {f : A → List ℕ} {cap : A → Caption} {row : Row} → ((a : A) → OfKind row (cap a)) → ((b : ℕ) → hidden row b ≡ false) → Sees P f cap row (of cap)
sees_all {f = f} kind by = record { kind = kind; absent = refl; hides = λ a p e. absurd (true≢false (sym e ∙ by (get_or (f a) 0 0))); shows = λ a p e. refl }

-- ---- rows

-- a status text, for a code from 32 on
pub status_there : (t : Tables) (n : ℕ) → 32 ≤ n → caption t (StatusText n) ≡ of text (get_or t.status (n - 32) none)
status_there t n h = rw (le-ltb n 32 h)

-- ROW SEEN: a row's slot shows what stands in the row
pub row_seen : (lim : Limits) (t : Tables) (s : List ℕ) (row : Row) (slot : Slot) → Holds lim t s → SlotIs lim row (Some slot) → Seen lim.texts s slot row (caption t row)
row_seen lim t s (Line n) slot (ok, e) z = list_seen (lines lim.texts) (sees_all (λ l. refl) (λ b. refl)) lim.lines (region_start lim 12 + count_size) t.lines e (line_contact_slots lim t ok) n slot z
row_seen lim t s (QuickText n) slot (ok, e) z = seen (quick lim.texts) (sees_all (λ us. refl) (λ b. refl)) quick_places (region_start lim 4) t.quick e (quick_slots lim t ok) n slot z
row_seen lim t s (StatusText n) slot (ok, e) (h, z) =
    subst (λ (o : Option Caption). Seen lim.texts s slot (StatusText n) o) (sym (status_there t n h))
    (seen (status lim.texts) (sees_all (λ us. refl) (λ b. refl)) status_places (region_start lim 5) t.status e (status_slots lim t ok) (n - 32) slot z)
row_seen lim t s (Group n) slot (ok, e) z = seen (groups lim.texts) (sees_groups lim.texts (λ g. refl) (λ b. refl)) slot_places (region_start lim 6) t.groups e (group_slots lim t ok) n slot z
row_seen lim t s (Individual n) slot (ok, e) z = seen (individuals lim.texts) (sees_all (λ i. refl) (λ b. refl)) slot_places (region_start lim 7) t.individuals e (individual_slots lim t ok) n slot z
row_seen lim t s (GroupContact n) slot (ok, e) z =
    list_seen (groups lim.texts) (sees_groups lim.texts (λ g. refl) (λ b. refl)) contact_places (region_start lim 9 + count_size) t.group_contacts e (group_contact_slots lim t ok) n slot z
row_seen lim t s (IndividualContact n) slot (ok, e) z =
    list_seen (individuals lim.texts) (sees_all (λ i. refl) (λ b. refl)) contact_places (region_start lim 10 + count_size) t.individual_contacts e (individual_contact_slots lim t ok) n slot z
row_seen lim t s (LineSlot n) slot (ok, e) z = seen (lines lim.texts) (sees_all (λ l. refl) (λ b. refl)) slot_places (region_start lim 8) t.line_slots e (line_slots lim t ok) n slot z
row_seen lim t s NoTable slot h z = absurd z

-- ROW CAPTIONED: the slot of a row that stands in the tables holds its caption
pub row_captioned : (lim : Limits) (t : Tables) (s : List ℕ) (row : Row) (slot : Slot) → Holds lim t s → SlotIs lim row (Some slot) → (c : Caption) → caption t row ≡ some c
    → (k : Captioned lim.texts s slot row (caption t row)) × (k.row_is ≡ c)
row_captioned lim t s row slot h z c e = go (zeros? (mid_of slot.start (slot.end - slot.start) s)) (hidden row (get_or s slot.start 0)) refl refl
  where
    go : (b d : Bool) → zeros? (mid_of slot.start (slot.end - slot.start) s) ≡ b → hidden row (get_or s slot.start 0) ≡ d → (k : Captioned lim.texts s slot row (caption t row)) × (k.row_is ≡ c)
    go true d p q = absurd (option_none_ne_some c (sym ((row_seen lim t s row slot h z).gone p) ∙ e))
    go false true p q = absurd (option_none_ne_some c (sym ((row_seen lim t s row slot h z).hides p q) ∙ e))
    go false false p q =
        let k = (row_seen lim t s row slot h z).held p q in
        (k, option_some_injective k.row_is c (sym k.there ∙ e))

-- what stands past the end is not seen
pub none_past : {A B : Type 0} (see : Option A → Option B) (os : List (Option A)) (n : ℕ) → see none ≡ none → length os ≤ n → see (get_or os n none) ≡ none
none_past see os n e h = ap see (list_getD_eq_default os none {n = n} h) ∙ e

-- so what is seen stands among the places
within_seen : {A : Type 0} (see : Option A → Option Caption) (os : List (Option A)) (n places : ℕ) {c : Caption} → see none ≡ none → length os ≤ places → see (get_or os n none) ≡ some c → n < places
within_seen see os n places {c} z h e = omega (arith, no_past)
  where
    no_past : places ≤ n → ⊥
    no_past k = option_none_ne_some c (sym (none_past see os n z (omega arith)) ∙ e)

pub within : {A : Type 0} (os : List (Option A)) (n places : ℕ) (g : A → Caption) {c : Caption} → length os ≤ places → of g (get_or os n none) ≡ some c → n < places
within os n places g h e = within_seen (of g) os n places refl h e

-- place n of a table in which it is seen
there_at : {A : Type 0} (see : Option A → Option Caption) (os : List (Option A)) (base places n w h : ℕ) {c : Caption} → see none ≡ none → length os ≤ places → see (get_or os n none) ≡ some c
    → (slot : Slot) × Slotted base places n w h (Some slot)
there_at see os base places n w h z l e =
    (record { start = base + n * w; text = base + n * w + h; end = base + n * w + w }, (within_seen see os n places z l e, refl, refl, refl))

-- ROW THERE: a row that stands in the tables has a slot
pub row_there : (lim : Limits) (t : Tables) → Allowed lim t → (row : Row) (c : Caption) → caption t row ≡ some c → (slot : Slot) × SlotIs lim row (Some slot)
row_there lim t ok (Line n) c e = there_at (of line_row) (map some t.lines) _ lim.lines n _ line_own refl (omega (arith, length-map t.lines some, ok.lines.0)) e
row_there lim t ok (QuickText n) c e = there_at (of text) t.quick _ quick_places n _ quick_own refl (omega (arith, ok.quick.0)) e
row_there lim t ok (StatusText n) c e = go (ltb n 32) refl
  where
    go : (b : Bool) → ltb n 32 ≡ b → (slot : Slot) × SlotIs lim (StatusText n) (Some slot)
    go true h = let z : none ≡ some c = (rw h at e) in absurd (option_none_ne_some c z)
    go false h =
        let k : 32 ≤ n = ltb-false n 32 h in
        let (slot, x) = there_at (of text) t.status (region_start lim 5) status_places (n - 32) (slot_width lim.texts status_own text_limits.short) status_own refl (omega (arith, ok.status.0)) (sym (status_there t n k) ∙ e) in
        (slot, (k, x))
row_there lim t ok (Group n) c e = there_at (λ o. and_then o group_row) t.groups _ slot_places n _ member_own refl (omega (arith, ok.groups.0)) e
row_there lim t ok (Individual n) c e = there_at (of individual_row) t.individuals _ slot_places n _ member_own refl (omega (arith, ok.individuals.0)) e
row_there lim t ok (GroupContact n) c e =
    there_at (λ o. and_then o group_row) (map some t.group_contacts) _ contact_places n _ member_own refl (omega (arith, length-map t.group_contacts some, ok.group_contacts.0)) e
row_there lim t ok (IndividualContact n) c e =
    there_at (of individual_row) (map some t.individual_contacts) _ contact_places n _ member_own refl (omega (arith, length-map t.individual_contacts some, ok.individual_contacts.0)) e
row_there lim t ok (LineSlot n) c e = there_at (of line_row) t.line_slots _ slot_places n _ line_own refl (omega (arith, ok.line_slots.0)) e
row_there lim t ok NoTable c e = absurd (option_none_ne_some c e)
