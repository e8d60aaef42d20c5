-- Where a row's slot stands, in either form of the store, and that it lies in the store. Assumes nothing.
use Rattle.lists.proofs.Kit.{ℕ, suc, ◌+◌, ◌*◌, ◌-◌, ◌/◌, ◌%◌, ◌^◌, ◌≤◌, ◌<◌, ◌≡◌, refl, sym, ap, ◌∙◌, subst, Bool, true, false, cond, List, [], ◌∷◌, mul-le-mul_right, suc-mul, add-one, arith, ltb, ltb-false, le-ltb, lt-ltb, get_or}
use denote.Enum.Declared.{tag_of}
use Rattle.slots.specs.Slots.{u24}
use Rattle.writing.specs.Ranges.{text_limits}
use Rattle.tables.specs.declared.limits.Limits.{Limits}
use Rattle.tables.specs.declared.limits.Texts.{Texts}
use Rattle.tables.specs.declared.limits.Texts.TheVariants.{Placed, Shared}
use Rattle.tables.specs.Forms.{by_form, slot_width, start_in, AreaFits, Roomy}
use Rattle.tables.specs.Heads.{quick_own, status_own, member_own, line_own}
use Rattle.tables.specs.Layout.{count_size, used_size}
use Rattle.tables.specs.Limits.{quick_places, status_places, slot_places, contact_places}
use Rattle.tables.specs.SharedLayout.{heads_size}
use Rattle.shared_texts.specs.declared.Run.{Run}
use Rattle.working.specs.Runs.{run_of, Small}
use Rattle.screen.specs.declared.names.Slot.{Slot}
use Rattle.std.specs.Prelude.{Option as Maybe, Some, None}
use Rattle.screen.specs.declared.rows.Row.{Row}
use Rattle.screen.specs.declared.rows.Row.TheVariants.{Line, QuickText, StatusText, Group, Individual, GroupContact, IndividualContact, LineSlot, NoTable}
use Rattle.screen.specs.declared.spots.Spot.{Spot}
use Rattle.screen.specs.contracts.rows.Row.{the_type}
use Rattle.screen.specs.Areas.{spot, spot_of}
use Rattle.screen.specs.Naming.{Slotted, SlotBy}
use Rattle.screen.specs.Rows.{table_of, place_of}

-- slot n of a table ends before the table does
pub slot_within : (n places w : ℕ) → n < places → n * w + w ≤ places * w
slot_within n places w h = let lim : suc n * w ≤ places * w = mul-le-mul_right w h in omega (arith, suc-mul n w)

-- ---- the tables that have texts, by number

-- the row by its case
pub spot_as : {row case : Row} → row ≡ case → spot_of case ≡ spot_of row
spot_as e = ap spot_of (sym e)

-- status codes start at 32
pub spot_before : (n : ℕ) → n < 32 → spot 8 0 ≡ spot_of (StatusText n)
spot_before n h = ap (λ (b : Bool). cond b (spot 8 0) (spot 1 (n - 32))) (sym (lt-ltb n 32 h))

pub spot_from : (n : ℕ) → 32 ≤ n → spot 1 (n - 32) ≡ spot_of (StatusText n)
spot_from n h = ap (λ (b : Bool). cond b (spot 8 0) (spot 1 (n - 32))) (sym (le-ltb n 32 h))

-- where its slots stand in a form, and how wide they are
abbrev pub base_in : Texts → Run → ℕ
base_in x y = by_form x y.from y.start

abbrev pub width_in : Texts → Run → ℕ
width_in x y = by_form x (y.own + y.room) (y.own + 1)

-- they hold their own bytes, and end not far from the store's start
pub run_near : (x : Texts) (y : Run) {base width : ℕ} → Small y → base ≡ base_in x y → width ≡ width_in x y → (base + y.many * width < 2 ^ 64) × (y.own ≤ width)
run_near Placed y {base} {width} z p q =
    let e : y.many * width ≡ y.many * (y.own + y.room) = ap (λ (w : ℕ). y.many * w) q in
    (omega (arith, z.slots), omega arith)
run_near (Shared a) y {base} {width} z p q =
    let e : y.many * width ≡ y.many * suc y.own = ap (λ (w : ℕ). y.many * w) (q ∙ add-one y.own) in
    (omega (arith, z.heads), omega arith)

-- each starts where its region does, a list behind its count
bases : (x : Texts) (lim : Limits) → (base_in x (run_of lim 0) ≡ start_in x lim 4) × (base_in x (run_of lim 1) ≡ start_in x lim 5) × (base_in x (run_of lim 2) ≡ start_in x lim 6) × (base_in x (run_of lim 3) ≡ start_in x lim 7)
    × (base_in x (run_of lim 4) ≡ start_in x lim 8) × (base_in x (run_of lim 5) ≡ start_in x lim 9 + count_size) × (base_in x (run_of lim 6) ≡ start_in x lim 10 + count_size) × (base_in x (run_of lim 7) ≡ start_in x lim 12 + count_size)
bases Placed lim = (refl, refl, refl, refl, refl, refl, refl, omega arith)
bases (Shared a) lim = (refl, refl, refl, refl, refl, refl, refl, omega arith)

-- ---- the row's slot

-- a slot for a row of a table
abbrev pub SlottedAt : Texts → Limits → Spot → Maybe Slot → Type 0
SlottedAt x lim at r = let y = run_of lim at.table in Slotted (base_in x y) y.many at.place (width_in x y) y.own r

module _ (x : Texts) (lim : Limits) where
  -- a slot that stands elsewhere
  moved : (places n w h : ℕ) (r : Maybe Slot) {a b : ℕ} → a ≡ b → Slotted a places n w h r → Slotted b places n w h r
  moved places n w h r e z = subst (λ (b : ℕ). Slotted b places n w h r) e z

  -- of the row
  of_row : (row : Row) (r : Maybe Slot) → (spot_of row).table < 8 → SlottedAt x lim (spot_of row) r → SlotBy x lim row r
  of_row (Line n) r h z = moved lim.lines n (slot_width x line_own text_limits.short) line_own r (bases x lim).7 z
  of_row (QuickText n) r h z = moved quick_places n (slot_width x quick_own text_limits.quick) quick_own r (bases x lim).0 z
  of_row (StatusText n) r h z = go (ltb n 32) refl r h z
    where
      go : (b : Bool) → ltb n 32 ≡ b → (r : Maybe Slot) → (cond b (spot 8 0) (spot 1 (n - 32))).table < 8 → SlottedAt x lim (cond b (spot 8 0) (spot 1 (n - 32))) r → SlotBy x lim (StatusText n) r
      go true e r h z = absurd (omega arith)
      go false e (Some s) h z = (ltb-false n 32 e, moved status_places (n - 32) (slot_width x status_own text_limits.short) status_own (Some s) (bases x lim).1 z)
      go false e None h z = λ k. z
  of_row (Group n) r h z = moved slot_places n (slot_width x member_own text_limits.short) member_own r (bases x lim).2 z
  of_row (Individual n) r h z = moved slot_places n (slot_width x member_own text_limits.short) member_own r (bases x lim).3 z
  of_row (GroupContact n) r h z = moved contact_places n (slot_width x member_own text_limits.short) member_own r (bases x lim).5 z
  of_row (IndividualContact n) r h z = moved contact_places n (slot_width x member_own text_limits.short) member_own r (bases x lim).6 z
  of_row (LineSlot n) r h z = moved slot_places n (slot_width x line_own text_limits.short) line_own r (bases x lim).4 z
  of_row NoTable r h z = absurd (omega arith)

  -- SLOT-FOUND: where the code looks for the row's slot, there it is
  pub slot_found : (row : Row) (at : Spot) (y : Run) (base width : ℕ) (r : Maybe Slot) → at ≡ spot_of row → at.table < 8 → y ≡ run_of lim at.table → base ≡ base_in x y → width ≡ width_in x y
      → Slotted base y.many at.place width y.own r → SlotBy x lim row r
  slot_found row at y base width r e h p q d z =
      let v : Slotted (base_in x y) y.many at.place (width_in x y) y.own r = subst (λ (w : ℕ). Slotted (base_in x y) y.many at.place w y.own r) d (moved y.many at.place width y.own r q z) in
      let u : SlottedAt x lim at r = subst (λ (o : Run). Slotted (base_in x o) o.many at.place (width_in x o) o.own r) p v in
      of_row row r (subst (λ (o : Spot). o.table < 8) e h) (subst (λ (o : Spot). SlottedAt x lim o r) e u)

  -- and a row of none of the tables has none
  pub slot_nowhere : (row : Row) (at : Spot) → at ≡ spot_of row → 8 ≤ at.table → SlotBy x lim row None
  slot_nowhere row at e h = go row (subst (λ (o : Spot). 8 ≤ o.table) e h)
    where
      go : (row : Row) → 8 ≤ (spot_of row).table → SlotBy x lim row None
      go (Line n) h = absurd (omega arith)
      go (QuickText n) h = absurd (omega arith)
      go (StatusText n) h = λ k. let f : 8 ≤ 1 = subst (λ (b : Bool). 8 ≤ (cond b (spot 8 0) (spot 1 (n - 32))).table) (le-ltb n 32 k) h in absurd (omega arith)
      go (Group n) h = absurd (omega arith)
      go (Individual n) h = absurd (omega arith)
      go (GroupContact n) h = absurd (omega arith)
      go (IndividualContact n) h = absurd (omega arith)
      go (LineSlot n) h = absurd (omega arith)
      go NoTable h = tt

-- a row that has a slot is one of its table's
pub record Rowed (lim : Limits) (row : Row) : Type 0 where
  pub spot_is : spot_of row ≡ spot (table_of row) (place_of row)
  pub table : table_of row < 8
  pub place : place_of row < (run_of lim (table_of row)).many

pub slot_rowed : (x : Texts) (lim : Limits) (row : Row) (s : Slot) → SlotBy x lim row (Some s) → Rowed lim row
slot_rowed x lim (Line n) s z = record { spot_is = refl; table = omega arith; place = z.0 }
slot_rowed x lim (QuickText n) s z = record { spot_is = refl; table = omega arith; place = z.0 }
slot_rowed x lim (StatusText n) s (h, z) = record { spot_is = sym (spot_from n h); table = omega arith; place = z.0 }
slot_rowed x lim (Group n) s z = record { spot_is = refl; table = omega arith; place = z.0 }
slot_rowed x lim (Individual n) s z = record { spot_is = refl; table = omega arith; place = z.0 }
slot_rowed x lim (GroupContact n) s z = record { spot_is = refl; table = omega arith; place = z.0 }
slot_rowed x lim (IndividualContact n) s z = record { spot_is = refl; table = omega arith; place = z.0 }
slot_rowed x lim (LineSlot n) s z = record { spot_is = refl; table = omega arith; place = z.0 }
slot_rowed x lim NoTable s z = absurd z

-- ---- a slot in the store

-- the bytes that slots take in a form
abbrev slots_size : Texts → Limits → ℕ
slots_size x lim = by_form x (used_size lim) (heads_size lim)

-- each table ends in them
ends_in : (x : Texts) (lim : Limits) → (start_in x lim 4 + quick_places * slot_width x quick_own text_limits.quick ≤ slots_size x lim) × (start_in x lim 5 + status_places * slot_width x status_own text_limits.short ≤ slots_size x lim)
    × (start_in x lim 6 + slot_places * slot_width x member_own text_limits.short ≤ slots_size x lim) × (start_in x lim 7 + slot_places * slot_width x member_own text_limits.short ≤ slots_size x lim)
    × (start_in x lim 8 + slot_places * slot_width x line_own text_limits.short ≤ slots_size x lim) × (start_in x lim 9 + count_size + contact_places * slot_width x member_own text_limits.short ≤ slots_size x lim)
    × (start_in x lim 10 + count_size + contact_places * slot_width x member_own text_limits.short ≤ slots_size x lim) × (start_in x lim 12 + count_size + lim.lines * slot_width x line_own text_limits.short ≤ slots_size x lim)
ends_in Placed lim = omega arith
ends_in (Shared a) lim = omega arith

-- and they have room in the store
slots_room : (x : Texts) (lim : Limits) → Roomy lim → AreaFits x lim → (slots_size x lim ≤ lim.size) × (slots_size x lim ≤ 200000)
slots_room Placed lim r f = (r.fits, omega (arith, r.few_channels, r.few_lines))
slots_room (Shared a) lim r f = (omega arith, omega (arith, r.few_channels, r.few_lines))

-- the slot lies in the bytes, not far from their start, and more than its own bytes in it
pub record SlotFits (s : Slot) (size : ℕ) : Type 0 where
  pub text_in : s.start ≤ s.text
  pub ends : s.text < s.end
  pub inside : s.end ≤ size
  pub near : s.end ≤ 200000

module _ (x : Texts) (lim : Limits) (room : Roomy lim) (area : AreaFits x lim) where
  -- some unit has a place, or the number of units has
  some_byte : (h u : ℕ) → 0 < u → h < slot_width x h u
  some_byte h u k = go x
    where
      go : (y : Texts) → h < slot_width y h u
      go Placed = omega arith
      go (Shared a) = omega arith

  slotted_fits : (base places n h u : ℕ) (s : Slot) → 0 < u → base + places * slot_width x h u ≤ slots_size x lim → Slotted base places n (slot_width x h u) h (Some s) → SlotFits s lim.size
  slotted_fits base places n h u s k e z =
      let w : ℕ = slot_width x h u in
      let i : n * w + w ≤ places * w = slot_within n places w z.0 in
      let r = slots_room x lim room area in
      record {
        text_in = omega (arith, z.1, z.2);
        ends = omega (arith, z.2, z.3, some_byte h u k);
        inside = omega (arith, z.3, r.0);
        near = omega (arith, z.3, r.1);
      }

  -- SLOT-FITS: the row's slot does
  pub slot_fits : (row : Row) (s : Slot) → SlotBy x lim row (Some s) → SlotFits s lim.size
  slot_fits (Line n) s z = slotted_fits (start_in x lim 12 + count_size) lim.lines n line_own text_limits.short s (omega arith) (ends_in x lim).7 z
  slot_fits (QuickText n) s z = slotted_fits (start_in x lim 4) quick_places n quick_own text_limits.quick s (omega arith) (ends_in x lim).0 z
  slot_fits (StatusText n) s (h, z) = slotted_fits (start_in x lim 5) status_places (n - 32) status_own text_limits.short s (omega arith) (ends_in x lim).1 z
  slot_fits (Group n) s z = slotted_fits (start_in x lim 6) slot_places n member_own text_limits.short s (omega arith) (ends_in x lim).2 z
  slot_fits (Individual n) s z = slotted_fits (start_in x lim 7) slot_places n member_own text_limits.short s (omega arith) (ends_in x lim).3 z
  slot_fits (GroupContact n) s z = slotted_fits (start_in x lim 9 + count_size) contact_places n member_own text_limits.short s (omega arith) (ends_in x lim).5 z
  slot_fits (IndividualContact n) s z = slotted_fits (start_in x lim 10 + count_size) contact_places n member_own text_limits.short s (omega arith) (ends_in x lim).6 z
  slot_fits (LineSlot n) s z = slotted_fits (start_in x lim 8) slot_places n line_own text_limits.short s (omega arith) (ends_in x lim).4 z
  slot_fits NoTable s z = absurd z

-- how many bytes of their own the slots of the rows have, in the rows' order
abbrev pub head_at : ℕ → ℕ
head_at n = get_or (20 ∷ 0 ∷ 1 ∷ 4 ∷ 4 ∷ 4 ∷ 4 ∷ 20 ∷ []) n 0

-- the text, or how many units it has, stands that far behind the slot's start
pub text_behind : (x : Texts) (lim : Limits) (row : Row) (s : Slot) → SlotBy x lim row (Some s) → s.text ≡ s.start + head_at (tag_of the_type row)
text_behind x lim (Line n) s z = omega (arith, z.1, z.2)
text_behind x lim (QuickText n) s z = omega (arith, z.1, z.2)
text_behind x lim (StatusText n) s (h, z) = omega (arith, z.1, z.2)
text_behind x lim (Group n) s z = omega (arith, z.1, z.2)
text_behind x lim (Individual n) s z = omega (arith, z.1, z.2)
text_behind x lim (GroupContact n) s z = omega (arith, z.1, z.2)
text_behind x lim (IndividualContact n) s z = omega (arith, z.1, z.2)
text_behind x lim (LineSlot n) s z = omega (arith, z.1, z.2)
text_behind x lim NoTable s z = absurd z

-- ---- an address

-- three bytes are the number that they were made of
pub address_is : (s : List ℕ) (x y z : ℕ) → x ≡ get_or s 0 0 → y ≡ get_or s 1 0 → z ≡ get_or s 2 0 → (a : ℕ) → s ≡ u24 a → x * 65536 + y * 256 + z ≡ a
address_is s x y z p q r a e =
    let i : x ≡ a / 65536 = p ∙ ap (λ l. get_or l 0 0) e in
    let j : y ≡ a % 65536 / 256 = q ∙ ap (λ l. get_or l 1 0) e in
    let k : z ≡ a % 65536 % 256 = r ∙ ap (λ l. get_or l 2 0) e in
    omega arith
