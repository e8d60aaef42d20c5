-- Where a row's text stands: in the place that its slot has for it, or in the area that texts share. Assumes nothing.
use Rattle.lists.proofs.Kit.{ℕ, zero, suc, ◌+◌, ◌*◌, ◌-◌, ◌≤◌, ◌<◌, ◌≡◌, refl, sym, ap, ◌∙◌, subst, Bool, true, false, cond, List, [], ◌∷◌, map, Option, none, some, option_none_ne_some, option_some_injective, arith, eqb, ltb, mid_of, length, take, drop, get_or, length-take, take-take}
use Rattle.slots.specs.Slots.{zeros?, Found}
use Rattle.writing.specs.Settings.{Text}
use Rattle.tables.specs.declared.limits.Limits.{Limits}
use Rattle.tables.specs.declared.limits.Texts.{Texts}
use Rattle.tables.specs.declared.limits.Texts.TheVariants.{Placed, Shared}
use Rattle.tables.specs.Apply.{and_then}
use Rattle.tables.specs.Forms.{laid, AreaFits, Roomy}
use Rattle.tables.specs.SharedLayout.{heads_size, shared_size, shared_layout}
use Rattle.tables.specs.Store.{StoreOf, Holds}
use Rattle.tables.specs.Tables.{GroupMember, Tables}
use Rattle.tables.specs.Texts.{rows, text_tables, text_sum, TextRoom}
use Rattle.tables.proofs.AllowedLaws.{allowed_placed}
use Rattle.tables.proofs.TextCodes.{text_length}
use Rattle.shared_texts.specs.Shared.{SharedOk}
use Rattle.shared_texts.proofs.Forms.{texts_ok}
use Rattle.shared_texts.proofs.SharedLaws.{text_stands as shared_stands, text_inside as shared_inside}
use Rattle.shared_texts.proofs.WorkLaws.{row_place}
use Rattle.screen.specs.declared.areas.Span.{Span}
use Rattle.screen.specs.declared.names.Slot.{Slot}
use Rattle.std.specs.Prelude.{Some}
use Rattle.screen.specs.declared.rows.Row.{Row}
use Rattle.screen.specs.declared.rows.Row.TheVariants.{Line, QuickText, StatusText, Group, Individual, GroupContact, IndividualContact, LineSlot, NoTable}
use Rattle.screen.specs.declared.spots.Spot.{Spot}
use Rattle.working.specs.Areas.{InHeads}
use Rattle.screen.specs.Areas.{spot, spot_of, shared_span}
use Rattle.screen.specs.Naming.{SlotBy, SlotIs, TextIs}
use Rattle.screen.specs.Rows.{Caption, text, group, line_row, individual_row, group_row, caption, text_of, of, placed_start, table_of, place_of, start_by, text_start, unit_bytes}
use Rattle.screen.proofs.EntryLaws.{Captioned, row_captioned, row_there}
use Rattle.screen.proofs.SeenLaws.{part_first, text_ends, text_front}
use Rattle.screen.proofs.SlotLaws.{Rowed, slot_rowed, SlotFits, slot_fits}

-- ---- a row's text among those of its table

-- the text of a row
rows_get : {A : Type 0} (words : A → Text) (os : List (Option A)) (n : ℕ) → get_or (rows words os) n none ≡ mathlib.Core.Option.map words (get_or os n none)
rows_get words [] n = refl
rows_get words (o ∷ os) zero = refl
rows_get words (o ∷ os) (suc n) = rows_get words os n

-- is that of what is seen there
seen_text : {A : Type 0} (words : A → Text) (see : Option A → Option Caption) (os : List (Option A)) (n : ℕ) (c : Caption) → see none ≡ none
    → ((a : A) (d : Caption) → see (some a) ≡ some d → words a ≡ text_of d) → see (get_or os n none) ≡ some c → get_or (rows words os) n none ≡ some (text_of c)
seen_text {A} words see os n c z by e = rows_get words os n ∙ go (get_or os n none) e
  where
    go : (o : Option A) → see o ≡ some c → mathlib.Core.Option.map words o ≡ some (text_of c)
    go none e = absurd (option_none_ne_some c (sym z ∙ e))
    go (some a) e = ap some (by a c e)

-- a caption has its entry's text
made_text : {A : Type 0} (words : A → Text) (cap : A → Caption) → ((a : A) → words a ≡ text_of (cap a)) → (a : A) (d : Caption) → of cap (some a) ≡ some d → words a ≡ text_of d
made_text words cap same a d e = same a ∙ ap text_of (option_some_injective (cap a) d e)

-- and so has a group's, where it has a row
group_text : (g : GroupMember) (d : Caption) → group_row g ≡ some d → g.text ≡ text_of d
group_text g d e = go (eqb g.flags.attribute 1) e
  where
    go : (b : Bool) → cond b none (some (group g.text g.address)) ≡ some d → g.text ≡ text_of d
    go true e = absurd (option_none_ne_some d e)
    go false e = ap text_of (option_some_injective (group g.text g.address) d e)

-- ROW TEXT: what stands in a row is what stands there among the texts
pub row_text : (t : Tables) (row : Row) (c : Caption) → caption t row ≡ some c → get_or (get_or (text_tables t) (table_of row) []) (place_of row) none ≡ some (text_of c)
row_text t (Line n) c e = seen_text (λ l. l.text) (of line_row) (map some t.lines) n c refl (made_text (λ l. l.text) line_row (λ l. refl)) e
row_text t (QuickText n) c e = seen_text (λ us. us) (of text) t.quick n c refl (made_text (λ us. us) text (λ us. refl)) e
row_text t (StatusText n) c e = go (ltb n 32) e
  where
    go : (b : Bool) → cond b none (of text (get_or t.status (n - 32) none)) ≡ some c → get_or (get_or (text_tables t) 1 []) (n - 32) none ≡ some (text_of c)
    go true e = absurd (option_none_ne_some c e)
    go false e = seen_text (λ us. us) (of text) t.status (n - 32) c refl (made_text (λ us. us) text (λ us. refl)) e
row_text t (Group n) c e = seen_text (λ g. g.text) (λ o. and_then o group_row) t.groups n c refl group_text e
row_text t (Individual n) c e = seen_text (λ i. i.text) (of individual_row) t.individuals n c refl (made_text (λ i. i.text) individual_row (λ i. refl)) e
row_text t (GroupContact n) c e = seen_text (λ g. g.text) (λ o. and_then o group_row) (map some t.group_contacts) n c refl group_text e
row_text t (IndividualContact n) c e = seen_text (λ i. i.text) (of individual_row) (map some t.individual_contacts) n c refl (made_text (λ i. i.text) individual_row (λ i. refl)) e
row_text t (LineSlot n) c e = seen_text (λ l. l.text) (of line_row) t.line_slots n c refl (made_text (λ l. l.text) line_row (λ l. refl)) e
row_text t NoTable c e = absurd (option_none_ne_some c e)

-- ---- where it starts

-- where a slot has a place for the text, there
text_starts : (lim : Limits) (row : Row) (slot : Slot) → SlotBy Placed lim row (Some slot) → slot.text ≡ placed_start lim row
text_starts lim (Line n) slot x = x.2
text_starts lim (QuickText n) slot x = omega (arith, x.2)
text_starts lim (StatusText n) slot (h, x) = x.2
text_starts lim (Group n) slot x = x.2
text_starts lim (Individual n) slot x = x.2
text_starts lim (GroupContact n) slot x = x.2
text_starts lim (IndividualContact n) slot x = x.2
text_starts lim (LineSlot n) slot x = x.2
text_starts lim NoTable slot x = absurd x

-- ---- the text of a row that is there

module _ (lim : Limits) (t : Tables) (s : List ℕ) (h : Holds lim t s) (row : Row) (c : Caption) (e : caption t row ≡ some c) where
  -- a place for it
  module _ (q : lim.texts ≡ Placed) (slot : Slot) (z : SlotIs lim row (Some slot)) where
    in_place : SlotBy Placed lim row (Some slot)
    in_place = subst (λ (x : Texts). SlotBy x lim row (Some slot)) q z

    held : (k : Captioned Placed s slot row (caption t row)) × (k.row_is ≡ c)
    held = subst (λ (x : Texts). (k : Captioned x s slot row (caption t row)) × (k.row_is ≡ c)) q (row_captioned lim t s row slot h z c e)

    -- has room for it
    place_roomy : 2 * length (text_of c) ≤ slot.end - slot.text
    place_roomy =
        let (k, d) = held in
        omega (arith, ap (λ (b : Caption). length (text_of b)) d, k.ok.short, ap length k.keeps, text_length k.units (text_of k.row_is), length-take (slot.end - slot.text) (drop slot.text s))

    -- has it in front
    place_shown : mid_of slot.text (2 * length (text_of c)) s ≡ unit_bytes (text_of c)
    place_shown =
        let (k, d) = held in
        let us : Text = text_of k.row_is in
        let l : 2 * length us ≤ slot.end - slot.text = omega (arith, ap (λ (b : Caption). length (text_of b)) d, place_roomy) in
        ap (λ (b : Caption). mid_of slot.text (2 * length (text_of b)) s) (sym d)
        ∙ sym (take-take (2 * length us) (slot.end - slot.text) (drop slot.text s) l) ∙ ap (take (2 * length us)) k.keeps ∙ text_front k.units us k.ok.short
        ∙ ap (λ (b : Caption). unit_bytes (text_of b)) d

    -- and zeros behind it
    place_ends : (r : ℕ) → Found (0 < 2) zeros? 2 (mid_of slot.text (slot.end - slot.text) s) r → r ≡ 2 * length (text_of c)
    place_ends r f =
        let (k, d) = held in
        text_ends k.units (text_of k.row_is) (mid_of slot.text (slot.end - slot.text) s) r k.ok k.keeps f ∙ ap (λ (b : Caption). 2 * length (text_of b)) d

    -- it lies in the store
    place_inside : Roomy lim → slot.text + 2 * length (text_of c) ≤ lim.size
    place_inside r = let f = slot_fits Placed lim r tt row slot in_place in omega (arith, place_roomy, f.ends, f.inside)

  -- an area of a bytes
  module _ (a : ℕ) (q : lim.texts ≡ Shared a) where
    ok : SharedOk lim a t
    ok = texts_ok lim a t h.0 (subst (λ (x : Texts). TextRoom x (text_sum t)) q h.0.texts)

    bytes_are : s ≡ shared_layout lim a t
    bytes_are = h.1 ∙ ap (λ (x : Texts). laid x lim t) q

    -- has it behind the texts before it
    area_shown : mid_of (start_by (Shared a) lim t row) (2 * length (text_of c)) s ≡ unit_bytes (text_of c)
    area_shown = ap (mid_of (start_by (Shared a) lim t row) (2 * length (text_of c))) bytes_are ∙ shared_stands lim a t ok (table_of row) (place_of row) (text_of c) (row_text t row c e)

    -- which lies in the store
    area_inside : Roomy lim → start_by (Shared a) lim t row + 2 * length (text_of c) ≤ lim.size
    area_inside r =
        let f : shared_size lim a ≤ lim.size = subst (λ (x : Texts). AreaFits x lim) q r.area in
        omega (arith, shared_inside lim a t ok (table_of row) (place_of row) (text_of c) (row_text t row c e))

    -- its slot says how many units it has
    area_units : (slot : Slot) → SlotIs lim row (Some slot) → slot.text < slot.end → get_or s slot.text 0 ≡ length (text_of c)
    area_units slot z f =
        let (k, d) = subst (λ (x : Texts). (k : Captioned x s slot row (caption t row)) × (k.row_is ≡ c)) q (row_captioned lim t s row slot h z c e) in
        part_first s (length (text_of k.row_is) ∷ []) slot.text (slot.end - slot.text) (omega arith) k.keeps ∙ ap (λ (b : Caption). length (text_of b)) d

    -- and the heads before it where it starts
    area_starts : Rowed lim row → (shared_span lim s (spot (table_of row) (place_of row)) 0).start ≡ start_by (Shared a) lim t row
    area_starts w =
        let p = row_place lim a t (allowed_placed lim t h.0) (table_of row) (place_of row) w.table (omega (arith, w.place)) in
        ap (λ (l : List ℕ). (shared_span lim l (spot (table_of row) (place_of row)) 0).start) bytes_are ∙ ap (λ (n : ℕ). heads_size lim + 2 * n) p

  -- TEXT STANDS: it stands at its start, unit for unit
  pub text_stands : mid_of (text_start lim t row) (2 * length (text_of c)) s ≡ unit_bytes (text_of c)
  text_stands = go lim.texts refl
    where
      go : (x : Texts) → lim.texts ≡ x → mid_of (start_by x lim t row) (2 * length (text_of c)) s ≡ unit_bytes (text_of c)
      go Placed q =
          let (slot, z) = row_there lim t h.0 row c e in
          ap (λ (i : ℕ). mid_of i (2 * length (text_of c)) s) (sym (text_starts lim row slot (in_place q slot z))) ∙ place_shown q slot z
      go (Shared a) q = area_shown a q

  -- TEXT INSIDE: and lies in the store
  pub text_inside : Roomy lim → text_start lim t row + 2 * length (text_of c) ≤ lim.size
  text_inside r = go lim.texts refl
    where
      go : (x : Texts) → lim.texts ≡ x → start_by x lim t row + 2 * length (text_of c) ≤ lim.size
      go Placed q =
          let (slot, z) = row_there lim t h.0 row c e in
          omega (arith, text_starts lim row slot (in_place q slot z), place_inside q slot z r)
      go (Shared a) q = area_inside a q r

-- ---- what is found of it

module _ (lim : Limits) (s : List ℕ) (store : StoreOf lim s) (row : Row) (slot : Slot) (z : SlotIs lim row (Some slot)) where
  fits : SlotFits slot lim.size
  fits = slot_fits lim.texts lim store.roomy store.roomy.area row slot z

  -- TEXT PLACED: in its place, to the first unit that is 0
  pub text_placed : (r : ℕ) → lim.texts ≡ Placed → Found (0 < 2) zeros? 2 (mid_of slot.text (slot.end - slot.text) s) r → TextIs lim s row (record { start = slot.text; bytes = r })
  text_placed r q f t h c e =
      let b : slot.text ≡ text_start lim t row = text_starts lim row slot (in_place lim t s h row c e q slot z) ∙ ap (λ (x : Texts). start_by x lim t row) (sym q) in
      let n : r ≡ 2 * length (text_of c) = place_ends lim t s h row c e q slot z r f in
      (b, n, omega (arith, text_inside lim t s h row c e store.roomy, store.size))

  -- its table has heads in the store
  pub text_in_heads : (at : Spot) → at ≡ spot_of row → (a : ℕ) → lim.texts ≡ Shared a → InHeads lim s at.table at.place
  text_in_heads at p a q =
      let w = slot_rowed lim.texts lim row slot z in
      let f : shared_size lim a ≤ lim.size = subst (λ (x : Texts). AreaFits x lim) q store.roomy.area in
      subst (λ (o : Spot). InHeads lim s o.table o.place) (sym (p ∙ w.spot_is))
      (record { few_channels = store.roomy.few_channels; few_lines = store.roomy.few_lines; heads = omega (arith, store.size); table = w.table; place = omega (arith, w.place) })

  -- TEXT SHARED: in the area, by the heads
  pub text_shared : (at : Spot) → at ≡ spot_of row → (r : Span) → r ≡ shared_span lim s at slot.text → (a : ℕ) → lim.texts ≡ Shared a → TextIs lim s row r
  text_shared at p r d a q t h c e =
      let w = slot_rowed lim.texts lim row slot z in
      let b : r.start ≡ text_start lim t row
      = ap (λ (x : Span). x.start) d ∙ ap (λ (o : Spot). (shared_span lim s o 0).start) (p ∙ w.spot_is) ∙ area_starts lim t s h row c e a q w ∙ ap (λ (x : Texts). start_by x lim t row) (sym q) in
      let n : r.bytes ≡ 2 * length (text_of c) = ap (λ (x : Span). x.bytes) d ∙ ap (λ (i : ℕ). 2 * i) (area_units lim t s h row c e a q slot z fits.ends) in
      (b, n, omega (arith, text_inside lim t s h row c e store.roomy, store.size))
