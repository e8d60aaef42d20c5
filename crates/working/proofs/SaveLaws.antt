-- Saving a table, slot by slot: its heads, and its texts. Assumes nothing.
use Rattle.lists.proofs.Kit.{ℕ, suc, ◌+◌, ◌-◌, ◌*◌, ◌/◌, ◌≤◌, ◌<◌, ◌≡◌, refl, sym, ap, ap₂, ◌∙◌, List, [], ◌∷◌, ◌++◌, append_assoc, append-nil, zero-mul, sub-zero, arith, put_mid, mid_of, mid_len, length, take, drop, set, length-append, length-drop, drop-drop, length-take-le, set_at, take_all}
use Rattle.slots.specs.Slots.{pad}
use Rattle.shared_texts.specs.Moves.{slot_units, gathered_heads, gathered_texts, placed_units}
use Rattle.working.specs.Saving.{TextEnds}
use Rattle.working.proofs.SlotLaws.{pad_whole, slot_inside, slot_next, put_behind, put_long, slot_stands, slot_used, heads_step, texts_step, units_step}

-- a head that was saved: its own bytes, and then the number
pub head_saved : (s own v : List ℕ) (units : ℕ) → length s ≡ length own + 1 → v ≡ pad 0 (length (mid_of 0 (length own - 0) s)) own → set (put_mid 0 (length own - 0) s v) (length own) units ≡ own ++ (units ∷ [])
head_saved s own v units l e =
    let n : ℕ = length own in
    let z : n - 0 ≡ n = sub-zero n in
    let a : v ≡ own = e ∙ pad_whole own _ (sym (ap (λ (j : ℕ). length (mid_of 0 j s)) z ∙ length-take-le n s (omega arith))) in
    let d : length (drop n s) ≡ 1 = omega (arith, length-drop n s) in
    ap₂ (λ (j : ℕ) (x : List ℕ). set (x ++ drop j s) n units) z a ∙ one (drop n s) d
  where
    one : (r : List ℕ) → length r ≡ 1 → set (own ++ r) (length own) units ≡ own ++ (units ∷ [])
    one [] q = absurd (omega arith)
    one (b ∷ []) q = set_at own b [] units (length own) refl
    one (b ∷ c ∷ r) q = absurd (omega arith)

-- ---- heads

-- those of the first i slots are saved
pub record Heading (heads slots : List ℕ) (own room n at to i : ℕ) : Type 0 where
  pub inside : i ≤ n
  pub at_is : at ≡ i * suc own
  pub to_is : to ≡ i * (own + room)
  pub long : length heads ≡ n * suc own
  pub wide : n * (own + room) ≤ length slots
  pub narrow : own + room < 500
  pub whole : room ≡ room / 2 * 2
  pub done : take at heads ++ gathered_heads own room (n - i) (drop to slots) ≡ gathered_heads own room n slots

-- at the start none is
pub heading_start : (heads slots : List ℕ) (own room n : ℕ) → length heads ≡ n * suc own → n * (own + room) ≤ length slots → own + room < 500 → room ≡ room / 2 * 2 → Heading heads slots own room n 0 0 0
heading_start heads slots own room n l w s e = record {
  inside = omega arith;
  at_is = sym (zero-mul (suc own));
  to_is = sym (zero-mul (own + room));
  long = l;
  wide = w;
  narrow = s;
  whole = e;
  done = ap (λ (j : ℕ). gathered_heads own room j slots) (sub-zero n);
}

module _ {heads slots : List ℕ} {own room n at to i : ℕ} (v : Heading heads slots own room n at to i) (h : i < n) where
  -- a next slot stands there
  pub heading_slot : to + own + room ≤ length slots
  heading_slot = slot_stands slots own room i n to h v.to_is v.wide

  -- its head has room
  pub heading_room : at + own + 1 ≤ length heads
  heading_room = omega (arith, slot_inside i n (suc own) h, v.at_is, v.long)

  -- one byte more than the slot's own
  pub heading_fits : length (mid_of at (at + own + 1 - at) heads) ≡ length (mid_of to (to + own - to) slots) + 1
  heading_fits = omega (arith, mid_len at (at + own + 1) heads heading_room, mid_len to (to + own) slots (omega (arith, heading_slot)))

  module _ (r : ℕ) (f : TextEnds (mid_of (to + own) (to + own + room - (to + own)) slots) r) where
    -- the number of its units fits a byte
    pub heading_units : r / 2 < 256
    heading_units = omega (arith, (slot_used slots own room to r v.whole heading_slot f).1, v.narrow)

    -- the head is saved
    pub heading_more : (x : List ℕ) → x ≡ mid_of to (to + own - to) slots ++ (r / 2 ∷ []) → Heading (put_mid at (at + own + 1 - at) heads x) slots own room n (at + own + 1) (to + own + room) (i + 1)
    heading_more x ex =
        let a : at + own + 1 - at ≡ own + 1 = omega arith in
        let c : to + own - to ≡ own = omega arith in
        let u : r / 2 ≡ slot_units own room (drop to slots) = omega (arith, (slot_used slots own room to r v.whole heading_slot f).0) in
        let k : at + own + 1 ≡ at + (own + 1) = omega arith in
        let ol : length (mid_of to own slots) ≡ own = length-take-le own (drop to slots) (omega (arith, length-drop to slots, heading_slot)) in
        let d : x ≡ take own (drop to slots) ++ (slot_units own room (drop to slots) ∷ []) = ex ∙ ap₂ (λ (j : ℕ) (w : ℕ). mid_of to j slots ++ (w ∷ [])) c u in
        let xl : length x ≡ own + 1 = omega (arith, ap length d, length-append (take own (drop to slots)) (slot_units own room (drop to slots) ∷ [])) in
        record {
          inside = omega arith;
          at_is = omega (arith, slot_next i (suc own), v.at_is);
          to_is = omega (arith, slot_next i (own + room), v.to_is);
          long = ap (λ (j : ℕ). length (put_mid at j heads x)) a ∙ put_long heads x at (own + 1) xl (omega (arith, heading_room)) ∙ v.long;
          wide = v.wide;
          narrow = v.narrow;
          whole = v.whole;
          done = ap₂ (λ (j l : ℕ). take j (put_mid at l heads x) ++ gathered_heads own room (n - (i + 1)) (drop (to + own + room) slots)) k a
              ∙ ap (λ (l : List ℕ). l ++ gathered_heads own room (n - (i + 1)) (drop (to + own + room) slots)) (put_behind heads x at (own + 1) (omega (arith, heading_room)) xl ∙ ap (λ (l : List ℕ). take at heads ++ l) d)
              ∙ append_assoc (take at heads) (take own (drop to slots) ++ (slot_units own room (drop to slots) ∷ [])) _
              ∙ ap (λ (l : List ℕ). take at heads ++ l) (sym (heads_step slots own room i n to h)) ∙ v.done;
        }

-- at the end all are
pub heading_end : {heads slots : List ℕ} {own room n at to i : ℕ} → Heading heads slots own room n at to i → n ≤ i → heads ≡ gathered_heads own room n slots
heading_end {heads} {slots} {own} {room} {n} {at} {to} {i} v h =
    let z : n - i ≡ 0 = omega arith in
    let w : i ≡ n = omega (arith, v.inside) in
    let t : at ≡ length heads = v.at_is ∙ ap (λ (j : ℕ). j * suc own) w ∙ sym v.long in
    sym (append-nil heads) ∙ ap₂ (λ (x y : List ℕ). x ++ y) (sym (take_all at heads (omega arith))) (ap (λ (j : ℕ). gathered_heads own room j (drop to slots)) (sym z)) ∙ v.done

-- ---- texts

-- the first i slots were gone through, and what was saved is in the area
pub record Walking (area slots before : List ℕ) (own room n place to i : ℕ) : Type 0 where
  pub inside : i ≤ n
  pub to_is : to ≡ i * (own + room)
  pub long : length area ≡ length before
  pub wide : n * (own + room) ≤ length slots
  pub whole : room ≡ room / 2 * 2
  pub room_is : place ≤ length before

-- at the start none was
pub walking_start : (area slots : List ℕ) (own room n from : ℕ) → n * (own + room) ≤ length slots → from ≤ length area → room ≡ room / 2 * 2 → Walking area slots area own room n from 0 0
walking_start area slots own room n from w l e = record { inside = omega arith; to_is = sym (zero-mul (own + room)); long = refl; wide = w; whole = e; room_is = l }

module _ {area slots before : List ℕ} {own room n place to i : ℕ} (v : Walking area slots before own room n place to i) (h : i < n) where
  -- a next slot stands there
  pub walking_slot : to + own + room ≤ length slots
  walking_slot = slot_stands slots own room i n to h v.to_is v.wide

  module _ (r : ℕ) (f : TextEnds (mid_of (to + own) (to + own + room - (to + own)) slots) r) (l : place + r ≤ length area) where
    -- with its text
    pub walking_room : (place + r ≤ length area) × (to + own + r ≤ length slots)
    walking_room = (l, omega (arith, (slot_used slots own room to r v.whole walking_slot f).1, walking_slot))

    -- which is saved
    pub walking_more : (u : List ℕ) → u ≡ put_mid place r area (mid_of (to + own) r slots) → Walking u slots before own room n (place + r) (to + own + room) (i + 1)
    walking_more u d =
        let yl : length (mid_of (to + own) r slots) ≡ r = length-take-le r (drop (to + own) slots) (omega (arith, length-drop (to + own) slots, walking_room.1)) in
        record {
          inside = omega arith;
          to_is = omega (arith, slot_next i (own + room), v.to_is);
          long = ap length d ∙ put_long area (mid_of (to + own) r slots) place r yl l ∙ v.long;
          wide = v.wide;
          whole = v.whole;
          room_is = omega (arith, v.long);
        }

-- those of the first i slots are saved
pub record Texting (area slots before : List ℕ) (own room n from place to i : ℕ) : Type 0 where
  pub inside : i ≤ n
  pub to_is : to ≡ i * (own + room)
  pub long : length area ≡ length before
  pub wide : n * (own + room) ≤ length slots
  pub room_is : from + 2 * placed_units own room n slots ≤ length before
  pub whole : room ≡ room / 2 * 2
  pub counted : place + 2 * placed_units own room (n - i) (drop to slots) ≡ from + 2 * placed_units own room n slots
  pub done : take place area ++ gathered_texts own room (n - i) (drop to slots) ≡ take from before ++ gathered_texts own room n slots

-- at the start none is
pub texting_start : (area slots : List ℕ) (own room n from : ℕ) → n * (own + room) ≤ length slots → from + 2 * placed_units own room n slots ≤ length area → room ≡ room / 2 * 2 → Texting area slots area own room n from from 0 0
texting_start area slots own room n from w l e = record {
  inside = omega arith;
  to_is = sym (zero-mul (own + room));
  long = refl;
  wide = w;
  room_is = l;
  whole = e;
  counted = ap (λ (j : ℕ). from + 2 * placed_units own room j slots) (sub-zero n);
  done = ap (λ (j : ℕ). take from area ++ gathered_texts own room j slots) (sub-zero n);
}

module _ {area slots before : List ℕ} {own room n from place to i : ℕ} (v : Texting area slots before own room n from place to i) (h : i < n) where
  -- a next slot stands there
  pub texting_slot : to + own + room ≤ length slots
  texting_slot = slot_stands slots own room i n to h v.to_is v.wide

  module _ (r : ℕ) (f : TextEnds (mid_of (to + own) (to + own + room - (to + own)) slots) r) where
    -- its text
    r_is : r ≡ 2 * slot_units own room (drop to slots)
    r_is = (slot_used slots own room to r v.whole texting_slot f).0

    -- has room
    pub texting_room : (place + r ≤ length area) × (to + own + r ≤ length slots)
    texting_room = (
      omega (arith, r_is, units_step slots own room i n to h, v.counted, v.long, v.room_is),
      omega (arith, (slot_used slots own room to r v.whole texting_slot f).1, texting_slot),
    )

    -- and is saved
    pub texting_more : (u : List ℕ) → u ≡ put_mid place r area (mid_of (to + own) r slots) → Texting u slots before own room n from (place + r) (to + own + room) (i + 1)
    texting_more u d =
        let y : List ℕ = mid_of (to + own) r slots in
        let yl : length y ≡ r = length-take-le r (drop (to + own) slots) (omega (arith, length-drop (to + own) slots, texting_room.1)) in
        let g : y ≡ take (2 * slot_units own room (drop to slots)) (drop own (drop to slots)) = ap₂ (λ (j : ℕ) (w : List ℕ). take j w) r_is (sym (drop-drop own to slots)) in
        record {
          inside = omega arith;
          to_is = omega (arith, slot_next i (own + room), v.to_is);
          long = ap length d ∙ put_long area y place r yl texting_room.0 ∙ v.long;
          wide = v.wide;
          room_is = v.room_is;
          whole = v.whole;
          counted = omega (arith, r_is, units_step slots own room i n to h, v.counted);
          done = ap (λ (l : List ℕ). take (place + r) l ++ gathered_texts own room (n - (i + 1)) (drop (to + own + room) slots)) d
              ∙ ap (λ (l : List ℕ). l ++ gathered_texts own room (n - (i + 1)) (drop (to + own + room) slots)) (put_behind area y place r (omega (arith, texting_room.0)) yl ∙ ap (λ (l : List ℕ). take place area ++ l) g)
              ∙ append_assoc (take place area) (take (2 * slot_units own room (drop to slots)) (drop own (drop to slots))) _
              ∙ ap (λ (l : List ℕ). take place area ++ l) (sym (texts_step slots own room i n to h)) ∙ v.done;
        }

-- at the end all are
pub texting_end : {area slots before : List ℕ} {own room n from place to i : ℕ} → Texting area slots before own room n from place to i → n ≤ i
    → (place ≡ from + 2 * placed_units own room n slots) × (take place area ≡ take from before ++ gathered_texts own room n slots)
texting_end {area} {slots} {before} {own} {room} {n} {from} {place} {to} {i} v h =
    let z : n - i ≡ 0 = omega arith in (
      omega (arith, v.counted, ap (λ (j : ℕ). placed_units own room j (drop to slots)) z),
      sym (append-nil (take place area)) ∙ ap (λ (y : List ℕ). take place area ++ y) (ap (λ (j : ℕ). gathered_texts own room j (drop to slots)) (sym z)) ∙ v.done,
    )
