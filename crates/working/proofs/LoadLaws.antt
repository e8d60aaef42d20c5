-- Loading a table, slot by slot. Assumes nothing.
use Rattle.lists.proofs.Kit.{ℕ, suc, ◌+◌, ◌-◌, ◌*◌, ◌≤◌, ◌<◌, ◌≡◌, refl, sym, ap, ap₂, ◌∙◌, List, [], ◌++◌, append_assoc, append-nil, zero-mul, sub-zero, arith, put_mid, mid_of, post_of, mid_len, length, take, drop, get_or, length-append, length-drop, drop_of_length-le, take_at, take_all, drop-drop, get_or-drop, length-take-le}
use Rattle.slots.specs.Slots.{pad}
use Rattle.shared_texts.specs.Moves.{spread}
use Rattle.shared_texts.specs.Regions.{last_bytes}
use Rattle.shared_texts.proofs.Rows.{last_step}
use Rattle.working.proofs.SlotLaws.{pad_whole, slot_inside, slot_next}

-- the first i slots are loaded
pub record Loading (slots heads area : List ℕ) (own room n from width place at to i : ℕ) : Type 0 where
  pub inside : i ≤ n
  pub wide : width ≡ own + room
  pub at_is : at ≡ i * suc own
  pub to_is : to ≡ i * width
  pub long : length slots ≡ n * width
  pub counted : place + 2 * last_bytes own (n - i) (drop at heads) ≡ from + 2 * last_bytes own n heads
  pub done : take to slots ++ spread own room (n - i) (drop at heads) (drop place area) ≡ spread own room n heads (drop from area)

-- one slot more is spread
spread_step : (own room n i at place : ℕ) (heads area : List ℕ) → i < n
    → spread own room (n - i) (drop at heads) (drop place area) ≡ (mid_of at own heads ++ pad 0 room (mid_of place (2 * get_or heads (at + own) 0) area)) ++ spread own room (n - (i + 1)) (drop (at + own + 1) heads) (drop (place + 2 * get_or heads (at + own) 0) area)
spread_step own room n i at place heads area h =
    let e : n - i ≡ suc (n - (i + 1)) = omega arith in
    let k : at + suc own ≡ at + own + 1 = omega arith in
    let u = get_or-drop at heads own 0 in
    ap (λ (j : ℕ). spread own room j (drop at heads) (drop place area)) e
    ∙ ap (λ (c : ℕ). (take own (drop at heads) ++ pad 0 room (take (2 * c) (drop place area))) ++ spread own room (n - (i + 1)) (drop (suc own) (drop at heads)) (drop (2 * c) (drop place area))) u
    ∙ ap₂ (λ (x y : List ℕ). (mid_of at own heads ++ pad 0 room (mid_of place (2 * get_or heads (at + own) 0) area)) ++ spread own room (n - (i + 1)) x y)
    (drop-drop (suc own) at heads ∙ ap (λ (j : ℕ). drop j heads) k) (drop-drop (2 * get_or heads (at + own) 0) place area)

module _ (slots heads area : List ℕ) (own room n from width : ℕ) where
  -- at the start nothing is loaded
  pub load_start : width ≡ own + room → length slots ≡ n * (own + room) → Loading slots heads area own room n from width from 0 0 0
  load_start w l =
      record {
        inside = omega arith;
        wide = w;
        at_is = sym (zero-mul (suc own));
        to_is = sym (zero-mul width);
        long = l ∙ ap (λ (j : ℕ). n * j) (sym w);
        counted = ap (λ (j : ℕ). from + 2 * last_bytes own j heads) (sub-zero n);
        done = ap (λ (j : ℕ). spread own room j heads (drop from area)) (sub-zero n);
      }

module _ {slots heads area : List ℕ} {own room n from width place at to i : ℕ} (v : Loading slots heads area own room n from width place at to i) where
  -- a next slot has room
  pub load_room : i < n → to + width ≤ length slots
  load_room h = omega (arith, slot_inside i n width h, v.to_is, v.long)

  -- and its head stands there
  pub load_head : i < n → n * suc own ≤ length heads → at + own < length heads
  load_head h l = omega (arith, slot_inside i n (suc own) h, v.at_is)

  -- and its text
  pub load_text : i < n → from + 2 * last_bytes own n heads ≤ length area → place + get_or heads (at + own) 0 * 2 ≤ length area
  load_text h l = omega (arith, last_step own heads at n i h, v.counted)

  -- what loading the slot asks for
  pub load_asks : (x : ℕ) → i < n → n * suc own ≤ length heads → from + 2 * last_bytes own n heads ≤ length area → x ≡ get_or heads (at + own) 0
      → (to + own + room ≤ length slots) × (at + own ≤ length heads) × (place + x * 2 ≤ length area)
  load_asks x h l k e = (omega (arith, load_room h, v.wide), omega (arith, load_head h l), omega (arith, load_text h k))

  -- one slot more is loaded
  pub load_more : (x : ℕ) (y : List ℕ) → i < n → x ≡ get_or heads (at + own) 0 → length y ≡ length slots
      → take (to + own + room) y ≡ take to slots ++ (mid_of at own heads ++ pad 0 room (mid_of place (x * 2) area))
      → Loading y heads area own room n from width (place + x * 2) (at + own + 1) (to + width) (i + 1)
  load_more x y h e l d =
      let u : ℕ = get_or heads (at + own) 0 in
      let c : x * 2 ≡ 2 * u = omega arith in
      let b : to + width ≡ to + own + room = omega (arith, v.wide) in
      let p : place + x * 2 ≡ place + 2 * u = omega arith in
      record {
        inside = omega arith;
        wide = v.wide;
        at_is = omega (arith, slot_next i (suc own), v.at_is);
        to_is = omega (arith, slot_next i width, v.to_is);
        long = l ∙ v.long;
        counted = omega (arith, last_step own heads at n i h, v.counted);
        done = ap₂ (λ (j : ℕ) (k : ℕ). take j y ++ spread own room (n - (i + 1)) (drop (at + own + 1) heads) (drop k area)) b p
            ∙ ap (λ (z : List ℕ). z ++ spread own room (n - (i + 1)) (drop (at + own + 1) heads) (drop (place + 2 * u) area)) (d ∙ ap (λ (j : ℕ). take to slots ++ (mid_of at own heads ++ pad 0 room (mid_of place j area))) c)
            ∙ append_assoc (take to slots) (mid_of at own heads ++ pad 0 room (mid_of place (2 * u) area)) _
            ∙ ap (λ (z : List ℕ). take to slots ++ z) (sym (spread_step own room n i at place heads area h))
            ∙ v.done;
      }

  -- at the end all are
  pub load_end : n ≤ i → (place ≡ from + 2 * last_bytes own n heads) × (slots ≡ spread own room n heads (drop from area))
  load_end h =
      let z : n - i ≡ 0 = omega arith in
      let w : i ≡ n = omega (arith, v.inside) in
      let t : to ≡ length slots = v.to_is ∙ ap (λ (j : ℕ). j * width) w ∙ sym v.long in (
        omega (arith, v.counted, ap (λ (j : ℕ). last_bytes own j (drop at heads)) z),
        sym (append-nil slots) ∙ ap₂ (λ (x y : List ℕ). x ++ y) (sym (take_all to slots (omega arith))) (ap (λ (j : ℕ). spread own room j (drop at heads) (drop place area)) (sym z)) ∙ v.done,
      )

-- a slot that was loaded: its own bytes, and then the text
pub slot_loaded : (s own text t u v : List ℕ) → length own ≤ length s → v ≡ pad 0 (length (mid_of 0 (length own - 0) s)) own → t ≡ put_mid 0 (length own - 0) s v → u ≡ pad 0 (length (mid_of (length own) (length t - length own) t)) text
    → put_mid (length own) (length t - length own) t u ≡ own ++ pad 0 (length s - length own) text
slot_loaded s own text t u v h e f g =
    let n : ℕ = length own in
    let z : n - 0 ≡ n = sub-zero n in
    let a : v ≡ own = e ∙ pad_whole own _ (sym (ap (λ (j : ℕ). length (mid_of 0 j s)) z ∙ length-take-le n s h)) in
    let b : t ≡ own ++ drop n s = f ∙ ap₂ (λ (j : ℕ) (x : List ℕ). x ++ drop j s) z a in
    let l : length t ≡ length s = omega (arith, ap length b, length-append own (drop n s), length-drop n s) in
    let c : length (mid_of n (length t - n) t) ≡ length s - n = mid_len n (length t) t (omega arith) ∙ ap (λ (j : ℕ). j - n) l in
    let d : take n t ≡ own = ap (take n) b ∙ take_at own (drop n s) n refl in
    let p : post_of n (length t - n) t ≡ [] = drop_of_length-le (drop n t) {i = length t - n} (omega (arith, length-drop n t)) in
    ap₂ (λ (x y : List ℕ). x ++ (u ++ y)) d p ∙ ap (λ (x : List ℕ). own ++ x) (append-nil u ∙ g ∙ ap (λ (j : ℕ). pad 0 j text) c)
