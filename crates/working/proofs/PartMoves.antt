-- Bytes put in a run of bytes, and read before, at and behind their place; a table's region and the area, put together of what was saved. Assumes nothing.
use Rattle.lists.proofs.Kit.{ℕ, ◌+◌, ◌-◌, ◌*◌, ◌≤◌, ◌≡◌, sym, ap, ap₂, ◌∙◌, List, ◌++◌, append_assoc, arith, put_mid, mid_of, post_of, length, take, drop, replicate, length-append, length-drop, length-take-le, take-append-drop, take-append-le, drop-append-le, drop_at, drop-drop, take_all}
use Rattle.slots.specs.Slots.{pad}
use Rattle.slots.proofs.Pads.{pad_is}
use Rattle.slots.proofs.Parts.{get_part}
use Rattle.shared_texts.specs.declared.Run.{Run}
use Rattle.shared_texts.specs.Moves.{gathered_texts, placed_units}
use Rattle.shared_texts.specs.Shared.{slots_in}
use Rattle.working.specs.PartSaving.{region_size, saved_region, joined_texts}
use Rattle.working.specs.Runs.{slots_end, heads_end}
use Rattle.working.specs.Saving.{own_size, gathered_in, texts_in_slots, next_text}
use Rattle.working.proofs.SlotLaws.{put_behind, put_long}
use Rattle.working.proofs.WholeLaws.{tail_put}

-- ---- bytes that were put

-- of two runs of bytes, what stands in the first
front_mid : (x q : List ℕ) (b m : ℕ) → b + m ≤ length x → mid_of b m (x ++ q) ≡ mid_of b m x
front_mid x q b m h = ap (take m) (drop-append-le b x q (omega arith)) ∙ take-append-le m (drop b x) q (omega (arith, length-drop b x))

module _ (s y : List ℕ) (a n : ℕ) (h : a ≤ length s) (l : length y ≡ n) where
  -- what stands behind them stays
  put_rest : drop (a + n) (put_mid a n s y) ≡ drop (a + n) s
  put_rest =
      ap (drop (a + n)) (sym (append_assoc (take a s) y (post_of a n s)))
      ∙ drop_at (take a s ++ y) (post_of a n s) (a + n) (omega (arith, length-append (take a s) y, length-take-le a s h)) ∙ drop-drop n a s

  pub mid_behind : (b m : ℕ) → a + n ≤ b → mid_of b m (put_mid a n s y) ≡ mid_of b m s
  mid_behind b m k =
      let e : a + n + (b - (a + n)) ≡ b = omega arith in
      let d : drop (a + n + (b - (a + n))) (put_mid a n s y) ≡ drop (a + n + (b - (a + n))) s
      = sym (drop-drop (b - (a + n)) (a + n) (put_mid a n s y)) ∙ ap (drop (b - (a + n))) put_rest ∙ drop-drop (b - (a + n)) (a + n) s in
      ap (take m) (sym (ap (λ (i : ℕ). drop i (put_mid a n s y)) e) ∙ d ∙ ap (λ (i : ℕ). drop i s) e)

  -- and so does what stands before them
  pub mid_before : (b m : ℕ) → b + m ≤ a → mid_of b m (put_mid a n s y) ≡ mid_of b m s
  mid_before b m k =
      let t : b + m ≤ length (take a s) = omega (arith, length-take-le a s h) in
      front_mid (take a s) (y ++ post_of a n s) b m t ∙ sym (front_mid (take a s) (drop a s) b m t) ∙ ap (mid_of b m) (take-append-drop a s)

  -- they are read
  pub mid_put : mid_of a n (put_mid a n s y) ≡ y
  mid_put = get_part (take a s) y (post_of a n s) a n (length-take-le a s h) l

  -- others are put behind them
  pub put_two : (z : List ℕ) (j : ℕ) → put_mid (a + n) j (put_mid a n s y) z ≡ put_mid a (n + j) s (y ++ z)
  put_two z j =
      let e : a + n + j ≡ a + (n + j) = omega arith in
      ap₂ (λ (p q : List ℕ). p ++ (z ++ drop j q)) (put_behind s y a n h l) put_rest
      ∙ append_assoc (take a s) y (z ++ drop j (drop (a + n) s))
      ∙ ap (λ (q : List ℕ). take a s ++ q) (sym (append_assoc y z (drop j (drop (a + n) s))))
      ∙ ap (λ (q : List ℕ). take a s ++ ((y ++ z) ++ q)) (drop-drop j (a + n) s ∙ ap (λ (i : ℕ). drop i s) e ∙ sym (drop-drop (n + j) a s))

-- ---- a table's region

-- a count, heads and an order were put, one behind another
pub region_put : (x : Run) (s w s₁ s₂ s₃ : List ℕ) (i j : ℕ) → i ≤ x.start → i ≤ x.from → heads_end x + j ≤ length s → slots_end x + j ≤ length w → length (gathered_in x w) ≡ own_size x
    → s₁ ≡ put_mid (x.start - i) i s (mid_of (x.from - i) i w) → s₂ ≡ put_mid x.start (own_size x) s₁ (gathered_in x w) → s₃ ≡ put_mid (heads_end x) j s₂ (mid_of (slots_end x) j w)
    → s₃ ≡ put_mid (x.start - i) (region_size x i j) s (saved_region x i j w)
region_put x s w s₁ s₂ s₃ i j h k o p g d e f =
    let at : ℕ = x.start - i in
    let c : List ℕ = mid_of (x.from - i) i w in
    let y : List ℕ = mid_of (slots_end x) j w in
    let b : at + i ≡ x.start = omega arith in
    let cl : length c ≡ i = length-take-le i (drop (x.from - i) w) (omega (arith, length-drop (x.from - i) w)) in
    let l : length s₁ ≡ length s = ap length d ∙ put_long s c at i cl (omega arith) in
    f ∙ ap (λ (z : List ℕ). put_mid (heads_end x) j z y) e ∙ put_two s₁ (gathered_in x w) x.start (own_size x) (omega arith) g y j
    ∙ ap₂ (λ (q : ℕ) (z : List ℕ). put_mid q (own_size x + j) z (gathered_in x w ++ y)) (sym b) d
    ∙ put_two s c at i (omega arith) cl (gathered_in x w ++ y) (own_size x + j)

-- ---- the area

-- zeros behind bytes fill them up
filled : (a : ℕ) (f : List ℕ) → length f ≤ a → f ++ replicate (a - length f) 0 ≡ pad 0 a f
filled a f h = ap (λ (g : List ℕ). g ++ replicate (a - length f) 0) (sym (take_all a f h)) ∙ sym (pad_is 0 a f)

module _ (x : Run) (w v a : List ℕ) (spare behind n : ℕ) (under : slots_end x ≤ spare) (room : spare + n ≤ length w) (there : behind + n ≤ length a) (e : v ≡ put_mid spare n w (mid_of behind n a)) where
  kept_long : length (mid_of behind n a) ≡ n
  kept_long = length-take-le n (drop behind a) (omega (arith, length-drop behind a))

  -- what is kept in the spare bytes leaves the table's slots
  slots_stay : slots_in v x ≡ slots_in w x
  slots_stay = ap (λ (l : List ℕ). slots_in l x) e ∙ mid_before w (mid_of behind n a) spare n (omega arith) kept_long x.from (x.many * (x.own + x.room)) under

  kept_stays : mid_of spare n v ≡ mid_of behind n a
  kept_stays = ap (mid_of spare n) e ∙ mid_put w (mid_of behind n a) spare n (omega arith) kept_long

  module _ (place next : ℕ) (b : List ℕ) (l : length b ≡ length a)
      (f : next_text x v place ≤ length a → (next ≡ next_text x v place) × (take next b ≡ take place a ++ texts_in_slots v x)) (h : next_text x w place + n ≤ length a) where
    -- its texts were saved
    gathered : (next ≡ next_text x w place) × (take next b ≡ take place a ++ texts_in_slots w x)
    gathered =
        let s : next_text x v place ≡ next_text x w place = ap (λ (l : List ℕ). place + 2 * placed_units x.own x.room x.many l) slots_stay in
        let (p, q) = f (omega arith) in
        (p ∙ s, q ∙ ap (λ (l : List ℕ). take place a ++ gathered_texts x.own x.room x.many l) slots_stay)

    -- so what was kept has room behind them
    pub kept_room : next + n ≤ length a
    kept_room = omega (arith, gathered.0)

    -- AREA-JOINED: it was put there, and what stands behind it was wiped
    pub area_joined : (c z : List ℕ) → c ≡ put_mid next n b (mid_of spare n v) → z ≡ replicate (length (mid_of (next + n) (length c - (next + n)) c)) 0
        → put_mid (next + n) (length c - (next + n)) c z ≡ pad 0 (length a) (joined_texts x w place behind n a)
    area_joined c z d o =
        let y : List ℕ = mid_of behind n a in
        let f : List ℕ = joined_texts x w place behind n a in
        let t : take next b ++ y ≡ f = ap (λ (g : List ℕ). g ++ y) gathered.1 ∙ append_assoc (take place a) (texts_in_slots w x) y in
        let m : length f ≡ next + n = sym (ap length t) ∙ length-append (take next b) y ∙ ap₂ (λ (i j : ℕ). i + j) (length-take-le next b (omega (arith, kept_room))) kept_long in
        let q : length b - (next + n) ≡ length a - length f = ap₂ (λ (i j : ℕ). i - j) l (sym m) in
        tail_put b y c z next n kept_long (omega (arith, kept_room)) (d ∙ ap (put_mid next n b) kept_stays) o
        ∙ sym (append_assoc (take next b) y (replicate (length b - (next + n)) 0))
        ∙ ap₂ (λ (g : List ℕ) (i : ℕ). g ++ replicate i 0) t q
        ∙ filled (length a) f (omega (arith, kept_room))
