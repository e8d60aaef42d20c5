-- A slot loaded by whole chunks, which go on behind it. Assumes nothing.
use Rattle.lists.proofs.Kit.{ℕ, zero, suc, ◌+◌, ◌-◌, ◌*◌, ◌≤◌, ◌<◌, ◌≡◌, refl, sym, ap, ap₂, subst₂, ◌∙◌, List, ◌∷◌, ◌++◌, append_assoc, not-suc-le-zero, le_of_suc-le-suc, arith, put_mid, mid_of, post_of, mid_len, length, take, drop, replicate, length-append, length-drop, length-replicate, length-take-le, take_at, drop_at, take_all, take-add, take-take, take-append-le}
use Rattle.slots.specs.Slots.{pad}
use Rattle.slots.proofs.Pads.{pad_is, pad_length}
use Rattle.slots.proofs.Runs.{copy_whole}
use Rattle.shared_texts.specs.Moves.{spread}
use Rattle.shared_texts.specs.Regions.{last_bytes}
use Rattle.working.proofs.SlotLaws.{put_behind, put_long}
use Rattle.working.proofs.StepLaws.{behind, run_copied}

-- zeros, as far as they are asked for
zeros_front : (k n : ℕ) → k ≤ n → take {A = ℕ} k (replicate n 0) ≡ replicate k 0
zeros_front zero n h = refl
zeros_front (suc k) zero h = absurd (not-suc-le-zero h)
zeros_front (suc k) (suc n) h = ap (λ (l : List ℕ). 0 ∷ l) (zeros_front k n (le_of_suc-le-suc h))

-- what was put at a place, as far as m bytes of it
pub put_front : (s y : List ℕ) (a k m : ℕ) → a ≤ length s → m ≤ length y → take (a + m) (put_mid a k s y) ≡ take a s ++ take m y
put_front s y a k m h l =
    let e : length (take a s) ≡ a = length-take-le a s h in
    take-add a m (put_mid a k s y)
    ∙ ap₂ (λ (p q : List ℕ). p ++ take m q) (take_at (take a s) (y ++ post_of a k s) a e) (drop_at (take a s) (y ++ post_of a k s) a e)
    ∙ ap (λ (q : List ℕ). take a s ++ q) (take-append-le m y (post_of a k s) l)

-- a chunk was moved by way of other bytes
pub chunk_moved : (w s z v y : List ℕ) (to from : ℕ) → to + 48 ≤ length w → from + 48 ≤ length s → length z ≡ 48
    → v ≡ take (length z) (mid_of from (from + 48 - from) s) ++ drop (length (mid_of from (from + 48 - from) s)) z
    → y ≡ take (length (mid_of to (to + 48 - to) w)) v ++ drop (length v) (mid_of to (to + 48 - to) w)
    → put_mid to (to + 48 - to) w y ≡ put_mid to 48 w (mid_of from 48 s)
chunk_moved w s z v y to from h k l e d =
    let m : length (mid_of from (from + 48 - from) s) ≡ 48 = mid_len from (from + 48) s k ∙ behind from 48 in
    let f : v ≡ mid_of from (from + 48 - from) s = e ∙ copy_whole (mid_of from (from + 48 - from) s) z (omega arith) in
    run_copied w s y to from 48 h k (d ∙ ap (λ (x : List ℕ). take (length (mid_of to (to + 48 - to) w)) x ++ drop (length x) (mid_of to (to + 48 - to) w)) f)

-- a chunk was wiped
pub chunk_wiped : (w y : List ℕ) (to : ℕ) → to + 48 ≤ length w → y ≡ replicate (length (mid_of to (to + 48 - to) w)) 0 → put_mid to (to + 48 - to) w y ≡ put_mid to 48 w (replicate 48 0)
chunk_wiped w y to h e =
    ap₂ (λ (i : ℕ) (x : List ℕ). put_mid to i w x) (behind to 48) (e ∙ ap (λ (i : ℕ). replicate i 0) (mid_len to (to + 48) w h ∙ behind to 48))

module _ (s heads area : List ℕ) (to at place own bytes room : ℕ) (ha : at + own ≤ length heads) where
  -- the slot that is loaded
  abbrev slot_is : List ℕ → Type 0
  slot_is t = take (to + own + room) t ≡ take to s ++ (mid_of at own heads ++ pad 0 room (mid_of place bytes area))

  -- its own bytes are all there
  own_long : length (mid_of at own heads) ≡ own
  own_long = length-take-le own (drop at heads) (omega (arith, length-drop at heads))

  -- by chunks: the text, and zeros from its end on
  pub slot_chunked : (a b c : List ℕ) → to + own + 96 ≤ length s → place + 48 ≤ length area → bytes ≤ room → room ≤ 48
      → a ≡ put_mid to own s (mid_of at own heads) → b ≡ put_mid (to + own) 48 a (mid_of place 48 area) → c ≡ put_mid (to + own + bytes) 48 b (replicate 48 0)
      → slot_is c
  slot_chunked a b c hs hp hb hr ea eb ec =
      let tl : length (mid_of place 48 area) ≡ 48 = length-take-le 48 (drop place area) (omega (arith, length-drop place area)) in
      let xl : length (mid_of place bytes area) ≡ bytes = length-take-le bytes (drop place area) (omega (arith, length-drop place area)) in
      let al : length a ≡ length s = ap length ea ∙ put_long s (mid_of at own heads) to own own_long (omega arith) in
      let bl : length b ≡ length s = ap length eb ∙ put_long a (mid_of place 48 area) (to + own) 48 tl (omega arith) ∙ al in
      let p : take (to + own) a ≡ take to s ++ mid_of at own heads = ap (take (to + own)) ea ∙ put_behind s (mid_of at own heads) to own (omega arith) own_long in
      let q : take (to + own + bytes) b ≡ take (to + own) a ++ mid_of place bytes area
      = ap (take (to + own + bytes)) eb ∙ put_front a (mid_of place 48 area) (to + own) 48 bytes (omega arith) (omega arith) ∙ ap (λ (l : List ℕ). take (to + own) a ++ l) (take-take bytes 48 (drop place area) (omega arith)) in
      let r : take (to + own + bytes + (room - bytes)) c ≡ take (to + own + bytes) b ++ replicate (room - bytes) 0
      = ap (take (to + own + bytes + (room - bytes))) ec ∙ put_front b (replicate 48 0) (to + own + bytes) 48 (room - bytes) (omega arith) (omega (arith, length-replicate {A = ℕ} 48 0))
      ∙ ap (λ (l : List ℕ). take (to + own + bytes) b ++ l) (zeros_front (room - bytes) 48 (omega arith)) in
      let n : to + own + room ≡ to + own + bytes + (room - bytes) = omega arith in
      let d : pad 0 room (mid_of place bytes area) ≡ mid_of place bytes area ++ replicate (room - bytes) 0
      = pad_is 0 room (mid_of place bytes area) ∙ ap₂ (λ (l : List ℕ) (i : ℕ). l ++ replicate (room - i) 0) (take_all room (mid_of place bytes area) (omega arith)) xl in
      ap (λ (i : ℕ). take i c) n ∙ r ∙ ap (λ (l : List ℕ). l ++ replicate (room - bytes) 0) (q ∙ ap (λ (l : List ℕ). l ++ mid_of place bytes area) p)
      ∙ append_assoc (take to s ++ mid_of at own heads) (mid_of place bytes area) (replicate (room - bytes) 0)
      ∙ append_assoc (take to s) (mid_of at own heads) (mid_of place bytes area ++ replicate (room - bytes) 0)
      ∙ ap (λ (l : List ℕ). take to s ++ (mid_of at own heads ++ l)) (sym d)

  -- by itself
  pub slot_exact : (y : List ℕ) → to + own + room ≤ length s
      → y ≡ mid_of at (at + own - at) heads ++ pad 0 (length (mid_of to (to + own + room - to) s) - length (mid_of at (at + own - at) heads)) (mid_of place (place + bytes - place) area)
      → slot_is (put_mid to (to + own + room - to) s y)
  slot_exact y hs e =
      let k : to + own + room - to ≡ own + room = omega arith in
      let a : to + (own + room) ≡ to + own + room = omega arith in
      let ol : length (mid_of at (at + own - at) heads) ≡ own = ap (λ (i : ℕ). length (mid_of at i heads)) (behind at own) ∙ own_long in
      let sl : length (mid_of to (to + own + room - to) s) ≡ own + room = mid_len to (to + own + room) s hs ∙ k in
      let r : length (mid_of to (to + own + room - to) s) - length (mid_of at (at + own - at) heads) ≡ room = omega arith in
      let f : y ≡ mid_of at own heads ++ pad 0 room (mid_of place bytes area)
      = e ∙ ap₂ (λ (i j : ℕ). mid_of at i heads ++ pad 0 j (mid_of place (place + bytes - place) area)) (behind at own) r ∙ ap (λ (i : ℕ). mid_of at own heads ++ pad 0 room (mid_of place i area)) (behind place bytes) in
      let yl : length y ≡ own + room = omega (arith, ap length f, length-append (mid_of at own heads) (pad 0 room (mid_of place bytes area)), own_long, pad_length 0 room (mid_of place bytes area)) in
      ap₂ (λ (i j : ℕ). take i (put_mid to j s y)) (sym a) k ∙ put_behind s y to (own + room) (omega arith) yl ∙ ap (λ (l : List ℕ). take to s ++ l) f

-- its own bytes have room in it
pub exact_fits : (s heads : List ℕ) (to at own room : ℕ) → to + own + room ≤ length s → at + own ≤ length heads → length (mid_of at (at + own - at) heads) ≤ length (mid_of to (to + own + room - to) s)
exact_fits s heads to at own room h k = omega (arith, mid_len at (at + own) heads k, mid_len to (to + own + room) s h)

-- ---- a table whose widths are said as numbers

module _ (slots heads area : List ℕ) (n from : ℕ) {own room o r : ℕ} (e : own ≡ o) (d : room ≡ r) where
  -- asks for the same
  pub widths_ask : (n * suc own ≤ length heads) × (length slots ≡ n * (own + room)) × (from + 2 * last_bytes own n heads ≤ length area) × (own + room < 1000)
      → (n * suc o ≤ length heads) × (length slots ≡ n * (o + r)) × (from + 2 * last_bytes o n heads ≤ length area) × (o + r < 1000)
  widths_ask = subst₂ (λ (i j : ℕ). (n * suc i ≤ length heads) × (length slots ≡ n * (i + j)) × (from + 2 * last_bytes i n heads ≤ length area) × (i + j < 1000)) e d

  -- and is loaded as the same
  pub widths_answer : (x : ℕ) (y : List ℕ) → (x ≡ from + 2 * last_bytes o n heads) × (y ≡ spread o r n heads (drop from area)) → (x ≡ from + 2 * last_bytes own n heads) × (y ≡ spread own room n heads (drop from area))
  widths_answer x y = subst₂ (λ (i j : ℕ). (x ≡ from + 2 * last_bytes i n heads) × (y ≡ spread i j n heads (drop from area))) (sym e) (sym d)
