-- The bytes of an area: its used length, the requests behind it, and zeros. Assumes nothing.
use Rattle.lists.proofs.Kit.{ℕ, ◌≤◌, ◌<◌, ◌+◌, ◌-◌, ◌/◌, ◌%◌, suc, ◌≡◌, refl, sym, ap, ap₂, ◌∙◌, subst, subst⁻¹, List, [], ◌∷◌, ◌++◌, map, map-append, append-nil, append_assoc, length, drop, take, set, replicate, length-append, length-replicate, take_all, replicate-append-replicate, arith, put_mid, mid_of, add-one}
use Rattle.slots.specs.Slots.{flat, pad, u16}
use Rattle.slots.proofs.Pads.{pad_is, pad_length}
use Rattle.slots.proofs.Parts.{flat_append, put_part, get_part}
use Rattle.slots.proofs.Runs.{copy_whole}
use Rattle.plain_log.specs.Area.{area_size, record_bytes, log_bytes, u32, area_bytes}
use Rattle.plain_log.specs.Frames.{PutNumber}

-- ---- the used length

-- a small number in four bytes
u32_small : (n : ℕ) → n < 65536 → u32 n ≡ 0 ∷ 0 ∷ u16 n
u32_small n h =
    let a : n / 65536 ≡ 0 = omega arith in
    let b : n % 65536 ≡ n = omega arith in
    rw (a, b)

-- bytes behind their length, filled up to a size
abbrev pub framed : ℕ → List ℕ → List ℕ
framed size b = 0 ∷ 0 ∷ u16 (length b) ++ (b ++ replicate (size - (4 + length b)) 0)

-- so an area's bytes are
frame_of : (size : ℕ) (b : List ℕ) → 4 + length b ≤ size → size ≤ 65536 → pad 0 size (u32 (length b) ++ b) ≡ framed size b
frame_of size b h k =
    let whole : List ℕ = 0 ∷ 0 ∷ u16 (length b) ++ b in
    ap (λ (l : List ℕ). pad 0 size (l ++ b)) (u32_small (length b) (omega (arith, h, k)))
    ∙ pad_is 0 size whole
    ∙ ap (λ (l : List ℕ). l ++ replicate (size - length whole) 0) (take_all size whole (omega (arith, h)))
    ∙ ap (λ (i : ℕ). whole ++ replicate (size - i) 0) (omega arith)

-- the same of a log
pub area_framed : (log : List (List ℕ)) → 4 + length (log_bytes log) ≤ area_size → area_bytes log ≡ framed area_size (log_bytes log)
area_framed log h = frame_of area_size (log_bytes log) h (omega arith)

-- an area has its size
pub area_long : (log : List (List ℕ)) → length (area_bytes log) ≡ area_size
area_long log = pad_length 0 area_size (u32 (length (log_bytes log)) ++ log_bytes log)

-- ---- a fresh area

-- zeros are the frame of nothing
fresh_frame : (size : ℕ) → 4 ≤ size → size ≤ 65536 → replicate size 0 ≡ pad 0 size (u32 (length {A = ℕ} []) ++ [])
fresh_frame size h k =
    let e : 4 + (size - 4) ≡ size = omega (arith, h) in
    ap (λ (i : ℕ). replicate i 0) (sym e) ∙ sym (replicate-append-replicate 4 (size - 4) 0) ∙ sym (frame_of size [] h k)

-- and those of an area's size are the area of no request
pub fresh_area : (n : ℕ) → n ≡ area_size → replicate n 0 ≡ area_bytes []
fresh_area n e = ap (λ (i : ℕ). replicate i 0) e ∙ fresh_frame area_size (omega arith) (omega arith)

-- ---- two bytes written

-- over two others
two_at : (a r : List ℕ) (p q x y : ℕ) → set (set (a ++ (p ∷ q ∷ r)) (length a) x) (suc (length a)) y ≡ a ++ (x ∷ y ∷ r)
two_at [] r p q x y = refl
two_at (b ∷ a) r p q x y = ap (λ (l : List ℕ). b ∷ l) (two_at a r p q x y)

-- a number, behind bytes
pub number_put : (s a r : List ℕ) (p q at n : ℕ) → s ≡ a ++ (p ∷ q ∷ r) → length a ≡ at → set (set s at (n / 256)) (at + 1) (n % 256) ≡ a ++ (u16 n ++ r)
number_put s a r p q at n e l =
    ap₂ (λ (t : List ℕ) (i : ℕ). set (set t i (n / 256)) (i + 1) (n % 256)) e (sym l)
    ∙ ap (λ (i : ℕ). set (set (a ++ (p ∷ q ∷ r)) (length a) (n / 256)) i (n % 256)) (add-one (length a))
    ∙ two_at a r p q (n / 256) (n % 256)

-- ---- one request more

-- the bytes of a log with one request more
pub log_more : (log : List (List ℕ)) (m : List ℕ) → log_bytes (log ++ (m ∷ [])) ≡ log_bytes log ++ record_bytes m
log_more log m =
    ap flat (map-append record_bytes log (m ∷ [])) ∙ flat_append (map record_bytes log) (record_bytes m ∷ []) ∙ ap (λ (l : List ℕ). log_bytes log ++ l) (append-nil (record_bytes m))

-- and how many they are
pub log_longer : (log : List (List ℕ)) (m : List ℕ) → length (log_bytes (log ++ (m ∷ []))) ≡ length (log_bytes log) + 2 + length m
log_longer log m = ap length (log_more log m) ∙ length-append (log_bytes log) (record_bytes m) ∙ omega arith

-- z zeros are left behind the new request
module _ (size z : ℕ) (b m : List ℕ) (big : size ≡ 4 + length b + 2 + length m + z) (few : size ≤ 65536) where
  -- what stands before it
  abbrev headed : List ℕ
  headed = 0 ∷ 0 ∷ u16 (length b) ++ b

  -- the zeros before, cut in three
  zeros_cut : replicate {A = ℕ} (size - (4 + length b)) 0 ≡ 0 ∷ 0 ∷ (replicate (length m) 0 ++ replicate z 0)
  zeros_cut =
      let e : size - (4 + length b) ≡ 2 + (length m + z) = omega (arith, big) in
      ap (λ (i : ℕ). replicate i 0) e ∙ sym (replicate-append-replicate 2 (length m + z) 0) ∙ ap (λ (l : List ℕ). 0 ∷ 0 ∷ l) (sym (replicate-append-replicate (length m) z 0))

  -- the frame before, cut at the new request
  frame_cut : framed size b ≡ headed ++ (0 ∷ 0 ∷ (replicate (length m) 0 ++ replicate z 0))
  frame_cut = ap (λ (l : List ℕ). 0 ∷ 0 ∷ u16 (length b) ++ (b ++ l)) zeros_cut

  -- and after
  frame_after : 0 ∷ 0 ∷ u16 (length b + 2 + length m) ++ ((b ++ u16 (length m)) ++ (m ++ replicate z 0)) ≡ framed size (b ++ record_bytes m)
  frame_after =
      let e : length (b ++ record_bytes m) ≡ length b + 2 + length m = length-append b (record_bytes m) ∙ omega arith in
      let f : z ≡ size - (4 + length (b ++ record_bytes m)) = omega (arith, big, e) in
      let g : (b ++ u16 (length m)) ++ (m ++ replicate z 0) ≡ (b ++ record_bytes m) ++ replicate z 0
      = append_assoc b (u16 (length m)) (m ++ replicate z 0) ∙ sym (append_assoc b (record_bytes m) (replicate z 0)) in
      ap₂ (λ (i : ℕ) (l : List ℕ). 0 ∷ 0 ∷ u16 i ++ l) (sym e) (g ∙ ap (λ (i : ℕ). (b ++ record_bytes m) ++ replicate i 0) f)

  -- the three writes
  pub framed_more : (s t y u : List ℕ) (at start k : ℕ) → s ≡ framed size b → length s ≡ size → at ≡ 4 + length b → start ≡ at + 2 → k ≡ length m → PutNumber s at (length m) t
      → y ≡ take (length (mid_of start k t)) m ++ drop (length m) (mid_of start k t) → PutNumber (put_mid start k t y) 2 (length b + 2 + length m) u
      → u ≡ framed size (b ++ record_bytes m)
  framed_more s t y u at start k e long a st kk p c q =
      let zs : List ℕ = replicate (length m) 0 ++ replicate z 0 in
      let first : t ≡ (headed ++ u16 (length m)) ++ zs
      = p.1 (omega (arith, long, big, a)) (omega (arith, big, few)) ∙ number_put s headed zs 0 0 at (length m) (e ∙ frame_cut) (omega (arith, a)) ∙ sym (append_assoc headed (u16 (length m)) zs) in
      let before : length (headed ++ u16 (length m)) ≡ start = length-append headed (u16 (length m)) ∙ omega (arith, a, st) in
      let many : length (replicate {A = ℕ} (length m) 0) ≡ k = length-replicate (length m) 0 ∙ sym kk in
      let there : mid_of start k t ≡ replicate (length m) 0 = ap (mid_of start k) first ∙ get_part (headed ++ u16 (length m)) (replicate (length m) 0) (replicate z 0) start k before many in
      let copied : y ≡ m = c ∙ copy_whole m (mid_of start k t) (ap length there ∙ length-replicate (length m) 0) in
      let second : put_mid start k t y ≡ (headed ++ u16 (length m)) ++ (m ++ replicate z 0)
      = ap₂ (λ (x w : List ℕ). put_mid start k x w) first copied ∙ put_part (headed ++ u16 (length m)) (replicate (length m) 0) (replicate z 0) m start k before many in
      q.1 (subst⁻¹ (λ (x : List ℕ). 4 ≤ length x) second (omega arith)) (omega (arith, big, few))
      ∙ number_put (put_mid start k t y) (0 ∷ 0 ∷ []) ((b ++ u16 (length m)) ++ (m ++ replicate z 0)) (length b / 256) (length b % 256) 2 (length b + 2 + length m) second refl
      ∙ frame_after

-- so an area is that of one request more
pub area_more : (log : List (List ℕ)) (m s t y u : List ℕ) (at start k n : ℕ) → s ≡ area_bytes log → length s ≡ area_size → 4 + length (log_bytes log) + 2 + length m ≤ area_size
    → at ≡ 4 + length (log_bytes log) → start ≡ at + 2 → k ≡ length m → n ≡ length (log_bytes log) + 2 + length m → PutNumber s at (length m) t
    → y ≡ take (length (mid_of start k t)) m ++ drop (length m) (mid_of start k t) → PutNumber (put_mid start k t y) 2 n u
    → (u ≡ area_bytes (log ++ (m ∷ []))) × (4 + length (log_bytes (log ++ (m ∷ []))) ≤ area_size)
area_more log m s t y u at start k n e long fits a st kk nn p c q =
    let z : ℕ = area_size - (4 + length (log_bytes log) + 2 + length m) in
    let big : area_size ≡ 4 + length (log_bytes log) + 2 + length m + z = omega (arith, fits) in
    let now : 4 + length (log_bytes (log ++ (m ∷ []))) ≤ area_size = omega (arith, log_longer log m, fits) in
    let same : u ≡ framed area_size (log_bytes log ++ record_bytes m)
    = framed_more area_size z (log_bytes log) m big (omega arith) s t y u at start k (e ∙ area_framed log (omega (arith, fits))) long a st kk p c (subst (λ (i : ℕ). PutNumber (put_mid start k t y) 2 i u) nn q) in
    (same ∙ ap (framed area_size) (sym (log_more log m)) ∙ sym (area_framed (log ++ (m ∷ [])) now), now)
