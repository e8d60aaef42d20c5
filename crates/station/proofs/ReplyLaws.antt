-- The bytes of a reply, and that the code writes them. Assumes nothing.
use Rattle.lists.proofs.Kit.{ℕ, suc, ◌+◌, ◌-◌, ◌*◌, ◌/◌, ◌%◌, ◌^◌, ◌≤◌, ◌<◌, ◌≡◌, refl, sym, ap, ap₂, ◌∙◌, subst, List, [], ◌∷◌, ◌++◌, map, append_assoc, arith, mid_of, post_of, put_mid, mid_len, length, get_or, take, drop, replicate, length-append, length-drop, take_at, drop_at, take_all, drop-drop}
use native.Mathlib.Decide.{dec_le}
use Rattle.slots.proofs.Runs.{copy_whole}
use Rattle.lists.proofs.Bytes.{all_bytes}
use Rattle.lists.specs.Every.{All}
use Rattle.slots.proofs.Pads.{pad_is, pad_length}
use Rattle.writing.specs.Canonical.{plain, FitsField}
use Rattle.writing.specs.Fields.{Field, val, res}
use Rattle.writing.specs.Ranges.{HashSize}
use Rattle.writing.specs.Settings.{Hash}
use Rattle.writing.proofs.Bits.{widths_map}
use Rattle.writing.proofs.CanonicalLaws.{plain_append, plain_shows, plain_bytes}
use Rattle.read_fields.specs.Hashes.{SizeOf}
use Rattle.read_fields.proofs.HashLaws.{shown_bytes, one_size, small_size, small_code}
use Rattle.tables.specs.Allowed.{HashOk}
use Rattle.tables.specs.Layout.{hash_bytes}
use Rattle.slots.specs.Slots.{written_over}
use Rattle.station.specs.Replies.{reply_bytes}

-- a hash value has at most 10 bytes
pub size_most : {code size : ℕ} → SizeOf code size → size ≤ 10
size_most {code} {size} (a, b) = by (dec_le code 2)
  where
    by : Dec (code ≤ 2) → size ≤ 10
    by (yes l) = small_size (a l)
    by (no n) = let e : size ≡ 0 = b (omega arith) in omega arith

-- values below 256 fit 8 bits
fits : (v : List ℕ) → All (◌< 256) v → All FitsField (map (val 8) v)
fits [] h = tt
fits (x ∷ v) h = (h.0, fits v h.1)

-- the bytes of values of 8 bits are the values
pub plain_values : (v : List ℕ) → All (◌< 256) v → plain (map (val 8) v) ≡ v
plain_values v h =
    let fit : All FitsField (map (val 8) v) = fits v h in
    sym (shown_bytes v (plain (map (val 8) v)) (all_bytes (plain (map (val 8) v)) (plain_bytes (map (val 8) v)))
    (plain_shows (map (val 8) v) (length v) (widths_map (val 8) 8 (λ x. refl) v ∙ omega arith) fit))

-- the eight bytes of the carrier and the reply's head
eight : (n result failed code : ℕ) → n < 256 → result < 256 → failed < 256 → code < 64
    → plain (val 16 n ∷ val 8 0x08 ∷ res 4 ∷ val 4 0 ∷ val 5 1 ∷ val 3 1 ∷ val 8 result ∷ val 8 failed ∷ res 2 ∷ val 6 code ∷ [])
    ≡ 0 ∷ n ∷ 8 ∷ 0 ∷ 9 ∷ result ∷ failed ∷ code ∷ []
eight n result failed code a b c d =
    let N : ℕ = n * 2 ^ 48 + (8 * 2 ^ 40 + (0 * 2 ^ 36 + (0 * 2 ^ 32 + (1 * 2 ^ 27 + (1 * 2 ^ 24 + (result * 2 ^ 16 + (failed * 2 ^ 8 + (0 * 2 ^ 6 + (code * 2 ^ 0 + 0))))))))) in
    let e0 : N / 2 ^ 56 % 256 ≡ 0 = omega arith in
    let e1 : N / 2 ^ 48 % 256 ≡ n = omega arith in
    let e2 : N / 2 ^ 40 % 256 ≡ 8 = omega arith in
    let e3 : N / 2 ^ 32 % 256 ≡ 0 = omega arith in
    let e4 : N / 2 ^ 24 % 256 ≡ 9 = omega arith in
    let e5 : N / 2 ^ 16 % 256 ≡ result = omega arith in
    let e6 : N / 2 ^ 8 % 256 ≡ failed = omega arith in
    let e7 : N / 2 ^ 0 % 256 ≡ code = omega arith in
    λ i. e0 i ∷ e1 i ∷ e2 i ∷ e3 i ∷ e4 i ∷ e5 i ∷ e6 i ∷ e7 i ∷ []

-- the first ten bytes of a reply, and the hash value after them
pub reply_is : (result failed : ℕ) (h : Hash) → result < 256 → failed < 256 → HashOk h
    → reply_bytes result failed h ≡ 2 ∷ 2 ∷ 0 ∷ (6 + length h.value) ∷ 8 ∷ 0 ∷ 9 ∷ result ∷ failed ∷ h.code ∷ h.value
reply_is result failed h r f ok =
    let n : ℕ = length h.value in
    let s = small_size ok.size in
    let c = small_code ok.size in
    let fit : All FitsField (map (val 8) h.value) = fits h.value ok.bytes in
    let head : List Field
    = val 16 (6 + n) ∷ val 8 0x08 ∷ res 4 ∷ val 4 0 ∷ val 5 1 ∷ val 3 1 ∷ val 8 result ∷ val 8 failed ∷ res 2 ∷ val 6 h.code ∷ [] in
    ap (λ (l : List ℕ). 2 ∷ 2 ∷ l)
    (plain_append head (map (val 8) h.value) 8 n refl (widths_map (val 8) 8 (λ x. refl) h.value ∙ omega arith) fit
    ∙ ap₂ (λ (a b : List ℕ). a ++ b) (eight (6 + n) result failed h.code (omega arith) r f (omega arith)) (plain_values h.value ok.bytes))

-- a hash is kept in 11 bytes
pub kept_length : (h : Hash) (hash : List ℕ) → hash ≡ hash_bytes h → length hash ≡ 11
kept_length h hash e = ap length e ∙ ap suc (pad_length 0 10 h.value)

-- the value is cut out of the bytes that keep it
pub value_cut : (h : Hash) (hash : List ℕ) (size : ℕ) → HashOk h → hash ≡ hash_bytes h → SizeOf (get_or hash 0 0) size
    → (size ≡ length h.value) × (take size (drop 1 hash) ≡ h.value)
value_cut h hash size ok e s =
    let c : get_or hash 0 0 ≡ h.code = ap (λ (l : List ℕ). get_or l 0 0) e in
    let z : HashSize h.code size = subst (λ (k : ℕ). HashSize k size) c (s.0 (omega (arith, small_code ok.size))) in
    let n : size ≡ length h.value = one_size z ok.size in
    let m = small_size ok.size in (
      n,
      ap (λ (l : List ℕ). take size (drop 1 l)) e ∙ ap (take size) (pad_is 0 10 h.value ∙ ap (λ (l : List ℕ). l ++ replicate (10 - length h.value) 0) (take_all 10 h.value m))
          ∙ take_at h.value (replicate (10 - length h.value) 0) size (sym n),
    )

-- ten bytes, then the value, over the buffer
pub reply_done : (result failed size : ℕ) (h : Hash) (hash buffer a b : List ℕ) → result < 256 → failed < 256 → HashOk h → hash ≡ hash_bytes h
    → SizeOf (get_or hash 0 0) size → 20 ≤ length buffer
    → a ≡ 2 ∷ 2 ∷ 0 ∷ (6 + size % 16) ∷ 8 ∷ 0 ∷ 9 ∷ result ∷ failed ∷ get_or hash 0 0 ∷ [] → b ≡ take size (drop 1 hash)
    → put_mid 10 (10 + size - 10) (a ++ post_of 0 10 buffer) b ≡ written_over (reply_bytes result failed h) buffer
reply_done result failed size h hash buffer a b r f ok e s l ea eb =
    let (n, v) = value_cut h hash size ok e s in
    let m = small_size ok.size in
    let q : 6 + size % 16 ≡ 6 + length h.value = omega arith in
    let c : get_or hash 0 0 ≡ h.code = ap (λ (x : List ℕ). get_or x 0 0) e in
    let la : length a ≡ 10 = ap length ea in
    let head : List ℕ = 2 ∷ 2 ∷ 0 ∷ (6 + length h.value) ∷ 8 ∷ 0 ∷ 9 ∷ result ∷ failed ∷ h.code ∷ [] in
    let ha : a ≡ head = ea ∙ ap₂ (λ (x y : ℕ). 2 ∷ 2 ∷ 0 ∷ x ∷ 8 ∷ 0 ∷ 9 ∷ result ∷ failed ∷ y ∷ []) q c in
    let is : reply_bytes result failed h ≡ head ++ h.value = reply_is result failed h r f ok in
    let ln : length (reply_bytes result failed h) ≡ 10 + size = ap length is ∙ length-append head h.value ∙ omega arith in
    let w : 10 + size - 10 ≡ size = omega arith in
    let z : drop (10 + size - 10) (drop 10 (a ++ drop 10 buffer)) ≡ drop (10 + size) buffer
    = ap (drop (10 + size - 10)) (drop_at a (drop 10 buffer) 10 la) ∙ ap (λ (k : ℕ). drop k (drop 10 buffer)) w ∙ drop-drop size 10 buffer in
    let t : take 10 (a ++ drop 10 buffer) ≡ a = take_at a (drop 10 buffer) 10 la in
    ap₂ (λ (x y : List ℕ). x ++ y) (t ∙ ha) (ap₂ (λ (x y : List ℕ). x ++ y) (eb ∙ v) z)
    ∙ sym (append_assoc head h.value (drop (10 + size) buffer))
    ∙ ap₂ (λ (x : List ℕ) (k : ℕ). x ++ drop k buffer) (sym is) (sym ln)

-- the value's part of the buffer is there
pub room_after : (a buffer : List ℕ) (size : ℕ) → length a ≡ length (mid_of 0 10 buffer) → size ≤ 10 → 20 ≤ length buffer → 10 + size ≤ length (a ++ post_of 0 10 buffer)
room_after a buffer size e s l =
    omega (arith, length-append a (drop 10 buffer), length-drop 10 buffer, mid_len 0 10 buffer (omega arith))

-- the same, as the two copies left it
pub reply_copied : (result failed size : ℕ) (h : Hash) (hash buffer a b : List ℕ) → result < 256 → failed < 256 → HashOk h → hash ≡ hash_bytes h
    → length hash ≡ 11 → SizeOf (get_or hash 0 0) size → 20 ≤ length buffer
    → a ≡ take (length (mid_of 0 10 buffer)) (2 ∷ 2 ∷ 0 ∷ (6 + size % 16) ∷ 8 ∷ 0 ∷ 9 ∷ result ∷ failed ∷ get_or hash 0 0 ∷ [])
    ++ drop 10 (mid_of 0 10 buffer)
    → b ≡ take (length (mid_of 10 (10 + size - 10) (a ++ post_of 0 10 buffer))) (mid_of 1 (1 + size - 1) hash)
    ++ drop (length (mid_of 1 (1 + size - 1) hash)) (mid_of 10 (10 + size - 10) (a ++ post_of 0 10 buffer))
    → (put_mid 10 (10 + size - 10) (a ++ post_of 0 10 buffer) b ≡ written_over (reply_bytes result failed h) buffer) × (10 + size % 16 ≡ 10 + length h.value)
reply_copied result failed size h hash buffer a b r f ok e lh s l ea eb =
    let (n, v) = value_cut h hash size ok e s in
    let m = size_most s in
    let X : List ℕ = 2 ∷ 2 ∷ 0 ∷ (6 + size % 16) ∷ 8 ∷ 0 ∷ 9 ∷ result ∷ failed ∷ get_or hash 0 0 ∷ [] in
    let l0 : length (mid_of 0 10 buffer) ≡ 10 = mid_len 0 10 buffer (omega arith) in
    let a' : a ≡ X = ea ∙ copy_whole X (mid_of 0 10 buffer) l0 in
    let la : length a ≡ 10 = ap length a' in
    let y : List ℕ = mid_of 1 (1 + size - 1) hash in
    let d : List ℕ = mid_of 10 (10 + size - 10) (a ++ post_of 0 10 buffer) in
    let ly : length y ≡ 1 + size - 1 = mid_len 1 (1 + size) hash (omega arith) in
    let ld : length d ≡ 10 + size - 10 = mid_len 10 (10 + size) (a ++ post_of 0 10 buffer) (room_after a buffer size (omega arith) m l) in
    let w : 1 + size - 1 ≡ size = omega arith in
    let b' : b ≡ take size (drop 1 hash) = eb ∙ copy_whole y d (omega arith) ∙ ap (λ (k : ℕ). take k (drop 1 hash)) w in
    (reply_done result failed size h hash buffer a b r f ok e s l a' b', omega arith)
