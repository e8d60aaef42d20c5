-- Hash values at a place: bytes as they stand, as many as the code says. Assumes nothing.
use Rattle.lists.proofs.Kit.{ℕ, suc, ◌+◌, ◌-◌, ◌≤◌, ◌<◌, ◌≡◌, refl, sym, ap, ap₂, ◌∙◌, subst, subst⁻¹, ◌≢◌, List, [], ◌∷◌, ◌++◌, map, nil≢cons, arith, length, drop, take, length-append, length-drop, take-append-drop, length-take-le, take_at}
use Rattle.lists.specs.Bytes.{Bytes}
use Rattle.lists.proofs.Seqs.{cut}
use Rattle.writing.specs.Fields.{bits, bits_of, val, Shows}
use Rattle.writing.specs.Ranges.{HashSize, no_hash, hash_4, hash_10}
use Rattle.writing.proofs.Bits.{bits_val}
use Rattle.read_fields.specs.Places.{FieldsAt}
use Rattle.read_fields.specs.Hashes.{HashAt, SizeOf}
use Rattle.std.specs.Prelude.{Some, None}
use Rattle.read_fields.proofs.Parts.{bytes_left, bytes_at}
pub use Rattle.writing.proofs.Lengths.{small_size}

-- ---- the size by the code

-- a code has one size
pub one_size : {code a b : ℕ} → HashSize code a → HashSize code b → a ≡ b
one_size no_hash no_hash = refl
one_size hash_4 hash_4 = refl
one_size hash_10 hash_10 = refl

-- only codes up to 2 have one
pub small_code : {code a : ℕ} → HashSize code a → code ≤ 2
small_code no_hash = omega arith
small_code hash_4 = omega arith
small_code hash_10 = omega arith

-- code 1 has 4 bytes
pub size_4 : {code : ℕ} → code ≡ 1 → SizeOf code 4
size_4 e = (λ l. subst⁻¹ (λ (c : ℕ). HashSize c 4) e hash_4, λ l. omega arith)

-- code 2 has 10
pub size_10 : {code : ℕ} → code ≡ 2 → SizeOf code 10
size_10 e = (λ l. subst⁻¹ (λ (c : ℕ). HashSize c 10) e hash_10, λ l. omega arith)

-- code 0 has none, and 0 stands for the codes out of range
pub size_0 : {code : ℕ} → code ≢ 1 → code ≢ 2 → SizeOf code 0
size_0 {code} a b = (
  λ l.
      let e : code ≡ 0 = omega arith in
      subst⁻¹ (λ (c : ℕ). HashSize c 0) e no_hash,
  λ l. refl,
)

-- ---- bytes as fields of 8 bits

-- bytes are written as they stand
pub bytes_shown : (v : List ℕ) → Bytes v → Shows (map (val 8) v) (bits_of v)
bytes_shown [] h = refl
bytes_shown (b ∷ v) h = (b, bits_of v, refl, h 0, refl, bytes_shown v (λ i. h (suc i)))

-- what is written so are the bytes
pub shown_bytes : (v x : List ℕ) → Bytes x → Shows (map (val 8) v) (bits_of x) → v ≡ x
shown_bytes [] [] h s = refl
shown_bytes [] (y ∷ x) h s = absurd (nil≢cons (sym s))
shown_bytes (b ∷ v) [] h s = let (y, t, e, k, d, r) = s in absurd (nil≢cons d)
shown_bytes (b ∷ v) (y ∷ x) h s =
    let (z, t, e, k, d, r) = s in
    let (p, q) = cut (bits 8 y) (bits 8 z) refl d in
    ap₂ (λ c l. c ∷ l) (sym e ∙ sym (bits_val 8 y z (h 0) k p)) (shown_bytes v x (λ i. h (suc i)) (subst⁻¹ (Shows (map (val 8) v)) q r))

module _ (m : List ℕ) (at : ℕ) (h : Bytes m) where
  -- bytes that stand at a place are those of the message, and end as many further on
  pub bytes_out : (v : List ℕ) (next : ℕ) → FieldsAt (map (val 8) v) m at next
      → (v ≡ take (length v) (drop at m)) × (next ≡ at + length v) × (length v ≤ length m - at)
  bytes_out v next p =
      let x : List ℕ = p.bytes in
      let hx : Bytes x = bytes_left x p.rest (bytes_at m at h (x ++ p.rest) p.split) in
      let e : v ≡ x = shown_bytes v x hx p.written in
      let l : length v ≡ length x = ap length e in (
        e ∙ sym (ap (take (length v)) p.split ∙ take_at x p.rest (length v) (sym l)),
        omega (arith, p.ends),
        omega (arith, sym (length-drop at m) ∙ ap length p.split, length-append x p.rest),
      )

  -- so many bytes of the message stand at a place, where it has them
  pub bytes_in : (k : ℕ) → k ≤ length m - at → FieldsAt (map (val 8) (take k (drop at m))) m at (at + k)
  bytes_in k r =
      let l : List ℕ = drop at m in
      let x : List ℕ = take k l in
      let lx : length x ≡ k = length-take-le k l (omega (arith, length-drop at m)) in
      let hx : Bytes x = bytes_left x (drop k l) (bytes_at m at h (x ++ drop k l) (sym (take-append-drop k l))) in
      record { bytes = x; rest = drop k l; split = sym (take-append-drop k l); ends = ap (λ i. at + i) (sym lx); written = bytes_shown x hx }

  -- ---- the answers of read_hash

  -- no value of a code out of range stands anywhere
  pub no_code : (code : ℕ) → 2 < code → HashAt m at code None
  no_code code l v next s p = omega (arith, small_code s)

  -- none stands where too few bytes are left
  pub no_value : (code size : ℕ) → SizeOf code size → code ≤ 2 → length m - at < size → HashAt m at code None
  no_value code size is c l v next s p = omega (arith, one_size s (is.0 c), (bytes_out v next p).2)

  -- it stands where they are left
  pub the_value : (code size : ℕ) → SizeOf code size → code ≤ 2 → size ≤ length m - at
      → HashAt m at code (Some (record { code = code; start = at }, at + size))
  the_value code size is c l =
      let lx : size ≡ length (take size (drop at m)) = sym (length-take-le size (drop at m) (omega (arith, length-drop at m))) in
      (take size (drop at m), refl, refl, subst (HashSize code) lx (is.0 c), bytes_in size l)
