-- The fixed parts: what the functions that fill them have to show. Assumes nothing.
use Rattle.lists.proofs.Kit.{ℕ, ◌+◌, ◌-◌, ◌*◌, ◌/◌, ◌%◌, ◌≤◌, ◌<◌, ◌≡◌, refl, sym, ap, ap₂, ◌∙◌, subst⁻¹, Bool, List, [], ◌∷◌, ◌++◌, append-nil, arith, put_mid, mid_of, length, set, take, drop, replicate, length-take, drop_of_length-le}
use Rattle.lists.specs.Bytes.{Bytes}
use Rattle.plan.specs.declared.numbers.GroupAddress.{GroupAddress}
use Rattle.plan.specs.declared.numbers.IndividualAddress.{IndividualAddress}
use Rattle.slots.specs.Slots.{pad, u24}
use Rattle.slots.proofs.Runs.{copy_whole}
use Rattle.writing.specs.declared.KeyFlags.{KeyFlags}
use Rattle.writing.specs.declared.KeyTarget.{KeyTarget}
use Rattle.writing.specs.declared.KeyTarget.TheVariants.{Current, ToGroup, ToIndividual}
use Rattle.writing.specs.declared.SystemCode.{SystemCode}
use Rattle.writing.specs.Ranges.{HashSize, no_hash as no_hash_size, hash_4, hash_10}
use Rattle.writing.specs.Writing.{bit, current, to_group}
use Rattle.read_fields.specs.Hashes.{SizeOf}
use Rattle.read_fields.specs.declared.hashes.HashPlace.{HashPlace}
use Rattle.read_fields.proofs.HashLaws.{one_size, small_code, bytes_out}
use Rattle.store_places.specs.Changes.{KeyPut, SystemPut, HashPut}
use Rattle.tables.specs.Layout.{key_address, hash_bytes}
use Rattle.tables.specs.Tables.{no_hash}

-- as many bytes copied over a region are the region
pub copied : (bytes s t : List ℕ) → length s ≡ length bytes → t ≡ take (length s) bytes ++ drop (length bytes) s → t ≡ bytes
copied bytes s t l e = e ∙ copy_whole bytes s l

-- ---- the emergency key

-- the bits of a target
abbrev TargetBits : KeyTarget → ℕ → Type 0
TargetBits t r = (r ≡ bit (current t) * 16 + bit (to_group t) * 8) × (r ≤ 24)

-- the current place has 16, and its group bit
pub current_bits : (t : KeyTarget) (g : Bool) (b : ℕ) → t ≡ Current g → b ≡ bit g → b ≤ 1 → TargetBits t (16 + b * 8)
current_bits t g b e d l = subst⁻¹ (λ (t : KeyTarget). TargetBits t (16 + b * 8)) e (omega arith, omega arith)

-- a group has 8
pub group_bits : (t : KeyTarget) (a : GroupAddress) → t ≡ ToGroup a → TargetBits t 8
group_bits t a e = subst⁻¹ (λ (t : KeyTarget). TargetBits t 8) e (refl, omega arith)

-- an individual has none
pub individual_bits : (t : KeyTarget) (a : IndividualAddress) → t ≡ ToIndividual a → TargetBits t 0
individual_bits t a e = subst⁻¹ (λ (t : KeyTarget). TargetBits t 0) e (refl, omega arith)

-- the sum of the key's bits, and its address
pub key_put : (target : KeyTarget) (flags : KeyFlags) (s t bytes : List ℕ) (r v w x a : ℕ) → TargetBits target r → v ≡ bit flags.voice → w ≡ bit flags.status
    → x ≡ bit flags.siren → a ≡ key_address target → (length bytes ≡ 4) × (a < 16777216 → bytes ≡ (r + v * 4 + w * 2 + x) ∷ u24 a)
    → t ≡ take (length s) bytes ++ drop (length bytes) s → KeyPut target flags s t
key_put target flags s t bytes r v w x a tb ev ew ex ea head e l n =
    let k : r + v * 4 + w * 2 + x ≡ bit (current target) * 16 + bit (to_group target) * 8 + bit flags.voice * 4 + bit flags.status * 2 + bit flags.siren
    = omega (arith, tb.0) in
    copied bytes s t (n ∙ sym head.0) e ∙ head.1 (omega (arith, ea)) ∙ ap₂ (λ (y z : ℕ). y ∷ u24 z) k ea

-- ---- the system code

-- the last byte, cut to its fields, is their sum
pub system_put : (c : SystemCode) (s t : List ℕ) (par : ℕ) → par ≡ bit c.par
    → t ≡ take (length s) (c.lai / 256 ∷ c.lai % 256 ∷ (c.la % 16 * 8 + c.roaming % 4 * 2 + par) ∷ []) ++ drop 3 s → SystemPut c s t
system_put c s t par ep e la roaming n =
    let k : c.la % 16 * 8 + c.roaming % 4 * 2 + par ≡ c.la * 8 + c.roaming * 2 + bit c.par = omega arith in
    copied (c.lai / 256 ∷ c.lai % 256 ∷ (c.la % 16 * 8 + c.roaming % 4 * 2 + par) ∷ []) s t n e ∙ ap (λ (x : ℕ). c.lai / 256 ∷ c.lai % 256 ∷ x ∷ []) k

-- ---- the hash kept

-- zeros are no hash
pub hash_cleared : (s t : List ℕ) → t ≡ replicate (length s) 0 → length s ≡ 11 → t ≡ hash_bytes no_hash
hash_cleared s t e n = e ∙ ap (λ (i : ℕ). replicate i 0) n

-- only code 0 has no bytes
code_0 : {code size : ℕ} → HashSize code size → size ≡ 0 → code ≡ 0
code_0 no_hash_size e = refl
code_0 hash_4 e = absurd (omega arith)
code_0 hash_10 e = absurd (omega arith)

-- a list of no bytes
no_bytes : (v : List ℕ) → length v ≡ 0 → v ≡ []
no_bytes [] e = refl
no_bytes (x ∷ v) e = absurd (omega arith)

module _ (m : List ℕ) (h : Bytes m) (p : HashPlace) (size : ℕ) (is : SizeOf p.code size) where
  -- a hash of no bytes is none
  pub hash_none : (s t : List ℕ) → size ≡ 0 → (length s ≡ 11 → t ≡ hash_bytes no_hash) → HashPut m p s t
  hash_none s t z e v k x n =
      let l : length v ≡ 0 = one_size k (is.0 (small_code k)) ∙ z in
      e n ∙ ap₂ (λ (i : ℕ) (r : List ℕ). i ∷ pad 0 10 r) (sym (code_0 k l)) (sym (no_bytes v l))

  -- no value of some bytes stands outside the message
  pub hash_outside : (s t : List ℕ) → length m - p.start < size → HashPut m p s t
  hash_outside s t l v k x n = absurd (omega (arith, one_size k (is.0 (small_code k)), (bytes_out m p.start h v (p.start + length v) x).2))

  -- the value was written behind the code
  pub hash_put : (s y : List ℕ) → y ≡ pad 0 (length (mid_of 1 (length s - 1) s)) (take (p.start + size - p.start) (drop p.start m))
      → HashPut m p s (set (put_mid 1 (length s - 1) s y) 0 p.code)
  hash_put [] y e v k x n = absurd (omega arith)
  hash_put (b ∷ s) y e v k x n =
      let z : length v ≡ size = one_size k (is.0 (small_code k)) in
      let q : p.start + size - p.start ≡ length v = omega arith in
      let l : length (take (length (b ∷ s) - 1) s) ≡ 10 = simp length-take (omega arith) in
      ap (λ (r : List ℕ). p.code ∷ (y ++ r)) (drop_of_length-le s {i = length (b ∷ s) - 1} (omega arith))
      ∙ ap (λ (r : List ℕ). p.code ∷ r) (append-nil y ∙ e ∙ ap₂ (λ (i : ℕ) (r : List ℕ). pad 0 i r) l
      (ap (λ (i : ℕ). take i (drop p.start m)) q ∙ sym (bytes_out m p.start h v (p.start + length v) x).0))
