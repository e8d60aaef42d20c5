-- The hash of a result query and the one kept. Assumes nothing.
use Rattle.lists.proofs.Kit.{ℕ, ◌+◌, ◌-◌, ◌≤◌, ◌≡◌, refl, sym, ap, ◌∙◌, subst, Bool, true, false, true≢false, List, [], ◌∷◌, arith, mid_of, length, get_or, take, drop, eqb, ◌&&◌}
use lib.Pointwise.{pointwise}
use Rattle.lists.specs.Bytes.{Bytes}
use Rattle.slots.specs.Slots.{same?}
use Rattle.slots.proofs.Runs.{same_are, same_refl}
use Rattle.writing.specs.Ranges.{HashSize}
use Rattle.writing.specs.Settings.{Hash}
use Rattle.read_fields.specs.Hashes.{SizeOf}
use Rattle.read_fields.specs.declared.hashes.HashPlace.{HashPlace}
use Rattle.read_fields.proofs.HashLaws.{bytes_out, one_size, small_code}
use Rattle.station.specs.Queries.{SameAs, HashSame}
use Rattle.station.proofs.ReplyLaws.{kept_length, value_cut}

-- equal in each place is the same
pointwise_same : (a b : List ℕ) → pointwise eqb a b ≡ same? a b
pointwise_same [] [] = refl
pointwise_same [] (y ∷ ys) = refl
pointwise_same (x ∷ xs) [] = refl
pointwise_same (x ∷ xs) (y ∷ ys) = ap (λ (q : Bool). eqb x y && q) (pointwise_same xs ys)

module _ (m : List ℕ) (p : HashPlace) (hash : List ℕ) (b : Bytes m) where
  -- other bytes than 11 keep no hash
  pub not_kept : (length hash ≡ 11 → ⊥) → HashSame m p hash false
  not_kept never h k ok e c s x n same = never (kept_length k hash e)

  -- code 0 matches nothing
  pub code_0 : p.code ≡ 0 → HashSame m p hash false
  code_0 z h k ok e c s x n same = n (c ∙ z)

  -- another code than the kept one
  pub other_code : (p.code ≡ get_or hash 0 0 → ⊥) → HashSame m p hash false
  other_code never h k ok e c s x n same = never (sym c ∙ ap (λ (a : Hash). a.code) same ∙ sym (ap (λ (l : List ℕ). get_or l 0 0) e))

  -- a value that is not all there
  pub not_there : (size : ℕ) → SizeOf p.code size → (p.start + size ≤ length m → ⊥) → HashSame m p hash false
  not_there size s never h k ok e c z x n same =
      let (v, l, r) = bytes_out m p.start b h.value (length m) x in
      let q : HashSize p.code (length h.value) = subst (λ (a : ℕ). HashSize a (length h.value)) c z in
      let t : size ≡ length h.value = one_size (s.0 (small_code q)) q in
      never (omega arith)

  -- the values, compared
  pub compared : (size : ℕ) (r : Bool) → SizeOf p.code size → (p.code ≡ 0 → ⊥) → p.code ≡ get_or hash 0 0 → p.start + size ≤ length m
      → r ≡ pointwise eqb (mid_of p.start (p.start + size - p.start) m) (mid_of 1 (1 + size - 1) hash) → HashSame m p hash r
  compared size r s n d l q h k ok e c z x = by r (q ∙ pointwise_same (mid_of p.start (p.start + size - p.start) m) (mid_of 1 (1 + size - 1) hash))
    where
      t : size ≡ length h.value
      t = let y : HashSize p.code (length h.value) = subst (λ (a : ℕ). HashSize a (length h.value)) c z in one_size (s.0 (small_code y)) y

      cut : take size (drop 1 hash) ≡ k.value
      cut = (value_cut k hash size ok e (subst (λ (a : ℕ). SizeOf a size) d s)).1

      mine : h.value ≡ mid_of p.start (p.start + size - p.start) m
      mine = (bytes_out m p.start b h.value (length m) x).0 ∙ ap (λ (a : ℕ). take a (drop p.start m)) (let w : length h.value ≡ p.start + size - p.start = omega (arith, t) in w)

      theirs : mid_of 1 (1 + size - 1) hash ≡ k.value
      theirs = ap (λ (a : ℕ). take a (drop 1 hash)) (let w : 1 + size - 1 ≡ size = omega arith in w) ∙ cut

      code : h.code ≡ k.code
      code = c ∙ d ∙ ap (λ (a : List ℕ). get_or a 0 0) e

      by : (r : Bool) → r ≡ same? (mid_of p.start (p.start + size - p.start) m) (mid_of 1 (1 + size - 1) hash) → SameAs h k r
      by true q =
          let v : h.value ≡ k.value = mine ∙ same_are _ _ (sym q) ∙ theirs in
          ((λ w. n (sym c ∙ w)), λ i. record { code = code i; value = v i })
      by false q = λ w same.
          let v : mid_of p.start (p.start + size - p.start) m ≡ mid_of 1 (1 + size - 1) hash
          = sym mine ∙ ap (λ (a : Hash). a.value) same ∙ sym theirs in
          true≢false (sym (same_refl (mid_of 1 (1 + size - 1) hash)) ∙ ap (λ (a : List ℕ). same? a (mid_of 1 (1 + size - 1) hash)) (sym v) ∙ sym q)
