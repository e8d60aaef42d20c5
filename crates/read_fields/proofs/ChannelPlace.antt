-- The channel in a place of a list: where its 12 bits stand. Assumes nothing.
use Rattle.lists.proofs.Kit.{ℕ, zero, suc, ◌+◌, ◌*◌, ◌/◌, ◌%◌, ◌≤◌, ◌<◌, ◌≡◌, refl, sym, ◌∙◌, subst, List, [], ◌∷◌, arith, length, get_or, drop, take}
use Rattle.lists.specs.Bytes.{Bytes}
use Rattle.read_fields.specs.Places.{FieldsAt, be}
use Rattle.read_fields.specs.Entries.{channel_list}
use Rattle.read_fields.proofs.Heads.{be_turn, be_small, three_bytes}
use Rattle.read_fields.proofs.ChannelWalk.{pair_out, single_out}

-- two bytes of three, the first two and the last two
two_of_three : (m : List ℕ) (p : ℕ) → Bytes m → p + 3 ≤ length m
    → (be 0 (take 3 (drop p m)) / 4096 ≡ be 0 (take 2 (drop p m)) / 16) × (be 0 (take 3 (drop p m)) % 4096 ≡ be 0 (take 2 (drop (p + 1) m)) % 4096)
two_of_three m p h r =
    let a = three_bytes m p r in
    let b = be_turn m p 2 (omega arith) in
    let s = h (p + 2) in
    (omega arith, omega arith)

-- twice j, by which a list loses two at a time
abbrev twice : ℕ → ℕ
twice zero = 0
twice (suc j) = suc (suc (twice j))

twice_is : (j : ℕ) → twice j ≡ 2 * j
twice_is zero = refl
twice_is (suc j) = omega (arith, twice_is j)

-- the channel in place i, whose pair starts at q
pub record Here (m es : List ℕ) (i q : ℕ) : Type 0 where
  pub even : i % 2 ≡ 0 → (q + 2 ≤ length m) × (get_or es i 0 ≡ be 0 (take 2 (drop q m)) / 16)
  pub odd : i % 2 ≡ 1 → (q + 3 ≤ length m) × (get_or es i 0 ≡ be 0 (take 2 (drop (q + 1) m)) % 4096)

module _ (m : List ℕ) (h : Bytes m) where
  first_two : (es : List ℕ) (p next i : ℕ) → FieldsAt (channel_list es) m p next → i < length es → i < 2 → Here m es i p
  first_two [] p next i x l k = absurd (omega arith)
  first_two (a ∷ []) p next zero x l k =
      let z = single_out m p next h a x in record { even = λ e. (z.room, z.first); odd = λ e. absurd (omega arith) }
  first_two (a ∷ []) p next (suc i) x l k = absurd (omega arith)
  first_two (a ∷ b ∷ rest) p next zero x l k =
      let z = pair_out m p next h a b rest x in
      let (u, v) = two_of_three m p h z.room in
      record { even = λ e. (omega (arith, z.room), z.first ∙ u); odd = λ e. absurd (omega arith) }
  first_two (a ∷ b ∷ rest) p next (suc zero) x l k =
      let z = pair_out m p next h a b rest x in
      let (u, v) = two_of_three m p h z.room in
      record { even = λ e. absurd (omega arith); odd = λ e. (z.room, z.second ∙ v) }
  first_two (a ∷ b ∷ rest) p next (suc (suc i)) x l k = absurd (omega arith)

  -- pairs before it take three bytes each
  from_pair : (j i : ℕ) (es : List ℕ) (p next : ℕ) → FieldsAt (channel_list es) m p next → i < 2 → twice j + i < length es → Here m es (twice j + i) (p + j * 3)
  from_pair zero i es p next x k l =
      let z : 0 + i ≡ i = omega arith in
      let q : p + 0 * 3 ≡ p = omega arith in
      subst (λ (n : ℕ). Here m es n (p + 0 * 3)) (sym z) (subst (Here m es i) (sym q) (first_two es p next i x (omega arith) k))
  from_pair (suc j) i [] p next x k l = absurd (omega arith)
  from_pair (suc j) i (a ∷ []) p next x k l = absurd (omega arith)
  from_pair (suc j) i (a ∷ b ∷ rest) p next x k l =
      let y = from_pair j i rest (p + 3) next (pair_out m p next h a b rest x).more k (omega arith) in
      let q : p + 3 + j * 3 ≡ p + suc j * 3 = omega arith in
      let n : suc (suc (twice j)) + i ≡ suc (suc (twice j + i)) = omega arith in
      subst (λ (n : ℕ). Here m (a ∷ b ∷ rest) n (p + suc j * 3)) (sym n) (subst (Here m (a ∷ b ∷ rest) (suc (suc (twice j + i)))) q
      (record { even = λ e. y.even (omega arith); odd = λ e. y.odd (omega arith) }))

  -- where the channel in place i stands
  pub channel_here : (i : ℕ) (es : List ℕ) (p next : ℕ) → FieldsAt (channel_list es) m p next → i < length es → Here m es i (p + i / 2 * 3)
  channel_here i es p next x l =
      let e : twice (i / 2) + i % 2 ≡ i = omega (arith, twice_is (i / 2)) in
      subst (λ (n : ℕ). Here m es n (p + i / 2 * 3)) e (from_pair (i / 2) (i % 2) es p next x (omega arith) (omega arith))

  -- two bytes are there in any case
  pub here_room : {es : List ℕ} {i q : ℕ} → Here m es i q → q + 2 ≤ length m
  here_room {i = i} {q = q} z = by (i % 2) refl
    where
      by : (r : ℕ) → i % 2 ≡ r → q + 2 ≤ length m
      by zero e = (z.even e).0
      by (suc zero) e = omega (arith, (z.odd e).0)
      by (suc (suc r)) e = omega arith

  -- the channel that the code cuts out
  pub even_is : {es : List ℕ} {i q N : ℕ} → Here m es i q → i % 2 ≡ 0 → N ≡ be 0 (take 2 (drop q m)) → N / 16 % 4096 ≡ get_or es i 0
  even_is {es} {i} {q} {N} z e n =
      let (r, g) = z.even e in
      let s : be 0 (take 2 (drop q m)) < 65536 = be_small m q 2 h r in
      omega (arith, s, g)

  pub odd_is : {es : List ℕ} {i q N : ℕ} → Here m es i q → (i % 2 ≡ 0 → ⊥) → N ≡ be 0 (take 2 (drop (q + 1) m)) → N % 4096 ≡ get_or es i 0
  odd_is {es} {i} {q} {N} z e n = let (r, g) = z.odd (omega arith) in omega (arith, g)
