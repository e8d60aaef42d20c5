-- The regions that are no tables: which bytes are a kept hash, an emergency key, home numbers and a system code. Assumes nothing.
use Rattle.lists.proofs.Kit.{◌≡◌, refl, sym, ap, ap₂, ◌∙◌, subst, Bool, true, false, not, ◌↔◌, ◌≢◌, ◌⊎◌, inl, inr, ⊎_elim, iff_trans, iff_and, List, [], ◌∷◌, ◌++◌, head-eq_of_cons-eq, tail-eq_of_cons-eq, ℕ, suc, ◌+◌, ◌*◌, ◌-◌, ◌/◌, ◌%◌, ◌≤◌, ◌<◌, arith, mid_of, eqb, leb, length, take, drop, get_or, replicate, length-drop, take-append-drop, take_all, drop_at, length-take-le}
use Rattle.lists.specs.Bytes.{Bytes}
use Rattle.lists.proofs.Bytes.{bytes_all, bytes_take}
use Rattle.slots.specs.Slots.{pad, zeros?, u16, u24, EntryOf}
use Rattle.slots.proofs.Pads.{pad_is}
use Rattle.slots.proofs.Runs.{zeros_all, zeros_are}
use Rattle.writing.specs.declared.KeyTarget.{KeyTarget}
use Rattle.writing.specs.declared.KeyTarget.TheVariants.{Current, ToGroup, ToIndividual}
use Rattle.writing.specs.declared.KeyFlags.{KeyFlags}
use Rattle.writing.specs.Ranges.{HashSize, no_hash, hash_4, hash_10}
use Rattle.writing.specs.Writing.{bit, current, to_group}
use Rattle.read_fields.proofs.HashLaws.{one_size, small_code, small_size}
use Rattle.tables.specs.Allowed.{AddressOk, TargetOk, HashOk, HomeOk, SystemOk}
use Rattle.store_check.specs.Checks.{Both, joined, KeyOk}
use Rattle.tables.specs.Layout.{hash_bytes, key_bytes, key_flags, key_address, home_bytes, system_bytes}
use Rattle.tables.specs.Tables.{Key}
use Rattle.tables.proofs.AnswerLaws.{turned, leb_is, ne_is}
use Rattle.store_check.proofs.CheckLaws.{entry_same, parts_are, last_is, rest_is, byte_is}
use Rattle.tables.proofs.EntryCodes.{bit_small}
use Rattle.store_check.proofs.NumberChecks.{Flags, flags_are, odd, odd_is, bit_off, cut_off, pair_is}

-- ---- the hash

-- n bytes are the first k of them filled up where the others are zeros
pad_cut : (n k : ℕ) (v : List ℕ) → length v ≡ n → k ≤ n → zeros? (drop k v) ≡ true → v ≡ pad 0 n (take k v)
pad_cut n k v l h z =
    let m : length (take k v) ≡ k = length-take-le k v (omega arith) in
    let t : take n (take k v) ≡ take k v = take_all n (take k v) (omega arith) in
    let c : length (drop k v) ≡ n - length (take k v) = omega (arith, length-drop k v) in
    let r : drop k v ≡ replicate (n - length (take k v)) 0 = zeros_are (drop k v) z ∙ ap (λ (i : ℕ). replicate i 0) c in
    sym (take-append-drop k v) ∙ ap₂ (λ (a b : List ℕ). a ++ b) (sym t) r ∙ sym (pad_is 0 n (take k v))

-- behind what was filled up stand zeros
pad_rest : (n : ℕ) (xs : List ℕ) → length xs ≤ n → zeros? (drop (length xs) (pad 0 n xs)) ≡ true
pad_rest n xs h =
    let t : take n xs ≡ xs = take_all n xs h in
    ap (λ (l : List ℕ). zeros? (drop (length xs) l)) (pad_is 0 n xs ∙ ap (λ (l : List ℕ). l ++ replicate (n - length xs) 0) t)
    ∙ ap zeros? (drop_at xs (replicate (n - length xs) 0) (length xs) refl) ∙ zeros_all (n - length xs)

-- a code and ten bytes are a hash where those behind the value are zeros
hash_tail : (x : ℕ) (v : List ℕ) (k : ℕ) → length v ≡ 10 → Bytes v → HashSize x k → (zeros? (drop k v) ≡ true) ↔ EntryOf HashOk hash_bytes (x ∷ v)
hash_tail x v k l b q = (
  λ z.
      let m : length (take k v) ≡ k = length-take-le k v (omega (arith, small_size q)) in
      record {
        entry = record { code = x; value = take k v };
        holds = record { size = subst (HashSize x) (sym m) q; bytes = bytes_all (take k v) (bytes_take k v b) };
        bytes = ap (λ (w : List ℕ). x ∷ w) (pad_cut 10 k v l (small_size q) z);
      },
  λ e.
      let h = e.entry in
      let c : x ≡ h.code = head-eq_of_cons-eq e.bytes in
      let m : length h.value ≡ k = one_size (subst (λ (i : ℕ). HashSize i (length h.value)) (sym c) e.holds.size) q in
      ap (λ (i : ℕ). zeros? (drop i v)) (sym m) ∙ ap (λ (w : List ℕ). zeros? (drop (length h.value) w)) (tail-eq_of_cons-eq e.bytes) ∙ pad_rest 10 h.value (omega (arith, small_size q)),
)

module _ (s : List ℕ) (l : length s ≡ 11) (b : Bytes s) where
  -- eleven bytes whose first is a code are a hash where those behind its value are zeros
  hash_at : (code k : ℕ) → HashSize code k → get_or s 0 0 ≡ code → (zeros? (mid_of (suc k) (10 - k) s) ≡ true) ↔ EntryOf HashOk hash_bytes s
  hash_at code k q e = go s l b e
    where
      go : (u : List ℕ) → length u ≡ 11 → Bytes u → get_or u 0 0 ≡ code → (zeros? (mid_of (suc k) (10 - k) u) ≡ true) ↔ EntryOf HashOk hash_bytes u
      go [] m c f = absurd (omega arith)
      go (x ∷ v) m c f =
          let t = hash_tail x v k (omega arith) (λ i. c (suc i)) (subst (λ (i : ℕ). HashSize i k) (sym f) q) in
          let r : mid_of (suc k) (10 - k) (x ∷ v) ≡ drop k v = rest_is v k (10 - k) (omega (arith, small_size q)) in
          (λ z. t.0 (ap zeros? (sym r) ∙ z), λ y. ap zeros? r ∙ t.1 y)

  -- no value is kept
  pub hash_0 : get_or s 0 0 ≡ 0 → (zeros? (mid_of 1 10 s) ≡ true) ↔ EntryOf HashOk hash_bytes s
  hash_0 = hash_at 0 0 no_hash

  -- four bytes are
  pub hash_1 : get_or s 0 0 ≡ 1 → (zeros? (mid_of 5 6 s) ≡ true) ↔ EntryOf HashOk hash_bytes s
  hash_1 = hash_at 1 4 hash_4

  -- or ten
  pub hash_2 : get_or s 0 0 ≡ 2 → EntryOf HashOk hash_bytes s
  hash_2 e = (hash_at 2 10 hash_10 e).0 refl

  -- another code is none
  pub hash_other : (get_or s 0 0 ≡ 0 → ⊥) → (get_or s 0 0 ≡ 1 → ⊥) → (get_or s 0 0 ≡ 2 → ⊥) → EntryOf HashOk hash_bytes s → ⊥
  hash_other n0 n1 n2 e =
      let c : get_or s 0 0 ≡ e.entry.code = ap (λ (u : List ℕ). get_or u 0 0) e.bytes in
      omega (arith, n0, n1, n2, small_code e.holds.size)

-- ---- the emergency key

-- the key of a byte of flags, that calls there
abbrev key_of : ℕ → KeyTarget → Key
key_of b t = record { target = t; flags = record { voice = odd (b / 4); status = odd (b / 2); siren = odd b } }

-- its flags are that byte where current and group are
key_byte : (b : ℕ) (t : KeyTarget) → bit (current t) ≡ b / 16 → bit (to_group t) ≡ bit (odd (b / 8)) → key_flags (key_of b t) ≡ b
key_byte b t p q = omega (arith, bit_off b 8, bit_off b 4, bit_off b 2, odd_is b)

-- a key's byte and its address
module _ (x : ℕ) (v : List ℕ) where
  -- the key calls there, and these are its bytes
  key_made : (t : KeyTarget) → TargetOk t → bit (current t) ≡ x / 16 → bit (to_group t) ≡ bit (odd (x / 8)) → v ≡ u24 (key_address t) → EntryOf KeyOk key_bytes (x ∷ v)
  key_made t k p q e = record { entry = key_of x t; holds = k; bytes = ap₂ (λ (y : ℕ) (w : List ℕ). y ∷ w) (sym (key_byte x t p q)) e }

  -- without current, an address stands there
  key_addressed : x < 16 → EntryOf AddressOk u24 v → EntryOf KeyOk key_bytes (x ∷ v)
  key_addressed h a = go (odd (x / 8)) refl
    where
      go : (g : Bool) → odd (x / 8) ≡ g → EntryOf KeyOk key_bytes (x ∷ v)
      go true q = key_made (ToGroup (record { 0 = a.entry })) a.holds (omega arith) (ap bit (sym q)) a.bytes
      go false q = key_made (ToIndividual (record { 0 = a.entry })) a.holds (omega arith) (ap bit (sym q)) a.bytes

  -- with current, zeros
  key_current : 16 ≤ x → x < 32 → length v ≡ 3 → zeros? v ≡ true → EntryOf KeyOk key_bytes (x ∷ v)
  key_current h k l z = key_made (Current (odd (x / 8))) tt (omega arith) refl (zeros_are v z ∙ ap (λ (i : ℕ). replicate i 0) l)

  -- what the bytes of a key tell
  key_told : EntryOf KeyOk key_bytes (x ∷ v) → ((x < 16) × EntryOf AddressOk u24 v) ⊎ ((16 ≤ x) × (x < 32) × (zeros? v ≡ true))
  key_told e = go e.entry.target e.entry.flags e.holds (head-eq_of_cons-eq e.bytes) (tail-eq_of_cons-eq e.bytes)
    where
      go : (t : KeyTarget) (f : KeyFlags) → TargetOk t → x ≡ key_flags (record { target = t; flags = f }) → v ≡ u24 (key_address t) → ((x < 16) × EntryOf AddressOk u24 v) ⊎ ((16 ≤ x) × (x < 32) × (zeros? v ≡ true))
      go (Current g) f k p q =
          inr (omega arith, omega (arith, bit_small g, bit_small f.voice, bit_small f.status, bit_small f.siren), ap zeros? q)
      go (ToGroup a) f k p q =
          inl (omega (arith, bit_small f.voice, bit_small f.status, bit_small f.siren), record { entry = a.0; holds = k; bytes = q })
      go (ToIndividual a) f k p q =
          inl (omega (arith, bit_small f.voice, bit_small f.status, bit_small f.siren), record { entry = a.0; holds = k; bytes = q })

module _ (s : List ℕ) (l : length s ≡ 4) where
  -- the byte of flags and the three behind it
  key_split : s ≡ get_or s 0 0 ∷ mid_of 1 3 s
  key_split = go s l
    where
      go : (u : List ℕ) → length u ≡ 4 → u ≡ get_or u 0 0 ∷ mid_of 1 3 u
      go [] m = absurd (omega arith)
      go (x ∷ v) m = ap (λ (w : List ℕ). x ∷ w) (sym (take_all 3 v (omega arith)))

  -- they are a key's where these are
  split_is : EntryOf KeyOk key_bytes (get_or s 0 0 ∷ mid_of 1 3 s) ↔ EntryOf KeyOk key_bytes s
  split_is = (subst (EntryOf KeyOk key_bytes) (sym key_split), subst (EntryOf KeyOk key_bytes) key_split)

  -- without current, the address decides
  pub key_there : get_or s 0 0 < 16 → EntryOf AddressOk u24 (mid_of 1 3 s) ↔ EntryOf KeyOk key_bytes s
  key_there h = (
    λ a. split_is.0 (key_addressed (get_or s 0 0) (mid_of 1 3 s) h a),
    λ e. ⊎_elim (λ p. p.1) (λ p. absurd (omega (arith, p.0))) (key_told (get_or s 0 0) (mid_of 1 3 s) (split_is.1 e)),
  )

  -- with current, none is kept
  pub key_here : 16 ≤ get_or s 0 0 → get_or s 0 0 < 32 → (zeros? (mid_of 1 3 s) ≡ true) ↔ EntryOf KeyOk key_bytes s
  key_here h k = (
    λ z. split_is.0 (key_current (get_or s 0 0) (mid_of 1 3 s) h k (length-take-le 3 (drop 1 s) (omega (arith, length-drop 1 s))) z),
    λ e. ⊎_elim (λ p. absurd (omega (arith, p.0))) (λ p. p.2) (key_told (get_or s 0 0) (mid_of 1 3 s) (split_is.1 e)),
  )

  -- another byte is none of a key
  pub key_none : 32 ≤ get_or s 0 0 → EntryOf KeyOk key_bytes s → ⊥
  key_none h e = ⊎_elim (λ p. omega (arith, p.0)) (λ p. omega (arith, p.1)) (key_told (get_or s 0 0) (mid_of 1 3 s) (split_is.1 e))

-- ---- home numbers

module _ (s : List ℕ) (l : length s ≡ 4) (b : Bytes s) where
  -- four bytes are home numbers where both are in range
  home_is : ((get_or s 0 0 * 256 + get_or s 1 0 < 512) × (get_or s 2 0 * 256 + get_or s 3 0 ≤ 806)) ↔ EntryOf HomeOk home_bytes s
  home_is =
      iff_trans (iff_and (pair_is (◌< 512) s 0 (omega arith) b) (iff_trans (pair_is (◌≤ 806) s 2 (omega arith) b) (last_is (◌≤ 806) u16 2 2 s (omega arith))))
      (iff_trans (parts_are (◌< 512) (◌≤ 806) u16 u16 0 2 s (λ a p. refl))
      (entry_same (Both (◌< 512) (◌≤ 806)) (joined u16 u16) HomeOk home_bytes
      (record {
        to = λ x. record { nzi = x.0; np = x.1 };
        back = λ h. (h.nzi, h.np);
        good = λ x p. record { nzi = p.0; np = p.1 };
        back_good = λ h p. (p.nzi, p.np);
        bytes = λ x p. refl;
        back_bytes = λ h p. refl;
      }) s))

  -- NZI has 9 bits
  pub home_wide : (p : ℕ) → p ≡ get_or s 0 0 * 256 + get_or s 1 0 → 511 < p → EntryOf HomeOk home_bytes s → ⊥
  home_wide p e h x = omega (arith, (home_is.1 x).0)

  -- where it has, NP decides
  pub home_np : (p q : ℕ) → p ≡ get_or s 0 0 * 256 + get_or s 1 0 → q ≡ get_or s 2 0 * 256 + get_or s 3 0 → p ≤ 511 → (leb q 806 ≡ true) ↔ EntryOf HomeOk home_bytes s
  home_np p q e f h = turned (leb q 806) (leb_is q 806) (λ n. home_is.0 (omega arith, omega arith)) (λ x. omega (arith, (home_is.1 x).1))

-- ---- the system code

-- LA, roaming and PAR
abbrev Fields : Type 0
Fields = ℕ × (ℕ × Bool)

-- "LA is 0 to 8", "roaming 2 (not 11)"
abbrev FieldsOk : Fields → Type 0
FieldsOk x = (x.0 ≤ 8) × (x.1.0 < 3)

-- "LA 4, roaming 2, PAR 1"
abbrev fields_byte : Fields → ℕ
fields_byte x = x.0 * 8 + x.1.0 * 2 + bit x.1.1

-- a byte's high bits and the two below the lowest show that both are in range
abbrev FieldsIn : ℕ → Type 0
FieldsIn b = (b / 8 ≤ 8) × (b / 2 % 4 ≢ 3)

-- so every such byte is theirs
system_flag : Flags FieldsOk fields_byte FieldsIn
system_flag =
    record {
      of = λ b. (b / 8, (b / 2 % 4, odd b));
      good = λ b r. (r.0, omega (arith, r.1));
      is = λ b r. omega (arith, cut_off b 2 4, odd_is b);
      back = λ x p.
          let q = bit_small x.1.1 in
          let h : (x.0 * 8 + x.1.0 * 2 + bit x.1.1) / 2 ≡ x.0 * 4 + x.1.0 = omega arith in
          (omega (arith, p.0, p.1), λ e. omega (arith, p.1, ap (λ (i : ℕ). i % 4) (sym h) ∙ e));
    }

module _ (s : List ℕ) (l : length s ≡ 3) (b : Bytes s) where
  -- three bytes are a system code where its fields are in range
  system_is : ((get_or s 0 0 * 256 + get_or s 1 0 < 4096) × FieldsIn (get_or s 2 0)) ↔ EntryOf SystemOk system_bytes s
  system_is =
      let e : get_or s 2 0 ∷ [] ≡ drop 2 s = sym (byte_is s 2 (omega arith)) ∙ rest_is s 2 1 (omega arith) in
      let f = flags_are FieldsOk fields_byte FieldsIn system_flag (get_or s 2 0) in
      iff_trans (iff_and (pair_is (◌< 4096) s 0 (omega arith) b) (subst (λ (u : List ℕ). FieldsIn (get_or s 2 0) ↔ EntryOf FieldsOk (λ x. fields_byte x ∷ []) u) e f))
      (iff_trans (parts_are (◌< 4096) FieldsOk u16 (λ x. fields_byte x ∷ []) 0 2 s (λ a p. refl))
      (entry_same (Both (◌< 4096) FieldsOk) (joined u16 (λ x. fields_byte x ∷ [])) SystemOk system_bytes
      (record {
        to = λ x. record { lai = x.0; la = x.1.0; roaming = x.1.1.0; par = x.1.1.1 };
        back = λ h. (h.lai, (h.la, (h.roaming, h.par)));
        good = λ x p. record { lai = p.0; la = p.1.0; roaming = p.1.1 };
        back_good = λ h p. (p.lai, (p.la, p.roaming));
        bytes = λ x p. refl;
        back_bytes = λ h p. refl;
      }) s))

  module _ (p : ℕ) (e : p ≡ get_or s 0 0 * 256 + get_or s 1 0) where
    -- LAI has 12 bits
    pub system_lai : 4095 < p → EntryOf SystemOk system_bytes s → ⊥
    system_lai h x = omega (arith, (system_is.1 x).0)

    -- LA is 0 to 8
    pub system_la : 8 < get_or s 2 0 / 8 → EntryOf SystemOk system_bytes s → ⊥
    system_la h x = omega (arith, (system_is.1 x).1.0)

    -- where they are, roaming decides
    pub system_roaming : p ≤ 4095 → get_or s 2 0 / 8 ≤ 8 → (not (eqb (get_or s 2 0 / 2 % 4) 3) ≡ true) ↔ EntryOf SystemOk system_bytes s
    system_roaming h k = turned (not (eqb (get_or s 2 0 / 2 % 4) 3)) (ne_is _ _) (λ n. system_is.0 (omega arith, (k, n))) (λ x. (system_is.1 x).1.1)
