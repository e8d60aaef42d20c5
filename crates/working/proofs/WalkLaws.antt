-- The tables that have texts, gone through in order: what stands before each is as long in both forms, and then the table. Assumes nothing.
use Rattle.lists.proofs.Kit.{ℕ, zero, suc, ◌+◌, ◌-◌, ◌*◌, ◌≤◌, ◌<◌, ◌≡◌, refl, sym, ap, ap₂, ◌∙◌, List, [], ◌∷◌, ◌++◌, map, append_assoc, not-suc-le-zero, le_of_suc-le-suc, add-one, arith, put_mid, length, take, get_or}
use Rattle.slots.specs.Slots.{sum}
use Rattle.tables.specs.declared.limits.Limits.{Limits}
use Rattle.shared_texts.specs.declared.Run.{Run}
use Rattle.working.specs.Runs.{run_of, slots_end, heads_end, slots_before, heads_before, gap, in_turn}
use Rattle.working.proofs.SlotLaws.{put_behind, put_long}

-- ---- sums over a list

-- one number more
sum_next : {A : Type 0} (f : A → ℕ) (xs : List A) (k : ℕ) (d : A) → k < length xs → sum (map f (take (suc k) xs)) ≡ sum (map f (take k xs)) + f (get_or xs k d)
sum_next f [] k d h = absurd (not-suc-le-zero h)
sum_next f (x ∷ xs) zero d h = omega arith
sum_next f (x ∷ xs) (suc k) d h = omega (arith, sum_next f xs k d (le_of_suc-le-suc h))

pub sum_more : {A : Type 0} (f : A → ℕ) (xs : List A) (k : ℕ) (d : A) → k < length xs → sum (map f (take (k + 1) xs)) ≡ sum (map f (take k xs)) + f (get_or xs k d)
sum_more f xs k d h = ap (λ (j : ℕ). sum (map f (take j xs))) (add-one k) ∙ sum_next f xs k d h

-- the first numbers are not more than all
pub sum_part : {A : Type 0} (f : A → ℕ) (xs : List A) (k : ℕ) → sum (map f (take k xs)) ≤ sum (map f xs)
sum_part f xs zero = omega arith
sum_part f [] (suc k) = omega arith
sum_part f (x ∷ xs) (suc k) = omega (arith, sum_part f xs k)

-- and so they have room with the next
pub sum_fits : {A : Type 0} (f : A → ℕ) (xs : List A) (k : ℕ) (d x : A) (n : ℕ) → k < length xs → x ≡ get_or xs k d → 2 * sum (map f xs) ≤ n → 2 * sum (map f (take k xs)) + 2 * f x ≤ n
sum_fits f xs k d x n h e l = omega (arith, sum_more f xs k d h, sum_part f xs (k + 1), ap f e)

-- ---- where a table stands

-- what holds of each of eight tables
pub each_table : (P : ℕ → Type 0) → P 0 → P 1 → P 2 → P 3 → P 4 → P 5 → P 6 → P 7 → (k : ℕ) → k < 8 → P k
each_table P a b c d e f g i zero h = a
each_table P a b c d e f g i (suc zero) h = b
each_table P a b c d e f g i (suc (suc zero)) h = c
each_table P a b c d e f g i (suc (suc (suc zero))) h = d
each_table P a b c d e f g i (suc (suc (suc (suc zero)))) h = e
each_table P a b c d e f g i (suc (suc (suc (suc (suc zero))))) h = f
each_table P a b c d e f g i (suc (suc (suc (suc (suc (suc zero)))))) h = g
each_table P a b c d e f g i (suc (suc (suc (suc (suc (suc (suc zero))))))) h = i
each_table P a b c d e f g i (suc (suc (suc (suc (suc (suc (suc (suc k)))))))) h = absurd (omega arith)

-- what stands before it is in both forms
pub record Joined (lim : Limits) (k : ℕ) : Type 0 where
  pub before : heads_before lim k ≤ (run_of lim k).start
  pub same : slots_before lim k + gap lim k ≡ (run_of lim k).from

pub joined : (lim : Limits) (k : ℕ) → k < 8 → Joined lim k
joined lim = each_table (Joined lim) (omega arith) (omega arith) (omega arith) (omega arith) (omega arith) (omega arith) (omega arith) (omega arith)

-- the k-th table is the next; its heads and its slots stand behind these places
pub record At (lim : Limits) (heads slots k : ℕ) : Type 0 where
  pub inside : k ≤ 8
  pub heads_at : heads ≡ heads_before lim k
  pub slots_at : slots ≡ slots_before lim k

-- the first is
pub at_start : (lim : Limits) → At lim 0 0 0
at_start lim = record { inside = omega arith; heads_at = refl; slots_at = refl }

module _ {lim : Limits} {heads slots k : ℕ} (v : At lim heads slots k) (h : k < 8) (x : Run) (e : x ≡ run_of lim k) where
  -- what stands between is as long in both forms
  pub at_heads : heads ≤ x.start
  at_heads = omega (arith, (joined lim k h).before, v.heads_at, ap (λ (y : Run). y.start) e)

  pub at_slots : slots + (x.start - heads) ≡ x.from
  at_slots =
      let j = (joined lim k h).same in
      omega (arith, j, v.heads_at, v.slots_at, ap (λ (y : Run). y.start) e, ap (λ (y : Run). y.from) e)

  pub at_gap : x.start - heads ≡ gap lim k
  at_gap = omega (arith, v.heads_at, ap (λ (y : Run). y.start) e)

  -- and has room in both
  pub at_room : (m n : ℕ) → slots_end x ≤ m → heads_end x ≤ n → (slots + (x.start - heads) ≤ m) × (heads + (x.start - heads) ≤ n)
  at_room m n l o = (omega (arith, at_slots), omega (arith, at_heads))

  -- the one behind it
  pub at_next : (p q : ℕ) → p ≡ heads_end x → q ≡ slots_end x → At lim p q (k + 1)
  at_next p q d f = record {
    inside = omega arith;
    heads_at = d ∙ ap heads_end e ∙ sym (ap (heads_before lim) (add-one k));
    slots_at = f ∙ ap slots_end e ∙ sym (ap (slots_before lim) (add-one k));
  }

-- ---- runs of bytes put one behind another

-- the next two
pub next_in_turn : (g p : ℕ → List ℕ) (k : ℕ) (w v u : List ℕ) (a m b n : ℕ) → take a w ≡ in_turn g p k → length (g k) ≡ m → length (p k) ≡ n → a + m ≡ b → b + n ≤ length w → v ≡ put_mid a m w (g k) → u ≡ put_mid b n v (p k)
    → (take (b + n) u ≡ in_turn g p (k + 1)) × (length u ≡ length w)
next_in_turn g p k w v u a m b n e l o s h d f =
    let vl : length v ≡ length w = ap length d ∙ put_long w (g k) a m l (omega arith) in
    let x : take b v ≡ in_turn g p k ++ g k = ap₂ (λ (i : ℕ) (y : List ℕ). take i y) (sym s) d ∙ put_behind w (g k) a m (omega arith) l ∙ ap (λ (y : List ℕ). y ++ g k) e in (
      ap (take (b + n)) f ∙ put_behind v (p k) b n (omega arith) o ∙ ap (λ (y : List ℕ). y ++ p k) x ∙ append_assoc (in_turn g p k) (g k) (p k)
          ∙ sym (ap (in_turn g p) (add-one k)),
      ap length f ∙ put_long v (p k) b n o (omega arith) ∙ vl,
    )
