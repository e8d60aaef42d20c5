-- The bytes of entries one after the other, and entries seen as others. Assumes nothing.
use Rattle.lists.proofs.Kit.{◌≡◌, sym, ap, ap₂, ◌∙◌, subst, ◌↔◌, List, [], ◌∷◌, ◌++◌, ℕ, ◌+◌, ◌≤◌, ◌<◌, arith, mid_of, length, take, drop, get_or, length-drop, take-append-drop, take_all, take_at, drop_at, drop-drop, drop-cons}
use Rattle.slots.specs.Slots.{EntryOf}
use Rattle.store_check.specs.Checks.{Both, joined}

-- ---- an entry seen as another

-- where each entry of one kind is one of another kind with the same bytes
pub entry_turn : {A B : Type 0} (P : A → Type 0) (Q : B → Type 0) (f : A → List ℕ) (g : B → List ℕ) (h : A → B) → ((a : A) → P a → Q (h a)) → ((a : A) → P a → f a ≡ g (h a)) → (s : List ℕ) → EntryOf P f s → EntryOf Q g s
entry_turn P Q f g h p e s x = record { entry = h x.entry; holds = p x.entry x.holds; bytes = x.bytes ∙ e x.entry x.holds }

-- ---- one entry after the other

module _ {A B : Type 0} (P : A → Type 0) (Q : B → Type 0) (f : A → List ℕ) (g : B → List ℕ) (a k : ℕ) (s : List ℕ) where
  -- what stands from a on is an entry of k bytes and what stands behind them
  pub entry_join : EntryOf P f (mid_of a k s) → EntryOf Q g (drop (a + k) s) → EntryOf (Both P Q) (joined f g) (drop a s)
  entry_join x y =
      record {
        entry = (x.entry, y.entry);
        holds = (x.holds, y.holds);
        bytes = sym (take-append-drop k (drop a s)) ∙ ap₂ (λ (u v : List ℕ). u ++ v) x.bytes (drop-drop k a s ∙ y.bytes);
      }

  module _ (long : (x : A) → P x → length (f x) ≡ k) (z : EntryOf (Both P Q) (joined f g) (drop a s)) where
    -- the entry is cut off
    pub entry_first : EntryOf P f (mid_of a k s)
    entry_first =
        let l = long z.entry.0 z.holds.0 in
        record { entry = z.entry.0; holds = z.holds.0; bytes = ap (take k) z.bytes ∙ take_at (f z.entry.0) (g z.entry.1) k l }

    -- and what stands behind it is left
    pub entry_second : EntryOf Q g (drop (a + k) s)
    entry_second =
        let l = long z.entry.0 z.holds.0 in
        record { entry = z.entry.1; holds = z.holds.1; bytes = sym (drop-drop k a s) ∙ ap (drop k) z.bytes ∙ drop_at (f z.entry.0) (g z.entry.1) k l }

-- ---- bytes where they stand

-- the last k bytes
pub rest_is : (s : List ℕ) (a k : ℕ) → length s ≤ a + k → mid_of a k s ≡ drop a s
rest_is s a k h = take_all k (drop a s) (omega (arith, length-drop a s))

-- one byte
pub byte_is : (s : List ℕ) (i : ℕ) → i < length s → mid_of i 1 s ≡ get_or s i 0 ∷ []
byte_is s i h = ap (take 1) (drop-cons s i 0 h)

-- ---- both ways

-- two kinds of entries that have the same bytes
pub record Same {A B : Type 0} (P : A → Type 0) (f : A → List ℕ) (Q : B → Type 0) (g : B → List ℕ) : Type 0 where
  pub to : A → B
  pub back : B → A
  pub good : (a : A) → P a → Q (to a)
  pub back_good : (b : B) → Q b → P (back b)
  pub bytes : (a : A) → P a → f a ≡ g (to a)
  pub back_bytes : (b : B) → Q b → g b ≡ f (back b)

-- are entries of the same bytes
pub entry_same : {A B : Type 0} (P : A → Type 0) (f : A → List ℕ) (Q : B → Type 0) (g : B → List ℕ) → Same P f Q g → (s : List ℕ) → EntryOf P f s ↔ EntryOf Q g s
entry_same P f Q g k s = (entry_turn P Q f g k.to k.good k.bytes s, entry_turn Q P g f k.back k.back_good k.back_bytes s)

module _ {A B : Type 0} (P : A → Type 0) (Q : B → Type 0) (f : A → List ℕ) (g : B → List ℕ) where
  -- what stands from a on is an entry of k bytes and what stands behind them
  pub parts_are : (a k : ℕ) (s : List ℕ) → ((x : A) → P x → length (f x) ≡ k) → (EntryOf P f (mid_of a k s) × EntryOf Q g (drop (a + k) s)) ↔ EntryOf (Both P Q) (joined f g) (drop a s)
  parts_are a k s long = (λ x. entry_join P Q f g a k s x.0 x.1, λ z. (entry_first P Q f g a k s long z, entry_second P Q f g a k s long z))

-- the last entry of k bytes
pub last_is : {A : Type 0} (P : A → Type 0) (f : A → List ℕ) (a k : ℕ) (s : List ℕ) → length s ≤ a + k → EntryOf P f (mid_of a k s) ↔ EntryOf P f (drop a s)
last_is P f a k s h = let e = rest_is s a k h in (subst (EntryOf P f) e, subst (EntryOf P f) (sym e))
