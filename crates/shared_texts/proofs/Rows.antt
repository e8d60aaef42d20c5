-- Tables in two halves: heads that count the units of texts, and the texts; each half is read back from the whole, and they make it. Assumes nothing.
use Rattle.lists.proofs.Kit.{ℕ, zero, suc, ◌+◌, ◌-◌, ◌*◌, ◌≤◌, ◌<◌, ◌≡◌, refl, ap, ap₂, ◌∙◌, List, [], ◌∷◌, ◌++◌, map, nil≢cons, cons≢nil, head-eq_of_cons-eq, tail-eq_of_cons-eq, Option, none, some, not-suc-le-zero, le_of_suc-le-suc, arith, length, take, drop, get_or, replicate, get_or-replicate, drop_at, drop-drop, get_or-drop}
use lib.ListN.{get_or-append}
use Rattle.lists.specs.Every.{All}
use Rattle.slots.specs.Slots.{slot, places, front, Present, sum}
use Rattle.slots.proofs.Tables.{slot_long}
use Rattle.writing.specs.Settings.{Text}
use Rattle.tables.proofs.TextLaws.{Unit16}
use Rattle.tables.specs.Heads.{Halves}
use Rattle.shared_texts.specs.Regions.{row_units, filled, filled_list, last_bytes}
use Rattle.tables.specs.Texts.{rows, present}

-- what the two halves of an entry have to do with it
pub record Halved {A H : Type 0} (k : Halves A H) (P : A → Type 0) (Q : H → Type 0) : Type 0 where
  pub long : (a : A) → length (k.text a) ≡ k.units (k.head a)
  pub again : (a : A) → k.join (k.head a) (k.text a) ≡ a
  pub head_back : (h : H) (us : Text) → length us ≡ k.units h → k.head (k.join h us) ≡ h
  pub text_back : (h : H) (us : Text) → k.text (k.join h us) ≡ us
  pub head_ok : (a : A) → P a → Q (k.head a)
  pub text_ok : (a : A) → P a → All Unit16 (k.text a)
  pub own_ok : (h : H) (us : Text) → Q h → All Unit16 us → length us ≡ k.units h → P (k.join h us)

-- no text is counted
pub no_texts : (ts : List Text) → map length ts ≡ [] → [] ≡ ts
no_texts [] e = refl
no_texts (us ∷ ts) e = absurd (cons≢nil e)

module _ {A H : Type 0} (k : Halves A H) (P : A → Type 0) (Q : H → Type 0) (l : Halved k P Q) where
  -- ---- indexed tables

  -- heads count the units of the texts
  pub rows_counted : (os : List (Option A)) → map length (present (rows k.text os)) ≡ row_units k.units (map (mathlib.Core.Option.map k.head) os)
  rows_counted [] = refl
  rows_counted (none ∷ os) = rows_counted os
  rows_counted (some a ∷ os) = ap₂ (λ (n : ℕ) (ns : List ℕ). n ∷ ns) (l.long a) (rows_counted os)

  -- heads of entries as they have to be are as they have to be
  pub rows_heads : (os : List (Option A)) → All (Present P) os → All (Present Q) (map (mathlib.Core.Option.map k.head) os)
  rows_heads [] p = tt
  rows_heads (none ∷ os) p = (tt, rows_heads os p.1)
  rows_heads (some a ∷ os) p = (l.head_ok a p.0, rows_heads os p.1)

  -- and so are their texts
  pub rows_texts : (os : List (Option A)) → All (Present P) os → All (All Unit16) (present (rows k.text os))
  rows_texts [] p = tt
  rows_texts (none ∷ os) p = rows_texts os p.1
  rows_texts (some a ∷ os) p = (l.text_ok a p.0, rows_texts os p.1)

  -- the two halves make the table
  pub rows_again : (os : List (Option A)) → filled k.join (map (mathlib.Core.Option.map k.head) os) (present (rows k.text os)) ≡ os
  rows_again [] = refl
  rows_again (none ∷ os) = ap (λ (m : List (Option A)). none ∷ m) (rows_again os)
  rows_again (some a ∷ os) = ap₂ (λ (b : A) (m : List (Option A)). some b ∷ m) (l.again a) (rows_again os)

  -- as many rows as heads
  pub filled_length : (hs : List (Option H)) (ts : List Text) → length (filled k.join hs ts) ≡ length hs
  filled_length [] ts = refl
  filled_length (none ∷ hs) ts = ap suc (filled_length hs ts)
  filled_length (some h ∷ hs) [] = ap suc (filled_length hs [])
  filled_length (some h ∷ hs) (us ∷ ts) = ap suc (filled_length hs ts)

  -- heads and texts as they have to be make entries as they have to be
  pub filled_ok : (hs : List (Option H)) (ts : List Text) → All (Present Q) hs → All (All Unit16) ts → map length ts ≡ row_units k.units hs → All (Present P) (filled k.join hs ts)
  filled_ok [] ts p q e = tt
  filled_ok (none ∷ hs) ts p q e = (tt, filled_ok hs ts p.1 q e)
  filled_ok (some h ∷ hs) [] p q e = absurd (nil≢cons e)
  filled_ok (some h ∷ hs) (us ∷ ts) p q e = (l.own_ok h us p.0 q.0 (head-eq_of_cons-eq e), filled_ok hs ts p.1 q.1 (tail-eq_of_cons-eq e))

  -- which have those heads
  pub filled_heads : (hs : List (Option H)) (ts : List Text) → map length ts ≡ row_units k.units hs → map (mathlib.Core.Option.map k.head) (filled k.join hs ts) ≡ hs
  filled_heads [] ts e = refl
  filled_heads (none ∷ hs) ts e = ap (λ (m : List (Option H)). none ∷ m) (filled_heads hs ts e)
  filled_heads (some h ∷ hs) [] e = absurd (nil≢cons e)
  filled_heads (some h ∷ hs) (us ∷ ts) e = ap₂ (λ (b : H) (m : List (Option H)). some b ∷ m) (l.head_back h us (head-eq_of_cons-eq e)) (filled_heads hs ts (tail-eq_of_cons-eq e))

  -- and those texts
  pub filled_texts : (hs : List (Option H)) (ts : List Text) → map length ts ≡ row_units k.units hs → present (rows k.text (filled k.join hs ts)) ≡ ts
  filled_texts [] ts e = no_texts ts e
  filled_texts (none ∷ hs) ts e = filled_texts hs ts e
  filled_texts (some h ∷ hs) [] e = absurd (nil≢cons e)
  filled_texts (some h ∷ hs) (us ∷ ts) e = ap₂ (λ (v : Text) (m : List Text). v ∷ m) (l.text_back h us) (filled_texts hs ts (tail-eq_of_cons-eq e))

  -- ---- list tables

  -- heads count the units of the texts
  pub list_counted : (xs : List A) → map length (present (rows k.text (map some xs))) ≡ map k.units (map k.head xs)
  list_counted [] = refl
  list_counted (a ∷ xs) = ap₂ (λ (n : ℕ) (ns : List ℕ). n ∷ ns) (l.long a) (list_counted xs)

  -- the texts are as they have to be
  pub list_texts : (xs : List A) → All P xs → All (All Unit16) (present (rows k.text (map some xs)))
  list_texts [] p = tt
  list_texts (a ∷ xs) p = (l.text_ok a p.0, list_texts xs p.1)

  -- the two halves make the table
  pub list_again : (xs : List A) → filled_list k.join (map k.head xs) (present (rows k.text (map some xs))) ≡ xs
  list_again [] = refl
  list_again (a ∷ xs) = ap₂ (λ (b : A) (m : List A). b ∷ m) (l.again a) (list_again xs)

  -- as many entries as heads
  pub list_length : (hs : List H) (ts : List Text) → length (filled_list k.join hs ts) ≡ length hs
  list_length [] ts = refl
  list_length (h ∷ hs) [] = ap suc (list_length hs [])
  list_length (h ∷ hs) (us ∷ ts) = ap suc (list_length hs ts)

  -- heads and texts as they have to be make entries as they have to be
  pub list_ok : (hs : List H) (ts : List Text) → All Q hs → All (All Unit16) ts → map length ts ≡ map k.units hs → All P (filled_list k.join hs ts)
  list_ok [] ts p q e = tt
  list_ok (h ∷ hs) [] p q e = absurd (nil≢cons e)
  list_ok (h ∷ hs) (us ∷ ts) p q e = (l.own_ok h us p.0 q.0 (head-eq_of_cons-eq e), list_ok hs ts p.1 q.1 (tail-eq_of_cons-eq e))

  -- which have those heads
  pub list_heads : (hs : List H) (ts : List Text) → map length ts ≡ map k.units hs → map k.head (filled_list k.join hs ts) ≡ hs
  list_heads [] ts e = refl
  list_heads (h ∷ hs) [] e = absurd (nil≢cons e)
  list_heads (h ∷ hs) (us ∷ ts) e = ap₂ (λ (b : H) (m : List H). b ∷ m) (l.head_back h us (head-eq_of_cons-eq e)) (list_heads hs ts (tail-eq_of_cons-eq e))

  -- and those texts
  pub list_back : (hs : List H) (ts : List Text) → map length ts ≡ map k.units hs → present (rows k.text (map some (filled_list k.join hs ts))) ≡ ts
  list_back [] ts e = no_texts ts e
  list_back (h ∷ hs) [] e = absurd (nil≢cons e)
  list_back (h ∷ hs) (us ∷ ts) e = ap₂ (λ (v : Text) (m : List Text). v ∷ m) (l.text_back h us) (list_back hs ts (tail-eq_of_cons-eq e))

-- ---- heads as bytes

-- the slots of entries' heads are those of the entries
pub places_map : {A H : Type 0} (w : ℕ) (f : H → List ℕ) (g : A → H) (os : List (Option A)) → places w f (map (mathlib.Core.Option.map g) os) ≡ places w (λ a. f (g a)) os
places_map w f g [] = refl
places_map w f g (none ∷ os) = ap (λ (l : List ℕ). replicate w 0 ++ l) (places_map w f g os)
places_map w f g (some a ∷ os) = ap (λ (l : List ℕ). f (g a) ++ l) (places_map w f g os)

-- and so for entries from the front
pub front_map : {A H : Type 0} (g : A → H) (n : ℕ) (xs : List A) → front n (map g xs) ≡ map (mathlib.Core.Option.map g) (front n xs)
front_map g zero xs = refl
front_map g (suc n) [] = ap (λ l. none ∷ l) (front_map g n [])
front_map g (suc n) (x ∷ xs) = ap (λ l. some (g x) ∷ l) (front_map g n xs)

-- ---- the units that they count, read from the last bytes of slots

module _ {H : Type 0} (units : H → ℕ) (own : ℕ) (f : H → List ℕ) (long : (h : H) → length (f h) ≡ suc own) (last : (h : H) → get_or (f h) own 0 ≡ units h) where
  -- the last byte of the first slot
  first_last : (o : Option H) (x : List ℕ) → get_or (slot (suc own) f o ++ x) own 0 ≡ get_or (slot (suc own) f o) own 0
  first_last o x = get_or-append (slot (suc own) f o) x 0 own (omega (arith, slot_long (suc own) f long o))

  -- LAST-SUM: the last bytes of the first r slots are the units of their rows' texts
  pub last_sum : (hs : List (Option H)) (r : ℕ) → r ≤ length hs → last_bytes own r (places (suc own) f hs) ≡ sum (row_units units (take r hs))
  last_sum hs zero h = refl
  last_sum [] (suc r) h = absurd (not-suc-le-zero h)
  last_sum (none ∷ hs) (suc r) h =
      let x : List ℕ = places (suc own) f hs in
      let a : get_or (replicate (suc own) 0 ++ x) own 0 ≡ 0 = first_last none x ∙ get_or-replicate (suc own) own 0 0 (omega arith) in
      let d : drop (suc own) (replicate (suc own) 0 ++ x) ≡ x = drop_at (replicate (suc own) 0) x (suc own) (slot_long (suc own) f long none) in
      omega (arith, a, ap (last_bytes own r) d, last_sum hs r (le_of_suc-le-suc h))
  last_sum (some x ∷ hs) (suc r) h =
      let y : List ℕ = places (suc own) f hs in
      let a : get_or (f x ++ y) own 0 ≡ units x = first_last (some x) y ∙ last x in
      let d : drop (suc own) (f x ++ y) ≡ y = drop_at (f x) y (suc own) (long x) in
      omega (arith, a, ap (last_bytes own r) d, last_sum hs r (le_of_suc-le-suc h))

-- entries from the front count as the entries do
pub front_counted : {H : Type 0} (units : H → ℕ) (n : ℕ) (hs : List H) → length hs ≤ n → row_units units (front n hs) ≡ map units hs
front_counted units zero [] h = refl
front_counted units zero (x ∷ hs) h = absurd (not-suc-le-zero h)
front_counted units (suc n) [] h = front_counted units n [] (omega arith)
front_counted units (suc n) (x ∷ hs) h = ap (λ (l : List ℕ). units x ∷ l) (front_counted units n hs (le_of_suc-le-suc h))

-- a loop over the last bytes: one slot more, as code counts
pub last_step : (own : ℕ) (s : List ℕ) (at n i : ℕ) → i < n → last_bytes own (n - i) (drop at s) ≡ get_or s (at + own) 0 + last_bytes own (n - (i + 1)) (drop (at + own + 1) s)
last_step own s at n i h =
    let e : n - i ≡ suc (n - (i + 1)) = omega arith in
    let k : at + suc own ≡ at + own + 1 = omega arith in
    ap (λ (j : ℕ). last_bytes own j (drop at s)) e
    ∙ ap₂ (λ (a b : ℕ). a + b) (get_or-drop at s own 0) (ap (last_bytes own (n - (i + 1))) (drop-drop (suc own) at s ∙ ap (λ (j : ℕ). drop j s) k))

-- one slot more, behind r others
pub last_snoc : (own r : ℕ) (s : List ℕ) → last_bytes own (suc r) s ≡ last_bytes own r s + get_or s (r * suc own + own) 0
last_snoc own zero s =
    let e : 0 * suc own + own ≡ own = omega arith in
    omega (arith, ap (λ (i : ℕ). get_or s i 0) e)
last_snoc own (suc r) s =
    let e : suc own + (r * suc own + own) ≡ suc r * suc own + own = omega arith in
    omega (arith, last_snoc own r (drop (suc own) s), get_or-drop (suc own) s (r * suc own + own) 0, ap (λ (i : ℕ). get_or s i 0) e)
