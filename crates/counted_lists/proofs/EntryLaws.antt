-- From slots to entries: a list of entries whose bytes are w long is changed as its slots are. Entries may be all zeros. Assumes nothing.
use Rattle.lists.proofs.Kit.{◌≡◌, refl, sym, ap, ◌∙◌, subst, Bool, true, false, cond, List, [], ◌∷◌, ◌++◌, map, map-append, Option, none, some, ℕ, zero, suc, ◌+◌, ◌*◌, ◌-◌, ◌≤◌, ◌<◌, arith, ltb, length, take, drop, replicate, length-map}
use Rattle.lists.specs.Every.{All}
use Rattle.lists.proofs.Every.{all_append, all_made, all_turn}
use Rattle.lists.proofs.Seqs.{cut}
use Rattle.slots.specs.Slots.{flat, pad, slot, places, front, u16, same?, hit, unless, index_of, put_at, Listed}
use Rattle.slots.proofs.Codes.{Code, array_one}
use Rattle.slots.proofs.Numbers.{u16_one}
use Rattle.slots.proofs.Tables.{put_all, unless_all}
use Rattle.counted_lists.specs.Counted.{put_last, put_keyed, Counted, EntriesOf, CountedOf, Tried, Added, Told}
use Rattle.counted_lists.proofs.CountLaws.{counted_none, counted_split, slots_long}

-- ---- lists that a function makes

module _ {A B : Type 0} (f : A → B) where
  -- an entry is put where its image is
  put_map : (k : ℕ) (a : A) (ls : List A) → put_at k (f a) (map f ls) ≡ map f (put_at k a ls)
  put_map k a [] = refl
  put_map zero a (b ∷ bs) = refl
  put_map (suc k) a (b ∷ bs) = ap (λ l. f b ∷ l) (put_map k a bs)

  -- what is made where there was room
  abbrev made : Option (List A) → Option (List B)
  made none = none
  made (some ls) = some (map f ls)

  -- an entry is added as its image is
  last_map : (n : ℕ) (a : A) (ls : List A) → put_last n (f a) (map f ls) ≡ made (put_last n a ls)
  last_map n a ls = ap (λ (i : ℕ). cond (ltb i n) (some (map f ls ++ (f a ∷ []))) none) (length-map ls f) ∙ go (ltb (length ls) n)
    where
      go : (b : Bool) → cond b (some (map f ls ++ (f a ∷ []))) none ≡ made (cond b (some (ls ++ (a ∷ []))) none)
      go true = ap some (sym (map-append f ls (a ∷ [])))
      go false = refl

  module _ (p : B → Bool) (e : A → Bool) where
    -- the first that p says yes of is the image of the first that e does
    index_map : (ls : List A) → All (λ a. p (f a) ≡ e a) ls → index_of p (map f ls) ≡ index_of e ls
    index_map [] q = refl
    index_map (a ∷ ls) q = ap (λ (b : Bool). cond b 0 (suc (index_of p (map f ls)))) q.0 ∙ ap (λ (i : ℕ). cond (e a) 0 (suc i)) (index_map ls q.1)

    -- those that stay are the images of those that stay
    unless_map : (ls : List A) → All (λ a. p (f a) ≡ e a) ls → unless p (map f ls) ≡ map f (unless e ls)
    unless_map [] q = refl
    unless_map (a ∷ ls) q = ap (λ (b : Bool). cond b (unless p (map f ls)) (f a ∷ unless p (map f ls))) q.0 ∙ go (e a) (unless_map ls q.1)
      where
        go : (b : Bool) → unless p (map f ls) ≡ map f (unless e ls) → cond b (unless p (map f ls)) (f a ∷ unless p (map f ls)) ≡ map f (cond b (unless e ls) (a ∷ unless e ls))
        go true r = r
        go false r = ap (λ l. f a ∷ l) r

    -- an entry is put by its key as its image is
    keyed_map : (n : ℕ) (a : A) (ls : List A) → All (λ b. p (f b) ≡ e b) ls → put_keyed p n (f a) (map f ls) ≡ made (put_keyed e n a ls)
    keyed_map n a ls q = ap (λ (i : ℕ). cond (ltb i n) (some (put_at i (f a) (map f ls))) none) (index_map ls q) ∙ go (ltb (index_of e ls) n)
      where
        go : (b : Bool) → cond b (some (put_at (index_of e ls) (f a) (map f ls))) none ≡ made (cond b (some (put_at (index_of e ls) a ls)) none)
        go true = ap some (put_map (index_of e ls) a ls)
        go false = refl

-- what is there is what was put there
some_one : {A : Type 0} (a b : A) → some a ≡ some b → a ≡ b
some_one a b e = cc

-- what is there is not absent
some_none : {A : Type 0} (a : A) → some a ≡ none → ⊥
some_none a e = let z : ◌≡◌ {A = ℕ} 0 1 = cc in omega arith

-- ---- entries

-- entries are w bytes, and have their key, which is m bytes, at o
pub record Keyed {A : Type 0} (w : ℕ) (f : A → List ℕ) (o m : ℕ) (key : A → List ℕ) : Type 0 where
  pub inside : o + m ≤ w
  pub long : (a : A) → length (f a) ≡ w
  pub key_long : (a : A) → length (key a) ≡ m
  pub stands : (a : A) → take m (drop o (f a)) ≡ key a

module _ {A : Type 0} (Is : List (List ℕ) → List ℕ → Type 0) (P : A → Type 0) (f : A → List ℕ) where
  -- what was answered of slots is answered of entries
  tried_map : (after : Option (List A)) (t : List ℕ) (r : Bool) → ((ls : List A) → after ≡ some ls → All P ls) → Tried Is (made f after) t r → Tried (EntriesOf Is P f) after t r
  tried_map none t r q h = record { room = λ e. let (xs, d, i) = h.room e in absurd (some_none xs (sym d)); full = λ _. refl }
  tried_map (some ls) t r q h =
      record {
        room = λ e. let (xs, d, i) = h.room e in (ls, refl, record { each = q ls refl; counted = subst (λ (l : List (List ℕ)). Is l t) (sym (some_one (map f ls) xs d)) i });
        full = λ e. absurd (some_none (map f ls) (h.full e));
      }

  -- the slots of entries were changed by a key
  module _ (w o m : ℕ) (key : A → List ℕ) (d : Keyed w f o m key) (e : A → Bool) (ls : List A) (each : All P ls) where
    -- a slot has a key where its entry has it
    hits : (k : List ℕ) → length k ≡ m → ((a : A) → P a → same? (key a) k ≡ e a) → All (λ a. hit o k (f a) ≡ e a) ls
    hits k l same = all_turn P (λ a. hit o k (f a) ≡ e a) (λ a p. ap (λ (i : ℕ). same? (take i (drop o (f a))) k) l ∙ ap (λ (x : List ℕ). same? x k) (d.stands a) ∙ same a p) ls each

    -- an entry is put by its key
    pub entries_put : (n : ℕ) (a : A) (t : List ℕ) (r : Bool) → P a → ((b : A) → P b → same? (key b) (key a) ≡ e b)
        → Tried Is (put_keyed (hit o (take m (drop o (f a)))) n (f a) (map f ls)) t r → Tried (EntriesOf Is P f) (put_keyed e n a ls) t r
    entries_put n a t r p same h =
        tried_map (put_keyed e n a ls) t r (all (ltb (index_of e ls) n))
        (subst (λ (after : Option (List (List ℕ))). Tried Is after t r)
        (ap (λ (k : List ℕ). put_keyed (hit o k) n (f a) (map f ls)) (d.stands a) ∙ keyed_map f (hit o (key a)) e n a ls (hits (key a) (d.key_long a) same)) h)
      where
        all : (b : Bool) (ks : List A) → cond b (some (put_at (index_of e ls) a ls)) none ≡ some ks → All P ks
        all true ks q = subst (All P) (some_one (put_at (index_of e ls) a ls) ks q) (put_all P (index_of e ls) a ls p each)
        all false ks q = absurd (some_none ks (sym q))

    -- the entries with a key are taken out
    pub entries_drop : (k t : List ℕ) → length k ≡ m → ((a : A) → P a → same? (key a) k ≡ e a) → Is (unless (hit o k) (map f ls)) t → EntriesOf Is P f (unless e ls) t
    entries_drop k t l same h = record { each = unless_all P e ls each; counted = subst (λ (xs : List (List ℕ)). Is xs t) (unless_map f (hit o k) e ls (hits k l same)) h }

module _ {A : Type 0} (P : A → Type 0) (w : ℕ) (f : A → List ℕ) (n : ℕ) (ls : List A) (s : List ℕ) (c : CountedOf P w f n ls s) where
  -- the count is that of the entries
  pub entries_count : (r : ℕ) → Told s r → r ≡ length ls
  entries_count r h = h.says w n (map f ls) c.counted ∙ length-map ls f

  -- as many zeros have no entry
  pub entries_none : CountedOf P w f n [] (replicate (length s) 0)
  entries_none = record { each = tt; counted = counted_none w n (map f ls) s c.counted }

  -- an entry is added at the end
  pub entries_add : (a : A) (t : List ℕ) (r : Bool) → P a → length (f a) ≡ w → Added w (f a) s t r → Tried (CountedOf P w f n) (put_last n a ls) t r
  entries_add a t r p long h =
      tried_map (Counted w n) P f (put_last n a ls) t r (all (ltb (length ls) n))
      (subst (λ (after : Option (List (List ℕ))). Tried (Counted w n) after t r) (last_map f n a ls) (h.tried long n (map f ls) c.counted))
    where
      all : (b : Bool) (ks : List A) → cond b (some (ls ++ (a ∷ []))) none ≡ some ks → All P ks
      all true ks e = subst (All P) (some_one (ls ++ (a ∷ [])) ks e) (all_append P ls (a ∷ []) c.each (p, tt))
      all false ks e = absurd (some_none ks (sym e))

-- ---- the bytes

-- the slots of the entries, filled up, are the places of the entries
pad_front : {A : Type 0} (w : ℕ) (f : A → List ℕ) (n : ℕ) (ls : List A) → pad (replicate w 0) n (map f ls) ≡ map (slot w f) (front n ls)
pad_front w f zero ls = refl
pad_front w f (suc n) [] = ap (λ (l : List (List ℕ)). replicate w 0 ∷ l) (pad_front w f n [])
pad_front w f (suc n) (a ∷ ls) = ap (λ (l : List (List ℕ)). f a ∷ l) (pad_front w f n ls)

module _ {A : Type 0} (P : A → Type 0) (w : ℕ) (f : A → List ℕ) (n : ℕ) where
  -- the count, and the table of the entries
  pub entries_bytes : (ls : List A) (s : List ℕ) → CountedOf P w f n ls s → s ≡ u16 (length ls) ++ places w f (front n ls)
  entries_bytes ls s c =
      c.counted.bytes ∙ ap (λ (i : ℕ). u16 i ++ flat (pad (replicate w 0) n (map f ls))) (length-map ls f) ∙ ap (λ (xs : List (List ℕ)). u16 (length ls) ++ flat xs) (pad_front w f n ls)

  -- behind the count stands a list table
  pub entries_listed : (ls : List A) (s : List ℕ) → CountedOf P w f n ls s → Listed P w f n ls (drop 2 s)
  entries_listed ls s c = record { few = omega (arith, c.counted.few, length-map ls f); each = c.each; bytes = ap (drop 2) (entries_bytes ls s c) }

  -- a count before a list table makes it
  pub entries_made : (ls : List A) (s d : List ℕ) → 0 < w → n < 65536 → ((a : A) → length (f a) ≡ w) → Listed P w f n ls d → s ≡ u16 (length ls) ++ d → CountedOf P w f n ls s
  entries_made ls s d wide room long t e =
      record {
        each = t.each;
        counted = record {
          wide = wide;
          room = room;
          few = omega (arith, t.few, length-map ls f);
          each = all_made (λ x. length x ≡ w) f long ls;
          bytes = e ∙ ap (λ (l : List ℕ). u16 (length ls) ++ l) (t.bytes ∙ sym (ap flat (pad_front w f n ls))) ∙ ap (λ (i : ℕ). u16 i ++ flat (pad (replicate w 0) n (map f ls))) (sym (length-map ls f));
        };
      }

  -- bytes that tell an entry tell the list, also where entries are zeros
  pub entries_one : Code P w f → (s : List ℕ) (xs ys : List A) → CountedOf P w f n xs s → CountedOf P w f n ys s → xs ≡ ys
  entries_one k s xs ys c d =
      let a = counted_split w n (map f xs) s c.counted in
      let b = counted_split w n (map f ys) s d.counted in
      let h = cut (u16 (length (map f xs))) (u16 (length (map f ys))) refl (sym a ∙ b) in
      let l : length (map f xs) ≡ length (map f ys) = u16_one _ _ h.0 in
      let m : length (flat (map f xs)) ≡ length (flat (map f ys)) = slots_long w n (map f xs) s c.counted _ refl ∙ ap (λ (i : ℕ). i * w + 2 - 2) l ∙ sym (slots_long w n (map f ys) s d.counted _ refl) in
      array_one P w f k xs ys c.each d.each (omega (arith, length-map xs f, length-map ys f)) (cut (flat (map f xs)) (flat (map f ys)) m h.1).0
