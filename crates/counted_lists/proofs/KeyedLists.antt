-- Lists by a key, whatever the entries: what putting, adding and taking out mean, when there is no room, and that no key is there twice. Assumes nothing.
use Rattle.lists.proofs.Kit.{◌≡◌, refl, sym, ap, ◌∙◌, ◌↔◌, ◌≢◌, Bool, true, false, cond, true≢false, List, [], ◌∷◌, ◌++◌, map, none, some, option_some_ne_none, option_none_ne_some, option_some_injective, ℕ, zero, suc, ◌≤◌, ◌<◌, arith, lt-ltb, le-ltb, ltb-false, ltb, get_or, length, length-append}
use Rattle.lists.proofs.Bools.{is_false}
use Rattle.lists.specs.Every.{All}
use Rattle.lists.proofs.Every.{all_turn, all_right}
use Rattle.slots.specs.Slots.{unless, index_of, put_at, Present}
use Rattle.slots.proofs.Changes.{index_absent, index_end, index_found, unless_absent, unless_found, unless_fewer, put_found}
use Rattle.slots.proofs.Tables.{index_le, put_all, put_end, unless_all}
use Rattle.counted_lists.specs.Counted.{put_last, put_keyed, Without, Distinct}

-- what is done where a test passes is not done where it does not
cond_none : {A : Type 0} (b : Bool) (a : A) → (cond b (some a) none ≡ none) ↔ (b ≡ false)
cond_none true a = (λ e. absurd (option_some_ne_none a e), λ e. absurd (true≢false e))
cond_none false a = (λ e. refl, λ e. refl)

-- an entry is added where fewer are there than have room
pub last_room : {A : Type 0} (n : ℕ) (a : A) (ls : List A) → length ls < n → put_last n a ls ≡ some (ls ++ (a ∷ []))
last_room n a ls h = rw (lt-ltb (length ls) n h)

-- and not where the list is full
pub last_no_room : {A : Type 0} (n : ℕ) (a : A) (ls : List A) → length ls ≤ n → (put_last n a ls ≡ none) ↔ (length ls ≡ n)
last_no_room n a ls h = (
  λ e. let k : n ≤ length ls = ltb-false _ _ ((cond_none (ltb (length ls) n) (ls ++ (a ∷ []))).0 e) in omega arith,
  λ e. (cond_none (ltb (length ls) n) (ls ++ (a ∷ []))).1 (le-ltb (length ls) n (omega arith)),
)

module _ {A K : Type 0} (key : A → K) (has : K → A → Bool) (decides : (k : K) (a : A) → (has k a ≡ true) ↔ (key a ≡ k)) where
  -- the test says no of each entry where none has the key
  pub without_says : (k : K) (ls : List A) → Without key k ls → All (λ a. has k a ≡ false) ls
  without_says k ls h = all_turn (λ a. key a ≢ k) (λ a. has k a ≡ false) (λ a q. is_false (has k a) (λ e. q ((decides k a).0 e))) ls h

  pub says_without : (k : K) (ls : List A) → All (λ a. has k a ≡ false) ls → Without key k ls
  says_without k ls h = all_turn (λ a. has k a ≡ false) (λ a. key a ≢ k) (λ a q e. true≢false (sym ((decides k a).1 e) ∙ q)) ls h

  -- a search finds none where no entry has the key
  pub none_found : (k : K) (ls : List A) → (index_of (has k) ls ≡ length ls) ↔ Without key k ls
  none_found k ls = (λ e. says_without k ls (index_end (has k) ls e), λ h. index_absent (has k) ls (without_says k ls h))

  -- ---- putting

  -- an entry goes where its key is found, if that is inside the room
  put_in_place : (n : ℕ) (a : A) (ls : List A) (i : ℕ) → index_of (has (key a)) ls ≡ i → i < n → put_keyed (has (key a)) n a ls ≡ some (put_at i a ls)
  put_in_place n a ls i e h = rw (e, lt-ltb i n h)

  -- a new key is put at the end
  pub keyed_new : (n : ℕ) (a : A) (ls : List A) → Without key (key a) ls → length ls < n → put_keyed (has (key a)) n a ls ≡ some (ls ++ (a ∷ []))
  keyed_new n a ls h r = put_in_place n a ls (length ls) ((none_found (key a) ls).1 h) r ∙ ap some (put_end ls a)

  -- a known one is overwritten in its place, also in a full list
  pub keyed_known : (n : ℕ) (a : A) (before : List A) (b : A) (after : List A) → Without key (key a) before → key b ≡ key a → length (before ++ b ∷ after) ≤ n
      → put_keyed (has (key a)) n a (before ++ b ∷ after) ≡ some (before ++ a ∷ after)
  keyed_known n a before b after h e r =
      put_in_place n a (before ++ b ∷ after) (length before) (index_found (has (key a)) before b after (without_says (key a) before h) ((decides (key a) b).1 e)) (omega (arith, length-append before (b ∷ after)))
      ∙ ap some (put_found before b after a)

  -- there is no room where the list is full and no entry has the key
  pub keyed_no_room : (n : ℕ) (a : A) (ls : List A) → length ls ≤ n → (put_keyed (has (key a)) n a ls ≡ none) ↔ ((length ls ≡ n) × Without key (key a) ls)
  keyed_no_room n a ls h = (
    λ e.
        let k : n ≤ index_of (has (key a)) ls = ltb-false _ _ ((cond_none (ltb (index_of (has (key a)) ls) n) (put_at (index_of (has (key a)) ls) a ls)).0 e) in
        let i : index_of (has (key a)) ls ≡ length ls = omega (arith, index_le (has (key a)) ls) in
        (omega arith, (none_found (key a) ls).0 i),
    λ p.
        let i : index_of (has (key a)) ls ≡ length ls = (none_found (key a) ls).1 p.1 in
        (cond_none (ltb (index_of (has (key a)) ls) n) (put_at (index_of (has (key a)) ls) a ls)).1 (le-ltb (index_of (has (key a)) ls) n (omega (arith, p.0))),
  )

  -- ---- taking out

  -- the one entry with the key is taken out, and the others keep their order
  pub drop_known : (k : K) (before : List A) (b : A) (after : List A) → Without key k before → key b ≡ k → Without key k after → unless (has k) (before ++ b ∷ after) ≡ before ++ after
  drop_known k before b after h e l = unless_found (has k) before b after (without_says k before h) ((decides k b).1 e) (without_says k after l)

  -- what is not there is not taken out
  pub drop_absent : (k : K) (ls : List A) → Without key k ls → unless (has k) ls ≡ ls
  drop_absent k ls h = unless_absent (has k) ls (without_says k ls h)

  -- after an entry was taken out, any has room
  pub keyed_freed : (n : ℕ) (k : K) (before : List A) (b : A) (after : List A) → key b ≡ k → length (before ++ b ∷ after) ≤ n → (a : A) → put_keyed (has (key a)) n a (unless (has k) (before ++ b ∷ after)) ≢ none
  keyed_freed n k before b after q h a e =
      let s : length (unless (has k) (before ++ b ∷ after)) < length (before ++ b ∷ after) = unless_fewer (has k) before b after ((decides k b).1 q) in
      let p = (keyed_no_room n a (unless (has k) (before ++ b ∷ after)) (omega arith)).0 e in
      omega (arith, p.0)

  -- ---- what is left alone

  -- p says yes of every entry with the key of a: those of which it says no stay
  module _ (p : A → Bool) (a : A) (h : (b : A) → key b ≡ key a → p b ≡ true) where
    put_others : (ls : List A) → unless p (put_at (index_of (has (key a)) ls) a ls) ≡ unless p ls
    put_others [] = rw (h a refl)
    put_others (x ∷ xs) = go (has (key a) x) refl (put_others xs)
      where
        go : (b : Bool) → has (key a) x ≡ b → unless p (put_at (index_of (has (key a)) xs) a xs) ≡ unless p xs
            → unless p (put_at (cond b 0 (suc (index_of (has (key a)) xs))) a (x ∷ xs)) ≡ cond (p x) (unless p xs) (x ∷ unless p xs)
        go true e r = rw (h a refl, h x ((decides (key a) x).0 e))
        go false e r = ap (λ (l : List A). cond (p x) l (x ∷ l)) r

    -- where a is put
    pub put_leaves : (n : ℕ) (ls ks : List A) → unless p ls ≡ ks → Present (λ ms. unless p ms ≡ ks) (put_keyed (has (key a)) n a ls)
    put_leaves n ls ks e = go (ltb (index_of (has (key a)) ls) n)
      where
        go : (b : Bool) → Present (λ ms. unless p ms ≡ ks) (cond b (some (put_at (index_of (has (key a)) ls) a ls)) none)
        go true = put_others ls ∙ e
        go false = tt

  -- the same where the entries with a key are taken out
  pub drop_leaves : (p : A → Bool) (k : K) → ((b : A) → key b ≡ k → p b ≡ true) → (ls : List A) → unless p (unless (has k) ls) ≡ unless p ls
  drop_leaves p k h [] = refl
  drop_leaves p k h (x ∷ xs) = go (has k x) refl (drop_leaves p k h xs)
    where
      go : (b : Bool) → has k x ≡ b → unless p (unless (has k) xs) ≡ unless p xs → unless p (cond b (unless (has k) xs) (x ∷ unless (has k) xs)) ≡ cond (p x) (unless p xs) (x ∷ unless p xs)
      go true e r = rw (h x ((decides k x).0 e)) r
      go false e r = ap (λ (l : List A). cond (p x) l (x ∷ l)) r

  -- an entry with another key than a stays in its place
  module _ (a b : A) (other : key b ≢ key a) where
    stays_at : (ls : List A) (i : ℕ) → get_or (map some ls) i none ≡ some b → get_or (map some (put_at (index_of (has (key a)) ls) a ls)) i none ≡ some b
    stays_at [] i e = absurd (option_none_ne_some b e)
    stays_at (x ∷ xs) zero e = go (has (key a) x) refl
      where
        go : (c : Bool) → has (key a) x ≡ c → get_or (map some (put_at (cond c 0 (suc (index_of (has (key a)) xs))) a (x ∷ xs))) zero none ≡ some b
        go true q = absurd (other (ap key (sym (option_some_injective x b e)) ∙ (decides (key a) x).0 q))
        go false q = e
    stays_at (x ∷ xs) (suc i) e = go (has (key a) x) (stays_at xs i e)
      where
        go : (c : Bool) → get_or (map some (put_at (index_of (has (key a)) xs) a xs)) i none ≡ some b → get_or (map some (put_at (cond c 0 (suc (index_of (has (key a)) xs))) a (x ∷ xs))) (suc i) none ≡ some b
        go true r = e
        go false r = r

    -- where a is put
    pub put_stays : (n : ℕ) (ls : List A) (i : ℕ) → get_or (map some ls) i none ≡ some b → Present (λ ms. get_or (map some ms) i none ≡ some b) (put_keyed (has (key a)) n a ls)
    put_stays n ls i e = go (ltb (index_of (has (key a)) ls) n)
      where
        go : (c : Bool) → Present (λ ms. get_or (map some ms) i none ≡ some b) (cond c (some (put_at (index_of (has (key a)) ls) a ls)) none)
        go true = stays_at ls i e
        go false = tt

  -- ---- no key is there twice

  -- an entry put by its key leaves no two of one key
  pub put_distinct : (a : A) (ls : List A) → Distinct key ls → Distinct key (put_at (index_of (has (key a)) ls) a ls)
  put_distinct a [] d = (tt, tt)
  put_distinct a (x ∷ xs) d = go (has (key a) x) refl (put_distinct a xs d.1)
    where
      go : (b : Bool) → has (key a) x ≡ b → Distinct key (put_at (index_of (has (key a)) xs) a xs) → Distinct key (put_at (cond b 0 (suc (index_of (has (key a)) xs))) a (x ∷ xs))
      go true e r = (all_turn (λ y. key y ≢ key x) (λ y. key y ≢ key a) (λ y n q. n (q ∙ sym ((decides (key a) x).0 e))) xs d.0, d.1)
      go false e r = (put_all (λ y. key y ≢ key x) (index_of (has (key a)) xs) a xs (λ q. true≢false (sym ((decides (key a) x).1 (sym q)) ∙ e)) d.0, r)

-- entries taken out leave no two of one key
pub unless_distinct : {A K : Type 0} (key : A → K) (p : A → Bool) (ls : List A) → Distinct key ls → Distinct key (unless p ls)
unless_distinct key p [] d = tt
unless_distinct key p (x ∷ xs) d = go (p x) (unless_distinct key p xs d.1)
  where
    go : (b : Bool) → Distinct key (unless p xs) → Distinct key (cond b (unless p xs) (x ∷ unless p xs))
    go true r = r
    go false r = (unless_all (λ y. key y ≢ key x) p xs d.0, r)

-- where no key is there twice, no other entry has an entry's key
pub others_without : {A K : Type 0} (key : A → K) (before : List A) (a : A) (after : List A) → Distinct key (before ++ a ∷ after) → Without key (key a) before × Without key (key a) after
others_without key [] a after d = (tt, d.0)
others_without key (x ∷ xs) a after d =
    let r = others_without key xs a after d.1 in
    (((λ e. (all_right (λ y. key y ≢ key x) xs (a ∷ after) d.0).0 (sym e)), r.0), r.1)
