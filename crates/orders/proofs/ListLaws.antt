-- Lists with the order of their keys behind them: what is read of them, and what putting a slot in and taking one out leave. Assumes nothing.
use Rattle.lists.proofs.Kit.{◌≡◌, refl, sym, ap, ap₂, ◌∙◌, subst, ◌↔◌, Bool, true, false, cond, true≢false, List, [], ◌∷◌, ◌++◌, map, append-nil, none, some, option_some_injective, option_none_ne_some, ℕ, suc, ◌+◌, ◌*◌, ◌-◌, ◌≤◌, ◌<◌, not-suc-le-zero, le_of_suc-le-suc, arith, lt-ltb, ltb-true, ltb-false, put_mid, mid_of, ltb, length, take, drop, replicate, length-append, length-drop, length-take, drop_of_length-le, replicate-append-replicate, take-append-drop, take_at, drop_at, take_all}
use Rattle.lists.proofs.Seqs.{get_d_map}
use Rattle.slots.specs.Slots.{u16, same?, hit, unless, index_of, put_at}
use Rattle.slots.proofs.Pads.{pad_length, pad_nil}
use Rattle.slots.proofs.Runs.{same_are, same_refl}
use Rattle.slots.proofs.Tables.{index_le, put_end}
use Rattle.counted_lists.specs.Counted.{put_keyed, Counted, KeyedPut, KeyDropped, Distinct, Told}
use Rattle.counted_lists.proofs.CountLaws.{counted_length, counted_fresh, put_known}
use Rattle.counted_lists.proofs.KeyedLists.{put_distinct, unless_distinct}
use Rattle.counted_lists.proofs.ListLaws.{tried_room, tried_full}
use Rattle.orders.specs.Orders.{order, key_in}
use Rattle.orders.specs.OrderParts.{order_bytes, Shaped, InOrder, Finds, Inserted, Dropped}
use Rattle.orders.specs.OrderedLists.{slot_key, OrderedList, OrderedPut, OrderedDrop, EntryFound}
use Rattle.std.specs.Prelude.{Option as Maybe, Some, None}
use Rattle.orders.proofs.KeyLists.{all_none, apart_distinct, distinct_apart, unless_none, unless_one, keys_overwritten}
use Rattle.orders.proofs.Joins.{row, row_long, part_shaped, part_in_order, in_order_part, part_found, part_none, part_inserted, part_dropped}

-- ---- a counted list with bytes behind it

module _ (w n : ℕ) (xs : List (List ℕ)) (y t : List ℕ) (c : Counted w n xs y) (m : ℕ) (is : m ≡ length (y ++ t) - 2) where
  -- all behind the count
  behind_count : drop 2 (y ++ t) ≡ row w n xs ++ t
  behind_count = ap (λ (l : List ℕ). drop 2 (l ++ t)) c.bytes

  pub places_read : mid_of 2 m (y ++ t) ≡ row w n xs ++ t
  places_read = take_all m (drop 2 (y ++ t)) (omega (arith, length-drop 2 (y ++ t))) ∙ behind_count

  -- other bytes come back there
  pub places_written : (v : List ℕ) → put_mid 2 m (y ++ t) v ≡ u16 (length xs) ++ v
  places_written v =
      let z : drop m (drop 2 (y ++ t)) ≡ [] = drop_of_length-le (drop 2 (y ++ t)) {i = m} (omega (arith, length-drop 2 (y ++ t))) in
      ap₂ (λ (a b : List ℕ). a ++ (v ++ b)) (ap (λ (l : List ℕ). take 2 (l ++ t)) c.bytes) z ∙ ap (λ (l : List ℕ). u16 (length xs) ++ l) (append-nil v)

-- ---- what is read

module _ (w o k n : ℕ) (xs : List (List ℕ)) (s : List ℕ) (g : OrderedList w o k n xs s) where
  abbrev behind : List ℕ
  behind = order_bytes n (order (map (slot_key o k) xs))

  list_long : length g.list ≡ n * w + 2
  list_long = counted_length w n xs g.list g.counted

  behind_long : length behind ≡ n
  behind_long = pad_length 0 n (map suc (order (map (slot_key o k) xs)))

  pub ordered_length : length s ≡ n * w + 2 + n
  ordered_length = ap length g.bytes ∙ length-append g.list behind ∙ ap₂ (λ (a b : ℕ). a + b) list_long behind_long

  module _ (base : ℕ) (is : base ≡ length s - n) where
    -- the list stands before the order
    pub list_read : mid_of 0 (base - 0) s ≡ g.list
    list_read =
        let l : base - 0 ≡ n * w + 2 = omega (arith, ordered_length) in
        ap₂ (λ (i : ℕ) (x : List ℕ). take i x) l g.bytes ∙ take_at g.list behind (n * w + 2) list_long

    pub list_counted : Counted w n xs (mid_of 0 (base - 0) s)
    list_counted = subst (Counted w n xs) (sym list_read) g.counted

    -- other bytes in its place have the order behind them
    pub list_written : (y : List ℕ) → put_mid 0 (base - 0) s y ≡ y ++ behind
    list_written y =
        let l : base - 0 ≡ n * w + 2 = omega (arith, ordered_length) in
        ap (λ (v : List ℕ). y ++ v) (ap₂ (λ (i : ℕ) (x : List ℕ). drop i x) l g.bytes ∙ drop_at g.list behind (n * w + 2) list_long)

  -- the places and the order stand behind the count
  places_are : mid_of 2 (length s - 2) s ≡ row w n xs ++ behind
  places_are = ap (λ (z : List ℕ). mid_of 2 (length z - 2) z) g.bytes ∙ places_read w n xs g.list behind g.counted (length (g.list ++ behind) - 2) refl

  pub places_shaped : Shaped w o k n (mid_of 2 (length s - 2) s)
  places_shaped =
      subst (Shaped w o k n) (sym places_are) (part_shaped w o k n xs g.inside g.counted.each g.counted.few behind g.counted.wide behind_long g.small)

  pub places_ordered : InOrder w o k n (length xs) (mid_of 2 (length s - 2) s)
  places_ordered =
      subst (InOrder w o k n (length xs)) (sym places_are)
      (part_in_order w o k n xs g.inside g.counted.each g.counted.few behind (apart_distinct (slot_key o k) xs g.distinct) refl)

  -- ---- looking a key up

  module _ (x : List ℕ) (held : ℕ) (m : held ≡ length xs) where
    -- a slot has it
    pub ordered_found : (p : ℕ) → (Shaped w o k n (mid_of 2 (length s - 2) s) → InOrder w o k n held (mid_of 2 (length s - 2) s) → Finds w o k held (mid_of 2 (length s - 2) s) x (Some p))
        → (p < length xs) × (key_in (map (slot_key o k) xs) p ≡ x)
    ordered_found p q =
        let f : Finds w o k (length xs) (mid_of 2 (length s - 2) s) x (Some p)
        = subst (λ (i : ℕ). (Shaped w o k n (mid_of 2 (length s - 2) s) → InOrder w o k n i (mid_of 2 (length s - 2) s) → Finds w o k i (mid_of 2 (length s - 2) s) x (Some p))) m q places_shaped places_ordered in
        part_found w o k n xs g.inside g.counted.each g.counted.few behind x p (subst (λ (v : List ℕ). Finds w o k (length xs) v x (Some p)) places_are f)

    -- none has it
    pub ordered_none : (Shaped w o k n (mid_of 2 (length s - 2) s) → InOrder w o k n held (mid_of 2 (length s - 2) s) → Finds w o k held (mid_of 2 (length s - 2) s) x None)
        → (p : ℕ) → p < length xs → key_in (map (slot_key o k) xs) p ≡ x → ⊥
    ordered_none q =
        let f : Finds w o k (length xs) (mid_of 2 (length s - 2) s) x None
        = subst (λ (i : ℕ). (Shaped w o k n (mid_of 2 (length s - 2) s) → InOrder w o k n i (mid_of 2 (length s - 2) s) → Finds w o k i (mid_of 2 (length s - 2) s) x None)) m q places_shaped places_ordered in
        part_none w o k n xs g.inside g.counted.each g.counted.few behind x (subst (λ (v : List ℕ). Finds w o k (length xs) v x None) places_are f)

  -- as many zeros are the list of no slots
  pub ordered_fresh : OrderedList w o k n [] (replicate (length s) 0)
  ordered_fresh =
      record {
        inside = g.inside;
        small = g.small;
        distinct = tt;
        list = replicate (n * w + 2) 0;
        counted = counted_fresh w n g.counted.wide g.counted.room;
        bytes = ap (λ (i : ℕ). replicate i 0) ordered_length ∙ sym (replicate-append-replicate (n * w + 2) n 0) ∙ ap (λ (v : List ℕ). replicate (n * w + 2) 0 ++ v) (sym (pad_nil 0 n));
      }

-- ---- checking

-- a counted list with n bytes behind it is in order exactly if it is a list with its order
pub ordered_checked : (w o k n : ℕ) (xs : List (List ℕ)) (s : List ℕ) → o + k ≤ w → n ≤ 255 → length s ≡ n * w + 2 + n → Counted w n xs (take (n * w + 2) s)
    → InOrder w o k n (length xs) (mid_of 2 (length s - 2) s) ↔ OrderedList w o k n xs s
ordered_checked w o k n xs s inside small l c = (
  λ i.
      let e : mid_of 2 (length s - 2) s ≡ row w n xs ++ drop (n * w + 2) s
      = ap (λ (z : List ℕ). mid_of 2 (length s - 2) z) (sym (take-append-drop (n * w + 2) s)) ∙ places_read w n xs (take (n * w + 2) s) (drop (n * w + 2) s) c (length s - 2) (ap (λ (z : List ℕ). length z - 2) (sym (take-append-drop (n * w + 2) s))) in
      let (d, b) = in_order_part w o k n xs inside c.each c.few (drop (n * w + 2) s) (subst (InOrder w o k n (length xs)) e i) in
      record {
        inside = inside;
        small = small;
        distinct = distinct_apart (slot_key o k) xs d;
        list = take (n * w + 2) s;
        counted = c;
        bytes = sym (take-append-drop (n * w + 2) s) ∙ ap (λ (v : List ℕ). take (n * w + 2) s ++ v) b;
      },
  λ g. places_ordered w o k n xs s g,
)

-- ---- an entry put in

-- the key of a slot of w bytes has k bytes
pub key_long : (w o k : ℕ) (x : List ℕ) → length x ≡ w → o + k ≤ w → length (slot_key o k x) ≡ k
key_long w o k x l h = length-take k (drop o x) ∙ omega (arith, length-drop o x)

-- whether a slot has a key, as lists by a key want it said
key_decides : (o k : ℕ) (x y : List ℕ) → (same? (slot_key o k y) x ≡ true) ↔ (slot_key o k y ≡ x)
key_decides o k x y = (same_are (slot_key o k y) x, λ e. subst (λ (z : List ℕ). same? (slot_key o k y) z ≡ true) e (same_refl (slot_key o k y)))

-- a search that ends before the last found a slot that has the key
index_has : {A : Type 0} (key : A → List ℕ) (x : List ℕ) (ls : List A) → index_of (λ a. same? (key a) x) ls < length ls → x ≡ key_in (map key ls) (index_of (λ a. same? (key a) x) ls)
index_has key x [] h = absurd (not-suc-le-zero h)
index_has key x (a ∷ ls) h = go (same? (key a) x) refl h (index_has key x ls)
  where
    go : (b : Bool) → same? (key a) x ≡ b → cond b 0 (suc (index_of (λ a. same? (key a) x) ls)) < suc (length ls) → (index_of (λ a. same? (key a) x) ls < length ls → x ≡ key_in (map key ls) (index_of (λ a. same? (key a) x) ls))
        → x ≡ key_in (key a ∷ map key ls) (cond b 0 (suc (index_of (λ a. same? (key a) x) ls)))
    go true t i r = sym (same_are (key a) x t)
    go false t i r = r (le_of_suc-le-suc i)

module _ (w o k n : ℕ) (x s : List ℕ) (base : ℕ) (is : base ≡ length s - n) (y : List ℕ) (r : Bool) (put : KeyedPut w o k x (mid_of 0 (base - 0) s) y r) where
  -- there was no room: nothing changed
  pub ordered_full : r ≡ false → OrderedPut w o k n x s (put_mid 0 (base - 0) s y) false
  ordered_full e = record {
    kept = λ _. ap (λ (v : List ℕ). put_mid 0 (base - 0) s v) (put.kept e) ∙ take-append-drop (base - 0) s;
    tried = λ l xs g. tried_full (OrderedList w o k n) ((put.tried l g.inside n xs (list_counted w o k n xs s g base is)).full e);
  }

  module _ (yes : r ≡ true) (l : length x ≡ w) (xs : List (List ℕ)) (g : OrderedList w o k n xs s) where
    abbrev has : List ℕ → Bool
    has a = same? (slot_key o k a) (slot_key o k x)

    -- the slot's key is sought, of k bytes
    sought : put_keyed (hit o (slot_key o k x)) n x xs ≡ put_keyed has n x xs
    sought = ap (λ (i : ℕ). put_keyed (λ a. same? (take i (drop o a)) (slot_key o k x)) n x xs) (key_long w o k x l g.inside)

    -- the list with the slot in its place
    placed : (index_of has xs < n) × Counted w n (put_at (index_of has xs) x xs) y
    placed = let (ys, e, c) = (put.tried l g.inside n xs (list_counted w o k n xs s g base is)).room yes in go ys c (ltb (index_of has xs) n) refl (sym sought ∙ e)
      where
        go : (ys : List (List ℕ)) → Counted w n ys y → (b : Bool) → ltb (index_of has xs) n ≡ b → cond b (some (put_at (index_of has xs) x xs)) none ≡ some ys
            → (index_of has xs < n) × Counted w n (put_at (index_of has xs) x xs) y
        go ys c true t e = (ltb-true _ _ t, subst (λ (z : List (List ℕ)). Counted w n z y) (sym (option_some_injective _ ys e)) c)
        go ys c false t e = absurd (option_none_ne_some ys e)

    pub put_room : put_keyed (hit o (slot_key o k x)) n x xs ≡ some (put_at (index_of has xs) x xs)
    put_room = sought ∙ ap (λ (b : Bool). cond b (some (put_at (index_of has xs) x xs)) none) (lt-ltb (index_of has xs) n placed.0)

    apart : Distinct (slot_key o k) (put_at (index_of has xs) x xs)
    apart = put_distinct (slot_key o k) (λ c a. same? (slot_key o k a) c) (key_decides o k) x xs g.distinct

    module _ (held after : ℕ) (was : Told (mid_of 0 (base - 0) s) held) (now : Told (mid_of 0 (base - 0) (put_mid 0 (base - 0) s y)) after) where
      held_is : held ≡ length xs
      held_is = was.says w n xs (list_counted w o k n xs s g base is)

      after_is : after ≡ length (put_at (index_of has xs) x xs)
      after_is =
          let m : length y ≡ base - 0 = counted_length w n (put_at (index_of has xs) x xs) y placed.1 ∙ omega (arith, ordered_length w o k n xs s g) in
          let e : mid_of 0 (base - 0) (put_mid 0 (base - 0) s y) ≡ y = ap (take (base - 0)) (list_written w o k n xs s g base is y) ∙ take_at y (behind w o k n xs s g) (base - 0) m in
          now.says w n (put_at (index_of has xs) x xs) (subst (Counted w n (put_at (index_of has xs) x xs)) (sym e) placed.1)

      -- as many as before: the slot stands over the one with its key, and the order stays
      pub put_over : after ≡ held → OrderedList w o k n (put_at (index_of has xs) x xs) (put_mid 0 (base - 0) s y)
      put_over e =
          let i : index_of has xs < length xs = go (ltb (index_of has xs) (length xs)) refl in
          let m : map (slot_key o k) (put_at (index_of has xs) x xs) ≡ map (slot_key o k) xs = keys_overwritten (slot_key o k) xs (index_of has xs) x i (index_has (slot_key o k) (slot_key o k x) xs i) in
          record {
            inside = g.inside;
            small = g.small;
            distinct = apart;
            list = y;
            counted = placed.1;
            bytes = list_written w o k n xs s g base is y ∙ ap (λ (z : List (List ℕ)). y ++ order_bytes n (order z)) (sym m);
          }
        where
          go : (b : Bool) → ltb (index_of has xs) (length xs) ≡ b → index_of has xs < length xs
          go true t = ltb-true (index_of has xs) (length xs) t
          go false t =
              let a : length xs ≤ index_of has xs = ltb-false (index_of has xs) (length xs) t in
              let b : index_of has xs ≤ length xs = index_le has xs in
              let j : index_of has xs ≡ length xs = omega arith in
              let p : length (put_at (index_of has xs) x xs) ≡ length (xs ++ (x ∷ [])) = ap length (ap (λ (i : ℕ). put_at i x xs) j ∙ put_end xs x) in
              absurd (omega (arith, after_is, held_is, length-append xs (x ∷ [])))

      -- more than before: the slot is the last, and its position goes into the order
      pub put_behind : (after ≡ held → ⊥) → (t : List ℕ)
          → Inserted w o k n held (mid_of 2 (length (put_mid 0 (base - 0) s y) - 2) (put_mid 0 (base - 0) s y)) t
          → OrderedList w o k n (put_at (index_of has xs) x xs) (put_mid 2 (length (put_mid 0 (base - 0) s y) - 2) (put_mid 0 (base - 0) s y) t)
      put_behind d t ins =
          let j : index_of has xs ≡ length xs = go (ltb (index_of has xs) (length xs)) refl in
          let pe : put_at (index_of has xs) x xs ≡ xs ++ (x ∷ []) = ap (λ (i : ℕ). put_at i x xs) j ∙ put_end xs x in
          let c : Counted w n (xs ++ (x ∷ [])) y = subst (λ (z : List (List ℕ)). Counted w n z y) pe placed.1 in
          let a : Distinct (slot_key o k) (xs ++ (x ∷ [])) = subst (Distinct (slot_key o k)) pe apart in
          let b : put_mid 0 (base - 0) s y ≡ y ++ behind w o k n xs s g = list_written w o k n xs s g base is y in
          let f : Inserted w o k n (length xs) (row w n (xs ++ (x ∷ [])) ++ behind w o k n xs s g) t
          = subst (λ (i : ℕ). Inserted w o k n i (row w n (xs ++ (x ∷ [])) ++ behind w o k n xs s g) t) held_is
          (subst (λ (z : List ℕ). Inserted w o k n held z t) (ap (λ (z : List ℕ). mid_of 2 (length z - 2) z) b ∙ places_read w n (xs ++ (x ∷ [])) y (behind w o k n xs s g) c _ refl) ins) in
          let e : t ≡ row w n (xs ++ (x ∷ [])) ++ order_bytes n (order (map (slot_key o k) (xs ++ (x ∷ []))))
          = part_inserted w o k n xs g.counted.wide g.inside g.small x t c.each (omega (arith, placed.0)) (apart_distinct (slot_key o k) (xs ++ (x ∷ [])) a) f in
          subst (λ (z : List (List ℕ)). OrderedList w o k n z (put_mid 2 (length (put_mid 0 (base - 0) s y) - 2) (put_mid 0 (base - 0) s y) t)) (sym pe)
          (record {
            inside = g.inside;
            small = g.small;
            distinct = a;
            list = y;
            counted = c;
            bytes = ap (λ (z : List ℕ). put_mid 2 (length z - 2) z t) b ∙ places_written w n (xs ++ (x ∷ [])) y (behind w o k n xs s g) c _ refl t ∙ ap (λ (v : List ℕ). u16 (length (xs ++ (x ∷ []))) ++ v) e
                ∙ ap (λ (v : List ℕ). v ++ order_bytes n (order (map (slot_key o k) (xs ++ (x ∷ []))))) (sym c.bytes);
          })
        where
          go : (b : Bool) → ltb (index_of has xs) (length xs) ≡ b → index_of has xs ≡ length xs
          go true t = absurd (d (after_is ∙ put_known (index_of has xs) x xs (ltb-true _ _ t) ∙ sym held_is))
          go false t =
              let a : length xs ≤ index_of has xs = ltb-false (index_of has xs) (length xs) t in
              let b : index_of has xs ≤ length xs = index_le has xs in
              omega arith

  -- there was room
  module _ (yes : r ≡ true) (held after : ℕ) (was : Told (mid_of 0 (base - 0) s) held) (now : Told (mid_of 0 (base - 0) (put_mid 0 (base - 0) s y)) after) where
    pub ordered_over : after ≡ held → OrderedPut w o k n x s (put_mid 0 (base - 0) s y) true
    ordered_over e = record {
      kept = λ f. absurd (true≢false f);
      tried = λ l xs g. tried_room (OrderedList w o k n) (put_at (index_of (has yes l xs g) xs) x xs) (put_room yes l xs g) (put_over yes l xs g held after was now e);
    }

    pub ordered_behind : (after ≡ held → ⊥) → (t : List ℕ)
        → Inserted w o k n held (mid_of 2 (length (put_mid 0 (base - 0) s y) - 2) (put_mid 0 (base - 0) s y)) t
        → OrderedPut w o k n x s (put_mid 2 (length (put_mid 0 (base - 0) s y) - 2) (put_mid 0 (base - 0) s y) t) true
    ordered_behind d t ins = record {
      kept = λ f. absurd (true≢false f);
      tried = λ l xs g. tried_room (OrderedList w o k n) (put_at (index_of (has yes l xs g) xs) x xs) (put_room yes l xs g) (put_behind yes l xs g held after was now d t ins);
    }

-- s is too short for n places
pub ordered_not : (w o k n : ℕ) (x s : List ℕ) → length s < n + 2 → OrderedPut w o k n x s s false
ordered_not w o k n x s h = record { kept = λ _. refl; tried = λ l xs g. absurd (omega (arith, ordered_length w o k n xs s g)) }

-- ---- an entry taken out

pub undropped : (w o n : ℕ) (key s : List ℕ) → length s < n + 2 → OrderedDrop w o n key s s
undropped w o n key s h xs g = absurd (omega (arith, ordered_length w o (length key) n xs s g))

module _ (w o n : ℕ) (key s : List ℕ) (base held : ℕ) (is : base ≡ length s - n) (was : Told (mid_of 0 (base - 0) s) held) (fd : Maybe ℕ)
    (q : Shaped w o (length key) n (mid_of 2 (length s - 2) s) → InOrder w o (length key) n held (mid_of 2 (length s - 2) s) → Finds w o (length key) held (mid_of 2 (length s - 2) s) key fd) where
  abbrev Looks : Maybe ℕ → Type 0
  Looks v = Shaped w o (length key) n (mid_of 2 (length s - 2) s) → InOrder w o (length key) n held (mid_of 2 (length s - 2) s) → Finds w o (length key) held (mid_of 2 (length s - 2) s) key v

  -- none had the key
  pub ordered_kept : fd ≡ None → OrderedDrop w o n key s s
  ordered_kept e xs g =
      let m : held ≡ length xs = was.says w n xs (list_counted w o (length key) n xs s g base is) in
      let f = ordered_none w o (length key) n xs s g key held m (subst Looks e q) in
      subst (λ (z : List (List ℕ)). OrderedList w o (length key) n z s) (sym (unless_none (slot_key o (length key)) key xs f)) g

  -- slot p had it
  pub ordered_dropped : (p : ℕ) (y t : List ℕ) → fd ≡ Some p → KeyDropped w o key (mid_of 0 (base - 0) s) y
      → Dropped n p (mid_of 2 (length (put_mid 0 (base - 0) s y) - 2) (put_mid 0 (base - 0) s y)) t
      → OrderedDrop w o n key s (put_mid 2 (length (put_mid 0 (base - 0) s y) - 2) (put_mid 0 (base - 0) s y) t)
  ordered_dropped p y t e rm d xs g =
      let k : ℕ = length key in
      let m : held ≡ length xs = was.says w n xs (list_counted w o (length key) n xs s g base is) in
      let (i, j) = ordered_found w o (length key) n xs s g key held m p (subst Looks e q) in
      let old : List ℕ = behind w o (length key) n xs s g in
      let ys : List (List ℕ) = unless (hit o key) xs in
      let dis = apart_distinct (slot_key o (length key)) xs g.distinct in
      let one : unless (hit o key) xs ≡ take p xs ++ drop (suc p) xs = unless_one (slot_key o (length key)) key xs p dis i j in
      let c : Counted w n (unless (hit o key) xs) y = rm g.inside n xs (list_counted w o (length key) n xs s g base is) in
      let b : put_mid 0 (base - 0) s y ≡ y ++ behind w o (length key) n xs s g = list_written w o (length key) n xs s g base is y in
      let f : Dropped n p (row w n (unless (hit o key) xs) ++ behind w o (length key) n xs s g) t
      = subst (λ (z : List ℕ). Dropped n p z t) (ap (λ (z : List ℕ). mid_of 2 (length z - 2) z) b ∙ places_read w n (unless (hit o key) xs) y (behind w o (length key) n xs s g) c _ refl) d in
      let h : t ≡ row w n (unless (hit o key) xs) ++ order_bytes n (order (map (slot_key o (length key)) (take p xs ++ drop (suc p) xs)))
      = part_dropped w n (slot_key o (length key)) xs p (row w n (unless (hit o key) xs)) t (row_long w o (length key) n (unless (hit o key) xs) g.inside c.each c.few []) g.small g.counted.few i dis f in
      record {
        inside = g.inside;
        small = g.small;
        distinct = unless_distinct (slot_key o (length key)) (hit o key) xs g.distinct;
        list = y;
        counted = c;
        bytes = ap (λ (z : List ℕ). put_mid 2 (length z - 2) z t) b ∙ places_written w n (unless (hit o key) xs) y (behind w o (length key) n xs s g) c _ refl t ∙ ap (λ (v : List ℕ). u16 (length (unless (hit o key) xs)) ++ v) h
            ∙ ap₂ (λ (u v : List ℕ). u ++ v) (sym c.bytes) (ap (λ (z : List (List ℕ)). order_bytes n (order (map (slot_key o (length key)) z))) (sym one));
      }

-- ---- a lookup

pub unfound : (w o n : ℕ) (key s : List ℕ) → length s < n + 2 → EntryFound w o n key s None
unfound w o n key s h xs g = absurd (omega (arith, ordered_length w o (length key) n xs s g))

-- what was found among the places is an entry, or none has the key
pub entry_found : (w o n : ℕ) (key s : List ℕ) (base held : ℕ) → base ≡ length s - n → Told (mid_of 0 (base - 0) s) held → (fd : Maybe ℕ)
    → (Shaped w o (length key) n (mid_of 2 (length s - 2) s) → InOrder w o (length key) n held (mid_of 2 (length s - 2) s) → Finds w o (length key) held (mid_of 2 (length s - 2) s) key fd)
    → EntryFound w o n key s fd
entry_found w o n key s base held is was (Some p) q xs g =
    let m : held ≡ length xs = was.says w n xs (list_counted w o (length key) n xs s g base is) in
    let (i, j) = ordered_found w o (length key) n xs s g key held m p q in
    (i, sym (get_d_map (slot_key o (length key)) xs p [] [] i) ∙ j)
entry_found w o n key s base held is was None q xs g =
    let m : held ≡ length xs = was.says w n xs (list_counted w o (length key) n xs s g base is) in
    all_none (slot_key o (length key)) key xs (ordered_none w o (length key) n xs s g key held m q)
