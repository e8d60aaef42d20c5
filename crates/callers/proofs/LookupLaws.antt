-- Looking a caller up: the bytes of a key, and what the entry found among the slots says of the lines. Assumes nothing.
use Rattle.lists.proofs.Kit.{ℕ, zero, suc, ◌+◌, ◌*◌, ◌≤◌, ◌<◌, ◌≡◌, refl, sym, ap, ap₂, ◌∙◌, subst, subst₂, Bool, true, false, List, [], ◌∷◌, ◌++◌, map, map-append, head-eq_of_cons-eq, tail-eq_of_cons-eq, Option, none, some, inr, not-suc-le-zero, le_of_suc-le-suc, add-one, arith, mid_of, length, take, get_or, set, length-map, take-suc, length-take-le, take_all}
use Rattle.lists.specs.Every.{All}
use Rattle.lists.specs.Ladder.{Answers}
use Rattle.lists.proofs.Every.{all_any}
use Rattle.slots.specs.Slots.{pad, put_at}
use Rattle.slots.proofs.Tables.{put_end}
use Rattle.counted_lists.specs.Counted.{Without}
use Rattle.counted_lists.proofs.CountLaws.{pad_put}
use Rattle.orders.specs.OrderedLists.{slot_key, Has, OrderedList, EntryFound}
use Rattle.writing.specs.Ranges.{text_limits, InNumber}
use Rattle.writing.specs.Settings.{Number}
use Rattle.writing.specs.Writing.{bit}
use Rattle.tables.specs.declared.limits.Limits.{Limits}
use Rattle.tables.specs.declared.limits.Texts.{Texts}
use Rattle.tables.specs.Allowed.{LineOk}
use Rattle.tables.specs.Forms.{Roomy, layout, region_start, slot_width, line_as}
use Rattle.tables.specs.Heads.{line_own}
use Rattle.tables.specs.Layout.{count_size, digit_bytes, line_key_at, line_key_size}
use Rattle.tables.specs.Store.{StoreOf}
use Rattle.tables.specs.Tables.{Line, Tables}
use Rattle.tables.proofs.EntryCodes.{key_of}
use Rattle.tables.proofs.TextCodes.{digits_length, digits_one}
use Rattle.shared_texts.proofs.FormLists.{line_as_keyed, lines_ordered}
use Rattle.std.specs.Prelude.{Option as Maybe, Some, None, Ok}
use Rattle.callers.specs.Callers.{told, Calls, ByNumber, looking_up, LineFound}

-- ---- the key

-- the digits before i are written
pub record KeySoFar (id : ℕ) (ds : Number) (i : ℕ) (key : List ℕ) : Type 0 where
  pub within : i ≤ length ds
  pub bytes : key ≡ id ∷ pad 0 18 (map suc (take i ds))

-- one more is
pub key_more : (id : ℕ) (ds : Number) (i : ℕ) (key : List ℕ) → length ds ≤ 18 → KeySoFar id ds i key → i < length ds → KeySoFar id ds (i + 1) (set key (i + 1) (get_or ds i 0 + 1))
key_more id ds i key few g h =
    let x : ℕ = suc (get_or ds i 0) in
    let xs : List ℕ = map suc (take i ds) in
    let l : length (map suc (take i ds)) ≡ i = length-map (take i ds) suc ∙ length-take-le i ds (omega arith) in
    let t : take (i + 1) ds ≡ take i ds ++ (get_or ds i 0 ∷ []) = rw add-one (take-suc ds i 0 h) in
    let m : map suc (take (i + 1) ds) ≡ map suc (take i ds) ++ (suc (get_or ds i 0) ∷ []) = ap (map suc) t ∙ map-append suc (take i ds) (get_or ds i 0 ∷ []) in
    let e : put_at i (suc (get_or ds i 0)) (map suc (take i ds)) ≡ map suc (take (i + 1) ds) = ap (λ (j : ℕ). put_at j (suc (get_or ds i 0)) (map suc (take i ds))) (sym l) ∙ put_end (map suc (take i ds)) (suc (get_or ds i 0)) ∙ sym m in
    let p : set (pad 0 18 (map suc (take i ds))) i (suc (get_or ds i 0)) ≡ pad 0 18 (map suc (take (i + 1) ds)) = pad_put 0 18 i (map suc (take i ds)) (suc (get_or ds i 0)) (omega arith) (omega arith) ∙ ap (pad 0 18) e in
    record {
      within = omega arith;
      bytes = ap (λ (y : List ℕ). set y (i + 1) (get_or ds i 0 + 1)) g.bytes ∙ ap₂ (λ (j a : ℕ). set (id ∷ pad 0 18 (map suc (take i ds))) j a) (add-one i) (add-one (get_or ds i 0)) ∙ ap (λ (y : List ℕ). id ∷ y) p;
    }

-- all are
pub key_done : (id : ℕ) (ds : Number) (i : ℕ) (key : List ℕ) → KeySoFar id ds i key → length ds ≤ i → key ≡ id ∷ digit_bytes ds
key_done id ds i key g h = g.bytes ∙ ap (λ (y : Number). id ∷ pad 0 18 (map suc y)) (take_all i ds h)

-- ---- the line

-- the entry in a place
there : {A B : Type 0} (P : A → Type 0) (f : A → B) (d : B) (ls : List A) (p : ℕ) → All P ls → p < length ls → (a : A) × (get_or (map some ls) p none ≡ some a) × (get_or (map f ls) p d ≡ f a) × P a
there P f d [] p q h = absurd (not-suc-le-zero h)
there P f d (a ∷ ls) zero q h = (a, refl, refl, q.0)
there P f d (a ∷ ls) (suc p) q h = there P f d ls p q.1 (le_of_suc-le-suc h)

-- a line has the key of an IDtype and digits where it has them, however its slot keeps the text
module _ (form : Texts) where
  key_calls : (id : ℕ) (ds : Number) → InNumber ds → (l : Line) → LineOk l → slot_key line_key_at line_key_size (line_as form l) ≡ id ∷ digit_bytes ds → Calls id ds l
  key_calls id ds n l ok e =
      let k : key_of l ≡ id ∷ digit_bytes ds = sym ((line_as_keyed form).stands l) ∙ e in
      (head-eq_of_cons-eq k, digits_one l.number ds ok.number.1 n.1 (tail-eq_of_cons-eq k))

  calls_key : (id : ℕ) (ds : Number) (l : Line) → Calls id ds l → slot_key line_key_at line_key_size (line_as form l) ≡ id ∷ digit_bytes ds
  calls_key id ds l c = (line_as_keyed form).stands l ∙ ap₂ (λ (i : ℕ) (n : Number). i ∷ digit_bytes n) c.0 c.1

module _ (form : Texts) (id : ℕ) (ds : Number) (n : InNumber ds) (key : List ℕ) (is : key ≡ id ∷ digit_bytes ds) (long : length key ≡ line_key_size) (t : Tables) (ok : All LineOk t.lines) where
  -- a line was found
  pub line_there : (p : ℕ) → Has line_key_at key (map (line_as form) t.lines) (Some p) → ByNumber t id ds (some p)
  line_there p (h, e) =
      let (l, at, b, q) = there LineOk (line_as form) [] t.lines p ok (subst (λ (i : ℕ). p < i) (length-map t.lines (line_as form)) h) in
      let k : slot_key line_key_at line_key_size (line_as form l) ≡ id ∷ digit_bytes ds = sym (ap₂ (λ (i : ℕ) (x : List ℕ). slot_key line_key_at i x) long b) ∙ e ∙ is in
      (l, at, key_calls form id ds n l q k)

  -- no line has the key
  pub no_line : Has line_key_at key (map (line_as form) t.lines) None → ByNumber t id ds none
  no_line w = none_of t.lines w
    where
      none_of : (ls : List Line) → Without (slot_key line_key_at (length key)) key (map (line_as form) ls) → All (λ l. Calls id ds l → ⊥) ls
      none_of [] w = tt
      none_of (l ∷ ls) w = (λ c. w.0 (ap (λ (i : ℕ). slot_key line_key_at i (line_as form l)) long ∙ calls_key form id ds l c ∙ sym is), none_of ls w.1)

-- an IDtype that no line has
pub no_idtype : (id : ℕ) (ds : Number) (t : Tables) → 1 < id → ByNumber t id ds none
no_idtype id ds t h = all_any (λ l. Calls id ds l → ⊥) (λ l c. go l.flags.pabx c.0) t.lines
  where
    go : (b : Bool) → bit b ≡ id → ⊥
    go true e = omega arith
    go false e = omega arith

-- ---- in a store

-- how many bytes the lines take, with their order
abbrev pub ordered_width : Limits → ℕ
ordered_width lim = count_size + lim.lines * slot_width lim.texts line_own text_limits.short + lim.lines

-- what was found in the lines' region was found among the lines
pub found_line : (lim : Limits) → Roomy lim → (store key : List ℕ) (w i k : ℕ) → w ≡ slot_width lim.texts line_own text_limits.short → i ≡ region_start lim 12 → k ≡ ordered_width lim
    → (r : Maybe ℕ) → EntryFound w line_key_at lim.lines key (mid_of i k store) r → LineFound lim store key r
found_line lim room store key w i k p q e r f t h long =
    let xs : List (List ℕ) = map (line_as lim.texts) t.lines in
    let v : ℕ = slot_width lim.texts line_own text_limits.short in
    let same : mid_of (region_start lim 12) (ordered_width lim) (layout lim t) ≡ mid_of i k store = (λ z. mid_of (sym q z) (sym e z) (sym h.1 z)) in
    let g : OrderedList v line_key_at line_key_size lim.lines xs (mid_of i k store)
    = subst (OrderedList v line_key_at line_key_size lim.lines xs) same (lines_ordered lim t h.0 room) in
    f xs (subst₂ (λ (u j : ℕ). OrderedList u line_key_at j lim.lines xs (mid_of i k store)) (sym p) (sym long) g)

-- ---- the answer

module _ (lim : Limits) (idtype : ℕ) (digits store : List ℕ) (s : StoreOf lim store) (n : InNumber digits) where
  -- a store and a number: what its tables say is answered
  pub looked_up : (r : Option ℕ) → ByNumber s.store.tables idtype digits r → Answers (looking_up lim idtype digits store) (record { number = 0; row = r })
  looked_up r p = inr (λ m. m s, inr (λ m. m n, (s.store.tables, (s.store.allowed, s.store.bytes_are), refl, p)))

  module _ (key : List ℕ) (is : key ≡ idtype ∷ digit_bytes digits) (fd : Maybe ℕ) (f : LineFound lim store key fd) where
    long : length key ≡ line_key_size
    long = ap length is ∙ ap suc (digits_length digits)

    -- what the search found
    has : Has line_key_at key (map (line_as lim.texts) s.store.tables.lines) fd
    has = f s.store.tables (s.store.allowed, s.store.bytes_are) long

    -- the line at p
    answered_row : (p : ℕ) → fd ≡ Some p → Answers (looking_up lim idtype digits store) (told (Ok (Some p)))
    answered_row p e =
        looked_up (some p) (line_there lim.texts idtype digits n key is long s.store.tables s.store.allowed.lines.1 p (subst (Has line_key_at key (map (line_as lim.texts) s.store.tables.lines)) e has))

    -- no line
    answered_none : fd ≡ None → Answers (looking_up lim idtype digits store) (told (Ok None))
    answered_none e =
        looked_up none (no_line lim.texts idtype digits n key is long s.store.tables s.store.allowed.lines.1 (subst (Has line_key_at key (map (line_as lim.texts) s.store.tables.lines)) e has))

    -- either way
    pub answered : Answers (looking_up lim idtype digits store) (told (Ok fd))
    answered = go fd refl
      where
        go : (r : Maybe ℕ) → fd ≡ r → Answers (looking_up lim idtype digits store) (told (Ok r))
        go (Some p) e = answered_row p e
        go None e = answered_none e
