-- The tables that have texts, in both forms of a store: how each is made of the other, and what the heads' last bytes say. Assumes nothing.
use Rattle.lists.proofs.Kit.{ℕ, zero, suc, ◌+◌, ◌*◌, ◌≤◌, ◌<◌, ◌≡◌, refl, sym, ap, ap₂, ◌∙◌, List, [], ◌∷◌, ◌++◌, map, map-append, append_assoc, Option, none, some, option_none_ne_some, not-suc-le-zero, le_of_suc-le-suc, arith, length, take, drop, get_or, length-append, length-map, drop_at, drop-drop, get_or_at, take_all, take-nil}
use Rattle.lists.specs.Every.{All}
use Rattle.slots.specs.Slots.{flat, places, front, Present, sum}
use Rattle.slots.proofs.Parts.{flat_append}
use Rattle.slots.proofs.Tables.{all_front, front_length}
use Rattle.writing.specs.Settings.{Text}
use Rattle.shared_texts.specs.declared.Run.{Run}
use Rattle.shared_texts.specs.Moves.{spread, gathered_heads, gathered_texts, placed_units, slots_units}
use Rattle.shared_texts.specs.Regions.{row_units, last_bytes}
use Rattle.shared_texts.specs.Shared.{heads_in, slots_in, run_units, no_run, counted_before}
use Rattle.tables.specs.Texts.{rows, present, texts_in, units_of, units_before, unit_bytes}
use Rattle.shared_texts.proofs.Cuts.{texts_length}
use Rattle.shared_texts.proofs.MoveLaws.{Formed, spread_places, heads_gathered, texts_gathered, units_placed}
use Rattle.shared_texts.proofs.RegionLaws.{map_take}
use Rattle.shared_texts.proofs.Rows.{last_sum, last_snoc}
use Rattle.shared_texts.proofs.Sums.{present_more, row_there, units_append}

-- ---- one table

-- s has the table's heads and w its slots with places for texts; os are the texts of its rows
pub record Moved (s w : List ℕ) (x : Run) (os : List (Option Text)) : Type 0 where
  pub few : length os ≤ x.many
  pub counts : (r : ℕ) → r ≤ x.many → run_units s r x ≡ units_of (present (take r os))
  pub loads : (y : List ℕ) → spread x.own x.room x.many (heads_in s x) (flat (map unit_bytes (present os)) ++ y) ≡ slots_in w x
  pub heads : gathered_heads x.own x.room x.many (slots_in w x) ≡ heads_in s x
  pub texts : gathered_texts x.own x.room x.many (slots_in w x) ≡ flat (map unit_bytes (present os))
  pub units : placed_units x.own x.room x.many (slots_in w x) ≡ units_of (present os)

-- the units of rows that are there
rows_units : {A : Type 0} (text : A → Text) (os : List (Option A)) → sum (row_units (λ a. length (text a)) os) ≡ units_of (present (rows text os))
rows_units text [] = refl
rows_units text (none ∷ os) = rows_units text os
rows_units text (some a ∷ os) = ap (λ (n : ℕ). length (text a) + n) (rows_units text os)

-- entries from the front have the texts of the entries
front_present : {A : Type 0} (text : A → Text) (n : ℕ) (xs : List A) → length xs ≤ n → present (rows text (front n xs)) ≡ present (rows text (map some xs))
front_present text zero [] h = refl
front_present text zero (x ∷ xs) h = absurd (not-suc-le-zero h)
front_present text (suc n) [] h = front_present text n [] (omega arith)
front_present text (suc n) (x ∷ xs) h = ap (λ (l : List Text). text x ∷ l) (front_present text n xs (le_of_suc-le-suc h))

-- and so do the first r of them
front_units : {A : Type 0} (text : A → Text) (n r : ℕ) (xs : List A) → r ≤ n → sum (row_units (λ a. length (text a)) (take r (front n xs))) ≡ units_of (present (take r (rows text (map some xs))))
front_units text n zero xs h = refl
front_units text zero (suc r) xs h = absurd (not-suc-le-zero h)
front_units text (suc n) (suc r) [] h = front_units text n r [] (le_of_suc-le-suc h) ∙ ap (λ (l : List (Option Text)). units_of (present l)) (take-nil r)
front_units text (suc n) (suc r) (x ∷ xs) h = ap (λ (i : ℕ). length (text x) + i) (front_units text n r xs (le_of_suc-le-suc h))

module _ {A : Type 0} (P : A → Type 0) (text : A → Text) (own n : ℕ) (f g : A → List ℕ) (k : Formed P text own n f g) (s w : List ℕ) (start from many : ℕ) where
  -- the table's run
  abbrev run : Run
  run = record { start = start; from = from; own = own; room = 2 * n; many = many }

  -- a head fills its slot
  wide : (a : A) → length (f a) ≡ suc own
  wide a = omega (arith, ap length (k.head a), length-append (k.own a) (length (text a) ∷ []), k.long a)

  -- and its last byte is the number of units
  last : (a : A) → get_or (f a) own 0 ≡ length (text a)
  last a = ap (λ (l : List ℕ). get_or l own 0) (k.head a) ∙ get_or_at (k.own a) (length (text a)) [] 0 own (k.long a)

  -- the last bytes of its first heads
  first_units : (os : List (Option A)) → heads_in s run ≡ places (suc own) f os → (r : ℕ) → r ≤ length os → run_units s r run ≡ sum (row_units (λ a. length (text a)) (take r os))
  first_units os e r h = ap (last_bytes own r) e ∙ last_sum (λ a. length (text a)) own f wide last os r h

  -- an indexed table
  pub table_moved : (os : List (Option A)) → length os ≡ many → All (Present P) os → heads_in s run ≡ places (suc own) f os → slots_in w run ≡ places (own + 2 * n) g os → Moved s w run (rows text os)
  table_moved os l p e d =
      record {
        few = omega (arith, length-map os (mathlib.Core.Option.map text));
        counts = λ r h. first_units os e r (omega arith) ∙ rows_units text (take r os) ∙ ap (λ (x : List (Option Text)). units_of (present x)) (map_take (mathlib.Core.Option.map text) r os);
        loads = λ y. ap₂ (λ (i : ℕ) (x : List ℕ). spread own (2 * n) i x (flat (map unit_bytes (present (rows text os))) ++ y)) (sym l) e ∙ spread_places P text own n f g k os y ∙ sym d;
        heads = ap₂ (gathered_heads own (2 * n)) (sym l) d ∙ heads_gathered P text own n f g k os p ∙ sym e;
        texts = ap₂ (gathered_texts own (2 * n)) (sym l) d ∙ texts_gathered P text own n f g k os p;
        units = ap₂ (placed_units own (2 * n)) (sym l) d ∙ units_placed P text own n f g k os p;
      }

  -- a list table
  pub list_moved : (xs : List A) → length xs ≤ many → All P xs → heads_in s run ≡ places (suc own) f (front many xs) → slots_in w run ≡ places (own + 2 * n) g (front many xs) → Moved s w run (rows text (map some xs))
  list_moved xs l p e d =
      let os : List (Option A) = front many xs in
      let t = table_moved os (front_length many xs) (all_front P many xs p) e d in
      let c : present (rows text os) ≡ present (rows text (map some xs)) = front_present text many xs l in
      record {
        few = omega (arith, length-map (map some xs) (mathlib.Core.Option.map text), length-map {B = Option A} xs some);
        counts = λ r h. first_units os e r (omega (arith, front_length many xs)) ∙ front_units text many r xs h;
        loads = λ y. ap (λ (ts : List Text). spread own (2 * n) many (heads_in s run) (flat (map unit_bytes ts) ++ y)) (sym c) ∙ t.loads y;
        heads = t.heads;
        texts = t.texts ∙ ap (λ (ts : List Text). flat (map unit_bytes ts)) c;
        units = t.units ∙ ap units_of c;
      }

-- ---- all tables

-- each run has its table
abbrev pub AllMoved : List ℕ → List ℕ → List Run → List (List (Option Text)) → Type 0
AllMoved s w [] [] = Unit {0}
AllMoved s w [] (os ∷ tables) = ⊥
AllMoved s w (x ∷ runs) [] = ⊥
AllMoved s w (x ∷ runs) (os ∷ tables) = Moved s w x os × AllMoved s w runs tables

-- the bytes of texts, and then of others
pub texts_append : (xs ys : List Text) → flat (map unit_bytes (xs ++ ys)) ≡ flat (map unit_bytes xs) ++ flat (map unit_bytes ys)
texts_append xs ys = ap flat (map-append unit_bytes xs ys) ∙ flat_append (map unit_bytes xs) (map unit_bytes ys)

module _ (s w : List ℕ) where
  -- BEFORE-COUNTED: the heads before a row count the units of the texts before its
  pub before_counted : (runs : List Run) (tables : List (List (Option Text))) → AllMoved s w runs tables → (k r : ℕ) → k < length runs → r ≤ (get_or runs k no_run).many → counted_before s runs k r ≡ units_before tables k r
  before_counted [] tables c k r h l = absurd (not-suc-le-zero h)
  before_counted (x ∷ runs) [] c k r h l = absurd c
  before_counted (x ∷ runs) (os ∷ tables) c zero r h l = omega (arith, c.0.counts r l)
  before_counted (x ∷ runs) (os ∷ tables) c (suc k) r h l =
      let b = before_counted runs tables c.1 k r (le_of_suc-le-suc h) l in
      let u : run_units s x.many x ≡ units_of (present os) = c.0.counts x.many (omega arith) ∙ ap (λ (y : List (Option Text)). units_of (present y)) (take_all x.many os c.0.few) in
      omega (arith, b, u, units_append (present os) (texts_in (take k tables)))

  -- RUN-LENGTH: the last byte of a row's head is the length of its text
  pub run_length : (runs : List Run) (tables : List (List (Option Text))) → AllMoved s w runs tables → (k r : ℕ) (us : Text) → get_or (get_or tables k []) r none ≡ some us
      → get_or (heads_in s (get_or runs k no_run)) (r * suc (get_or runs k no_run).own + (get_or runs k no_run).own) 0 ≡ length us
  run_length [] [] c k r us e = absurd (option_none_ne_some us e)
  run_length [] (os ∷ tables) c k r us e = absurd c
  run_length (x ∷ runs) [] c k r us e = absurd c
  run_length (x ∷ runs) (os ∷ tables) c zero r us e =
      let h = row_there os r us e in
      let f = c.0.few in
      omega (arith, last_snoc x.own r (heads_in s x), c.0.counts r (omega arith), c.0.counts (suc r) (omega arith), present_more os r us e)
  run_length (x ∷ runs) (os ∷ tables) c (suc k) r us e = run_length runs tables c.1 k r us e

  -- RUN-LOADS: a table's slots are its heads and the units that stand behind the texts before it
  pub run_loads : (runs : List Run) (tables : List (List (Option Text))) → AllMoved s w runs tables → (y : List ℕ) (k : ℕ) → k < length runs
      → spread (get_or runs k no_run).own (get_or runs k no_run).room (get_or runs k no_run).many (heads_in s (get_or runs k no_run)) (drop (2 * units_of (texts_in (take k tables))) (flat (map unit_bytes (texts_in tables)) ++ y)) ≡ slots_in w (get_or runs k no_run)
  run_loads [] tables c y k h = absurd (not-suc-le-zero h)
  run_loads (x ∷ runs) [] c y k h = absurd c
  run_loads (x ∷ runs) (os ∷ tables) c y zero h =
      ap (spread x.own x.room x.many (heads_in s x)) (ap (λ (l : List ℕ). l ++ y) (texts_append (present os) (texts_in tables)) ∙ append_assoc (flat (map unit_bytes (present os))) (flat (map unit_bytes (texts_in tables))) y)
      ∙ c.0.loads (flat (map unit_bytes (texts_in tables)) ++ y)
  run_loads (x ∷ runs) (os ∷ tables) c y (suc k) h =
      let z : Run = get_or runs k no_run in
      let i : ℕ = 2 * units_of (present os) in
      let j : ℕ = 2 * units_of (texts_in (take k tables)) in
      let u : 2 * units_of (present os ++ texts_in (take k tables)) ≡ i + j = omega (arith, units_append (present os) (texts_in (take k tables))) in
      let e : flat (map unit_bytes (present os ++ texts_in tables)) ++ y ≡ flat (map unit_bytes (present os)) ++ (flat (map unit_bytes (texts_in tables)) ++ y)
      = ap (λ (l : List ℕ). l ++ y) (texts_append (present os) (texts_in tables)) ∙ append_assoc (flat (map unit_bytes (present os))) (flat (map unit_bytes (texts_in tables))) y in
      let d : drop (i + j) (flat (map unit_bytes (present os)) ++ (flat (map unit_bytes (texts_in tables)) ++ y)) ≡ drop j (flat (map unit_bytes (texts_in tables)) ++ y)
      = sym (drop-drop j i _) ∙ ap (drop j) (drop_at (flat (map unit_bytes (present os))) (flat (map unit_bytes (texts_in tables)) ++ y) i (texts_length (present os))) in
      ap (spread z.own z.room z.many (heads_in s z)) (ap₂ (λ (n : ℕ) (l : List ℕ). drop n l) u e ∙ d)
      ∙ run_loads runs tables c.1 y k (le_of_suc-le-suc h)

  -- RUN-HEADS: a table's heads, gathered from its slots
  pub run_heads : (runs : List Run) (tables : List (List (Option Text))) → AllMoved s w runs tables → (k : ℕ) → k < length runs
      → gathered_heads (get_or runs k no_run).own (get_or runs k no_run).room (get_or runs k no_run).many (slots_in w (get_or runs k no_run)) ≡ heads_in s (get_or runs k no_run)
  run_heads [] tables c k h = absurd (not-suc-le-zero h)
  run_heads (x ∷ runs) [] c k h = absurd c
  run_heads (x ∷ runs) (os ∷ tables) c zero h = c.0.heads
  run_heads (x ∷ runs) (os ∷ tables) c (suc k) h = run_heads runs tables c.1 k (le_of_suc-le-suc h)

  -- RUN-TEXTS: the texts of all tables, gathered from their slots
  pub run_texts : (runs : List Run) (tables : List (List (Option Text))) → AllMoved s w runs tables → flat (map (λ x. gathered_texts x.own x.room x.many (slots_in w x)) runs) ≡ flat (map unit_bytes (texts_in tables))
  run_texts [] [] c = refl
  run_texts [] (os ∷ tables) c = absurd c
  run_texts (x ∷ runs) [] c = absurd c
  run_texts (x ∷ runs) (os ∷ tables) c = ap₂ (λ (l m : List ℕ). l ++ m) c.0.texts (run_texts runs tables c.1) ∙ sym (texts_append (present os) (texts_in tables))

  -- RUN-PLACED: a table's units, counted in its slots
  pub run_placed : (runs : List Run) (tables : List (List (Option Text))) → AllMoved s w runs tables → (k : ℕ) → k < length runs → slots_units w (get_or runs k no_run) ≡ units_of (present (get_or tables k []))
  run_placed [] tables c k h = absurd (not-suc-le-zero h)
  run_placed (x ∷ runs) [] c k h = absurd c
  run_placed (x ∷ runs) (os ∷ tables) c zero h = c.0.units
  run_placed (x ∷ runs) (os ∷ tables) c (suc k) h = run_placed runs tables c.1 k (le_of_suc-le-suc h)

  -- RUNS-PLACED: and those of all
  pub runs_placed : (runs : List Run) (tables : List (List (Option Text))) → AllMoved s w runs tables → sum (map (slots_units w) runs) ≡ units_of (texts_in tables)
  runs_placed [] [] c = refl
  runs_placed [] (os ∷ tables) c = absurd c
  runs_placed (x ∷ runs) [] c = absurd c
  runs_placed (x ∷ runs) (os ∷ tables) c = omega (arith, c.0.units, runs_placed runs tables c.1, units_append (present os) (texts_in tables))
