-- What is done to a table of entries with keys, and what a reader finds in it who keeps no table. Each entry has the place where it was read.
use Rattle.std.specs.Prelude.{ℕ, suc, ◌+◌, ◌-◌, ◌≤◌, ◌<◌, ◌≡◌, Bool, true, false, cond, List, [], ◌∷◌, map, eqb, ltb, get_or}
use Rattle.std.proofs.Math.Option.{Option, none, some}
use Rattle.slots.specs.Slots.{unless}
use Rattle.counted_lists.specs.Counted.{put_keyed}
use Rattle.tables.specs.Apply.{in_turn}
use Rattle.events.specs.Reading.{reading, reading_on, while_room}

-- all entries go; an entry is put, which was read at a place; the entries with a key go
pub data Event (A K : Type 0) : Type 0 where
  clear : Event A K
  put : ℕ → A → Event A K
  remove : K → Event A K

-- a test of keys that says yes of equal ones and of no others
pub record Decides {K : Type 0} (same : K → K → Bool) : Type 0 where
  pub are : (k l : K) → same k l ≡ true → k ≡ l
  pub itself : (k : K) → same k k ≡ true

-- the first entry that p says yes of
abbrev pub find : {A : Type 0} → (A → Bool) → List A → Option A
find p [] = none
find p (x ∷ xs) = cond (p x) (some x) (find p xs)

-- there is one
abbrev pub found : {A : Type 0} → Option A → Bool
found none = false
found (some a) = true

-- an entry without the place where it was born
abbrev pub entry : {A : Type 0} → Option (ℕ × A) → Option A
entry none = none
entry (some e) = some e.1

-- where the next entry of a key is born: where the one that it takes the place of was, else at its own place
abbrev pub birth : {A : Type 0} → ℕ → Option (ℕ × A) → ℕ
birth n none = n
birth n (some e) = e.0

-- an entry that was born at n, before others
abbrev pub born_at : {A : Type 0} → ℕ → Option (ℕ × A) → List (ℕ × A) → List (ℕ × A)
born_at n none l = l
born_at n (some e) l = cond (eqb e.0 n) (e ∷ l) l

-- how much an entry takes, and how much all entries take
abbrev pub weight : {A : Type 0} → (A → ℕ) → Option A → ℕ
weight size none = 0
weight size (some a) = size a

abbrev pub total : {A : Type 0} → (A → ℕ) → List A → ℕ
total size [] = 0
total size (x ∷ xs) = size x + total size xs

module _ {A K : Type 0} where
  -- the places of the entries that are put rise, from n on
  abbrev pub Rising : ℕ → List (Event A K) → Type 0
  Rising n [] = Unit {0}
  Rising n (clear ∷ es) = Rising n es
  Rising n (put m a ∷ es) = (n ≤ m) × Rising (suc m) es
  Rising n (remove k ∷ es) = Rising n es

  -- and are before m
  abbrev pub Before : ℕ → List (Event A K) → Type 0
  Before m [] = Unit {0}
  Before m (clear ∷ es) = Before m es
  Before m (put n a ∷ es) = (n < m) × Before m es
  Before m (remove k ∷ es) = Before m es

  -- both
  abbrev pub Spans : ℕ → ℕ → List (Event A K) → Type 0
  Spans n m es = Rising n es × Before m es

  -- the place of each entry is the number of its event, from n on
  abbrev pub numbered : ℕ → List (Event A K) → List (Event A K)
  numbered n [] = []
  numbered n (clear ∷ es) = clear ∷ numbered (suc n) es
  numbered n (put m a ∷ es) = put n a ∷ numbered (suc n) es
  numbered n (remove k ∷ es) = remove k ∷ numbered (suc n) es

-- entries were born at places that rise, from n on
abbrev pub Climbs : {A : Type 0} → ℕ → List (ℕ × A) → Type 0
Climbs n [] = Unit {0}
Climbs n (e ∷ l) = (n ≤ e.0) × Climbs (suc e.0) l

module _ {A K : Type 0} (key : A → K) (same : K → K → Bool) where
  -- the entry has the key
  abbrev pub has : K → A → Bool
  has κ a = same (key a) κ

  -- ---- with a table

  -- what one event makes of a table with this many places: none where there is no room
  abbrev pub step : ℕ → Event A K → List A → Option (List A)
  step room clear l = some []
  step room (put n a) l = put_keyed (has (key a)) room a l
  step room (remove k) l = some (unless (has k) l)

  -- and what all make of it in turn
  abbrev pub after : ℕ → List (Event A K) → List A → Option (List A)
  after room es l = in_turn (step room) es l

  -- ---- with no table

  -- what is known of a key after one event more: where its entry was born, and the entry
  abbrev pub look_step : K → Event A K → Option (ℕ × A) → Option (ℕ × A)
  look_step κ clear o = none
  look_step κ (put n a) o = cond (has κ a) (some (birth n o, a)) o
  look_step κ (remove k) o = cond (same κ k) none o

  abbrev pub look_on : K → List (Event A K) → Option (ℕ × A) → Option (ℕ × A)
  look_on κ es o = reading (look_step κ) es o

  -- the events are read from the first for one key
  abbrev pub look : K → List (Event A K) → Option (ℕ × A)
  look κ es = look_on κ es none

  -- the rows: of each entry that is put, in order, what its key is found with, where that was born there
  abbrev pub rows : (K → Option (ℕ × A)) → List (Event A K) → List (ℕ × A)
  rows f [] = []
  rows f (clear ∷ es) = rows f es
  rows f (put n a ∷ es) = born_at n (f (key a)) (rows f es)
  rows f (remove k ∷ es) = rows f es

  -- row i of them, if there is one
  abbrev pub row : (K → Option (ℕ × A)) → List (Event A K) → ℕ → Option (ℕ × A)
  row f es i = get_or (map some (rows f es)) i none

  -- how many entries there are after one event more, which follows those that were read: none where there is no room
  abbrev pub count_step : ℕ → List (Event A K) → Event A K → ℕ → Option ℕ
  count_step room read clear c = some 0
  count_step room read (put n a) c = cond (found (look (key a) read)) (some c) (cond (ltb c room) (some (suc c)) none)
  count_step room read (remove k) c = some (cond (found (look k read)) (c - 1) c)

  abbrev pub count_on : ℕ → List (Event A K) → List (Event A K) → ℕ → Option ℕ
  count_on room read es c = while_room (count_step room) read es c

  -- how much all entries take, by the same reading
  abbrev pub total_step : (A → ℕ) → List (Event A K) → Event A K → ℕ → ℕ
  total_step size read clear s = 0
  total_step size read (put n a) s = s + size a - weight size (entry (look (key a) read))
  total_step size read (remove k) s = s - weight size (entry (look k read))

  abbrev pub total_on : (A → ℕ) → List (Event A K) → List (Event A K) → ℕ → ℕ
  total_on size read es s = reading_on (total_step size) read es s
