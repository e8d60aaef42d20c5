-- Lists in bytes with their count, and what the functions over them do. Assumes nothing.
use Rattle.std.specs.Prelude.{ℕ, ◌+◌, ◌*◌, ◌≤◌, ◌<◌, ◌≡◌, ◌≢◌, Bool, true, false, cond, List, [], ◌∷◌, ◌++◌, map, length, replicate, take, drop, ltb}
use Rattle.std.proofs.Math.Option.{Option, none, some}
use Rattle.lists.specs.Every.{All}
use Rattle.slots.specs.Slots.{flat, pad, u16, Slots, hit, First, unless, index_of, put_at}

-- ---- lists

-- an entry at the end, where one more has room
abbrev pub put_last : {A : Type 0} → ℕ → A → List A → Option (List A)
put_last room a ls = cond (ltb (length ls) room) (some (ls ++ (a ∷ []))) none

-- an entry in place of the first that is the same, or at the end, where that place is one of the room's
abbrev pub put_keyed : {A : Type 0} → (A → Bool) → ℕ → A → List A → Option (List A)
put_keyed same room a ls = cond (ltb (index_of same ls) room) (some (put_at (index_of same ls) a ls)) none

-- no entry of the list has the key
abbrev pub Without : {A K : Type 0} → (A → K) → K → List A → Type 0
Without key k ls = All (λ a. key a ≢ k) ls

-- no two entries have one key
abbrev pub Distinct : {A K : Type 0} → (A → K) → List A → Type 0
Distinct key [] = Unit {0}
Distinct key (a ∷ ls) = Without key (key a) ls × Distinct key ls

-- ---- bytes

-- s is the count of these slots of w bytes and n places: the slots fill them from the front, and zeros the others
pub record Counted (w n : ℕ) (xs : List (List ℕ)) (s : List ℕ) : Type 0 where
  pub wide : 0 < w
  pub room : n < 65536
  pub few : length xs ≤ n
  pub each : Slots w xs
  pub bytes : s ≡ u16 (length xs) ++ flat (pad (replicate w 0) n xs)

-- entries that have P, and whose bytes f are the slots of a list
pub record EntriesOf {A : Type 0} (Is : List (List ℕ) → List ℕ → Type 0) (P : A → Type 0) (f : A → List ℕ) (ls : List A) (s : List ℕ) : Type 0 where
  pub each : All P ls
  pub counted : Is (map f ls) s

-- s is the count of these entries, and their places
abbrev pub CountedOf : {A : Type 0} → (A → Type 0) → ℕ → (A → List ℕ) → ℕ → List A → List ℕ → Type 0
CountedOf P w f n = EntriesOf (Counted w n) P f

-- what trying to change a list answers: its bytes are those of the list afterwards, or there was no room
pub record Tried {T : Type 0} (Is : T → List ℕ → Type 0) (after : Option T) (bytes : List ℕ) (r : Bool) : Type 0 where
  pub room : r ≡ true → (t : T) × (after ≡ some t) × Is t bytes
  pub full : r ≡ false → after ≡ none

-- ---- what the functions do to bytes s, which become t

-- what adding the slot x at the end answers
pub record Added (w : ℕ) (x s t : List ℕ) (r : Bool) : Type 0 where
  pub kept : r ≡ false → t ≡ s
  pub tried : length x ≡ w → (n : ℕ) (xs : List (List ℕ)) → Counted w n xs s → Tried (Counted w n) (put_last n x xs) t r

-- what putting the slot x by the k bytes that it has at o answers
pub record KeyedPut (w o k : ℕ) (x s t : List ℕ) (r : Bool) : Type 0 where
  pub kept : r ≡ false → t ≡ s
  pub tried : length x ≡ w → o + k ≤ w → (n : ℕ) (xs : List (List ℕ)) → Counted w n xs s
      → Tried (Counted w n) (put_keyed (hit o (take k (drop o x))) n x xs) t r

-- what taking the slots out that have a key at o leaves
abbrev pub KeyDropped : (w o : ℕ) → (key s t : List ℕ) → Type 0
KeyDropped w o key s t = o + length key ≤ w → (n : ℕ) (xs : List (List ℕ)) → Counted w n xs s → Counted w n (unless (hit o key) xs) t

-- ---- inner steps

-- r is the count
pub record Told (s : List ℕ) (r : ℕ) : Type 0 where
  pub small : r < 65536
  pub says : (w n : ℕ) (xs : List (List ℕ)) → Counted w n xs s → r ≡ length xs

-- s is no list of slots of w bytes
abbrev pub NoEnd : ℕ → List ℕ → Type 0
NoEnd w s = (n : ℕ) (xs : List (List ℕ)) → Counted w n xs s → ⊥

-- r is where the slots end
pub record EndOf (w : ℕ) (s : List ℕ) (r : ℕ) : Type 0 where
  pub within : r ≤ length s
  pub past : 2 ≤ r
  pub wide : 0 < w
  pub says : (n : ℕ) (xs : List (List ℕ)) → Counted w n xs s → r ≡ length xs * w + 2

-- r is where the first slot that has the key starts, or the end
pub record KeyFound (w o : ℕ) (key s : List ℕ) (r : ℕ) : Type 0 where
  pub within : r ≤ length s
  pub first : First (hit o key) w s r

-- r is how many slots have another key
abbrev pub Others : (w o : ℕ) → (key s : List ℕ) → ℕ → Type 0
Others w o key s r = (xs : List (List ℕ)) → Slots w xs → s ≡ flat xs → r ≡ length (unless (hit o key) xs)
