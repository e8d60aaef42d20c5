-- Lists in bytes with their count and, behind their places, the order of their keys; and what the functions over them do. Assumes nothing.
use Rattle.std.specs.Prelude.{ℕ, Option, Some, None, ◌+◌, ◌≤◌, ◌<◌, ◌≡◌, Bool, false, List, [], ◌++◌, map, length, get_or, take, drop}
use Rattle.slots.specs.Slots.{hit, unless}
use Rattle.counted_lists.specs.Counted.{put_keyed, Counted, Without, Distinct, Tried}
use Rattle.orders.specs.Orders.{order}
use Rattle.orders.specs.OrderParts.{order_bytes}

-- the key of a slot: k bytes at o
abbrev pub slot_key : (o k : ℕ) → List ℕ → List ℕ
slot_key o k x = take k (drop o x)

-- s is the list of these slots with its count, and behind it the order of their keys, of which no two are the same; a byte names one of n places
pub record OrderedList (w o k n : ℕ) (xs : List (List ℕ)) (s : List ℕ) : Type 0 where
  pub inside : o + k ≤ w
  pub small : n ≤ 255
  pub distinct : Distinct (slot_key o k) xs
  pub list : List ℕ
  pub counted : Counted w n xs list
  pub bytes : s ≡ list ++ order_bytes n (order (map (slot_key o k) xs))

-- ---- what the functions do to bytes s, which become t

-- what putting the slot x by its key answers
pub record OrderedPut (w o k n : ℕ) (x s t : List ℕ) (r : Bool) : Type 0 where
  pub kept : r ≡ false → t ≡ s
  pub tried : length x ≡ w → (xs : List (List ℕ)) → OrderedList w o k n xs s → Tried (OrderedList w o k n) (put_keyed (hit o (slot_key o k x)) n x xs) t r

-- what taking the slots out that have a key at o leaves
abbrev pub OrderedDrop : (w o n : ℕ) → (key s t : List ℕ) → Type 0
OrderedDrop w o n key s t = (xs : List (List ℕ)) → OrderedList w o (length key) n xs s → OrderedList w o (length key) n (unless (hit o key) xs) t

-- ---- what a lookup answers

-- slot p has the key at o, or none has it
abbrev pub Has : (o : ℕ) → (key : List ℕ) → List (List ℕ) → Option ℕ → Type 0
Has o key xs (Some p) = (p < length xs) × (slot_key o (length key) (get_or xs p []) ≡ key)
Has o key xs None = Without (slot_key o (length key)) key xs

abbrev pub EntryFound : (w o n : ℕ) → (key s : List ℕ) → Option ℕ → Type 0
EntryFound w o n key s r = (xs : List (List ℕ)) → OrderedList w o (length key) n xs s → Has o key xs r
