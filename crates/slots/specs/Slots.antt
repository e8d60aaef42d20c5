-- Bytes made of slots: what every table of a store is. Assumes nothing.
use Rattle.std.specs.Prelude.{ℕ, zero, suc, ◌+◌, ◌≤◌, ◌<◌, ◌/◌, ◌%◌, ◌≡◌, Bool, true, false, ◌&&◌, ◌||◌, cond, List, [], ◌∷◌, ◌++◌, map, length, replicate, take, drop, eqb}
use Rattle.std.proofs.Math.Option.{Option, none, some}
use Rattle.lists.specs.Every.{All}

-- ---- bytes over bytes

-- these bytes at a buffer's start; those past their length stay
abbrev pub written_over : List ℕ → List ℕ → List ℕ
written_over bytes buffer = bytes ++ drop (length bytes) buffer

-- ---- tables as bytes

-- slots, one after another
abbrev pub flat : List (List ℕ) → List ℕ
flat [] = []
flat (x ∷ xs) = x ++ flat xs

-- the sum of the slots' widths
abbrev pub sum : List ℕ → ℕ
sum [] = 0
sum (x ∷ xs) = x + sum xs

-- n elements: those of xs, and d where they are fewer
abbrev pub pad : {A : Type 0} → A → ℕ → List A → List A
pad d zero xs = []
pad d (suc n) [] = d ∷ pad d n []
pad d (suc n) (x ∷ xs) = x ∷ pad d n xs

-- a slot of w bytes: an entry's own bytes, or zeros where there is none
abbrev pub slot : {A : Type 0} → ℕ → (A → List ℕ) → Option A → List ℕ
slot w f none = replicate w 0
slot w f (some a) = f a

-- an indexed table: a slot for each place
abbrev pub places : {A : Type 0} → ℕ → (A → List ℕ) → List (Option A) → List ℕ
places w f os = flat (map (slot w f) os)

-- a list table with n places: the entries fill them from the front
abbrev pub front : {A : Type 0} → ℕ → List A → List (Option A)
front n xs = pad none n (map some xs)

-- a number of 16 bits, high byte first
abbrev pub u16 : ℕ → List ℕ
u16 c = (c / 256) ∷ (c % 256) ∷ []

-- a number of 24 bits, high byte first
abbrev pub u24 : ℕ → List ℕ
u24 a = (a / 65536) ∷ u16 (a % 65536)

-- what is present has P
abbrev pub Present : {A : Type 0} → (A → Type 0) → Option A → Type 0
Present P none = Unit {0}
Present P (some a) = P a

-- ---- changes of a list

-- the entries that p says no of
abbrev pub unless : {A : Type 0} → (A → Bool) → List A → List A
unless p [] = []
unless p (x ∷ xs) = cond (p x) (unless p xs) (x ∷ unless p xs)

-- the place of the first entry that p says yes of, or the number of entries
abbrev pub index_of : {A : Type 0} → (A → Bool) → List A → ℕ
index_of p [] = 0
index_of p (x ∷ xs) = cond (p x) 0 (suc (index_of p xs))

-- a in place k, or at the end where there are fewer
abbrev pub put_at : {A : Type 0} → ℕ → A → List A → List A
put_at k a [] = a ∷ []
put_at zero a (x ∷ xs) = a ∷ xs
put_at (suc k) a (x ∷ xs) = x ∷ put_at k a xs

-- ---- bytes that are some table

-- x is an entry's bytes
pub record EntryOf {A : Type 0} (P : A → Type 0) (f : A → List ℕ) (x : List ℕ) : Type 0 where
  pub entry : A
  pub holds : P entry
  pub bytes : x ≡ f entry

-- x is the slot of an entry, or an empty one
pub record SlotOf {A : Type 0} (P : A → Type 0) (w : ℕ) (f : A → List ℕ) (x : List ℕ) : Type 0 where
  pub entry : Option A
  pub holds : Present P entry
  pub bytes : x ≡ slot w f entry

-- s is the indexed table of os, with n places
pub record Placed {A : Type 0} (P : A → Type 0) (w : ℕ) (f : A → List ℕ) (n : ℕ) (os : List (Option A)) (s : List ℕ) : Type 0 where
  pub many : length os ≡ n
  pub each : All (Present P) os
  pub bytes : s ≡ places w f os

-- s is the list table of ls, with n places
pub record Listed {A : Type 0} (P : A → Type 0) (w : ℕ) (f : A → List ℕ) (n : ℕ) (ls : List A) (s : List ℕ) : Type 0 where
  pub few : length ls ≤ n
  pub each : All P ls
  pub bytes : s ≡ places w f (front n ls)

-- s is an indexed table with n places
pub record PlacesOf {A : Type 0} (P : A → Type 0) (w : ℕ) (f : A → List ℕ) (n : ℕ) (s : List ℕ) : Type 0 where
  pub entries : List (Option A)
  pub placed : Placed P w f n entries s

-- s is a list table with n places
pub record ListOf {A : Type 0} (P : A → Type 0) (w : ℕ) (f : A → List ℕ) (n : ℕ) (s : List ℕ) : Type 0 where
  pub entries : List A
  pub listed : Listed P w f n entries s

-- ---- what the functions over slots of any width do

-- every byte is 0
abbrev pub zeros? : List ℕ → Bool
zeros? [] = true
zeros? (b ∷ bs) = eqb b 0 && zeros? bs

-- the same bytes
abbrev pub same? : List ℕ → List ℕ → Bool
same? [] [] = true
same? [] (y ∷ ys) = false
same? (x ∷ xs) [] = false
same? (x ∷ xs) (y ∷ ys) = eqb x y && same? xs ys

-- every slot has w bytes
abbrev pub Slots : ℕ → List (List ℕ) → Type 0
Slots w xs = All (λ x. length x ≡ w) xs

-- the slot has the key at o
abbrev pub hit : ℕ → List ℕ → List ℕ → Bool
hit o key x = same? (take (length key) (drop o x)) key

-- the slot has the key at o, or is empty
abbrev pub fit : ℕ → List ℕ → List ℕ → Bool
fit o key x = hit o key x || zeros? x

-- slots have bytes, and the key fits them at o
pub record KeyAt (w o : ℕ) (key : List ℕ) : Type 0 where
  pub wide : 0 < w
  pub inside : o + length key ≤ w

-- how many bytes stand before the first slot that p says yes of
abbrev pub bytes_before : (List ℕ → Bool) → List (List ℕ) → ℕ
bytes_before p [] = 0
bytes_before p (x ∷ xs) = cond (p x) 0 (length x + bytes_before p xs)

-- r is where the first slot of w bytes that p says yes of starts in s, or the end
abbrev pub First : (List ℕ → Bool) → ℕ → List ℕ → ℕ → Type 0
First p w s r = (xs : List (List ℕ)) → Slots w xs → s ≡ flat xs → r ≡ bytes_before p xs

-- what a search answers: the first place where it can be asked for, else 0
pub record Found (can : Type 0) (p : List ℕ → Bool) (w : ℕ) (s : List ℕ) (r : ℕ) : Type 0 where
  pub within : r ≤ length s
  pub first : can → First p w s r
  pub cannot : (can → ⊥) → r ≡ 0

-- the slots without those that have the key, and as many empty ones at the end
abbrev pub removed : ℕ → ℕ → List ℕ → List (List ℕ) → List (List ℕ)
removed w o key [] = []
removed w o key (x ∷ xs) = cond (hit o key x) (removed w o key xs ++ (replicate w 0 ∷ [])) (x ∷ removed w o key xs)

-- what taking a key out of the slots of s leaves
pub record Removed (w o : ℕ) (key s t : List ℕ) : Type 0 where
  pub gone : KeyAt w o key → (xs : List (List ℕ)) → Slots w xs → s ≡ flat xs → t ≡ flat (removed w o key xs)
  pub kept : (KeyAt w o key → ⊥) → t ≡ s
