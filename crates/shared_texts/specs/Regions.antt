-- The regions of a store whose texts share a room, each in two halves: its heads, and its texts. A store is a list of regions.
use Rattle.std.specs.Prelude.{ℕ, zero, suc, ◌+◌, ◌*◌, List, [], ◌∷◌, ◌++◌, map, length, take, drop, get_or}
use Rattle.std.proofs.Math.Option
use Rattle.std.proofs.Math.Option.{Option, none, some}
use borrow.Rule.Slice.PartMut.{mid_of}
use Rattle.slots.specs.Slots.{places, EntryOf}
use Rattle.writing.specs.Settings.{Text}
use Rattle.tables.specs.Allowed.{PlacesOk}
use Rattle.tables.specs.Layout.{count_size, counted}
use Rattle.tables.specs.Heads.{Halves}
use Rattle.tables.specs.Texts.{rows, present}

-- a region: what it holds, what its heads say, and their bytes
pub record Region : Type 1 where
  pub Own : Type 0
  pub Head : Type 0
  pub Ok : Own → Type 0
  pub HeadOk : Head → Type 0
  pub head : Own → Head
  pub texts : Own → List Text
  pub counts : Head → List ℕ  -- how many units each of its texts has
  pub fill : Head → List Text → Own
  pub wide : ℕ
  pub bytes : Head → List ℕ
  pub units : List ℕ → ℕ  -- all of them together, read from the bytes

-- ---- a region without texts

abbrev pub plain : {A : Type 0} → (A → Type 0) → ℕ → (A → List ℕ) → Region
plain {A} P w f = record {
  Own = A;
  Head = A;
  Ok = P;
  HeadOk = P;
  head = λ x. x;
  texts = λ x. [];
  counts = λ x. [];
  fill = λ x ts. x;
  wide = w;
  bytes = f;
  units = λ s. 0;
}

-- ---- an indexed table

-- the numbers of units of the rows that are there
abbrev pub row_units : {H : Type 0} → (H → ℕ) → List (Option H) → List ℕ
row_units units [] = []
row_units units (none ∷ os) = row_units units os
row_units units (some h ∷ os) = units h ∷ row_units units os

-- each row that is there takes the next text
abbrev pub filled : {A H : Type 0} → (H → Text → A) → List (Option H) → List Text → List (Option A)
filled join [] ts = []
filled join (none ∷ os) ts = none ∷ filled join os ts
filled join (some h ∷ os) [] = some (join h []) ∷ filled join os []
filled join (some h ∷ os) (us ∷ ts) = some (join h us) ∷ filled join os ts

-- the last bytes of n slots, summed; each stands behind `own` others
abbrev pub last_bytes : ℕ → ℕ → List ℕ → ℕ
last_bytes own zero s = 0
last_bytes own (suc n) s = get_or s own 0 + last_bytes own n (drop (suc own) s)

abbrev pub table : {A H : Type 0} → Halves A H → (A → Type 0) → (H → Type 0) → (n own : ℕ) → (H → List ℕ) → Region
table {A} {H} k P Q n own f = record {
  Own = List (Option A);
  Head = List (Option H);
  Ok = PlacesOk P n;
  HeadOk = PlacesOk Q n;
  head = map (Option.map k.head);
  texts = λ os. present (rows k.text os);
  counts = row_units k.units;
  fill = filled k.join;
  wide = n * suc own;
  bytes = places (suc own) f;
  units = last_bytes own n;
}

-- ---- a list table: its count, and its places

-- each entry takes the next text
abbrev pub filled_list : {A H : Type 0} → (H → Text → A) → List H → List Text → List A
filled_list join [] ts = []
filled_list join (h ∷ hs) [] = join h [] ∷ filled_list join hs []
filled_list join (h ∷ hs) (us ∷ ts) = join h us ∷ filled_list join hs ts

abbrev pub listed : {A H : Type 0} → Halves A H → (List A → Type 0) → (List H → Type 0) → (n own : ℕ) → (H → List ℕ) → Region
listed {A} {H} k P Q n own f = record {
  Own = List A;
  Head = List H;
  Ok = P;
  HeadOk = Q;
  head = map k.head;
  texts = λ xs. present (rows k.text (map some xs));
  counts = map k.units;
  fill = filled_list k.join;
  wide = count_size + n * suc own;
  bytes = counted (suc own) f n;
  units = λ s. last_bytes own n (drop count_size s);
}

-- a region, and behind it n bytes that its heads say
abbrev pub followed : (p : Region) → ℕ → (p.Head → List ℕ) → Region
followed p n g = record {
  Own = p.Own;
  Head = p.Head;
  Ok = p.Ok;
  HeadOk = p.HeadOk;
  head = p.head;
  texts = p.texts;
  counts = p.counts;
  fill = p.fill;
  wide = p.wide + n;
  bytes = λ h. p.bytes h ++ g h;
  units = λ s. p.units (take p.wide s);
}

-- ---- regions one after another

-- no region
abbrev pub nothing : Region
nothing = plain {A = Unit {0}} (λ x. Unit {0}) 0 (λ x. [])

-- one region, and then another
abbrev pub ◌then◌ : Region → Region → Region
◌then◌ p q = record {
  Own = p.Own × q.Own;
  Head = p.Head × q.Head;
  Ok = λ x. p.Ok x.0 × q.Ok x.1;
  HeadOk = λ h. p.HeadOk h.0 × q.HeadOk h.1;
  head = λ x. (p.head x.0, q.head x.1);
  texts = λ x. p.texts x.0 ++ q.texts x.1;
  counts = λ h. p.counts h.0 ++ q.counts h.1;
  fill = λ h ts. (p.fill h.0 (take (length (p.counts h.0)) ts), q.fill h.1 (drop (length (p.counts h.0)) ts));
  wide = p.wide + q.wide;
  bytes = λ h. p.bytes h.0 ++ q.bytes h.1;
  units = λ s. p.units (take p.wide s) + q.units (drop p.wide s);
}

-- all of them as one
abbrev pub whole : List Region → Region
whole [] = nothing
whole (p ∷ ps) = ◌then◌ p (whole ps)

-- ---- regions in the bytes of a store, from a place on

-- each region's heads stand in their bytes
abbrev pub Stand : List Region → ℕ → List ℕ → Type 0
Stand [] at s = Unit {0}
Stand (p ∷ ps) at s = EntryOf p.HeadOk p.bytes (mid_of at p.wide s) × Stand ps (at + p.wide) s

-- the units that they count
abbrev pub units_from : List Region → ℕ → List ℕ → ℕ
units_from [] at s = 0
units_from (p ∷ ps) at s = p.units (mid_of at p.wide s) + units_from ps (at + p.wide) s
