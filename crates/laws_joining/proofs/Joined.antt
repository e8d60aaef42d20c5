-- Two requests under one header: docs/RULES.md, D3 to D5, for every set, store and pair of messages as received. Assumes nothing.
use Rattle.lists.proofs.Kit.{ℕ, ◌+◌, ◌≡◌, sym, ap, ◌∙◌, ◌⊎◌, inl, inr, List, ◌∷◌, ◌++◌, append_assoc, Option, some, arith, length, length-append}
use Rattle.writing.specs.declared.Coding.{Coding}
use Rattle.writing.specs.Settings.{Setting}
use Rattle.tables.specs.declared.limits.Limits.{Limits}
use Rattle.tables.specs.Apply.{apply, and_then, in_turn}
use Rattle.tables.specs.Store.{StoreOf, Holds}
use Rattle.tables.specs.Tables.{Tables}
use Rattle.tables.proofs.RoomSentences.{Stuck, turn_append}
use Rattle.requests.specs.Requests.{forget}
use Rattle.station.specs.Taking.{AfterTaking}
use Rattle.laws_taking.proofs.Theorems.{store_kept}
use Rattle.joining.specs.Joining.{Joinable, JoinedAs}
use Rattle.joining.proofs.Joined.{joined_joinable}
use Rattle.laws_joining.specs.Sending.{Sent, TakenWith, LacksRoom, counted_through, OneOf}
use Rattle.laws_joining.proofs.OneRequest.{Full, all_full, one_lacks, Came, came}

-- ---- what lacks room in one list of two

module _ {A T : Type 0} (step : A → T → Option T) (a b : List A) (t : T) where
  -- of the first: the others come behind it
  abbrev in_first : Stuck step a t → Stuck step (a ++ b) t
  in_first s = record {
    done = s.done;
    entry = s.entry;
    rest = s.rest ++ b;
    split = ap (λ (l : List A). l ++ b) s.split ∙ append_assoc s.done (s.entry ∷ s.rest) b;
    table = s.table;
    came = s.came;
    full = s.full;
  }

  -- of the second, where the first had room: the first stands before it
  abbrev in_second : (u : T) → in_turn step a t ≡ some u → Stuck step b u → Stuck step (a ++ b) t
  in_second u e s = record {
    done = a ++ s.done;
    entry = s.entry;
    rest = s.rest;
    split = ap (λ (l : List A). a ++ l) s.split ∙ sym (append_assoc a s.done (s.entry ∷ s.rest));
    table = s.table;
    came = turn_append step a s.done t ∙ ap (λ (o : Option T). and_then o (in_turn step s.done)) e ∙ s.came;
    full = s.full;
  }

-- ---- one request

-- the tables of a store
abbrev tables_of : {lim : Limits} {store : List ℕ} → StoreOf lim store → Tables
tables_of s = s.store.tables

abbrev held : {lim : Limits} {store : List ℕ} (s : StoreOf lim store) → Holds lim (tables_of s) store
held s = (s.store.allowed, s.store.bytes_are)

module _ {lim : Limits} {store : List ℕ} {c : Coding} {l : List Setting} {bs message : List ℕ} {x : AfterTaking} (is_Is_store : StoreOf lim store)
    (j : Joinable lim.message c l bs message) (sent : Sent lim message store x) where
  -- JOINED OTHERWISE: D5, "There is no other case: such a request is taken or lacks room"
  pub joined_otherwise : (x.answer.number ≡ 0) ⊎ (x.answer.number ≡ 2)
  joined_otherwise = by (came is_Is_store j sent (tables_of is_Is_store) (held is_Is_store))
    where
      by : Came is_Is_store j sent (tables_of is_Is_store) (held is_Is_store) → (x.answer.number ≡ 0) ⊎ (x.answer.number ≡ 2)
      by (inl (u, k)) = inl k.number
      by (inr (s, k)) = inr k.0

  module _ (t : Tables) (h : Holds lim t store) where
    -- with 0 it is taken
    was_full : x.answer.number ≡ 0 → (u : Tables) × Full is_Is_store j sent t h u
    was_full n = by (came is_Is_store j sent t h)
      where
        by : Came is_Is_store j sent t h → (u : Tables) × Full is_Is_store j sent t h u
        by (inl k) = k
        by (inr (s, k)) = absurd (omega (arith, n, k.0))

    -- with 2 it lacks room
    was_stuck : x.answer.number ≡ 2 → (s : Stuck (apply lim) l (forget t)) × LacksRoom store (length s.done + 1) x
    was_stuck n = by (came is_Is_store j sent t h)
      where
        by : Came is_Is_store j sent t h → (s : Stuck (apply lim) l (forget t)) × LacksRoom store (length s.done + 1) x
        by (inl (u, k)) = absurd (omega (arith, n, k.number))
        by (inr k) = k

-- ---- two requests, the second to the store that the first left

module _ {lim : Limits} {store : List ℕ} {c : Coding} {a b : List Setting} {x y first second : List ℕ} {p q : AfterTaking} (is_Is_store : StoreOf lim store)
    (f : Joinable lim.message c a x first) (g : Joinable lim.message c b y second) (sent_first : Sent lim first store p) (sent_second : Sent lim second p.store q) where
  -- the first leaves a store
  left : StoreOf lim p.store
  left = store_kept lim first store sent_first.reply is_Is_store p sent_first.comes_to

  -- ONE OF THREE: both are taken, or the first lacks room, or the first is taken and the second lacks room
  pub one_of_three : OneOf ((p.answer.number ≡ 0) × (q.answer.number ≡ 0)) (p.answer.number ≡ 2) ((p.answer.number ≡ 0) × (q.answer.number ≡ 2))
  one_of_three = by (joined_otherwise is_Is_store f sent_first) (joined_otherwise left g sent_second)
    where
      by : (p.answer.number ≡ 0) ⊎ (p.answer.number ≡ 2) → (q.answer.number ≡ 0) ⊎ (q.answer.number ≡ 2)
          → OneOf ((p.answer.number ≡ 0) × (q.answer.number ≡ 0)) (p.answer.number ≡ 2) ((p.answer.number ≡ 0) × (q.answer.number ≡ 2))
      by (inl m) (inl n) = inl ((m, n), λ e. omega (arith, m, e), λ e. omega (arith, n, e.1))
      by (inr m) k = inr (inl (λ e. omega (arith, m, e.0), m, λ e. omega (arith, m, e.0)))
      by (inl m) (inr n) = inr (inr (λ e. omega (arith, n, e.1), λ e. omega (arith, m, e), (m, n)))

  module _ {joined : List ℕ} {r : AfterTaking} (j : JoinedAs lim.message c a b x y joined) (sent_joined : Sent lim joined store r) where
    abbrev both : Joinable lim.message c (a ++ b) (x ++ y) joined
    both = joined_joinable f g j

    abbrev t : Tables
    t = tables_of is_Is_store

    abbrev h : Holds lim t store
    h = held is_Is_store

    -- JOINED TAKEN: D3, "Where the first is taken, and then the second is, the joined one is taken, and leaves the same store"
    pub joined_taken : p.answer.number ≡ 0 → q.answer.number ≡ 0 → TakenWith q.store r
    joined_taken m n =
        let (u, k) = was_full is_Is_store f sent_first t h m in
        let (v, i) = was_full left g sent_second u k.holds n in
        let e : in_turn (apply lim) (a ++ b) (forget t) ≡ some v
        = turn_append (apply lim) a b (forget t) ∙ ap (λ (o : Option Tables). and_then o (in_turn (apply lim) b)) k.turn
        ∙ ap (in_turn (apply lim) b) (sym k.no_more) ∙ i.turn in
        let z = all_full is_Is_store both sent_joined t h v e in
        (z.number, z.holds.1 ∙ sym i.holds.1)

    -- FIRST LACKS ROOM: D4, "the joined one is refused with 2 and the first's failed ID"
    pub first_lacks_room : p.answer.number ≡ 2 → LacksRoom store p.answer.failed r
    first_lacks_room m =
        let (s, k) = was_stuck is_Is_store f sent_first t h m in
        let z = one_lacks is_Is_store both sent_joined t h (in_first (apply lim) a b (forget t) s) in
        (z.0, z.1 ∙ sym k.1, z.2)

    -- SECOND LACKS ROOM: D4, "the failed ID is the second's counted through: with the first's settings before it. The store stays"
    pub second_lacks_room : p.answer.number ≡ 0 → q.answer.number ≡ 2 → LacksRoom store (counted_through a q.answer.failed) r
    second_lacks_room m n =
        let (u, k) = was_full is_Is_store f sent_first t h m in
        let (s, i) = was_stuck left g sent_second u k.holds n in
        let e : in_turn (apply lim) a (forget t) ≡ some (forget u) = k.turn ∙ ap some (sym k.no_more) in
        let z = one_lacks is_Is_store both sent_joined t h (in_second (apply lim) a b (forget t) (forget u) e s) in
        (z.0, omega (arith, z.1, i.1, length-append a s.done), z.2)
