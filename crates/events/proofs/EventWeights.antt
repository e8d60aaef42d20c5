-- One deed weighs in its table what its event does to the table, by what is known of its key. Assumes nothing.
use Rattle.lists.proofs.Kit.{ℕ, suc, ◌+◌, ◌-◌, ◌≡◌, refl, sym, ap, ap₂, ◌∙◌, Bool, true, false, cond, List, [], ◌∷◌, map, Option, none, some, sub-zero, zero-sub, arith, eqb, ltb, length}
use Rattle.lists.specs.Every.{All}
use Rattle.writing.specs.declared.Kind.{Kind}
use Rattle.writing.specs.declared.Kind.TheVariants.{GroupContacts, IndividualContacts, Lines, Key, QuickTexts, Home, Channels, System, StatusTexts, Group, Individual, LineSlot, Last}
use Rattle.tables.specs.declared.limits.Limits.{Limits}
use Rattle.tables.specs.declared.members.Members.TheVariants.{OfGroups, OfIndividuals}
use Rattle.tables.specs.Apply.{and_then, in_turn, same_key}
use Rattle.tables.specs.Limits.{contact_places}
use Rattle.tables.specs.MemberKinds.{contact_key}
use Rattle.tables.specs.Owns.{Own, own}
use Rattle.tables.specs.Tables.{line_key, fresh}
use Rattle.tables.specs.Texts.{text_size}
use Rattle.events.specs.Events.{Event, clear, put, remove, found, entry, weight, look}
use Rattle.events.specs.Places.{spot}
use Rattle.events.specs.Settings.{Puts, Does, run, quick_place, quick_change, status_place, status_change, slot_place, slot_change}
use Rattle.events.specs.Sums.{many, counted, text_bytes, size_on, InPlaces}
use Rattle.events.specs.Rows.{Cell}
use Rattle.events.specs.Deeds.{Seen, seen_as, as_seen, Spoken, Deed, clears, puts, removes, told}
use Rattle.events.specs.Knowing.{staying, know, Weight, entries_put, with_bytes, weigh, known_for, Shown, shown_of, cell_shown, LineKeys}
use Rattle.events.proofs.CountLaws.{counted_is}
use Rattle.events.proofs.SumLaws.{size_is}
use Rattle.events.proofs.Mapping.{latest_stays, Shows, KnowsPlace, quick_shows, status_shows, group_shows, individual_shows, line_shows, known_groups, known_individuals, known_lines, known_quick, known_status, known_group_slots, known_individual_slots, known_line_slots, known_often}

-- ---- what is weighed

-- what a table of a kind weighs
abbrev pub weight_at : (k : Kind) → Own k → Weight
weight_at k x = record { entries = many k x; bytes = text_size k x }

-- the deed that an event is of
abbrev pub deed_at : Kind → Event Seen ℕ → Deed
deed_at k clear = clears k
deed_at k (put n a) = puts k a
deed_at k (remove c) = removes k c

-- the key of an event for lines is in range
abbrev pub Keyed : (k : Kind) → Does k → Type 0
Keyed GroupContacts v = Unit {0}
Keyed IndividualContacts v = Unit {0}
Keyed Lines v = LineKeys (v ∷ [])
Keyed Key v = Unit {0}
Keyed QuickTexts v = Unit {0}
Keyed Home v = Unit {0}
Keyed Channels v = Unit {0}
Keyed System v = Unit {0}
Keyed StatusTexts v = Unit {0}
Keyed Group v = Unit {0}
Keyed Individual v = Unit {0}
Keyed LineSlot v = Unit {0}
Keyed Last v = Unit {0}

-- the keys of all are
all_keys : (es : List (Does Lines)) → All (Keyed Lines) es → LineKeys es
all_keys [] h = tt
all_keys (clear ∷ es) h = all_keys es h.1
all_keys (put n l ∷ es) h = (h.0.0, all_keys es h.1)
all_keys (remove j ∷ es) h = (h.0.0, all_keys es h.1)

-- the bytes of an entry that was seen
abbrev seen_bytes : Seen → ℕ
seen_bytes a = text_bytes a.text

-- ---- lists by a key

-- what is weighed by what was found where an entry is put
abbrev put_weight : ℕ → ℕ → ℕ → Seen → Option (ℕ × Seen) → Option Weight
put_weight room c s a f = with_bytes (entries_put (some room) (found f) c) (s + seen_bytes (staying false f a) - weight seen_bytes (entry f))

-- what is weighed where those with a key go
abbrev removed_weight : ℕ → ℕ → Option (ℕ × Seen) → Option Weight
removed_weight c s f = some (record { entries = c - cond (found f) 1 0; bytes = s - weight seen_bytes (entry f) })

module _ {A : Type 0} (seen : A → Seen) where
  -- an entry with its birth, as it is seen
  abbrev seen_born : Option (ℕ × A) → Option (ℕ × Seen)
  seen_born l = mathlib.Core.Option.map (λ x. (x.0, seen x.1)) l

  -- an entry is put
  listed_put : (room c s : ℕ) (a : A) (l : Option (ℕ × A))
      → put_weight room c s (seen a) (seen_born l)
      ≡ with_bytes (and_then (cond (found l) (some c) (cond (ltb c room) (some (suc c)) none)) (λ n. some n)) (s + seen_bytes (seen a) - weight (λ x. seen_bytes (seen x)) (entry l))
  listed_put room c s a none = by (ltb c room) (s + seen_bytes (seen a) - 0)
    where
      by : (b : Bool) (n : ℕ) → with_bytes (cond b (some (suc c)) none) n ≡ with_bytes (and_then (cond b (some (suc c)) none) (λ m. some m)) n
      by true n = refl
      by false n = refl
  listed_put room c s a (some x) = refl

  -- those with a key go
  listed_removed : (c s : ℕ) (l : Option (ℕ × A)) → removed_weight c s (seen_born l) ≡ some (record { entries = cond (found l) (c - 1) c; bytes = s - weight (λ x. seen_bytes (seen x)) (entry l) })
  listed_removed c s none = ap (λ (n : ℕ). some (record { entries = n; bytes = s - 0 })) (sub-zero c)
  listed_removed c s (some x) = refl

-- ---- places

-- the bytes of what is shown
shown_bytes : {B : Type 0} (show : B → Shown) (t : Option B) → weight (λ z. text_bytes z.text) (mathlib.Core.Option.map show t) ≡ weight (λ b. text_bytes (show b).text) t
shown_bytes show none = refl
shown_bytes show (some b) = refl

module _ {B : Type 0} (show : B → Shown) (t : Option B) (f : Option (ℕ × Seen)) (r : mathlib.Core.Option.map show t ≡ mathlib.Core.Option.map shown_of (entry f)) where
  -- what is known takes what stands there
  placed_bytes : weight seen_bytes (entry f) ≡ weight (λ b. text_bytes (show b).text) t
  placed_bytes = sym (shown_bytes shown_of (entry f)) ∙ ap (weight (λ z. text_bytes z.text)) (sym r) ∙ shown_bytes show t

  -- an entry is put
  placed_put : {A : Type 0} (first : Bool) (change : Option B → A → Option B) (seen : A → Seen) → Shows first change seen show → (s : ℕ) (a : A)
      → s + seen_bytes (staying first f (seen a)) - weight seen_bytes (entry f) ≡ s + weight (λ b. text_bytes (show b).text) (change t a) - weight (λ b. text_bytes (show b).text) t
  placed_put first change seen h s a =
      ap₂ (λ (n m : ℕ). s + n - m) (sym (ap (weight (λ z. text_bytes z.text)) (h f t a r)) ∙ shown_bytes show (change t a)) placed_bytes

  -- a place is emptied
  placed_removed : (s : ℕ) → s - weight seen_bytes (entry f) ≡ s - weight (λ b. text_bytes (show b).text) t
  placed_removed s = ap (λ (n : ℕ). s - n) placed_bytes

-- a table that is not counted
abbrev uncounted : ℕ → Option Weight
uncounted n = some (record { entries = 0; bytes = n })

module _ (k : Kind) (at : ℕ → List (Does k) → Option (Cell k)) (knows : KnowsPlace k at) (ds : List Deed) (es : List (Does k)) (e : told k 0 ds ≡ map (as_seen k) es) (s : ℕ) where
  -- the bytes of what stands there
  abbrev cell_bytes : Cell k → ℕ
  cell_bytes b = text_bytes (cell_shown k b).text

  -- the table weighs more by what is put, less what stood there
  slot_put : (first : Bool) (change : Option (Cell k) → Puts k → Option (Cell k)) → Shows first change (seen_as k) (cell_shown k) → (i : ℕ) (a : Puts k)
      → uncounted (s + seen_bytes (staying first (know k i ds).found_at (seen_as k a)) - weight seen_bytes (entry (know k i ds).found_at))
      ≡ uncounted (s + weight cell_bytes (change (at i es) a) - weight cell_bytes (at i es))
  slot_put first change h i a = ap uncounted (placed_put (cell_shown k) (at i es) (know k i ds).found_at (knows i ds es e) first change (seen_as k) h s a)

  -- and less by what goes
  slot_removed : (i : ℕ) → uncounted (s - weight seen_bytes (entry (know k i ds).found_at)) ≡ uncounted (s - weight cell_bytes (at i es))
  slot_removed i = ap uncounted (placed_removed (cell_shown k) (at i es) (know k i ds).found_at (knows i ds es e) s)

-- ---- one event

-- what the count and the sum say of an event is what its deed weighs
by_numbers : (lim : Limits) (k : Kind) (ds : List Deed) (es : List (Does k)) (x : Own k) (v : Does k) → Spoken k → told k 0 ds ≡ map (as_seen k) es → All (Keyed k) es → Keyed k v
    → weigh lim (deed_at k (as_seen k v)) (known_for ds (deed_at k (as_seen k v))) (weight_at k x) ≡ with_bytes (counted lim k es (v ∷ []) (many k x)) (size_on k es (v ∷ []) (text_size k x))
by_numbers lim GroupContacts ds es x clear sp e h q = refl
by_numbers lim GroupContacts ds es x (put n a) sp e h q =
    ap (put_weight contact_places (length x) (text_size GroupContacts x) (seen_as GroupContacts a)) (known_groups a.address.0 ds es e)
    ∙ listed_put (seen_as GroupContacts) contact_places (length x) (text_size GroupContacts x) a (look (contact_key OfGroups) eqb a.address.0 es)
by_numbers lim GroupContacts ds es x (remove j) sp e h q =
    ap (removed_weight (length x) (text_size GroupContacts x)) (known_groups j ds es e) ∙ listed_removed (seen_as GroupContacts) (length x) (text_size GroupContacts x) (look (contact_key OfGroups) eqb j es)
by_numbers lim IndividualContacts ds es x clear sp e h q = refl
by_numbers lim IndividualContacts ds es x (put n a) sp e h q =
    ap (put_weight contact_places (length x) (text_size IndividualContacts x) (seen_as IndividualContacts a)) (known_individuals a.address.0 ds es e)
    ∙ listed_put (seen_as IndividualContacts) contact_places (length x) (text_size IndividualContacts x) a (look (contact_key OfIndividuals) eqb a.address.0 es)
by_numbers lim IndividualContacts ds es x (remove j) sp e h q =
    ap (removed_weight (length x) (text_size IndividualContacts x)) (known_individuals j ds es e)
    ∙ listed_removed (seen_as IndividualContacts) (length x) (text_size IndividualContacts x) (look (contact_key OfIndividuals) eqb j es)
by_numbers lim Lines ds es x clear sp e h q = refl
by_numbers lim Lines ds es x (put n a) sp e h q =
    ap (put_weight lim.lines (length x) (text_size Lines x) (seen_as Lines a)) (known_lines (line_key a) ds es e q.0 (all_keys es h))
    ∙ listed_put (seen_as Lines) lim.lines (length x) (text_size Lines x) a (look line_key same_key (line_key a) es)
by_numbers lim Lines ds es x (remove j) sp e h q =
    ap (removed_weight (length x) (text_size Lines x)) (known_lines j ds es e q.0 (all_keys es h)) ∙ listed_removed (seen_as Lines) (length x) (text_size Lines x) (look line_key same_key j es)
by_numbers lim Key ds es x v sp e h q = absurd sp
by_numbers lim QuickTexts ds es x clear sp e h q = refl
by_numbers lim QuickTexts ds es x (put n a) sp e h q = slot_put QuickTexts (spot quick_place quick_change) known_quick ds es e (text_size QuickTexts x) true quick_change quick_shows a.index a
by_numbers lim QuickTexts ds es x (remove j) sp e h q = slot_removed QuickTexts (spot quick_place quick_change) known_quick ds es e (text_size QuickTexts x) j
by_numbers lim Home ds es x v sp e h q = absurd sp
by_numbers lim Channels ds es x clear sp e h q = refl
by_numbers lim Channels ds es x (put n a) sp e h q = channel_put (ltb (length x) lim.channels) (know Channels a ds).found_at
  where
    channel_put : (b : Bool) (f : Option (ℕ × Seen))
        → with_bytes (cond b (some (suc (length x))) none) (0 + seen_bytes (staying false f (seen_as Channels a)) - weight seen_bytes (entry f)) ≡ with_bytes (and_then (cond b (some (suc (length x))) none) (λ m. some m)) 0
    channel_put true f = ap (λ (m : ℕ). some (record { entries = suc (length x); bytes = m })) (ap (λ (z : Seen). 0 + seen_bytes z - weight seen_bytes (entry f)) (latest_stays f (seen_as Channels a)) ∙ omega arith)
    channel_put false f = refl
by_numbers lim Channels ds es x (remove j) sp e h q =
    ap₂ (λ (n m : ℕ). some (record { entries = length x - n; bytes = m })) (known_often j ds es e) (zero-sub (weight seen_bytes (entry (know Channels j ds).found_at)))
by_numbers lim System ds es x v sp e h q = absurd sp
by_numbers lim StatusTexts ds es x clear sp e h q = refl
by_numbers lim StatusTexts ds es x (put n a) sp e h q = slot_put StatusTexts (spot status_place status_change) known_status ds es e (text_size StatusTexts x) false status_change status_shows (a.index - 32) a
by_numbers lim StatusTexts ds es x (remove j) sp e h q = slot_removed StatusTexts (spot status_place status_change) known_status ds es e (text_size StatusTexts x) j
by_numbers lim Group ds es x clear sp e h q = refl
by_numbers lim Group ds es x (put n a) sp e h q = slot_put Group (spot slot_place slot_change) known_group_slots ds es e (text_size Group x) false slot_change group_shows a.0 a
by_numbers lim Group ds es x (remove j) sp e h q = slot_removed Group (spot slot_place slot_change) known_group_slots ds es e (text_size Group x) j
by_numbers lim Individual ds es x clear sp e h q = refl
by_numbers lim Individual ds es x (put n a) sp e h q = slot_put Individual (spot slot_place slot_change) known_individual_slots ds es e (text_size Individual x) false slot_change individual_shows a.0 a
by_numbers lim Individual ds es x (remove j) sp e h q = slot_removed Individual (spot slot_place slot_change) known_individual_slots ds es e (text_size Individual x) j
by_numbers lim LineSlot ds es x clear sp e h q = refl
by_numbers lim LineSlot ds es x (put n a) sp e h q = slot_put LineSlot (spot slot_place slot_change) known_line_slots ds es e (text_size LineSlot x) false slot_change line_shows a.0 a
by_numbers lim LineSlot ds es x (remove j) sp e h q = slot_removed LineSlot (spot slot_place slot_change) known_line_slots ds es e (text_size LineSlot x) j
by_numbers lim Last ds es x v sp e h q = absurd sp

-- EVENT-WEIGHED: a deed makes of what its table weighs what its event makes of the table
pub event_weighed : (lim : Limits) (k : Kind) (ds : List Deed) (es : List (Does k)) (x : Own k) (v : Does k) → Spoken k → told k 0 ds ≡ map (as_seen k) es → All (Keyed k) es → Keyed k v → InPlaces k (v ∷ [])
    → in_turn (run lim k) es (own k fresh) ≡ some x
    → weigh lim (deed_at k (as_seen k v)) (known_for ds (deed_at k (as_seen k v))) (weight_at k x) ≡ mathlib.Core.Option.map (weight_at k) (run lim k v x)
event_weighed lim k ds es x v sp e h q p left = by_numbers lim k ds es x v sp e h q ∙ go (run lim k v x) refl
  where
    Turn : Option (Own k) → Option (Own k)
    Turn o = and_then o (in_turn (run lim k) [])

    go : (o : Option (Own k)) → run lim k v x ≡ o → with_bytes (counted lim k es (v ∷ []) (many k x)) (size_on k es (v ∷ []) (text_size k x)) ≡ mathlib.Core.Option.map (weight_at k) o
    go none r = ap (λ (c : Option ℕ). with_bytes c (size_on k es (v ∷ []) (text_size k x))) (counted_is lim k es (v ∷ []) x left ∙ ap (λ o. mathlib.Core.Option.map (many k) (Turn o)) r)
    go (some y) r = ap₂ (λ (c : Option ℕ) (b : ℕ). with_bytes c b) (counted_is lim k es (v ∷ []) x left ∙ ap (λ o. mathlib.Core.Option.map (many k) (Turn o)) r) (size_is lim k es (v ∷ []) x y p left (ap Turn r))
