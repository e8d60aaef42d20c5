-- The turns of a report's plan: over the places of a table, and over the types. Assumes nothing.
use Rattle.lists.proofs.Kit.{ℕ, suc, ◌+◌, ◌*◌, ◌≤◌, ◌<◌, ◌≡◌, refl, sym, ap, ◌∙◌, subst, subst⁻¹, ◌≢◌, Option, none, some, List, [], ◌∷◌, ◌++◌, add-one, arith, length, get_or, take, drop, drop-cons, drop_of_length-le}
use Rattle.slots.specs.Slots.{Present}
use Rattle.tables.specs.declared.limits.Limits.{Limits}
use Rattle.tables.specs.Allowed.{Allowed}
use Rattle.tables.specs.Limits.{placed}
use Rattle.tables.specs.Store.{Works}
use Rattle.tables.specs.Tables.{Tables}
use Rattle.reports.specs.declared.Asked.{Asked}
use Rattle.reports.specs.Asked.{asked}
use Rattle.reports.specs.Cut.{split, item_size}
use Rattle.reports.specs.Items.{Item, unknown}
use Rattle.reports.specs.TableSlots.{EntryOf, EntryOk, slot_count, slots_of, item_at, slot_item}
use Rattle.reports.specs.Types.{asked_by}
use Rattle.reports.proofs.Cursor.{collected, from_here, type_known, type_unknown, here_end, here_empty, here_item}
use Rattle.reports.proofs.PlanLaws.{Planned, plan_start, plan_end}
use Rattle.reports.proofs.Sizes.{item_length}
use Rattle.reporting.specs.declared.planning.Walk.{Walk}
use Rattle.reporting.specs.Plans.{from_type, from_types, items_from, Ranked, At, Steps, Walked, TableWalked, PlanIs}
use Rattle.reporting.specs.Walks.{place_item, SizeIs}
use Rattle.reporting.proofs.TableLaws.{in_places, slots_many, slots_same, slot_there, slot_ok, item_in}

-- ---- a place

-- what stands in it, by the length of its parameter
pub record PlaceIs (lim : Limits) (t : Tables) (a : Asked) (p rank size : ℕ) : Type 0 where
  pub there : p < length (slots_of lim t a)
  pub empty : size ≡ 0 → get_or (slots_of lim t a) p none ≡ none
  pub entry : size ≢ 0 → (x : EntryOf a) × (get_or (slots_of lim t a) p none ≡ some x) × (item_size (item_at a p rank x) ≡ size)

pub place_is : (lim : Limits) (t : Tables) (s : List ℕ) → Works lim t s → (a : Asked) (p rank size : ℕ) → p < slot_count lim a
    → size ≡ length (place_item lim t a p rank) → PlaceIs lim t a p rank size
place_is lim t s h a p rank size l e = record {
  there = omega (arith, slots_many lim t h.0 a);
  empty = λ z. none_there (get_or (slots_of lim t a) p none) (slot_ok a _ (get_or (slots_of lim t a) p none) (slot_there lim t s h a p l)) (sym e ∙ z);
  entry = λ n. some_there (get_or (slots_of lim t a) p none) e n;
}
  where
    none_there : (o : Option (EntryOf a)) → Present (EntryOk a) o → length (slot_item a p rank o) ≡ 0 → o ≡ none
    none_there none k z = refl
    none_there (some x) k z = absurd (omega (arith, (item_length (item_at a p rank x) (item_in a p rank x k (in_places lim a p l))).0))

    some_there : (o : Option (EntryOf a)) → size ≡ length (slot_item a p rank o) → size ≢ 0 → (x : EntryOf a) × (o ≡ some x) × (item_size (item_at a p rank x) ≡ size)
    some_there none z n = absurd (n z)
    some_there (some x) z n = (x, refl, sym z)

-- ---- the places of a table

module _ (lim : Limits) (a : Asked) (work : List ℕ) (ask room j : ℕ) (w : Walk) where
  -- the places before this one are passed
  abbrev pub WalkedTo : (place rank : ℕ) → Walk → Type 0
  WalkedTo place rank r = Walked lim a work ask room j place (λ t more. from_here lim t a place rank more) w r

  -- none is
  pub walked_start : WalkedTo 0 0 w
  walked_start = record { grown = record { closed = omega arith; own = omega arith }; ranked = λ r. r; steps = λ t h all from more is q. q }

  -- under other names
  pub walked_as : {place rank rank' : ℕ} {v v' : Walk} → v ≡ v' → rank ≡ rank' → WalkedTo place rank' v' → WalkedTo place rank v
  walked_as {place} p q k = subst⁻¹ (λ (z : ℕ × Walk). WalkedTo place z.0 z.1) (λ i. (q i, p i)) k

  module _ (place rank size : ℕ) (v : Walk) (l : place < slot_count lim a) (k : WalkedTo place rank v) (s : SizeIs lim a work place rank size) where
    -- an empty one more
    pub walked_empty : size ≡ 0 → WalkedTo (place + 1) rank v
    walked_empty z = record {
      grown = record { closed = omega (arith, k.grown.closed); own = omega (arith, k.grown.own) };
      ranked = k.ranked;
      steps = λ t h all from more is q.
          let i = place_is lim t work h a place rank size l (s t h) in
          subst⁻¹ (λ (n : ℕ). At all room j from (from_here lim t a n rank more) v) (add-one place)
          (subst (λ (x : List Item). At all room j from x v) (here_empty lim t a place rank more i.there (i.empty z)) (k.steps t h all from more is q));
    }

    -- a used one more
    pub walked_item : (r : Walk) → size ≢ 0 → rank ≤ place → Steps room j size (record { ask = ask; place = place; rank = rank }) v r → WalkedTo (place + 1) (rank + 1) r
    walked_item r n o g = record {
      grown = record { closed = omega (arith, k.grown.closed, g.grown.closed); own = omega (arith, k.grown.own, g.grown.own) };
      ranked = λ p. g.ranked (k.ranked p) o;
      steps = λ t h all from more is q.
          let i = place_is lim t work h a place rank size l (s t h) in
          let (x, e, d) = i.entry n in
          let f : from_here lim t a place rank more ≡ item_at a place rank x ∷ from_here lim t a (suc place) (suc rank) more = here_item lim t a place rank more i.there x e in
          subst⁻¹ (λ (z : ℕ × ℕ). At all room j from (from_here lim t a z.0 z.1 more) r) (λ y. (add-one place y, add-one rank y))
          (g.steps all from (item_at a place rank x) (from_here lim t a (suc place) (suc rank) more) d (is place rank ∙ f)
          (subst (λ (z : List Item). At all room j from z v) f (k.steps t h all from more is q)));
    }

  -- all are passed
  pub walked_end : (place rank : ℕ) (v : Walk) → slot_count lim a ≤ place → place ≤ 65535 → WalkedTo place rank v → TableWalked lim a work ask room j w v
  walked_end place rank v l m k = record {
    grown = record { closed = omega (arith, k.grown.closed); own = omega (arith, k.grown.own) };
    ranked = k.ranked;
    steps = λ t h all from more is q.
        subst (λ (x : List Item). At all room j from x v) (here_end lim t a place rank more (omega (arith, slots_many lim t h.0 a))) (k.steps t h all from more is q);
  }

-- ---- the types

-- a type that is known is its table from the first place on
first_here : (lim : Limits) (t : Tables) → Allowed (placed lim) t → (b : ℕ) (l : List ℕ) (a : Asked) → asked_by b ≡ some a → asked t (b ∷ l) ≡ from_here lim t a 0 0 (asked t l)
first_here lim t h b l a e = type_known (placed lim) t h b l a e ∙ ap (λ (os : List (Option (EntryOf a))). collected (item_at a) 0 0 os ++ asked t l) (slots_same lim t a)

-- from the start of a type on
pub from_first : (lim : Limits) (t : Tables) → Allowed (placed lim) t → (types : List ℕ) → from_types lim t types 0 0 ≡ asked t types
from_first lim t h [] = refl
from_first lim t h (b ∷ l) = go (asked_by b) refl
  where
    go : (o : Option Asked) → asked_by b ≡ o → from_type lim t b o 0 0 (asked t l) ≡ asked t (b ∷ l)
    go none e = sym (type_unknown lim t b l e)
    go (some a) e = sym (first_here lim t h b l a e)

-- from a cursor on, by its type
pub at_type : (lim : Limits) (t : Tables) (types : List ℕ) (ask place rank : ℕ) → ask < length types
    → items_from lim t types (record { ask = ask; place = place; rank = rank })
    ≡ from_type lim t (get_or types ask 0) (asked_by (get_or types ask 0)) place rank (asked t (drop (suc ask) types))
at_type lim t types ask place rank l = ap (λ (x : List ℕ). from_types lim t x place rank) (drop-cons types ask 0 l)

module _ (lim : Limits) (types work : List ℕ) (room j : ℕ) where
  -- the walk stands before these, whatever the tables
  abbrev AtTypes : (Tables → List Item) → Walk → Type 0
  AtTypes rest w = (t : Tables) → Works lim t work → At (split item_size room 255 0 0 (asked t types)) room j (items_from lim t types) (rest t) w

  -- the types before this one are planned
  pub record Planning (ask : ℕ) (w : Walk) : Type 0 where
    pub closed : w.closed ≤ ask * 65535
    pub own : w.own ≤ ask * 65535
    pub ranked : Ranked w.from
    pub planned : AtTypes (λ t. asked t (drop ask types)) w

  -- none is
  pub planning_start : Planning 0 (record { closed = 0; used = 0; count = 0; own = 0; from = record { ask = 0; place = 0; rank = 0 } })
  planning_start = record {
    closed = omega arith;
    own = omega arith;
    ranked = omega arith;
    planned = λ t h. record {
      own = [];
      counted = refl;
      planned = subst⁻¹ (λ (x : List Item). Planned item_size room 255 (split item_size room 255 0 0 (asked t types)) j 0 0 0 [] x (asked t types))
          (from_first lim t h.0 types) (plan_start item_size room 255 (asked t types) j);
    };
  }

  -- one more
  pub planning_turn : (ask : ℕ) (w r : Walk) (a : Asked) → ask < length types → Planning ask w → asked_by (get_or types ask 0) ≡ some a → TableWalked lim a work ask room j w r → Planning (ask + 1) r
  planning_turn ask w r a l p e k = record {
    closed = omega (arith, p.closed, k.grown.closed);
    own = omega (arith, p.own, k.grown.own);
    ranked = k.ranked p.ranked;
    planned = λ t h.
        let more : List Item = asked t (drop (suc ask) types) in
        let d : asked t (drop ask types) ≡ from_here lim t a 0 0 more = ap (asked t) (drop-cons types ask 0 l) ∙ first_here lim t h.0 (get_or types ask 0) (drop (suc ask) types) a e in
        subst⁻¹ (λ (n : ℕ). At (split item_size room 255 0 0 (asked t types)) room j (items_from lim t types) (asked t (drop n types)) r) (add-one ask)
        (k.steps t h (split item_size room 255 0 0 (asked t types)) (items_from lim t types) more
        (λ x y. at_type lim t types ask x y l ∙ ap (λ (o : Option Asked). from_type lim t (get_or types ask 0) o x y more) e)
        (subst (λ (z : List Item). At (split item_size room 255 0 0 (asked t types)) room j (items_from lim t types) z w) d (p.planned t h)));
  }

  -- nothing is left
  plan_ends : (w : Walk) → w.closed ≤ 16777216 → Ranked w.from → AtTypes (λ t. []) w → PlanIs lim types work room j w
  plan_ends w s r p = record {
    closed = s;
    ranked = r;
    total = λ t h. omega (arith, (p t h).planned.total);
    message = λ t h l.
        let (x, y, z) = plan_end item_size room 255 (split item_size room 255 0 0 (asked t types)) j (p t h).planned l in
        (y ∙ z ∙ ap (λ (n : ℕ). take n (items_from lim t types w.from)) (p t h).counted, ap length y ∙ (p t h).counted);
  }

  pub planning_end : (ask : ℕ) (w : Walk) → length types ≤ ask → ask ≤ 255 → Planning ask w → PlanIs lim types work room j w
  planning_end ask w l m p =
      plan_ends w (omega (arith, p.closed)) p.ranked
      (λ t h. subst (λ (x : List Item). At (split item_size room 255 0 0 (asked t types)) room j (items_from lim t types) x w) (ap (asked t) (drop_of_length-le types l)) (p.planned t h))

  -- a type that is unknown is the last
  pub planning_unknown : (ask : ℕ) (w r : Walk) → ask < length types → ask ≤ 254 → Planning ask w → asked_by (get_or types ask 0) ≡ none
      → Steps room j 2 (record { ask = ask; place = 0; rank = 0 }) w r → PlanIs lim types work room j r
  planning_unknown ask w r l m p e k =
      plan_ends r (omega (arith, p.closed, k.grown.closed)) (k.ranked p.ranked (omega arith))
      (λ t h.
      let d : asked t (drop ask types) ≡ unknown (get_or types ask 0) ∷ [] = ap (asked t) (drop-cons types ask 0 l) ∙ type_unknown lim t (get_or types ask 0) (drop (suc ask) types) e in
      k.steps (split item_size room 255 0 0 (asked t types)) (items_from lim t types) (unknown (get_or types ask 0)) [] refl
      (at_type lim t types ask 0 0 l ∙ ap (λ (o : Option Asked). from_type lim t (get_or types ask 0) o 0 0 (asked t (drop (suc ask) types))) e)
      (subst (λ (z : List Item). At (split item_size room 255 0 0 (asked t types)) room j (items_from lim t types) z w) d (p.planned t h)))
