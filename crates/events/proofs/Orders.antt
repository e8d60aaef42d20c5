-- The entries of a table stand in the order of their births, so each is found from its birth with no table. Assumes nothing.
use Rattle.lists.proofs.Kit.{ℕ, suc, ◌≤◌, ◌<◌, ◌≡◌, refl, sym, ap, ◌∙◌, subst, ◌≢◌, ◌⊎◌, inl, inr, Bool, true, false, cond, List, [], ◌∷◌, ◌++◌, map, append-nil, Option, none, some, arith, eqb-true, eq-eqb, eqb, append_snoc}
use Rattle.lists.proofs.Bools.{is_false}
use Rattle.lists.specs.Every.{All}
use Rattle.lists.proofs.Every.{all_turn, all_both}
use Rattle.slots.specs.Slots.{unless}
use Rattle.slots.proofs.Tables.{unless_all}
use Rattle.events.specs.Events.{Event, clear, put, remove, Decides, find, born_at, Rising, Climbs, after, look, rows}
use Rattle.events.proofs.Finding.{clash, find_all}
use Rattle.events.proofs.Keeping.{holds, keep, keep_on, look_kept, after_entries}

-- ---- births that rise

-- from an earlier place on
climbs_from : {A : Type 0} (i j : ℕ) (l : List (ℕ × A)) → i ≤ j → Climbs j l → Climbs i l
climbs_from i j [] h c = tt
climbs_from i j (e ∷ l) h c = (omega (arith, c.0), c.1)

-- what stays rises
climbs_unless : {A : Type 0} (p : ℕ × A → Bool) (j : ℕ) (l : List (ℕ × A)) → Climbs j l → Climbs j (unless p l)
climbs_unless p j [] c = tt
climbs_unless p j (e ∷ l) c = go (p e) (climbs_unless p (suc e.0) l c.1)
  where
    go : (b : Bool) → Climbs (suc e.0) (unless p l) → Climbs j (cond b (unless p l) (e ∷ unless p l))
    go true r = climbs_from j (suc e.0) (unless p l) (omega (arith, c.0)) r
    go false r = (c.0, r)

-- births from a later place on are none at this one
climbs_off : {A : Type 0} (m j : ℕ) (l : List (ℕ × A)) → m < j → Climbs j l → All (λ e. e.0 ≢ m) l
climbs_off m j [] h c = tt
climbs_off m j (e ∷ l) h c = (λ q. absurd (omega (arith, c.0)), climbs_off m (suc e.0) l (omega (arith, c.0)) c.1)

-- ---- rows

-- what was not born at a place is passed over there
pub passed : {A : Type 0} (m : ℕ) (o : Option (ℕ × A)) (l : List (ℕ × A)) → ((e : ℕ × A) → o ≡ some e → e.0 ≢ m) → born_at m o l ≡ l
passed m none l h = refl
passed m (some e) l h = ap (λ b. cond b (e ∷ l) l) (is_false (eqb e.0 m) (λ t. h e refl (eqb-true e.0 m t)))

-- what was born there is a row
pub shown : {A : Type 0} (m : ℕ) (o : Option (ℕ × A)) (e : ℕ × A) (l : List (ℕ × A)) → o ≡ some e → e.0 ≡ m → born_at m o l ≡ e ∷ l
shown m o e l p q = ap (λ x. born_at m x l) p ∙ ap (λ b. cond b (e ∷ l) l) (eq-eqb e.0 m q)

module _ {A K : Type 0} (key : A → K) (same : K → K → Bool) (d : Decides same) where
  -- the order of two keys does not matter to a test that says no
  no_turned : (k l : K) → same k l ≡ false → same l k ≡ false
  no_turned k l h = is_false (same l k) (λ q. clash (ap (λ x. same x l) (sym (d.are l k q)) ∙ d.itself l) h)

  -- ---- what stands in the table with births

  -- no two entries have one key
  abbrev pub Apart : List (ℕ × A) → Type 0
  Apart [] = Unit {0}
  Apart (e ∷ l) = All (λ x. holds key same (key e.1) x ≡ false) l × Apart l

  -- an event put an entry of its key where it was born
  abbrev Born : List (Event A K) → ℕ × A → Type 0
  Born [] e = ⊥
  Born (clear ∷ es) e = Born es e
  Born (put n a ∷ es) e = ((e.0 ≡ n) × (key a ≡ key e.1)) ⊎ Born es e
  Born (remove k ∷ es) e = Born es e

  -- what the events that were read have left, the last of them before place n
  record Kept (read : List (Event A K)) (n : ℕ) (l : List (ℕ × A)) : Type 0 where
    climbs : Climbs 0 l
    below : All (λ e. e.0 < n) l
    born : All (Born read) l

  -- what entries have, with the one that is put
  all_keep : (P : ℕ × A → Type 0) (n : ℕ) (a : A) (l : List (ℕ × A)) → P (n, a) → ((e : ℕ × A) → P e → holds key same (key a) e ≡ true → P (e.0, a)) → All P l → All P (keep key same n a l)
  all_keep P n a [] p q h = (p, tt)
  all_keep P n a (e ∷ l) p q h = go (holds key same (key a) e) refl (all_keep P n a l p q h.1)
    where
      go : (b : Bool) → holds key same (key a) e ≡ b → All P (keep key same n a l) → All P (cond b ((e.0, a) ∷ l) (e ∷ keep key same n a l))
      go true t r = (q e h.0 t, h.1)
      go false t r = (h.0, r)

  -- births rise, for a new one is behind the last
  climbs_keep : (j n : ℕ) (a : A) (l : List (ℕ × A)) → j ≤ n → All (λ e. e.0 < n) l → Climbs j l → Climbs j (keep key same n a l)
  climbs_keep j n a [] h b c = (h, tt)
  climbs_keep j n a (e ∷ l) h b c = go (holds key same (key a) e) (climbs_keep (suc e.0) n a l b.0 b.1 c.1)
    where
      go : (t : Bool) → Climbs (suc e.0) (keep key same n a l) → Climbs j (cond t ((e.0, a) ∷ l) (e ∷ keep key same n a l))
      go true r = c
      go false r = (c.0, r)

  -- an entry that is put leaves no two of one key
  apart_keep : (n : ℕ) (a : A) (l : List (ℕ × A)) → Apart l → Apart (keep key same n a l)
  apart_keep n a [] h = (tt, tt)
  apart_keep n a (e ∷ l) h = go (holds key same (key a) e) refl (apart_keep n a l h.1)
    where
      go : (b : Bool) → holds key same (key a) e ≡ b → Apart (keep key same n a l) → Apart (cond b ((e.0, a) ∷ l) (e ∷ keep key same n a l))
      go true t r = (subst (λ k. All (λ x. holds key same k x ≡ false) l) (d.are (key e.1) (key a) t) h.0, h.1)
      go false t r = (
        all_keep (λ x. holds key same (key e.1) x ≡ false) n a l (no_turned (key e.1) (key a) t) (λ x q y. no_turned (key e.1) (key a) t) h.0,
        r,
      )

  -- and so do entries that are taken out
  apart_unless : (p : ℕ × A → Bool) (l : List (ℕ × A)) → Apart l → Apart (unless p l)
  apart_unless p [] h = tt
  apart_unless p (e ∷ l) h = go (p e) (apart_unless p l h.1)
    where
      go : (b : Bool) → Apart (unless p l) → Apart (cond b (unless p l) (e ∷ unless p l))
      go true r = r
      go false r = (unless_all (λ x. holds key same (key e.1) x ≡ false) p l h.0, r)

  -- all events
  pub apart_on : (es : List (Event A K)) (l : List (ℕ × A)) → Apart l → Apart (keep_on key same es l)
  apart_on [] l h = h
  apart_on (clear ∷ es) l h = apart_on es [] tt
  apart_on (put n a ∷ es) l h = apart_on es (keep key same n a l) (apart_keep n a l h)
  apart_on (remove k ∷ es) l h = apart_on es (unless (holds key same k) l) (apart_unless (holds key same k) l h)

  -- an entry of the same key was born there too
  born_like : (es : List (Event A K)) (e : ℕ × A) (a : A) → key e.1 ≡ key a → Born es e → Born es (e.0, a)
  born_like [] e a h b = b
  born_like (clear ∷ es) e a h b = born_like es e a h b
  born_like (put n x ∷ es) e a h (inl q) = inl (q.0, q.1 ∙ h)
  born_like (put n x ∷ es) e a h (inr b) = inr (born_like es e a h b)
  born_like (remove k ∷ es) e a h b = born_like es e a h b

  -- and is, whatever follows
  born_more : (es more : List (Event A K)) (e : ℕ × A) → Born es e → Born (es ++ more) e
  born_more [] more e b = absurd b
  born_more (clear ∷ es) more e b = born_more es more e b
  born_more (put n x ∷ es) more e (inl q) = inl q
  born_more (put n x ∷ es) more e (inr b) = inr (born_more es more e b)
  born_more (remove k ∷ es) more e b = born_more es more e b

  -- the last event is one of them
  born_last : (es : List (Event A K)) (n : ℕ) (a : A) → Born (es ++ (put n a ∷ [])) (n, a)
  born_last [] n a = inl (refl, refl)
  born_last (clear ∷ es) n a = born_last es n a
  born_last (put m x ∷ es) n a = inr (born_last es n a)
  born_last (remove k ∷ es) n a = born_last es n a

  -- one event more: an entry is put, entries are taken out, or all go
  kept_put : (read : List (Event A K)) (n m : ℕ) (a : A) (l : List (ℕ × A)) → n ≤ m → Kept read n l → Kept (read ++ (put m a ∷ [])) (suc m) (keep key same m a l)
  kept_put read n m a l h c =
      let below : All (λ e. e.0 < m) l = all_turn (λ e. e.0 < n) (λ e. e.0 < m) (λ e q. omega arith) l c.below in
      record {
        climbs = climbs_keep 0 m a l (omega arith) below c.climbs;
        below = all_keep (λ e. e.0 < suc m) m a l (omega arith) (λ e q t. q) (all_turn (λ e. e.0 < m) (λ e. e.0 < suc m) (λ e q. omega arith) l below);
        born = all_keep (Born (read ++ (put m a ∷ []))) m a l (born_last read m a) (λ e q t. born_like (read ++ (put m a ∷ [])) e a (d.are (key e.1) (key a) t) q)
            (all_turn (Born read) (Born (read ++ (put m a ∷ []))) (born_more read (put m a ∷ [])) l c.born);
      }

  kept_drop : (read : List (Event A K)) (n : ℕ) (k : K) (l : List (ℕ × A)) → Kept read n l → Kept (read ++ (remove k ∷ [])) n (unless (holds key same k) l)
  kept_drop read n k l c =
      record {
        climbs = climbs_unless (holds key same k) 0 l c.climbs;
        below = unless_all (λ e. e.0 < n) (holds key same k) l c.below;
        born = unless_all (Born (read ++ (remove k ∷ []))) (holds key same k) l (all_turn (Born read) (Born (read ++ (remove k ∷ []))) (born_more read (remove k ∷ [])) l c.born);
      }

  kept_none : (read : List (Event A K)) (n : ℕ) → Kept read n []
  kept_none read n = record { climbs = tt; below = tt; born = tt }

  -- all events
  kept_on : (es read : List (Event A K)) (n : ℕ) (l : List (ℕ × A)) → Rising n es → Kept read n l → (m : ℕ) × Kept (read ++ es) m (keep_on key same es l)
  kept_on [] read n l r c = (n, rw append-nil c)
  kept_on (clear ∷ es) read n l r c =
      let (m, k) = kept_on es (read ++ (clear ∷ [])) n [] r (kept_none (read ++ (clear ∷ [])) n) in
      (m, rw append_snoc at k)
  kept_on (put j a ∷ es) read n l r c =
      let (m, k) = kept_on es (read ++ (put j a ∷ [])) (suc j) (keep key same j a l) r.1 (kept_put read n j a l r.0 c) in
      (m, rw append_snoc at k)
  kept_on (remove x ∷ es) read n l r c =
      let (m, k) = kept_on es (read ++ (remove x ∷ [])) n (unless (holds key same x) l) r (kept_drop read n x l c) in
      (m, rw append_snoc at k)

  -- ---- the rows

  -- what is left to come is l: it is born in the events to come, each entry is what its key is found with, and what is found is born before n or among l
  record Ready (f : K → Option (ℕ × A)) (es : List (Event A K)) (n : ℕ) (l : List (ℕ × A)) : Type 0 where
    climbs : Climbs n l
    born : All (Born es) l
    finds : All (λ e. f (key e.1) ≡ some e) l
    only : (m : ℕ) (κ : K) (e : ℕ × A) → n ≤ m → All (λ x. x.0 ≢ m) l → f κ ≡ some e → e.0 ≢ m

  -- births after an event are births of the events that follow
  later : (m : ℕ) (a : A) (es : List (Event A K)) (l : List (ℕ × A)) → Climbs (suc m) l → All (Born (put m a ∷ es)) l → All (Born es) l
  later m a es [] c b = tt
  later m a es (e ∷ l) (h, c) (inl q, b) = absurd (omega (arith, q.0))
  later m a es (e ∷ l) (h, c) (inr q, b) = (q, later m a es l (climbs_from (suc m) (suc e.0) l (omega arith) c) b)

  -- a birth is at the place of one of the events
  born_from : (n : ℕ) (es : List (Event A K)) (e : ℕ × A) → Rising n es → Born es e → n ≤ e.0
  born_from n [] e r b = absurd b
  born_from n (clear ∷ es) e r b = born_from n es e r b
  born_from n (put m a ∷ es) e r (inl q) = omega (arith, r.0, q.0)
  born_from n (put m a ∷ es) e r (inr b) = omega (arith, r.0, born_from (suc m) es e r.1 b)
  born_from n (remove k ∷ es) e r b = born_from n es e r b

  -- one event: the first entry to come is born there, or all are born later
  row_next : (f : K → Option (ℕ × A)) (m : ℕ) (a : A) (es : List (Event A K)) (n : ℕ) (l : List (ℕ × A)) → Rising n (put m a ∷ es) → Ready f (put m a ∷ es) n l
      → ((k : List (ℕ × A)) → Ready f es (suc m) k → rows key same f es ≡ k) → born_at m (f (key a)) (rows key same f es) ≡ l
  row_next f m a es n [] r g rest =
      passed m (f (key a)) (rows key same f es) (λ e p. g.only m (key a) e r.0 tt p)
      ∙ rest [] (record { climbs = tt; born = tt; finds = tt; only = λ j κ e h t p. g.only j κ e (omega (arith, r.0)) tt p })
  row_next f m a es n (e ∷ l) r g rest = go g.born.0
    where
      go : ((e.0 ≡ m) × (key a ≡ key e.1)) ⊎ Born es e → born_at m (f (key a)) (rows key same f es) ≡ e ∷ l
      go (inl q) =
          let c : Climbs (suc m) l = subst (λ j. Climbs (suc j) l) q.0 g.climbs.1 in
          shown m (f (key a)) e (rows key same f es) (ap f q.1 ∙ g.finds.0) q.0
          ∙ ap (λ (k : List (ℕ × A)). e ∷ k)
          (rest l
          (record {
            climbs = c;
            born = later m a es l c g.born.1;
            finds = g.finds.1;
            only = λ j κ x h t p. g.only j κ x (omega (arith, r.0)) (λ y. absurd (omega (arith, q.0)), t) p;
          }))
      go (inr b) =
          let c : Climbs (suc m) (e ∷ l) = (born_from (suc m) es e r.1 b, g.climbs.1) in
          passed m (f (key a)) (rows key same f es) (λ x p. g.only m (key a) x r.0 (climbs_off m (suc m) (e ∷ l) (omega arith) c) p)
          ∙ rest (e ∷ l)
          (record {
            climbs = c;
            born = (b, later m a es l (climbs_from (suc m) (suc e.0) l (omega (arith, c.0)) c.1) g.born.1);
            finds = g.finds;
            only = λ j κ x h t p. g.only j κ x (omega (arith, r.0)) t p;
          })

  -- all events
  rows_are : (f : K → Option (ℕ × A)) (es : List (Event A K)) (n : ℕ) (l : List (ℕ × A)) → Rising n es → Ready f es n l → rows key same f es ≡ l
  rows_are f [] n [] r g = refl
  rows_are f [] n (e ∷ l) r g = absurd g.born.0
  rows_are f (clear ∷ es) n l r g = rows_are f es n l r (record { climbs = g.climbs; born = g.born; finds = g.finds; only = g.only })
  rows_are f (put m a ∷ es) n l r g = row_next f m a es n l r g (λ k. rows_are f es (suc m) k r.1)
  rows_are f (remove k ∷ es) n l r g = rows_are f es n l r (record { climbs = g.climbs; born = g.born; finds = g.finds; only = g.only })

  -- each entry is what its own key is found with
  apart_find : (l : List (ℕ × A)) → Apart l → All (λ e. find (holds key same (key e.1)) l ≡ some e) l
  apart_find [] h = tt
  apart_find (e ∷ l) h = (
    ap (λ b. cond b (some e) (find (holds key same (key e.1)) l)) (d.itself (key e.1)),
    all_both (λ x. holds key same (key e.1) x ≡ false) (λ x. find (holds key same (key x.1)) l ≡ some x) (λ x. find (holds key same (key x.1)) (e ∷ l) ≡ some x)
        (λ x p q. ap (λ b. cond b (some e) (find (holds key same (key x.1)) l)) (no_turned (key x.1) (key e.1) p) ∙ q) l h.0 (apart_find l h.1),
  )

  -- the table with births is read off the events: of each that puts an entry, what its key is found with if it was born there
  pub rows_kept : (es : List (Event A K)) → Rising 0 es → rows key same (λ κ. look key same κ es) es ≡ keep_on key same es []
  rows_kept es r =
      let (n, c) = kept_on es [] 0 [] r (kept_none [] 0) in
      let l : List (ℕ × A) = keep_on key same es [] in
      rows_are (λ κ. look key same κ es) es 0 l r
      (record {
        climbs = c.climbs;
        born = c.born;
        finds = all_turn (λ e. find (holds key same (key e.1)) l ≡ some e) (λ e. look key same (key e.1) es ≡ some e) (λ e p. look_kept key same d (key e.1) es [] ∙ p) l
            (apart_find l (apart_on es [] tt));
        only = λ m κ e h t p. find_all (holds key same κ) (λ x. x.0 ≢ m) l e t (sym (look_kept key same d κ es []) ∙ p);
      })

  -- "the entries stand in the order of their births": the table is the rows
  pub look_order : (room : ℕ) (es : List (Event A K)) (l : List A) → Rising 0 es → after key same room es [] ≡ some l → l ≡ map (λ e. e.1) (rows key same (λ κ. look key same κ es) es)
  look_order room es l r e = after_entries key same room es [] l e ∙ ap (map (λ x. x.1)) (sym (rows_kept es r))

  -- and their births rise
  pub rows_climb : (es : List (Event A K)) → Rising 0 es → Climbs 0 (rows key same (λ κ. look key same κ es) es)
  rows_climb es r = let (n, c) = kept_on es [] 0 [] r (kept_none [] 0) in subst (Climbs 0) (sym (rows_kept es r)) c.climbs
