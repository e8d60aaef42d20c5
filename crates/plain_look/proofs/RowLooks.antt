-- Laws of looking through deeds for a row. Assumes nothing.
use Rattle.lists.proofs.Kit.{ℕ, suc, ◌+◌, ◌-◌, ◌<◌, ◌≡◌, ◌≢◌, refl, sym, ap, ◌∙◌, subst, subst⁻¹, arith, Bool, true, false, cond, List, [], ◌∷◌, append-nil, length, Option, none, some, eqb, eq-eqb, ne_eqb, add-one}
use Rattle.writing.specs.declared.Kind.{Kind}
use Rattle.tables.specs.Owns.{only}
use Rattle.events.specs.Events.{entry}
use Rattle.events.specs.Deeds.{Seen, nothing, clears, puts, removes}
use Rattle.events.specs.Deeds as D
use Rattle.events.specs.Knowing.{unknown, know, born_here, row_on, listed}
use Rattle.read_deeds.specs.declared.cursors.Cursor.{Cursor}
use Rattle.read_deeds.specs.declared.cursors.Moved.{Moved}
use Rattle.read_deeds.specs.declared.deeds.Deed.TheVariants.{Puts}
use Rattle.read_deeds.specs.declared.deeds.Put.{Put}
use Rattle.read_deeds.specs.Cursors.{Follow, NextDeed}
use Rattle.std.specs.declared.option.Option.{Option as Maybe}
use Rattle.std.specs.declared.option.Option.TheVariants.{Some, None}
use Rattle.plain_look.specs.declared.known.Found.{Found}
use Rattle.plain_look.specs.declared.known.Looked.{Looked}
use Rattle.plain_look.specs.Looking.{Where, inside, Reads, FoundIs, LookedIs, deeds_most, LookIs, SeenIs, RowIs, born, born_of, BornHere, RowOn}
use Rattle.plain_look.proofs.LookLaws.{unknown_is}

-- ---- what is known after all deeds

-- looking through all deeds from the first, with nothing known
pub look_all : (w : Where) (m : List ℕ) (c : Cursor) (count : ℕ) (k : Kind) (key : ℕ) (u r : Looked) (ds : List D.Deed) → u.found ≡ None → u.often ≡ 0 → Reads w m → Follow m c ds
    → length ds ≡ count → count < deeds_most → LookIs m c 0 count k key u r → LookedIs w r (know k key ds)
look_all w m c count k key u r ds no_entry never s follow many small is =
    is w ds [] unknown s (subst⁻¹ (Follow m c) (append-nil ds) follow) many (omega (arith, small)) (omega arith) (unknown_is w u no_entry never)

-- no entry was found
none_seen : (m : List ℕ) (f : Option (ℕ × Seen)) → FoundIs (inside m) None f → SeenIs m None (entry f)
none_seen m none h = tt
none_seen m (some e) h = absurd h

-- the entry that was found, without its birth
entry_seen : (m : List ℕ) (r : Found) (f : Option (ℕ × Seen)) → FoundIs (inside m) (Some r) f → SeenIs m (Some r.put) (entry f)
entry_seen m r none h = absurd h
entry_seen m r (some e) h = h.1

-- ---- where an entry was born

-- none was found
born_none : (m : List ℕ) (n : ℕ) (f : Option (ℕ × Seen)) → FoundIs (inside m) None f → SeenIs m None (born n f)
born_none m n none h = tt
born_none m n (some e) h = absurd h

-- it was born elsewhere
born_else : (m : List ℕ) (n : ℕ) (found : Found) (f : Option (ℕ × Seen)) → found.birth ≢ n → FoundIs (inside m) (Some found) f → SeenIs m None (born n f)
born_else m n found none other h = absurd h
born_else m n found (some e) other h =
    subst⁻¹ (λ (b : Bool). SeenIs m None (cond b (some e.1) none)) (ne_eqb e.0 n (λ p. other (h.0 ∙ p))) tt

-- it was born here
born_seen : (m : List ℕ) (n : ℕ) (found : Found) (f : Option (ℕ × Seen)) → found.birth ≡ n → FoundIs (inside m) (Some found) f → SeenIs m (Some found.put) (born n f)
born_seen m n found none here h = absurd h
born_seen m n found (some e) here h =
    subst⁻¹ (λ (b : Bool). SeenIs m (Some found.put) (cond b (some e.1) none)) (eq-eqb e.0 n (sym h.0 ∙ here)) h.1

module _ (m : List ℕ) (c : Cursor) (count : ℕ) (k : Kind) (n : ℕ) where
  -- one that puts an entry, by whether it is to the table
  put_born : (j : Kind) (p : Put) (b : Bool) (r : Maybe Put) → b ≡ only j k
      → ((ds : List D.Deed) → Follow m c ds → length ds ≡ count → count < deeds_most → SeenIs m r (cond b (born n (know k p.key ds).found_at) none)) → BornHere m c count k n (Puts j p) r
  put_born j p b r e f ds nothing follow many small is = absurd is
  put_born j p b r e f ds (clears i) follow many small is = absurd is
  put_born j p b r e f ds (puts i a) follow many small is =
      subst (λ (x : Bool). SeenIs m r (cond x (born n (know k a.key ds).found_at) none)) (e ∙ ap (λ (x : Kind). only x k) is.0)
      (subst (λ (x : ℕ). SeenIs m r (cond b (born n (know k x ds).found_at) none)) is.1.key (f ds follow many small))
  put_born j p b r e f ds (removes i x) follow many small is = absurd is

  module _ (j : Kind) (p : Put) (u found : Looked) (own : only j k ≡ true) (no_entry : u.found ≡ None) (never : u.often ≡ 0) (look : LookIs m c 0 count k p.key u found) where
    -- what is found of its key
    found_all : (r : Maybe Found) → found.found ≡ r → (ds : List D.Deed) → Follow m c ds → length ds ≡ count → count < deeds_most → FoundIs (inside m) r (know k p.key ds).found_at
    found_all r e ds follow many small =
        subst (λ (x : Maybe Found). FoundIs (inside m) x (know k p.key ds).found_at) e (look_all (inside m) m c count k p.key u found ds no_entry never refl follow many small look).found_at

    -- none is found
    pub put_gone : found.found ≡ None → BornHere m c count k n (Puts j p) None
    put_gone gone = put_born j p true None (sym own) (λ ds follow many small. born_none m n (know k p.key ds).found_at (found_all None gone ds follow many small))

    module _ (f : Found) (there : found.found ≡ Some f) where
      -- it was born elsewhere
      pub put_else : f.birth ≢ n → BornHere m c count k n (Puts j p) None
      put_else other = put_born j p true None (sym own) (λ ds follow many small. born_else m n f (know k p.key ds).found_at other (found_all (Some f) there ds follow many small))

      -- it was born here
      pub put_here : f.birth ≡ n → BornHere m c count k n (Puts j p) (Some f.put)
      put_here here = put_born j p true (Some f.put) (sym own) (λ ds follow many small. born_seen m n f (know k p.key ds).found_at here (found_all (Some f) there ds follow many small))

-- ---- the rows of a list

-- by the entry that was born at a deed, if one was, and the rows after it
abbrev row_from : Option Seen → ℕ → (ℕ → Option Seen) → Option Seen
row_from none i rows = rows i
row_from (some a) i rows = cond (eqb i 0) (some a) (rows (i - 1))

-- the same of what is found
row_born : (n i : ℕ) (f : Option (ℕ × Seen)) (rows : ℕ → Option Seen) → cond (born_here n f) (cond (eqb i 0) (entry f) (rows (i - 1))) (rows i) ≡ row_from (born n f) i rows
row_born n i none rows = refl
row_born n i (some e) rows = go (eqb e.0 n)
  where
    go : (b : Bool) → cond b (cond (eqb i 0) (some e.1) (rows (i - 1))) (rows i) ≡ row_from (cond b (some e.1) none) i rows
    go true = refl
    go false = refl

-- the rows from a deed on
row_step : (k : Kind) (all : List D.Deed) (n : ℕ) (d : D.Deed) (ds : List D.Deed) (i : ℕ) → row_on k all n (d ∷ ds) i ≡ row_from (born_of k all n d) i (row_on k all (suc n) ds)
row_step k all n nothing ds i = refl
row_step k all n (clears j) ds i = refl
row_step k all n (puts j a) ds i = go (only j k)
  where
    go : (b : Bool) → cond b (cond (born_here n (know k a.key all).found_at) (cond (eqb i 0) (entry (know k a.key all).found_at) (row_on k all (suc n) ds (i - 1))) (row_on k all (suc n) ds i)) (row_on k all (suc n) ds i)
        ≡ row_from (cond b (born n (know k a.key all).found_at) none) i (row_on k all (suc n) ds)
    go true = row_born n i (know k a.key all).found_at (row_on k all (suc n) ds)
    go false = refl
row_step k all n (removes j x) ds i = refl

-- a row that was found is the first one from here
first_row : (m : List ℕ) (r : Put) (o : Option Seen) (i : ℕ) (rows : ℕ → Option Seen) → SeenIs m (Some r) o → i ≡ 0 → SeenIs m (Some r) (row_from o i rows)
first_row m r none i rows is z = absurd is
first_row m r (some a) i rows is z = subst⁻¹ (λ (b : Bool). SeenIs m (Some r) (cond b (some a) (rows (i - 1)))) (eq-eqb i 0 z) is

-- the row is one later than a row that was found
later_row : (m : List ℕ) (r : Put) (o : Option Seen) (i : ℕ) (rows : ℕ → Option Seen) → SeenIs m (Some r) o → i ≢ 0 → row_from o i rows ≡ rows (i - 1)
later_row m r none i rows is z = absurd is
later_row m r (some a) i rows is z = ap (λ (b : Bool). cond b (some a) (rows (i - 1))) (ne_eqb i 0 z)

-- no row was found
no_row : (m : List ℕ) (o : Option Seen) (i : ℕ) (rows : ℕ → Option Seen) → SeenIs m None o → row_from o i rows ≡ rows i
no_row m none i rows is = refl
no_row m (some a) i rows is = absurd is

-- the deeds that are left from the i-th on, in which the row still stands before others
pub record RowLeft (m : List ℕ) (count : ℕ) (k : Kind) (position : ℕ) (ds : List D.Deed) (here : Cursor) (before i : ℕ) : Type 0 where
  pub rest : List D.Deed
  pub follow : Follow m here rest
  pub many : length rest ≡ count - i
  pub same : row_on k ds i rest before ≡ row_on k ds 0 ds position

-- whatever deeds followed the first cursor
abbrev pub Rows : List ℕ → Cursor → (count : ℕ) → Kind → (position : ℕ) → Cursor → (before i : ℕ) → Type 0
Rows m c count k position here before i = (ds : List D.Deed) → Follow m c ds → length ds ≡ count → count < deeds_most → RowLeft m count k position ds here before i

module _ (m : List ℕ) (c : Cursor) (count : ℕ) (k : Kind) (position : ℕ) where
  -- what the first of those left comes to
  record Next (moved : Moved) (found : Maybe Put) (before i : ℕ) (ds : List D.Deed) : Type 0 where
    first : D.Deed
    rest : List D.Deed
    seen : SeenIs m found (born_of k ds i first)
    follow : Follow m moved.cursor rest
    many : length rest ≡ count - (i + 1)
    same : row_from (born_of k ds i first) before (row_on k ds (i + 1) rest) ≡ row_on k ds 0 ds position

  module _ (here : Cursor) (moved : Moved) (found : Maybe Put) (before i : ℕ) (h : i < count) (next : NextDeed m here moved) (is_born : BornHere m c count k i moved.deed found)
      (g : Rows m c count k position here before i) where
    -- where one is left
    first_left : (ds rest : List D.Deed) → Follow m c ds → length ds ≡ count → count < deeds_most → Follow m here rest → length rest ≡ count - i
        → row_on k ds i rest before ≡ row_on k ds 0 ds position → Next moved found before i ds
    first_left ds [] follow many small left few same = absurd (omega (arith, few))
    first_left ds (d ∷ rest) follow many small left few same = record {
      first = d;
      rest = rest;
      seen = is_born ds d follow many small (next d rest left).0;
      follow = (next d rest left).1;
      many = omega (arith, few);
      same = ap (λ (j : ℕ). row_from (born_of k ds i d) before (row_on k ds j rest)) (add-one i) ∙ sym (row_step k ds i d rest before) ∙ same;
    }

    -- one is, before the end
    next_left : (ds : List D.Deed) → Follow m c ds → length ds ≡ count → count < deeds_most → Next moved found before i ds
    next_left ds follow many small = let l = g ds follow many small in first_left ds l.rest follow many small l.follow l.many l.same

    module _ (r : Put) (there : found ≡ Some r) where
      -- the row is here
      pub rows_found : before ≡ 0 → RowOn m c count k position (Some r)
      rows_found z ds follow many small =
          let x = next_left ds follow many small in
          let seen : SeenIs m (Some r) (born_of k ds i x.first) = subst (λ (y : Maybe Put). SeenIs m y (born_of k ds i x.first)) there x.seen in
          subst (SeenIs m (Some r)) x.same (first_row m r (born_of k ds i x.first) before (row_on k ds (i + 1) x.rest) seen z)

      -- the row is later, after the one that is here
      pub rows_passed : before ≢ 0 → Rows m c count k position moved.cursor (before - 1) (i + 1)
      rows_passed z ds follow many small =
          let x = next_left ds follow many small in
          let seen : SeenIs m (Some r) (born_of k ds i x.first) = subst (λ (y : Maybe Put). SeenIs m y (born_of k ds i x.first)) there x.seen in
          record {
            rest = x.rest;
            follow = x.follow;
            many = x.many;
            same = sym (later_row m r (born_of k ds i x.first) before (row_on k ds (i + 1) x.rest) seen z) ∙ x.same;
          }

    -- no row is here
    pub rows_none : found ≡ None → Rows m c count k position moved.cursor before (i + 1)
    rows_none gone ds follow many small =
        let x = next_left ds follow many small in
        record {
          rest = x.rest;
          follow = x.follow;
          many = x.many;
          same = sym (no_row m (born_of k ds i x.first) before (row_on k ds (i + 1) x.rest) (subst (λ (y : Maybe Put). SeenIs m y (born_of k ds i x.first)) gone x.seen)) ∙ x.same;
        }

  -- ---- a row of any kind

  module _ (u found : Looked) (no_entry : u.found ≡ None) (never : u.often ≡ 0) (place : listed k ≡ false) (look : LookIs m c 0 count k position u found) where
    -- by place
    placed_as : (r : Maybe Put) → ((f : Option (ℕ × Seen)) → FoundIs (inside m) found.found f → SeenIs m r (entry f)) → RowIs m c count k position r
    placed_as r h ds follow many small =
        subst⁻¹ (λ (b : Bool). SeenIs m r (cond b (row_on k ds 0 ds position) (entry (know k position ds).found_at))) place
        (h (know k position ds).found_at (look_all (inside m) m c count k position u found ds no_entry never refl follow many small look).found_at)

    -- where none is found
    pub row_gone : found.found ≡ None → RowIs m c count k position None
    row_gone gone = placed_as None (λ f is. none_seen m f (subst (λ (x : Maybe Found). FoundIs (inside m) x f) gone is))

    -- and where one is
    pub row_placed : (r : Found) → found.found ≡ Some r → RowIs m c count k position (Some r.put)
    row_placed r there = placed_as (Some r.put) (λ f is. entry_seen m r f (subst (λ (x : Maybe Found). FoundIs (inside m) x f) there is))
