-- Parameters written one after another, from a cursor on. Assumes nothing.
use Rattle.lists.proofs.Kit.{ℕ, suc, ◌+◌, ◌-◌, ◌≤◌, ◌<◌, ◌≡◌, refl, sym, ap, ◌∙◌, subst, subst⁻¹, ◌≢◌, Option, none, some, List, [], ◌∷◌, ◌++◌, append_assoc, append-nil, add-one, arith, mid_of, length, get_or, take, drop, length-append, drop_of_length-le, take-nil}
use Rattle.writing.specs.Fields.{val}
use Rattle.tables.specs.declared.limits.Limits.{Limits}
use Rattle.tables.specs.Store.{Works}
use Rattle.tables.specs.Tables.{Tables}
use Rattle.export_write.specs.Writers.{Wrote}
use Rattle.export_write.proofs.PlainLaws.{plain_byte}
use Rattle.export_write.proofs.WroteLaws.{wrote_length, wrote_take, wrote_both, wrote_none, wrote_as}
use Rattle.reports.specs.declared.Asked.{Asked}
use Rattle.reports.specs.Asked.{asked}
use Rattle.reports.specs.Items.{Item, unknown, item_bytes, items_bytes, failed}
use Rattle.reports.specs.TableSlots.{slot_count, item_at, slot_item}
use Rattle.reports.specs.Types.{asked_by}
use Rattle.reports.proofs.Cursor.{from_here, here_end, here_empty, here_item}
use Rattle.reporting.specs.declared.message.Spot.{Spot}
use Rattle.reporting.specs.Plans.{from_type, from_types, items_from}
use Rattle.reporting.specs.Walks.{place_item, PlaceWritten}
use Rattle.reporting.specs.Written.{WroteSome, Puts, PutsFrom, from_place, PlacePut, TablePut, TypePut}
use Rattle.reporting.proofs.TableLaws.{slots_many, size_is}
use Rattle.reporting.proofs.PlanTurns.{PlaceIs, place_is, from_first, at_type}

-- ---- some, and then others

items_append : (a b : List Item) → items_bytes (a ++ b) ≡ items_bytes a ++ items_bytes b
items_append [] b = refl
items_append (i ∷ a) b = ap (λ (x : List ℕ). item_bytes i ++ x) (items_append a b) ∙ sym (append_assoc (item_bytes i) (items_bytes a) (items_bytes b))

module _ {here more : List Item} {count left at end : ℕ} {before after : List ℕ} (w : WroteSome here count more left at before after end) where
  -- what is left fits
  room_left : at + length (items_bytes (take count here)) ≤ length before → end + length (items_bytes (take left more)) ≤ length after
  room_left h =
      let e : length (items_bytes (take count here)) ≡ length (items_bytes w.done ++ items_bytes (take left more)) = ap length (ap items_bytes w.whole ∙ items_append w.done (take left more)) in
      omega (arith, e, length-append (items_bytes w.done) (items_bytes (take left more)), w.wrote.next, wrote_length (items_bytes w.done) at end before after w.wrote)

  -- two writings are one
  some_both : {last : List Item} {rest to : ℕ} {then : List ℕ} → WroteSome more left last rest end after then to → WroteSome here count last rest at before then to
  some_both {last} {rest} {to} {then} v = record {
    done = w.done ++ v.done;
    wrote = wrote_as (items_bytes w.done ++ items_bytes v.done) (items_bytes (w.done ++ v.done)) at to before then (sym (items_append w.done v.done))
        (wrote_both (items_bytes w.done) (items_bytes v.done) at end to before after then w.wrote v.wrote);
    whole = w.whole ∙ ap (λ (x : List Item). w.done ++ x) v.whole ∙ sym (append_assoc w.done v.done (take rest last));
  }

-- the same from `here` on and from `more` on
some_as : {here here' more more' : List Item} {count left at end : ℕ} {before after : List ℕ} → here ≡ here' → take left more ≡ take left more'
    → WroteSome here count more left at before after end → WroteSome here' count more' left at before after end
some_as {count = count} p q w = record { done = w.done; wrote = w.wrote; whole = sym (ap (take count) p) ∙ w.whole ∙ ap (λ (x : List Item). w.done ++ x) q }

-- nothing is written yet
pub puts_start : (here : List Item) (s : Spot) (b : List ℕ) → Puts here s here b b s
puts_start here s b h = record { done = []; wrote = wrote_none s.end b (omega arith); whole = refl }

pub puts_both : (a b c : List Item) (s r q : Spot) (x y z : List ℕ) → Puts a s b x y r → Puts b r c y z q → Puts a s c x z q
puts_both a b c s r q x y z f g h = let w = f h in some_both w (g (room_left w h))

-- ---- a place

module _ (lim : Limits) (a : Asked) (work : List ℕ) (s : Spot) (buffer scratch after : List ℕ) (size : ℕ) (l : s.place < slot_count lim a) (o : s.rank ≤ s.place) (long : 51 ≤ length scratch)
    (k : PlaceWritten lim a work s.place s.rank scratch after size) where
  at_place : (t : Tables) → Works lim t work → PlaceIs lim t a s.place s.rank size
  at_place t h = place_is lim t work h a s.place s.rank size l (size_is lim a work s.place s.rank scratch after size long k t h)

  -- an empty one
  pub put_empty : size ≡ 0 → PlacePut lim a work s buffer buffer (record { end = s.end; place = s.place + 1; rank = s.rank; left = s.left })
  put_empty z = record {
    next = refl;
    ranked = omega arith;
    puts = λ t h more room.
        let i = at_place t h in
        some_as refl (ap (take s.left) (here_empty lim t a s.place s.rank more i.there (i.empty z) ∙ ap (λ (n : ℕ). from_here lim t a n s.rank more) (sym (add-one s.place))))
        (puts_start (from_here lim t a s.place s.rank more) s buffer room);
  }

  -- a used one
  pub put_used : (u : List ℕ) (next : ℕ) → size ≢ 0 → 0 < s.left
      → (s.end + length (mid_of 0 (size - 0) after) ≤ length buffer → Wrote (mid_of 0 (size - 0) after) s.end buffer u next)
      → PlacePut lim a work s buffer u (record { end = next; place = s.place + 1; rank = s.rank + 1; left = s.left - 1 })
  put_used u next n low w = record {
    next = refl;
    ranked = omega arith;
    puts = λ t h more room. used t h more room;
  }
    where
      used : (t : Tables) (h : Works lim t work) (more : List Item)
          → Puts (from_here lim t a s.place s.rank more) s (from_here lim t a (s.place + 1) (s.rank + 1) more) buffer u (record { end = next; place = s.place + 1; rank = s.rank + 1; left = s.left - 1 })
      used t h more room =
          let i = at_place t h in
          let (x, e, d) = i.entry n in
          let it : Item = item_at a s.place s.rank x in
          let rest : List Item = from_here lim t a (suc s.place) (suc s.rank) more in
          let f : from_here lim t a s.place s.rank more ≡ it ∷ rest = here_item lim t a s.place s.rank more i.there x e in
          let m : suc (s.left - 1) ≡ s.left = omega arith in
          let g : take s.left (from_here lim t a s.place s.rank more) ≡ it ∷ take (s.left - 1) rest = ap (take s.left) f ∙ ap (λ (z : ℕ). take z (it ∷ rest)) (sym m) in
          let v : mid_of 0 (size - 0) after ≡ item_bytes it
          = ap (λ (z : ℕ). take z after) (let y : size - 0 ≡ size = omega arith in y) ∙ wrote_take (place_item lim t a s.place s.rank) 0 size scratch after (k.wrote t h long)
          ∙ ap (slot_item a s.place s.rank) e in
          let q : length (items_bytes (take s.left (from_here lim t a s.place s.rank more))) ≡ length (item_bytes it ++ items_bytes (take (s.left - 1) rest)) = ap (λ (z : List Item). length (items_bytes z)) g in
          record {
            done = it ∷ [];
            wrote = wrote_as (mid_of 0 (size - 0) after) (items_bytes (it ∷ [])) s.end next buffer u (v ∙ sym (append-nil (item_bytes it)))
                (w (omega (arith, room, q, ap length v, length-append (item_bytes it) (items_bytes (take (s.left - 1) rest)))));
            whole = g ∙ (λ y. it ∷ take (s.left - 1) (from_here lim t a (sym (add-one s.place) y) (sym (add-one s.rank) y) more));
          }

-- ---- the places of a table

module _ (lim : Limits) (a : Asked) (work : List ℕ) (s : Spot) (before : List ℕ) where
  -- some of its places are passed
  abbrev pub Passing : (buffer : List ℕ) → Spot → Type 0
  Passing buffer r = PutsFrom lim work (from_place lim a s) (from_place lim a r) s before buffer r

  pub passing_start : Passing before s
  passing_start t h more = puts_start (from_here lim t a s.place s.rank more) s before

  pub passing_more : (buffer after : List ℕ) (r q : Spot) → Passing buffer r → PlacePut lim a work r buffer after q → Passing after q
  passing_more buffer after r q p k t h more =
      puts_both (from_here lim t a s.place s.rank more) (from_here lim t a r.place r.rank more) (from_here lim t a q.place q.rank more) s r q before buffer after
      (p t h more) (k.puts t h more)

  -- nothing is left to write
  pub passing_full : (buffer : List ℕ) (r : Spot) → Passing buffer r → r.left ≡ 0 → TablePut lim a work s before buffer (record { end = r.end; place = 0; rank = 0; left = 0 })
  passing_full buffer r p z = record {
    first = (refl, refl);
    puts = λ t h more room.
        some_as refl refl (subst (λ (n : ℕ). WroteSome (from_here lim t a s.place s.rank more) s.left (from_here lim t a r.place r.rank more) n s.end before buffer r.end) z (p t h more room));
  }

  -- all are passed
  pub passing_end : (buffer : List ℕ) (r : Spot) → Passing buffer r → slot_count lim a ≤ r.place → TablePut lim a work s before buffer (record { end = r.end; place = 0; rank = 0; left = r.left })
  passing_end buffer r p l = record {
    first = (refl, refl);
    puts = λ t h more room. some_as refl (ap (take r.left) (here_end lim t a r.place r.rank more (omega (arith, slots_many lim t h.0 a)))) (p t h more room);
  }

-- ---- a type

-- the bytes of an error
error_is : (b : ℕ) → b < 256 → items_bytes (unknown b ∷ []) ≡ b ∷ 0x83 ∷ []
error_is b l = append-nil (item_bytes (unknown b)) ∙ plain_byte b (val 8 b ∷ []) failed refl (omega arith) l (1, refl) (omega arith, (omega arith, tt))

module _ (lim : Limits) (b : ℕ) (work : List ℕ) (s : Spot) (before after : List ℕ) where
  -- a known one is its table
  pub type_put : (a : Asked) (r : Spot) → asked_by b ≡ some a → TablePut lim a work s before after r → TypePut lim b work s before after r
  type_put a r e k = record {
    first = k.first;
    puts = λ t h more.
        subst⁻¹ (λ (o : Option Asked). Puts (from_type lim t b o s.place s.rank more) s more before after r) e (k.puts t h more);
  }

  -- an unknown one is an error, and nothing is left to write
  pub error_put : (end left : ℕ) → left ≡ 0 → asked_by b ≡ none → b < 256 → 0 < s.left
      → (s.end + length (b ∷ 0x83 ∷ []) ≤ length before → Wrote (b ∷ 0x83 ∷ []) s.end before after end)
      → TypePut lim b work s before after (record { end = end; place = 0; rank = 0; left = left })
  error_put end left z e l low w = record {
    first = (refl, refl);
    puts = λ t h more. subst⁻¹ (λ (o : Option Asked). Puts (from_type lim t b o s.place s.rank more) s more before after (record { end = end; place = 0; rank = 0; left = left })) e (error more);
  }
    where
      error : (more : List Item) → Puts (unknown b ∷ []) s more before after (record { end = end; place = 0; rank = 0; left = left })
      error more room =
          let m : suc (s.left - 1) ≡ s.left = omega arith in
          let g : take s.left (unknown b ∷ []) ≡ unknown b ∷ [] = ap (λ (z : ℕ). take z (unknown b ∷ [])) (sym m) ∙ ap (λ (x : List Item). unknown b ∷ x) (take-nil (s.left - 1)) in
          record {
            done = unknown b ∷ [];
            wrote = wrote_as (b ∷ 0x83 ∷ []) (items_bytes (unknown b ∷ [])) s.end end before after (sym (error_is b l))
                (w (omega (arith, room, ap (λ (z : List Item). length (items_bytes z)) g)));
            whole = g ∙ ap (λ (n : ℕ). unknown b ∷ take n more) (sym z);
          }

-- ---- the types

module _ (lim : Limits) (types work : List ℕ) (first : ℕ) (s : Spot) (before : List ℕ) where
  -- the parameters of a message
  abbrev message : Tables → List Item
  message t = items_from lim t types (record { ask = first; place = s.place; rank = s.rank })

  -- the types before this one are passed
  abbrev pub Putting : (ask : ℕ) → (buffer : List ℕ) → Spot → Type 0
  Putting ask buffer r = (t : Tables) → Works lim t work → Puts (message t) s (items_from lim t types (record { ask = ask; place = r.place; rank = r.rank })) before buffer r

  pub putting_start : Putting first before s
  putting_start t h = puts_start (message t) s before

  pub putting_more : (ask : ℕ) (buffer after : List ℕ) (r q : Spot) → ask < length types → Putting ask buffer r → TypePut lim (get_or types ask 0) work r buffer after q → Putting (ask + 1) after q
  putting_more ask buffer after r q l p k t h room =
      let more : List Item = asked t (drop (suc ask) types) in
      let v = p t h room in
      let e : items_from lim t types (record { ask = ask + 1; place = q.place; rank = q.rank }) ≡ more
      = (λ y. from_types lim t (drop (add-one ask y) types) (k.first.0 y) (k.first.1 y)) ∙ from_first lim t h.0 (drop (suc ask) types) in
      some_both v (some_as (sym (at_type lim t types ask r.place r.rank l)) (ap (take q.left) (sym e))
      (k.puts t h more (subst (λ (x : List Item). r.end + length (items_bytes (take r.left x)) ≤ length buffer) (at_type lim t types ask r.place r.rank l) (room_left v room))))

  -- all of them are written
  abbrev Done : (buffer : List ℕ) → ℕ → Type 0
  Done buffer end = (t : Tables) → Works lim t work → s.end + length (items_bytes (take s.left (message t))) ≤ length before
      → Wrote (items_bytes (take s.left (message t))) s.end before buffer end

  putting_done : (ask : ℕ) (buffer : List ℕ) (r : Spot) → Putting ask buffer r → ((t : Tables) → take r.left (items_from lim t types (record { ask = ask; place = r.place; rank = r.rank })) ≡ [])
      → Done buffer r.end
  putting_done ask buffer r p z t h room =
      let v = p t h room in
      let e : take s.left (message t) ≡ v.done = v.whole ∙ ap (λ (x : List Item). v.done ++ x) (z t) ∙ append-nil v.done in
      wrote_as (items_bytes v.done) (items_bytes (take s.left (message t))) s.end r.end before buffer (sym (ap items_bytes e)) v.wrote

  -- none is left to write
  pub putting_full : (ask : ℕ) (buffer : List ℕ) (r : Spot) → Putting ask buffer r → r.left ≡ 0 → Done buffer r.end
  putting_full ask buffer r p z = putting_done ask buffer r p (λ t. ap (λ (n : ℕ). take n (items_from lim t types (record { ask = ask; place = r.place; rank = r.rank }))) z)

  -- all types are passed
  pub putting_end : (ask : ℕ) (buffer : List ℕ) (r : Spot) → Putting ask buffer r → length types ≤ ask → Done buffer r.end
  putting_end ask buffer r p l =
      putting_done ask buffer r p (λ t. ap (λ (x : List ℕ). take r.left (from_types lim t x r.place r.rank)) (drop_of_length-le types l) ∙ take-nil r.left)
