-- Lists of entries with keys of their own, in both forms: contacts, whose slots are searched, and lines, whose order is checked. Assumes nothing.
use Rattle.lists.proofs.Kit.{◌≡◌, refl, sym, ap, ap₂, ◌∙◌, subst, Bool, true, false, ◌↔◌, iff_trans, List, [], ◌∷◌, ◌++◌, map, ℕ, zero, suc, ◌+◌, ◌*◌, ◌-◌, ◌≤◌, arith, mid_of, length, length-map, drop, take, length-drop, replicate}
use Rattle.lists.proofs.Every.{all_map}
use Rattle.slots.specs.Slots.{flat, pad, slot, places, front, zeros?, u24}
use Rattle.slots.proofs.Numbers.{u24_one}
use Rattle.counted_lists.specs.Counted.{Counted, Distinct, Told}
use Rattle.counted_lists.proofs.EntryLaws.{entries_bytes, entries_made}
use Rattle.orders.specs.OrderParts.{Shaped, InOrder, order_bytes}
use Rattle.orders.specs.OrderedLists.{slot_key, OrderedList}
use Rattle.orders.proofs.ListLaws.{list_counted, ordered_checked}
use Rattle.tables.specs.declared.members.Members.{Members}
use Rattle.tables.specs.Layout.{counted, count_size, line_key_at, line_key_size, address_at, address_size}
use Rattle.tables.proofs.EntryCodes.{member_keyed}
use Rattle.tables.proofs.OrderLaws.{distinct_made}
use Rattle.store_check.specs.declared.checks_tables.Table.TheVariants.{Members as Of, Lines}
use Rattle.store_check.specs.declared.forms.Form.{Form}
use Rattle.store_check.specs.declared.forms.Form.TheVariants.{Placed, Shared}
use Rattle.store_check.specs.Checks.{NamedIn, NamedIs, named_in, named_key, LineIn, LineIs, line_in, width_in, CountedIn, Filled, ContactsOf, LinesIs, LinesOf}
use Rattle.store_check.proofs.CheckLaws.{rest_is}
use Rattle.store_check.proofs.LineKeys.{keys_apart, order_kept}
use Rattle.store_check.proofs.TableChecks.{wide_in, long_in, shown_in}

-- ---- contacts

-- the slots of entries, filled up, are their places
front_slots : {A : Type 0} (w : ℕ) (f : A → List ℕ) (n : ℕ) (ls : List A) → map (slot w f) (front n ls) ≡ pad (replicate w 0) n (map f ls)
front_slots w f zero ls = refl
front_slots w f (suc n) [] = ap (λ (l : List (List ℕ)). replicate w 0 ∷ l) (front_slots w f n [])
front_slots w f (suc n) (a ∷ ls) = ap (λ (l : List (List ℕ)). f a ∷ l) (front_slots w f n ls)

-- a contact's address stands in its slot
address_stands : (f : Form) (w : Members) (a : NamedIn f w) → slot_key address_at address_size (named_in f w a) ≡ u24 (named_key f w a)
address_stands Placed w a = (member_keyed w).stands a
address_stands Shared w h = refl

module _ (f : Form) (w : Members) where
  -- and its bytes tell it
  contact_tells : (a b : NamedIn f w) → NamedIs f w a → NamedIs f w b → (slot_key address_at address_size (named_in f w a) ≡ slot_key address_at address_size (named_in f w b)) ↔ (named_key f w a ≡ named_key f w b)
  contact_tells a b p q =
      let s = address_stands f w in
      (λ e. u24_one (named_key f w a) (named_key f w b) (sym (s a) ∙ e ∙ s b), λ e. s a ∙ ap u24 e ∙ sym (s b))

  module _ (n : ℕ) (s : List ℕ) where
    -- contacts with addresses of their own have their count
    pub contacts_counted : ContactsOf f w n s → CountedIn f (Of w) n s
    contacts_counted x = record { entry = x.entry; holds = x.holds.0; bytes = x.bytes }

    -- their slots stand behind the count
    slots_there : (x : CountedIn f (Of w) n s) → Filled (width_in f (Of w)) n (map (named_in f w) x.entry) (mid_of count_size (length s - count_size) s)
    slots_there x = record {
      few = omega (arith, x.holds.0, length-map x.entry (named_in f w));
      each = all_map (NamedIs f w) (λ y. (length y ≡ width_in f (Of w)) × (zeros? y ≡ false)) (named_in f w) (λ a p. (long_in f (Of w) a, shown_in f (Of w) a p)) x.entry x.holds.1;
      bytes = rest_is s count_size (length s - count_size) (omega arith) ∙ ap (drop count_size) x.bytes ∙ ap flat (front_slots (width_in f (Of w)) (named_in f w) n x.entry);
    }

    module _ (v : ℕ) (e : v ≡ width_in f (Of w)) (b : Bool) (d : (n : ℕ) (xs : List (List ℕ)) → Filled v n xs (mid_of count_size (length s - count_size) s) → (b ≡ true) ↔ Distinct (slot_key address_at address_size) xs) where
      -- the test of the slots is one of the contacts
      told : (x : CountedIn f (Of w) n s) → (b ≡ true) ↔ Distinct (named_key f w) x.entry
      told x =
          let xs = map (named_in f w) x.entry in
          iff_trans (d n xs (subst (λ (i : ℕ). Filled i n xs (mid_of count_size (length s - count_size) s)) (sym e) (slots_there x)))
          (distinct_made (NamedIs f w) (named_in f w) (slot_key address_at address_size) (named_key f w) contact_tells x.entry x.holds.1)

      -- so it decides whether their addresses are their own
      pub contacts_decided : CountedIn f (Of w) n s → (b ≡ true) ↔ ContactsOf f w n s
      unfolding contacts_counted
      contacts_decided x = (λ e. record { entry = x.entry; holds = (x.holds, (told x).0 e); bytes = x.bytes }, λ y. (told (contacts_counted y)).1 y.holds.1)

-- ---- lines

module _ (f : Form) (n : ℕ) where
  -- their slots' width
  abbrev w : ℕ
  w = width_in f Lines

  -- lines in their places are a list of slots with its count
  lines_slots : (ls : List (LineIn f)) → LinesIs f n ls → n ≤ 255 → Counted w n (map (line_in f) ls) (counted w (line_in f) n ls)
  lines_slots ls p small =
      (entries_made (LineIs f) w (line_in f) n ls (counted w (line_in f) n ls) (places w (line_in f) (front n ls)) (wide_in f Lines) (omega arith) (long_in f Lines) (record { few = p.0.0; each = p.0.1; bytes = refl }) refl).counted

  module _ (s : List ℕ) (small : n ≤ 255) (size : length s ≡ count_size + n * w + n) where
    -- the bytes before the order, as they are read
    abbrev table : List ℕ
    table = mid_of 0 (length s - n - 0) s

    -- and those behind the count
    abbrev rest : List ℕ
    rest = mid_of count_size (length s - count_size) s

    -- the lines of the placed-layout are a list with its order
    list_of : (y : LinesOf f n s) → OrderedList w line_key_at line_key_size n (map (line_in f) y.entry) s
    list_of y =
        let ls = y.entry in
        record {
          inside = omega arith;
          small = small;
          distinct = (keys_apart f ls y.holds.0.1).1 y.holds.1;
          list = counted w (line_in f) n ls;
          counted = lines_slots ls y.holds small;
          bytes = y.bytes ∙ ap (λ (ps : List ℕ). counted w (line_in f) n ls ++ order_bytes n ps) (sym (order_kept f ls y.holds.0.1));
        }

    slots_of : (y : LinesOf f n s) → Counted w n (map (line_in f) y.entry) table
    slots_of y = list_counted w line_key_at line_key_size n (map (line_in f) y.entry) s (list_of y) (length s - n) refl

    -- which has its count
    pub lines_counted : LinesOf f n s → CountedIn f Lines n table
    lines_counted y = record { entry = y.entry; holds = y.holds.0; bytes = entries_bytes (LineIs f) w (line_in f) n y.entry table (record { each = y.holds.0.1; counted = slots_of y }) }

    -- there is room for n slots and their order
    rest_shaped : Shaped w line_key_at line_key_size n rest
    rest_shaped =
        let e : length rest ≡ length s - count_size = ap length (rest_is s count_size (length s - count_size) (omega arith)) ∙ length-drop count_size s in
        record { wide = wide_in f Lines; inside = omega arith; size = omega arith; few = small }

    module _ (held : ℕ) (was : Told table held) (v : ℕ) (e : v ≡ width_in f Lines) (b : Bool) (is : Shaped v line_key_at line_key_size n rest → (b ≡ true) ↔ InOrder v line_key_at line_key_size n held rest) where
      -- the check of the order is one of the slots
      checked : (xs : List (List ℕ)) → Counted w n xs table → (b ≡ true) ↔ OrderedList w line_key_at line_key_size n xs s
      checked xs c =
          let k : length s - n - 0 ≡ n * w + 2 = omega arith in
          let t = subst (λ (i : ℕ). Shaped i line_key_at line_key_size n rest → (b ≡ true) ↔ InOrder i line_key_at line_key_size n held rest) e is in
          iff_trans (subst (λ (i : ℕ). (b ≡ true) ↔ InOrder w line_key_at line_key_size n i rest) (was.says w n xs c) (t rest_shaped))
          (ordered_checked w line_key_at line_key_size n xs s (omega arith) small (omega arith) (subst (λ (i : ℕ). Counted w n xs (take i s)) k c))

      -- so it decides whether lines with their count are lines with their order
      pub lines_decided : CountedIn f Lines n table → (b ≡ true) ↔ LinesOf f n s
      lines_decided x = (
        λ y.
            let ls = x.entry in
            let ok = x.holds.1 in
            let c = (entries_made (LineIs f) w (line_in f) n ls table (places w (line_in f) (front n ls)) (wide_in f Lines) (omega arith) (long_in f Lines) (record { few = x.holds.0; each = ok; bytes = refl }) x.bytes).counted in
            let g = (checked (map (line_in f) ls) c).0 y in
            record {
              entry = ls;
              holds = (x.holds, (keys_apart f ls ok).0 g.distinct);
              bytes = g.bytes
                  ∙ ap₂ (λ (x ps : List ℕ). x ++ order_bytes n ps) (entries_bytes (LineIs f) w (line_in f) n ls g.list (record { each = ok; counted = g.counted })) (order_kept f ls ok);
            },
        λ y. (checked (map (line_in f) y.entry) (slots_of y)).1 (list_of y),
      )
