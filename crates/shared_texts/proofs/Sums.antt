-- Texts in canonical order: which stand before a row's, and what the sum is after one table changed. Assumes nothing.
use Rattle.lists.proofs.Kit.{ℕ, zero, suc, ◌+◌, ◌-◌, ◌*◌, ◌≤◌, ◌<◌, ◌≡◌, refl, ap, ◌∙◌, List, [], ◌∷◌, ◌++◌, map, map-append, append_assoc, Option, none, some, option_none_ne_some, not-suc-le-zero, le_of_suc-le-suc, arith, length, take, drop, get_or, set}
use Rattle.slots.specs.Slots.{sum}
use Rattle.writing.specs.declared.Kind.{Kind}
use Rattle.writing.specs.declared.Kind.TheVariants.{GroupContacts, IndividualContacts, Lines, Key, QuickTexts, Home, Channels, System, StatusTexts, Group, Individual, LineSlot, Last}
use Rattle.writing.specs.Settings.{Text}
use Rattle.tables.specs.Owns.{Own, own, put_own}
use Rattle.tables.specs.Tables.{Tables}
use Rattle.tables.specs.Texts.{text_kinds, text_tables, present, texts_in, units_of, text_sum, table_sum, text_size, units_before}
use Rattle.shared_texts.proofs.RegionLaws.{sum_append}

-- the units of texts, and then of others
pub units_append : (xs ys : List Text) → units_of (xs ++ ys) ≡ units_of xs + units_of ys
units_append xs ys = ap sum (map-append length xs ys) ∙ sum_append (map length xs) (map length ys)

-- ---- the texts before a row's

-- in its table
present_split : (os : List (Option Text)) (r : ℕ) (us : Text) → get_or os r none ≡ some us → present os ≡ present (take r os) ++ (us ∷ present (drop (suc r) os))
present_split [] r us e = absurd (option_none_ne_some us e)
present_split (o ∷ os) zero us e = ap (λ (x : Option Text). present (x ∷ os)) e
present_split (none ∷ os) (suc r) us e = present_split os r us e
present_split (some v ∷ os) (suc r) us e = ap (λ (l : List Text). v ∷ l) (present_split os r us e)

-- with it
pub present_more : (os : List (Option Text)) (r : ℕ) (us : Text) → get_or os r none ≡ some us → units_of (present (take (suc r) os)) ≡ units_of (present (take r os)) + length us
present_more [] r us e = absurd (option_none_ne_some us e)
present_more (o ∷ os) zero us e = let q : units_of (present (o ∷ [])) ≡ units_of (present (some us ∷ [])) = ap (λ (x : Option Text). units_of (present (x ∷ []))) e in omega arith
present_more (none ∷ os) (suc r) us e = present_more os r us e
present_more (some v ∷ os) (suc r) us e = omega (arith, present_more os r us e)

-- a row that is there is one of the table's
pub row_there : (os : List (Option Text)) (r : ℕ) (us : Text) → get_or os r none ≡ some us → r < length os
row_there [] r us e = absurd (option_none_ne_some us e)
row_there (o ∷ os) zero us e = omega arith
row_there (o ∷ os) (suc r) us e = omega (arith, row_there os r us e)

-- what stands behind the text of row r of table k
abbrev pub texts_behind : List (List (Option Text)) → ℕ → ℕ → List Text
texts_behind tables k r = present (drop (suc r) (get_or tables k [])) ++ texts_in (drop (suc k) tables)

-- ROW-SPLIT: in all tables
pub row_split : (tables : List (List (Option Text))) (k r : ℕ) (us : Text) → get_or (get_or tables k []) r none ≡ some us
    → texts_in tables ≡ (texts_in (take k tables) ++ present (take r (get_or tables k []))) ++ (us ∷ texts_behind tables k r)
row_split [] k r us e = absurd (option_none_ne_some us e)
row_split (os ∷ tables) zero r us e = ap (λ (l : List Text). l ++ texts_in tables) (present_split os r us e) ∙ append_assoc (present (take r os)) (us ∷ present (drop (suc r) os)) (texts_in tables)
row_split (os ∷ tables) (suc k) r us e = ap (λ (l : List Text). present os ++ l) (row_split tables k r us e) ∙ simp append_assoc

-- their units
pub before_units : (tables : List (List (Option Text))) (k r : ℕ) → units_of (texts_in (take k tables) ++ present (take r (get_or tables k []))) ≡ units_before tables k r
before_units tables k r = units_append (texts_in (take k tables)) (present (take r (get_or tables k [])))

-- ---- one table changed

-- the units of all tables but table k, and its own
units_set : (tables : List (List (Option Text))) (k : ℕ) (x : List (Option Text)) → k < length tables
    → units_of (texts_in (set tables k x)) + units_of (present (get_or tables k [])) ≡ units_of (texts_in tables) + units_of (present x)
units_set [] k x h = absurd (not-suc-le-zero h)
units_set (os ∷ tables) zero x h = omega (arith, units_append (present x) (texts_in tables), units_append (present os) (texts_in tables))
units_set (os ∷ tables) (suc k) x h =
    omega (arith, units_append (present os) (texts_in (set tables k x)), units_append (present os) (texts_in tables), units_set tables k x (le_of_suc-le-suc h))

-- a table's texts are among all
units_part : (tables : List (List (Option Text))) (k : ℕ) → units_of (present (get_or tables k [])) ≤ units_of (texts_in tables)
units_part [] k = omega arith
units_part (os ∷ tables) zero = omega (arith, units_append (present os) (texts_in tables))
units_part (os ∷ tables) (suc k) = omega (arith, units_append (present os) (texts_in tables), units_part tables k)

-- SUM-AFTER: the sum after table k changed is the sum before, less that table's texts before, with its texts after
pub sum_after : (t u : Tables) (k : ℕ) (x : List (Option Text)) → k < 8 → text_tables u ≡ set (text_tables t) k x → text_sum u ≡ text_sum t - table_sum (get_or (text_tables t) k []) + table_sum x
sum_after t u k x h e =
    let a = ap (λ (tables : List (List (Option Text))). units_of (texts_in tables)) e in
    omega (arith, a, units_set (text_tables t) k x h, units_part (text_tables t) k)

-- SUM-PUT: by kind; a table without texts leaves the sum as it is
pub sum_put : (k : Kind) (t : Tables) (x : Own k) → text_sum (put_own k t x) ≡ text_sum t - text_size k (own k t) + text_size k x
sum_put QuickTexts t x = sum_after t (put_own QuickTexts t x) 0 _ (omega arith) refl
sum_put StatusTexts t x = sum_after t (put_own StatusTexts t x) 1 _ (omega arith) refl
sum_put Group t x = sum_after t (put_own Group t x) 2 _ (omega arith) refl
sum_put Individual t x = sum_after t (put_own Individual t x) 3 _ (omega arith) refl
sum_put LineSlot t x = sum_after t (put_own LineSlot t x) 4 _ (omega arith) refl
sum_put GroupContacts t x = sum_after t (put_own GroupContacts t x) 5 _ (omega arith) refl
sum_put IndividualContacts t x = sum_after t (put_own IndividualContacts t x) 6 _ (omega arith) refl
sum_put Lines t x = sum_after t (put_own Lines t x) 7 _ (omega arith) refl
sum_put Key t x = omega arith
sum_put Home t x = omega arith
sum_put Channels t x = omega arith
sum_put System t x = omega arith
sum_put Last t x = omega arith

-- SIZE-PART: what a table's texts take is part of the sum
pub size_part : (k : Kind) (t : Tables) → text_size k (own k t) ≤ text_sum t
size_part QuickTexts t = omega (arith, units_part (text_tables t) 0)
size_part StatusTexts t = omega (arith, units_part (text_tables t) 1)
size_part Group t = omega (arith, units_part (text_tables t) 2)
size_part Individual t = omega (arith, units_part (text_tables t) 3)
size_part LineSlot t = omega (arith, units_part (text_tables t) 4)
size_part GroupContacts t = omega (arith, units_part (text_tables t) 5)
size_part IndividualContacts t = omega (arith, units_part (text_tables t) 6)
size_part Lines t = omega (arith, units_part (text_tables t) 7)
size_part Key t = omega arith
size_part Home t = omega arith
size_part Channels t = omega arith
size_part System t = omega arith
size_part Last t = omega arith

-- SUM-STAYS: the sum stays where the texts of the table that was put take as much
pub sum_stays : (k : Kind) (t : Tables) (x : Own k) → text_size k x ≡ text_size k (own k t) → text_sum (put_own k t x) ≡ text_sum t
sum_stays k t x e = omega (arith, sum_put k t x, size_part k t)

-- SUM-TABLES: the sum is that of the tables' sums
pub sum_tables : (tables : List (List (Option Text))) → 2 * units_of (texts_in tables) ≡ sum (map table_sum tables)
sum_tables [] = refl
sum_tables (os ∷ tables) = omega (arith, units_append (present os) (texts_in tables), sum_tables tables)

-- SUM-KINDS: kind by kind
pub sum_kinds : (t : Tables) → text_sum t ≡ sum (map (λ k. text_size k (own k t)) text_kinds)
sum_kinds t = sum_tables (text_tables t)
