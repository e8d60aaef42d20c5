-- A list table with its count: where the first empty slot stands says what the count has to be. Assumes nothing.
use Rattle.lists.proofs.Kit.{◌≡◌, refl, sym, ap, ap₂, ◌∙◌, subst, Bool, true, false, not, ◌↔◌, List, [], ◌∷◌, ◌++◌, ℕ, ◌+◌, ◌-◌, ◌*◌, ◌/◌, ◌≤◌, ◌<◌, arith, mid_of, get_or, length, take, drop, take-append-drop, drop-drop, eqb, eqb-true, eq-eqb}
use Rattle.lists.specs.Bytes.{Bytes}
use Rattle.slots.specs.Slots.{u16, zeros?, Found, Listed}
use Rattle.slots.proofs.Keys.{used_at}
use Rattle.store_check.specs.declared.checks_tables.Table.{Table}
use Rattle.store_check.specs.declared.forms.Form.{Form}
use Rattle.store_check.specs.Checks.{EntryIn, OkIn, width_in, bytes_in, PlacesIn, ListIn, CountedIn}
use Rattle.tables.specs.Layout.{count_size}
use Rattle.tables.proofs.AnswerLaws.{not_said, was_said}
use Rattle.store_check.proofs.CheckLaws.{rest_is}
use Rattle.store_check.proofs.FrontLaws.{list_places}
use Rattle.store_check.proofs.TableChecks.{wide_in, long_in, shown_in, list_is}
use native.Mathlib.Nat.{mul-div_cancel}

-- ---- the first two bytes

first_two : (s : List ℕ) → count_size ≤ length s → take count_size s ≡ get_or s 0 0 ∷ get_or s 1 0 ∷ []
first_two [] h = absurd (omega arith)
first_two (a ∷ []) h = absurd (omega arith)
first_two (a ∷ b ∷ s) h = refl

-- they are the count n where the number that they make is n
pub count_says : (s : List ℕ) → count_size ≤ length s → Bytes s → (n p : ℕ) → p ≡ get_or s 0 0 * 256 + get_or s 1 0 → (eqb p n ≡ true) ↔ (take count_size s ≡ u16 n)
count_says s h b n p e = (
  λ t. first_two s h ∙ ap₂ (λ (x y : ℕ). x ∷ y ∷ []) (omega (arith, e, eqb-true p n t, b 0, b 1)) (omega (arith, e, eqb-true p n t, b 0, b 1)),
  λ t.
      let f = sym (first_two s h) ∙ t in
      eq-eqb p n (omega (arith, e, ap (λ (l : List ℕ). get_or l 0 0) f, ap (λ (l : List ℕ). get_or l 1 0) f)),
)

-- ---- the count and the entries

module _ (f : Form) (t : Table) (n : ℕ) (s : List ℕ) (r : ℕ) (found : Found (0 < width_in f t) zeros? (width_in f t) (drop count_size s) r) where
  -- the entries stand before the first empty slot
  entries_before : (xs : List (EntryIn f t)) → Listed (OkIn f t) (width_in f t) (bytes_in f t) n xs (drop count_size s) → r / width_in f t ≡ length xs
  entries_before xs x =
      ap (λ (i : ℕ). i / width_in f t) (used_at (OkIn f t) (width_in f t) (bytes_in f t) (long_in f t) (shown_in f t) (wide_in f t) n xs (drop count_size s) x r found) ∙ mul-div_cancel (length xs) (wide_in f t)

  -- so a list table is one with its count where the first bytes say so many
  counted_is : ListIn f t n (drop count_size s) → (b : Bool) → (b ≡ true) ↔ (take count_size s ≡ u16 (r / width_in f t)) → (b ≡ true) ↔ CountedIn f t n s
  counted_is x b says = (
    λ e.
        record {
          entry = x.entries;
          holds = (x.listed.few, x.listed.each);
          bytes = sym (take-append-drop count_size s) ∙ ap₂ (λ (u v : List ℕ). u ++ v) (says.0 e ∙ ap u16 (entries_before x.entries x.listed)) x.listed.bytes;
        },
    λ y. says.1 (ap (take count_size) y.bytes ∙ ap u16 (sym (entries_before y.entry (record { few = y.holds.0; each = y.holds.1; bytes = ap (drop count_size) y.bytes })))),
  )

-- a list table with its count has the list behind it
counted_list : (f : Form) (t : Table) (n : ℕ) (s : List ℕ) → CountedIn f t n s → ListIn f t n (drop count_size s)
counted_list f t n s y = record { entries = y.entry; listed = record { few = y.holds.0; each = y.holds.1; bytes = ap (drop count_size) y.bytes } }

-- ---- as code asks

module _ (f : Form) (t : Table) (n : ℕ) (s : List ℕ) (big : count_size ≤ length s) (a : Bool) (told : (a ≡ true) ↔ PlacesIn f t n (mid_of count_size (length s - count_size) s)) where
  -- the bytes behind the count, as they are read
  slots_read : mid_of count_size (length s - count_size) s ≡ drop count_size s
  slots_read = rest_is s count_size (length s - count_size) (omega arith)

  -- NO-PLACES: slots that are none of the table's have no right count
  pub no_places : not a ≡ true → CountedIn f t n s → ⊥
  no_places y x =
      not_said a told y (subst (PlacesIn f t n) (sym slots_read) (list_places (OkIn f t) (width_in f t) (bytes_in f t) n (drop count_size s) (counted_list f t n s x)))

  module _ (w : ℕ) (e : w ≡ width_in f t) (y : not a ≡ false) (r : ℕ) (found : Found (0 < w) zeros? w (mid_of count_size (length s - count_size) s) r) (b : Bool) (z : b ≡ zeros? (mid_of (count_size + r) (length s - (count_size + r)) s)) where
    found_there : Found (0 < width_in f t) zeros? (width_in f t) (drop count_size s) r
    found_there = subst (λ (v : ℕ). Found (0 < v) zeros? v (drop count_size s) r) e (subst (λ (x : List ℕ). Found (0 < w) zeros? w x r) slots_read found)

    -- zeros behind the entries decide whether they are a list
    list_there : (b ≡ true) ↔ ListIn f t n (drop count_size s)
    list_there =
        list_is f t n (drop count_size s) r found_there (subst (PlacesIn f t n) slots_read (was_said a told y)) b
        (z ∙ ap zeros? (rest_is s (count_size + r) (length s - (count_size + r)) (omega arith) ∙ sym (drop-drop r count_size s)))

    -- NO-LIST: where they are none there is no right count
    pub no_list : not b ≡ true → CountedIn f t n s → ⊥
    no_list k x = not_said b list_there k (counted_list f t n s x)

    -- COUNTED-TOLD: else the count decides
    pub counted_told : not b ≡ false → (c : Bool) → (c ≡ true) ↔ (take count_size s ≡ u16 (r / w)) → (c ≡ true) ↔ CountedIn f t n s
    counted_told k c says =
        counted_is f t n s r found_there (was_said b list_there k) c (subst (λ (v : ℕ). (c ≡ true) ↔ (take count_size s ≡ u16 (r / v))) e says)
