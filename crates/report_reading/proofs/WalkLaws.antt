-- The parameters of a message, one after the other: what a turn of the walk knows. Assumes nothing.
use Rattle.std.specs.Prelude.{Option as Maybe, Some, None}
use Rattle.lists.proofs.Kit.{ℕ, suc, ◌+◌, ◌-◌, ◌≤◌, ◌<◌, ◌≡◌, refl, sym, ap, ◌∙◌, subst, subst⁻¹, Bool, true, false, eqb, eqb-true, eqb-false, List, [], ◌∷◌, ◌++◌, arith, length, drop, length-drop, drop_of_length-le}
use Rattle.lists.specs.Every.{All}
use Rattle.lists.proofs.Seqs.{cut}
use Rattle.read_fields.specs.Places.{FieldsAt}
use Rattle.read_carrier.proofs.CarrierLaws.{part_rest}
use Rattle.reports.specs.Items.{Item, item_fields, ItemsWritten, InItem}
use Rattle.reports.specs.Reports.{ErrorLast}
use Rattle.reports.proofs.ItemOne.{item_one}
use Rattle.report_reading.specs.Reading.{ReadAt}
use Rattle.report_reading.specs.Readers.{Standing, WalkIs, Misplaced, error?}
use Rattle.report_reading.specs.declared.items.Item.{Item as Found}
use Rattle.report_reading.specs.Reading.{ItemRead}
use Rattle.report_reading.proofs.ErrorLaws.{ErrorIs, error_is, Placed, placed, not_placed, last_back, last_on}

module _ (m : List ℕ) (p : ℕ) where
  -- a parameter that stands here, before those that stand behind it
  walk_back : (i : Item) (l : List Item) (next : ℕ) → FieldsAt (item_fields i) m p next → ItemsWritten l (drop next m) → ItemsWritten (i ∷ l) (drop p m)
  walk_back i l next y w = (y.bytes, drop next m, part_rest y, y.written, w)

  -- whatever stands from here on starts with it
  pub walk_on : (i j : Item) (l : List Item) (next : ℕ) → InItem i → InItem j → FieldsAt (item_fields i) m p next → ItemsWritten (j ∷ l) (drop p m)
      → (i ≡ j) × ItemsWritten l (drop next m)
  walk_on i j l next a b y w =
      let (first, rest, e, v, more) = w in
      let s : y.bytes ++ drop next m ≡ first ++ rest = sym (part_rest y) ∙ e in
      let (d, k) = item_one i j y.bytes first (drop next m) rest a b y.written v s in
      (d, subst (ItemsWritten l) (sym (cut y.bytes first (ap length k) s).1) more)

  -- the first of those that are written stands here
  pub first_stands : (j : Item) (l : List Item) → ItemsWritten (j ∷ l) (drop p m) → (next : ℕ) × FieldsAt (item_fields j) m p next
  first_stands j l (first, rest, e, v, more) = (p + length first, record { bytes = first; rest = rest; split = e; ends = refl; written = v })

  module _ (Last : Type 0) (left : ℕ) (some_left : 0 < left) where
    -- none stand where no parameter does
    stops : ReadAt m p None → Standing m Last p left → ⊥
    stops never s = go s.items s.counted s.in_range s.written
      where
        go : (l : List Item) → length l ≡ left → All InItem l → ItemsWritten l (drop p m) → ⊥
        go [] n a w = omega arith
        go (j ∷ l) n a w = let (next, y) = first_stands j l w in never j next a.0 y

    module _ (i : Item) (next : ℕ) (in_range : InItem i) (y : FieldsAt (item_fields i) m p next) where
      -- those that stand behind this parameter stand with it
      stand_back : Placed i left Last → Standing m Last next (left - 1) → Standing m Last p left
      stand_back k s =
          let n : suc (length s.items) ≡ left = omega (arith, s.counted) in record {
            items = i ∷ s.items;
            counted = n;
            in_range = (in_range, s.in_range);
            written = walk_back i s.items next y s.written;
            errors = last_back Last i s.items (subst⁻¹ (λ (z : ℕ). Placed i z Last) n k) s.errors;
          }

      -- those that stand here are this parameter, which may be here, and those behind it
      stand_on : Standing m Last p left → Placed i left Last × Standing m Last next (left - 1)
      stand_on s = go s.items s.counted s.in_range s.written s.errors
        where
          go : (l : List Item) → length l ≡ left → All InItem l → ItemsWritten l (drop p m) → ErrorLast Last l → Placed i left Last × Standing m Last next (left - 1)
          go [] n a w e = absurd (omega arith)
          go (j ∷ l) n a w e =
              let (d, more) = walk_on i j l next in_range a.0 y w in
              let (k, rest) = last_on Last j l e in (
                subst (λ (z : ℕ). Placed i z Last) n (subst⁻¹ (λ (o : Item). Placed o (suc (length l)) Last) d k),
                record { items = l; counted = omega arith; in_range = a.1; written = more; errors = rest },
              )

-- ---- the walk

-- those that stand from byte 10 on are passed ones and those that stand from p on
pub record Passed (m : List ℕ) (count : ℕ) (last : Bool) (p left : ℕ) : Type 0 where
  pub back : Standing m (last ≡ true) p left → Standing m (last ≡ true) 10 count
  pub on : Standing m (last ≡ true) 10 count → Standing m (last ≡ true) p left

pub none_passed : (m : List ℕ) (count : ℕ) (last : Bool) → Passed m count last 10 count
none_passed m count last = record { back = λ s. s; on = λ s. s }

module _ {m : List ℕ} {count : ℕ} {last : Bool} {p left : ℕ} (w : Passed m count last p left) where
  -- no parameter stands next
  pub walk_stops : {r : ItemRead} → 0 < left → ReadAt m p r → r ≡ None → WalkIs m count last false
  walk_stops l z e s = stops m p (last ≡ true) left l (subst (ReadAt m p) e z) (w.on s)

  module _ {r : ItemRead} {error misplaced : Bool} (f : Found) (next : ℕ) (l : 0 < left) (z : ReadAt m p r) (e : r ≡ Some (f, next)) (d : error ≡ error? f)
      (k : Misplaced error left last misplaced) where
    -- an error stands where none may
    pub walk_wrong : misplaced ≡ true → WalkIs m count last false
    walk_wrong t s =
        let (i, says, a, y) = subst (ReadAt m p) e z in
        let is : ErrorIs i error = subst⁻¹ (ErrorIs i) d (error_is m next i f says) in
        not_placed i error last misplaced left is k t (stand_on m p (last ≡ true) left l i next a y (w.on s)).0

    -- one more is passed
    pub walk_next : misplaced ≡ false → Passed m count last next (left - 1)
    walk_next t =
        let (i, says, a, y) = subst (ReadAt m p) e z in
        let is : ErrorIs i error = subst⁻¹ (ErrorIs i) d (error_is m next i f says) in
        let here : Placed i left (last ≡ true) = placed i error last misplaced left is k t in record {
          back = λ s. w.back (stand_back m p (last ≡ true) left l i next a y here s);
          on = λ s. (stand_on m p (last ≡ true) left l i next a y (w.on s)).1;
        }

  -- all are passed, and nothing is left or something is
  pub walk_ends : (r : Bool) → left ≤ 0 → eqb (length m - p) 0 ≡ r → WalkIs m count last r
  walk_ends true z e = w.back (record {
    items = [];
    counted = omega arith;
    in_range = tt;
    written = drop_of_length-le m {i = p} (omega (arith, eqb-true (length m - p) 0 e));
    errors = tt;
  })
  walk_ends false z e = λ s. let t = w.on s in go t.items t.counted t.written
    where
      go : (l : List Item) → length l ≡ left → ItemsWritten l (drop p m) → ⊥
      go [] n d = eqb-false (length m - p) 0 e (sym (length-drop p m) ∙ ap length d)
      go (j ∷ l) n d = omega arith
