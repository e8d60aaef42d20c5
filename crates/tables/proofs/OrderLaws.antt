-- The order of the line contacts: the bytes that keep the lines' keys are told apart and ordered as the keys are. Assumes nothing.
use Rattle.lists.proofs.Kit.{ℕ, suc, ◌≤◌, ◌<◌, ◌≡◌, refl, sym, ap, ap₂, ◌∙◌, subst, ◌↔◌, iff_and, List, [], ◌∷◌, ◌++◌, map, map-map, head-eq_of_cons-eq, tail-eq_of_cons-eq, arith, length, length-map}
use Rattle.lists.specs.Bytes.{Bytes}
use Rattle.lists.proofs.Bytes.{all_bytes}
use Rattle.lists.specs.Every.{All}
use Rattle.lists.proofs.Every.{all_map}
use Rattle.slots.specs.Slots.{front, places, same?}
use Rattle.slots.proofs.Keys.{Keyed}
use Rattle.slots.proofs.Pads.{pad_all}
use Rattle.slots.proofs.Runs.{same_refl}
use Rattle.counted_lists.specs.Counted.{Without, Distinct}
use Rattle.counted_lists.proofs.EntryLaws.{entries_bytes, entries_made}
use Rattle.orders.specs.OrderParts.{order_bytes}
use Rattle.orders.specs.OrderedLists.{slot_key, OrderedList}
use Rattle.orders.specs.Orders.{order, DistinctKeys}
use Rattle.orders.proofs.KeyLists.{plain, kept, order_kept, order_ordered, apart_distinct}
use Rattle.writing.specs.Writing.{bit}
use Rattle.tables.specs.Allowed.{LineOk}
use Rattle.tables.specs.Layout.{counted, ordered, line_key_bytes, line_bytes, line_width, line_key_at, line_key_size}
use Rattle.tables.specs.Order.{sorting, line_order}
use Rattle.tables.specs.OrderedLines.{LineList}
use Rattle.tables.specs.Tables.{Line, line_key}
use Rattle.tables.proofs.EntryCodes.{bit_one, key_of, keys_same, line_keyed}
use Rattle.tables.proofs.Sentences.{key_is_both}

-- ---- distinct keys

-- what is made of two entries has one key where they have one
module _ {A B K L : Type 0} (P : A → Type 0) (f : A → B) (lay : B → L) (key : A → K) (tells : (a b : A) → P a → P b → (lay (f a) ≡ lay (f b)) ↔ (key a ≡ key b)) where
  without_made : (b : A) → P b → (ls : List A) → All P ls → Without lay (lay (f b)) (map f ls) ↔ Without key (key b) ls
  without_made b p [] q = (λ x. tt, λ x. tt)
  without_made b p (a ∷ ls) q =
      let t = tells a b q.0 p in
      iff_and (λ h e. h (t.1 e), λ h e. h (t.0 e)) (without_made b p ls q.1)

  -- so keys are distinct where those of the entries are
  pub distinct_made : (ls : List A) → All P ls → Distinct lay (map f ls) ↔ Distinct key ls
  distinct_made [] p = (λ x. tt, λ x. tt)
  distinct_made (a ∷ ls) p = iff_and (without_made a p.0 ls p.1) (distinct_made ls p.1)

-- what lines are sorted by tells it too
sorting_tells : (a b : Line) → LineOk a → LineOk b → (sorting (line_key a) ≡ sorting (line_key b)) ↔ (line_key a ≡ line_key b)
sorting_tells a b p q = (
  λ e.
      let x = bit_one a.flags.pabx b.flags.pabx (head-eq_of_cons-eq e) in
      let n = tail-eq_of_cons-eq e in
      (λ i. record { pabx = x i; number = n i }),
  ap sorting,
)

module _ (ls : List Line) (ok : All LineOk ls) where
  -- no two of them are sorted by the same
  pub sorting_distinct : Distinct line_key ls → DistinctKeys (map (λ l. sorting (line_key l)) ls)
  sorting_distinct d =
      subst DistinctKeys (map-map sorting line_key ls) (apart_distinct sorting (map line_key ls) ((distinct_made LineOk line_key sorting line_key sorting_tells ls ok).1 d))

-- ---- slots that have a line's key where its own slot has it

-- IDtype and digits
abbrev idtype_digits : Line → ℕ × List ℕ
idtype_digits l = (bit l.flags.pabx, l.number)

module _ {w : ℕ} {f : Line → List ℕ} (d : Keyed LineOk w f line_key_at line_key_size key_of) where
  -- the bytes of IDtype and digits tell a line's key
  pub keyed_tells : (a b : Line) → LineOk a → LineOk b → (slot_key line_key_at line_key_size (f a) ≡ slot_key line_key_at line_key_size (f b)) ↔ (line_key a ≡ line_key b)
  keyed_tells a b p q = (
    λ e.
        let k : key_of a ≡ key_of b = sym (d.stands a) ∙ e ∙ d.stands b in
        (key_is_both (line_key b) a).0 (sym (keys_same a b p q) ∙ ap (λ (x : List ℕ). same? x (key_of b)) k ∙ same_refl (key_of b)),
    λ e. d.stands a ∙ ap line_key_bytes e ∙ sym (d.stands b),
  )

  -- KEYED-APART: slots have keys of their own where lines have
  pub keyed_apart : (ls : List Line) → All LineOk ls → Distinct (slot_key line_key_at line_key_size) (map f ls) ↔ Distinct line_key ls
  keyed_apart ls ok = distinct_made LineOk f (slot_key line_key_at line_key_size) line_key keyed_tells ls ok

  -- the slots' keys keep IDtype and digits
  slot_keys : (ls : List Line) → map (slot_key line_key_at line_key_size) (map f ls) ≡ map (kept 18) (map idtype_digits ls)
  slot_keys [] = refl
  slot_keys (l ∷ ls) = ap₂ (λ x y. x ∷ y) (d.stands l) (slot_keys ls)

  -- KEYED-ORDER: the order of the slots' keys is that of the lines
  pub keyed_order : (ls : List Line) → All LineOk ls → order (map (slot_key line_key_at line_key_size) (map f ls)) ≡ line_order ls
  keyed_order ls ok =
      ap order (slot_keys ls)
      ∙ order_kept 18 (map idtype_digits ls) (all_map LineOk (λ a. length a.1 ≤ 18) idtype_digits (λ l p. p.number.1) ls ok)
      ∙ ap order (map-map plain idtype_digits ls)

  -- KEYED-MADE: lines with keys of their own are a list with an order behind it, as the layout has them
  pub keyed_made : (n : ℕ) (ls : List Line) → length ls ≤ n → n ≤ 255 → All LineOk ls → Distinct line_key ls
      → OrderedList w line_key_at line_key_size n (map f ls) (counted w f n ls ++ order_bytes n (line_order ls))
  keyed_made n ls few small ok apart = record {
    inside = d.inside;
    small = small;
    distinct = (keyed_apart ls ok).1 apart;
    list = counted w f n ls;
    counted = (entries_made LineOk w f n ls (counted w f n ls) (places w f (front n ls)) d.wide (omega arith) d.long (record { few = few; each = ok; bytes = refl }) refl).counted;
    bytes = ap (λ (ps : List ℕ). counted w f n ls ++ order_bytes n ps) (sym (keyed_order ls ok));
  }

-- ---- lines' own slots

pub line_tells : (a b : Line) → LineOk a → LineOk b → (slot_key line_key_at line_key_size (line_bytes a) ≡ slot_key line_key_at line_key_size (line_bytes b)) ↔ (line_key a ≡ line_key b)
line_tells = keyed_tells line_keyed

-- SORTING-KEPT: the order of their keys is that of the lines
pub sorting_kept : (ls : List Line) → All LineOk ls → order (map (slot_key line_key_at line_key_size) (map line_bytes ls)) ≡ line_order ls
sorting_kept = keyed_order line_keyed

-- its positions, plus one, are bytes
pub order_are_bytes : (n : ℕ) (ls : List Line) → length ls ≤ 255 → All LineOk ls → Distinct line_key ls → Bytes (order_bytes n (line_order ls))
order_are_bytes n ls few ok d =
    let keys : List (List ℕ) = map (λ l. sorting (line_key l)) ls in
    let m : length keys ≡ length ls = length-map ls (λ l. sorting (line_key l)) in
    all_bytes (order_bytes n (line_order ls))
    (pad_all 0 (◌< 256) (omega arith) n (map suc (line_order ls))
    (all_map (λ p. p < length keys) (◌< 256) suc (λ p h. omega arith) (line_order ls) (order_ordered keys (sorting_distinct ls ok d)).only))

-- ---- the lines' region

module _ (n : ℕ) (ls : List Line) where
  -- LINES-MADE: lines with keys of their own, as the layout has them
  pub lines_made : length ls ≤ n → n ≤ 255 → All LineOk ls → Distinct line_key ls → LineList n ls (ordered n ls)
  lines_made few small ok d = record { each = ok; counted = keyed_made line_keyed n ls few small ok d }

  -- LINES-ARE: bytes that are their list are those of the layout
  pub lines_are : (s : List ℕ) → LineList n ls s → s ≡ ordered n ls
  lines_are s g =
      g.counted.bytes
      ∙ ap₂ (λ (x ps : List ℕ). x ++ order_bytes n ps) (entries_bytes LineOk line_width line_bytes n ls g.counted.list (record { each = g.each; counted = g.counted.counted })) (sorting_kept ls g.each)

  -- LINES-DISTINCT: and no two of the lines have one key
  pub lines_distinct : (s : List ℕ) → LineList n ls s → Distinct line_key ls
  lines_distinct s g = (keyed_apart line_keyed ls g.each).0 g.counted.distinct
