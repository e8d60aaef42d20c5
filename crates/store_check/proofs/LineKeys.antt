-- The keys of lines in both forms: a line and its head have one key, told by the same bytes and ordered alike. Assumes nothing.
use Rattle.lists.proofs.Kit.{◌≡◌, refl, sym, ap, ap₂, ◌∙◌, ◌↔◌, List, [], ◌∷◌, map, map-map, suc, length, take_at}
use Rattle.lists.specs.Every.{All}
use Rattle.lists.proofs.Every.{all_map}
use Rattle.counted_lists.specs.Counted.{Distinct}
use Rattle.orders.specs.Orders.{order}
use Rattle.orders.specs.OrderedLists.{slot_key}
use Rattle.tables.specs.Allowed.{LineOk}
use Rattle.tables.specs.Layout.{line_bytes, line_key_bytes, line_key_at, line_key_size, text_bytes}
use Rattle.tables.specs.Order.{sorting}
use Rattle.tables.specs.Tables.{LineKey, line_key}
use Rattle.tables.proofs.OrderLaws.{distinct_made, line_tells, sorting_kept}
use Rattle.tables.proofs.TextCodes.{digits_length}
use Rattle.store_check.specs.declared.forms.Form.{Form}
use Rattle.store_check.specs.declared.forms.Form.TheVariants.{Placed, Shared}
use Rattle.store_check.specs.Checks.{short, LineIn, LineIs, bare_line, line_in, line_key_in, order_in}

-- the line of a head is allowed
bare_ok : (f : Form) (l : LineIn f) → LineIs f l → LineOk (bare_line f l)
bare_ok Placed l p = p
bare_ok Shared h p = p.entry

-- a key's bytes are as many as a slot has for it
key_long : (k : LineKey) → length (line_key_bytes k) ≡ line_key_size
key_long k = ap suc (digits_length k.number)

-- the key stands where that of the line does
key_stands : (f : Form) (l : LineIn f) → slot_key line_key_at line_key_size (line_in f l) ≡ slot_key line_key_at line_key_size (line_bytes (bare_line f l))
key_stands Placed l = refl
key_stands Shared h =
    let k : LineKey = line_key (bare_line Shared h) in
    take_at (line_key_bytes k) (h.units ∷ []) line_key_size (key_long k) ∙ sym (take_at (line_key_bytes k) (text_bytes short []) line_key_size (key_long k))

module _ (f : Form) where
  -- its bytes tell it
  key_tells : (a b : LineIn f) → LineIs f a → LineIs f b → (slot_key line_key_at line_key_size (line_in f a) ≡ slot_key line_key_at line_key_size (line_in f b)) ↔ (line_key_in f a ≡ line_key_in f b)
  key_tells a b p q =
      let t = line_tells (bare_line f a) (bare_line f b) (bare_ok f a p) (bare_ok f b q) in
      (λ e. t.0 (sym (key_stands f a) ∙ e ∙ key_stands f b), λ e. key_stands f a ∙ t.1 e ∙ sym (key_stands f b))

  keys_stand : (ls : List (LineIn f)) → map (slot_key line_key_at line_key_size) (map (line_in f) ls) ≡ map (slot_key line_key_at line_key_size) (map line_bytes (map (bare_line f) ls))
  keys_stand [] = refl
  keys_stand (l ∷ ls) = ap₂ (λ x y. x ∷ y) (key_stands f l) (keys_stand ls)

  module _ (ls : List (LineIn f)) (ok : All (LineIs f) ls) where
    -- KEYS-APART: slots have keys of their own where lines have
    pub keys_apart : Distinct (slot_key line_key_at line_key_size) (map (line_in f) ls) ↔ Distinct (line_key_in f) ls
    keys_apart = distinct_made (LineIs f) (line_in f) (slot_key line_key_at line_key_size) (line_key_in f) key_tells ls ok

    -- ORDER-KEPT: the order of the slots' keys is that of the lines
    pub order_kept : order (map (slot_key line_key_at line_key_size) (map (line_in f) ls)) ≡ order_in f ls
    order_kept =
        ap order (keys_stand ls)
        ∙ sorting_kept (map (bare_line f) ls) (all_map (LineIs f) LineOk (bare_line f) (bare_ok f) ls ok)
        ∙ ap order (map-map (λ l. sorting (line_key l)) (bare_line f) ls)
