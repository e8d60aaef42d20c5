-- What the order of a store's line contacts promises: A7. Assumes nothing.
use Rattle.lists.proofs.Kit.{ℕ, ◌≡◌, ap, ◌∙◌, cond, List, map, ltb, length, length-map}
use Rattle.orders.specs.Orders.{times, key_in, Ascends, Ordered, DistinctKeys}
use Rattle.orders.proofs.KeyLists as Keys
use Rattle.tables.specs.declared.limits.Limits.{Limits}
use Rattle.tables.specs.Allowed.{Allowed}
use Rattle.tables.specs.Order.{sorting, line_order}
use Rattle.tables.specs.Tables.{Tables, line_key}
use Rattle.tables.proofs.OrderLaws.{sorting_distinct}

module _ (lim : Limits) (t : Tables) (ok : Allowed lim t) where
  apart : DistinctKeys (map (λ l. sorting (line_key l)) t.lines)
  apart = sorting_distinct t.lines ok.lines.1 ok.distinct

  -- ORDER-PERMUTES: it has the position of each line once, and no other
  pub order_permutes : (p : ℕ) → times p (line_order t.lines) ≡ cond (ltb p (length t.lines)) 1 0
  order_permutes p = Keys.order_permutes (map (λ l. sorting (line_key l)) t.lines) apart p ∙ ap (λ (n : ℕ). cond (ltb p n) 1 0) (length-map t.lines (λ l. sorting (line_key l)))

  -- ORDER-ASCENDS: along it the lines ascend "by IDtype, then by digits compared from the left, a shorter number before a longer one that starts with it"
  pub order_ascends : Ascends (key_in (map (λ l. sorting (line_key l)) t.lines)) (line_order t.lines)
  order_ascends = Keys.order_ascends (map (λ l. sorting (line_key l)) t.lines) apart

  -- ORDER-ONE: no other list of positions does both
  pub order_one : (ps : List ℕ) → Ordered (map (λ l. sorting (line_key l)) t.lines) ps → ps ≡ line_order t.lines
  order_one ps o =
      Keys.ordered_one (map (λ l. sorting (line_key l)) t.lines) ps (line_order t.lines) o (Keys.order_ordered (map (λ l. sorting (line_key l)) t.lines) apart)
