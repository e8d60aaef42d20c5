-- The order of the line contacts: document 02, A7.
use Rattle.std.specs.Prelude.{ℕ, List, ◌∷◌, map}
use Rattle.orders.specs.Orders.{order}
use Rattle.writing.specs.Writing.{bit}
use Rattle.tables.specs.Tables.{Line, LineKey, line_key}

-- "by IDtype, then by digits compared from the left, a shorter number before a longer one that starts with it": so are these lists compared
abbrev pub sorting : LineKey → List ℕ
sorting k = bit k.pabx ∷ k.number

-- the positions of the lines, in the order of their keys
abbrev pub line_order : List Line → List ℕ
line_order ls = order (map (λ l. sorting (line_key l)) ls)
