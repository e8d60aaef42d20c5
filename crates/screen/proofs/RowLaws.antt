-- Which row plain numbers name. Assumes nothing.
use Rattle.lists.proofs.Kit.{ℕ, ◌≡◌, sym, ap, ne_eqb}
use Rattle.screen.specs.declared.rows.Row.TheVariants.{NoTable}
use Rattle.screen.specs.Rows.{row_named}

-- a table's number stands for it
pub named_as : (table n place : ℕ) → table ≡ n → row_named n place ≡ row_named table place
named_as table n place e = ap (λ t. row_named t place) (sym e)

-- any other is no table
pub named_none : (table place : ℕ) → (table ≡ 1 → ⊥) → (table ≡ 2 → ⊥) → (table ≡ 3 → ⊥) → (table ≡ 4 → ⊥) → (table ≡ 5 → ⊥) → (table ≡ 6 → ⊥) → (table ≡ 7 → ⊥) → (table ≡ 8 → ⊥)
    → NoTable ≡ row_named table place
named_none table place a b c d e f g h =
    rw (ne_eqb table 1 a, ne_eqb table 2 b, ne_eqb table 3 c, ne_eqb table 4 d, ne_eqb table 5 e, ne_eqb table 6 f, ne_eqb table 7 g, ne_eqb table 8 h)
