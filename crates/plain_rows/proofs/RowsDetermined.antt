-- Two outcomes that the calls of the plain engine's screen allow for one area, scratch and row are equal. Assumes nothing.
use Rattle.lists.proofs.Kit.{ℕ, ◌≡◌, sym, ap, ◌∙◌, subst, List, take, option_some_injective}
use denote.Ref.{Bor}
use Rattle.lists.specs.Ladder.{Answers}
use Rattle.lists.proofs.Ladder.{one_answer}
use Rattle.tables.specs.Tables.{Tables}
use Rattle.screen.specs.declared.rows.Row.{Row}
use Rattle.screen.specs.Rows.{Caption, caption, Display, Displays, units}
use Rattle.screen.specs.Screen.{AfterRow}
use Rattle.screen.proofs.Determined.{shows_one}
use Rattle.plain_rows.specs.PlainRows.{in_scratch, PlainShown, plain_showing, plain_numbering, part_bytes, PlainPart}
use Rattle.plain_rows.proofs.AreaTables.{area_tables}

module _ (area scratch : List ℕ) (row : Row) where
  -- what is shown of one area is one thing
  one_display : (a b : AfterRow) (p : PlainShown area scratch row a) (q : PlainShown area scratch row b) → p.display ≡ q.display
  one_display a b p q =
      let t : p.tables ≡ q.tables = area_tables area p.log q.log p.tables q.tables p.area_is q.area_is in
      let c : p.row_is ≡ q.row_is = option_some_injective p.row_is q.row_is (sym p.there ∙ ap (λ (x : Tables). caption x row) t ∙ q.there) in
      shows_one q.row_is p.display q.display (subst (λ (x : Caption). Displays x p.display) c p.shown) q.shown

  one_shown : (a b : AfterRow) → PlainShown area scratch row a → PlainShown area scratch row b → a ≡ b
  one_shown a b p q = p.after ∙ ap (λ (d : Display). in_scratch scratch (units d)) (one_display a b p q) ∙ sym q.after

  -- ROWS-DETERMINED: one number, one part and one scratch afterwards
  pub rows_determined : (a b : AfterRow) → Answers (plain_showing area scratch row) a → Answers (plain_showing area scratch row) b → a ≡ b
  rows_determined a b p q = one_answer (plain_showing area scratch row) one_shown a b p q

  -- NUMBERS-DETERMINED: one number
  pub numbers_determined : (n k : ℕ) → Answers (plain_numbering area scratch row) n → Answers (plain_numbering area scratch row) k → n ≡ k
  numbers_determined n k p q = one_answer (plain_numbering area scratch row) (λ x y i j. i ∙ sym j) n k p q

-- PART-DETERMINED: one place, and the same bytes there
pub part_determined : (area : List ℕ) (scratch : Bor (List ℕ)) (row : Row) (r q : Bor (List ℕ)) → PlainPart area scratch row r → PlainPart area scratch row q → (r.ref_ptr ≡ q.ref_ptr) × (r.now ≡ q.now)
part_determined area scratch row r q x y =
    let e : x.after ≡ y.after = rows_determined area scratch.now row x.after y.after x.allowed y.allowed in
    (x.place ∙ sym y.place, x.bytes ∙ ap (λ (a : AfterRow). take (part_bytes a.part) a.scratch) e ∙ sym y.bytes)
