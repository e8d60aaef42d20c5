-- A part lies in its slice: a stored text in the store, a number in the bytes that every scratch has. Assumes nothing.
use Rattle.lists.proofs.Kit.{ℕ, ◌+◌, ◌*◌, ◌≤◌, ◌≡◌, refl, sym, ap, ◌∙◌, subst, List, arith, length}
use Rattle.lists.specs.Ladder.{Answers}
use Rattle.writing.specs.Settings.{Text}
use Rattle.tables.specs.declared.limits.Limits.{Limits}
use Rattle.tables.specs.Forms.{Roomy}
use Rattle.shared_texts.proofs.Forms.{layout_length}
use Rattle.screen.specs.declared.rows.Row.{Row}
use Rattle.screen.specs.Rows.{text_of, Display, stored, written, Displays, text_start}
use Rattle.screen.proofs.AnswerLaws.{shown_by}
use Rattle.screen.specs.Screen.{AfterRow, RowPart, of_store, of_scratch, shows, RowShown, showing}
use Rattle.screen.proofs.Scratch.{written_short}
use Rattle.screen.proofs.TextPlaces.{text_inside}
use Rattle.screen.proofs.Theorems.{stored_text}

-- where a part lies; the store of a row that is shown has the limits' size
abbrev pub PartFits : Limits → List ℕ → RowPart → Type 0
PartFits lim store (of_store start bytes) = (start + bytes ≤ length store) × (start + bytes ≤ lim.size)
PartFits lim store (of_scratch bytes) = bytes ≤ 36

module _ (lim : Limits) (roomy : Roomy lim) (store scratch : List ℕ) (row : Row) where
  display_fits : (a : AfterRow) (p : RowShown lim store scratch row a) (d : Display) → p.display ≡ d → PartFits lim store (shows lim p.tables scratch row d).part
  display_fits a p (stored us) e =
      let u : us ≡ text_of p.row_is = stored_text p.row_is us (subst (Displays p.row_is) e p.shown) in
      let l : length store ≡ lim.size = ap length p.holds.1 ∙ layout_length lim p.tables roomy p.holds.0 in
      let h : text_start lim p.tables row + 2 * length us ≤ lim.size
      = subst (λ (v : Text). text_start lim p.tables row + 2 * length v ≤ lim.size) (sym u) (text_inside lim p.tables store p.holds row p.row_is p.there roomy) in
      (omega arith, h)
  display_fits a p (written us) e = omega (arith, written_short lim store scratch row a p us e)

  -- PART FITS: whatever is answered, its part lies in its slice
  pub part_fits : (a : AfterRow) → Answers (showing lim store scratch row) a → PartFits lim store a.part
  part_fits = shown_by lim store scratch row (λ x. PartFits lim store x.part) (λ why. (omega arith, omega arith)) (λ a p big. display_fits a p p.display refl)
