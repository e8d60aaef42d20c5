-- A row that is shown never packs to 0, and one that is refused always does: C needs one call a row. Assumes nothing.
use Rattle.lists.proofs.Kit.{ℕ, ◌<◌, ◌≡◌, refl, sym, ◌∙◌, ◌≢◌, ◌↔◌, List, arith}
use Rattle.lists.specs.Ladder.{Answers}
use Rattle.tables.specs.declared.limits.Limits.{Limits}
use Rattle.tables.specs.Tables.{Tables}
use Rattle.screen.specs.declared.rows.Refusal.{Refusal}
use Rattle.screen.specs.declared.rows.Refusal.TheVariants.{ScratchSize, NotAStore, Absent}
use Rattle.screen.specs.declared.rows.Row.{Row}
use Rattle.screen.specs.Rows.{Display, stored, written, text_start, row_named}
use Rattle.screen.specs.Screen.{AfterRow, refusal, refused, shows, showing}
use Rattle.screen.proofs.AnswerLaws.{shown_by, number_same}
use Rattle.screen.proofs.NameLaws.{text_starts_late}
use Rattle.screen.proofs.Determined.{number_one}
use Rattle.packing.specs.Packing.{AnswersNumber, packed_part, AnswersPart}

module _ (lim : Limits) (store scratch : List ℕ) (row : Row) where
  -- the number is 0 exactly where the part is packed as another number than 0
  abbrev Told : AfterRow → Type 0
  Told a = (a.number ≡ 0) ↔ (packed_part a.part ≢ 0)

  -- so it is of a refusal
  refused_told : (why : Refusal) → Told (refused (refusal why) scratch)
  refused_told ScratchSize = (λ e. absurd (omega arith), λ k. absurd (k refl))
  refused_told NotAStore = (λ e. absurd (omega arith), λ k. absurd (k refl))
  refused_told Absent = (λ e. absurd (omega arith), λ k. absurd (k refl))

  -- and of what is shown
  shown_told : (t : Tables) (d : Display) → 0 < text_start lim t row → Told (shows lim t scratch row d)
  shown_told t (stored us) h = (λ e k. omega arith, λ k. refl)
  shown_told t (written us) h = (λ e k. omega arith, λ k. refl)

  told : (a : AfterRow) → Answers (showing lim store scratch row) a → Told a
  told = shown_by lim store scratch row Told refused_told (λ a p big. shown_told p.tables p.display (text_starts_late lim p.tables row p.row_is p.there))

-- SHOWN PART: the row's number is 0 exactly where the other call answers another number than 0
pub shown_part : (lim : Limits) (table row : ℕ) (store scratch after : List ℕ) (n r : ℕ) → AnswersNumber lim table row store scratch n → AnswersPart lim table row store scratch after r → (n ≡ 0) ↔ (r ≢ 0)
shown_part lim table row store scratch after n r x y =
    let e : n ≡ y.number = number_one lim store scratch (row_named table row) n y.number x (number_same lim store scratch (row_named table row) _ y.allowed) in
    let (to, back) = told lim store scratch (row_named table row) _ y.allowed in
    (λ z k. to (sym e ∙ z) (sym y.packs.bits ∙ k), λ k. e ∙ back (λ z. k (y.packs.bits ∙ z)))
