-- What one row comes to on a store and on an area of the same tables. Assumes nothing.
use Rattle.lists.proofs.Kit.{ℕ, ◌*◌, ◌≤◌, ◌<◌, ◌≡◌, refl, sym, ap, ◌∙◌, subst, ◌↔◌, inl, inr, List, Option, none, some, length, drop, take_at, arith}
use Rattle.lists.specs.Ladder.{Answers}
use Rattle.tables.specs.Limits.{handheld}
use Rattle.tables.specs.Store.{Holds}
use Rattle.tables.specs.Tables.{Tables}
use Rattle.tables.proofs.RoomyLaws.{handheld_roomy}
use Rattle.shared_texts.proofs.Forms.{holds_store}
use Rattle.screen.specs.declared.rows.Row.{Row}
use Rattle.screen.specs.Rows.{Caption, caption, units, unit_bytes, NoRow}
use Rattle.screen.specs.Screen.{AfterRow, RowShown, showing, bytes_of, RowBytes}
use Rattle.screen.proofs.AnswerLaws.{shown_number, one_tables}
use Rattle.screen.proofs.Determined.{shows_one}
use Rattle.screen.proofs.NumberLaws.{unit_length}
use Rattle.screen.proofs.Theorems.{whole_text}
use Rattle.plain_log.specs.Area.{AreaOf}
use Rattle.plain_log.proofs.AreaOne.{area_determined}
use Rattle.plain_rows.specs.PlainRows.{PlainShown, plain_showing}
use Rattle.plain_rows.specs.PlainRows as P
use Rattle.emulated.proofs.Matching.{Matched, rungs, feet, matched}
use Rattle.emulated.proofs.Outcomes.{good_both}

-- what is shown of a row is one list of bytes
row_bytes_one : (o : Option Caption) (a b : List ℕ) → RowBytes o a → RowBytes o b → a ≡ b
row_bytes_one none a b e d = e ∙ sym d
row_bytes_one (some c) a b (x, s, e) (y, z, d) = e ∙ ap (λ v. unit_bytes (units v)) (shows_one c x y s z) ∙ sym d

module _ (store area : List ℕ) (log : List (List ℕ)) (t : Tables) (holds : Holds handheld t store) (area_is : AreaOf area log t) (row : Row) where
  -- what these tables have in the row
  caption_one : (other : List (List ℕ)) (u : Tables) → AreaOf area other u → caption u row ≡ caption t row
  caption_one other u a = ap (λ v. caption v row) (area_determined area other log u t a area_is).1

  -- the row is absent on both or on neither
  absent_both : NoRow handheld store row ↔ P.NoRow area row
  absent_both = (
    λ n l u a. caption_one l u a ∙ n t holds,
    λ n u h. ap (λ v. caption v row) (one_tables handheld store u t h holds) ∙ n log t area_is,
  )

  module _ (scratch wide : List ℕ) (big : 36 ≤ length scratch) (large : 64 ≤ length wide) (x y : AfterRow) (a : Answers (showing handheld store scratch row) x) (b : Answers (plain_showing area wide row) y) where
    -- what is shown of the area has the units and nothing else
    shown_bytes : (p : PlainShown area wide row y) → bytes_of y.part area y.scratch ≡ unit_bytes (units p.display)
    shown_bytes p =
        let us = units p.display in
        ap (λ (z : AfterRow). bytes_of z.part area z.scratch) p.after ∙ take_at (unit_bytes us) (drop (2 * length us) wide) (2 * length us) (unit_length us)

    -- PLAIN TEXT: of an area of these tables, the row's text or number, and nothing of an absent row
    plain_text : RowBytes (caption t row) (bytes_of y.part area y.scratch)
    plain_text = by b
      where
        by : Answers (plain_showing area wide row) y → RowBytes (caption t row) (bytes_of y.part area y.scratch)
        by (inl (l, e)) = absurd (omega (arith, l, large))
        by (inr (_, inl (n, e))) = absurd (n (log, t, area_is))
        by (inr (_, inr (_, inl (n, e)))) =
            subst (λ (o : Option Caption). RowBytes o (bytes_of y.part area y.scratch)) (sym (n log t area_is)) (ap (λ (z : AfterRow). bytes_of z.part area z.scratch) e)
        by (inr (_, inr (_, inr (_, p)))) =
            let e : some p.row_is ≡ caption t row = sym p.there ∙ caption_one p.log p.tables p.area_is in
            subst (λ (o : Option Caption). RowBytes o (bytes_of y.part area y.scratch)) e (p.display, p.shown, shown_bytes p)

    -- ROW TEXT: both show the same bytes
    pub row_text : bytes_of x.part store x.scratch ≡ bytes_of y.part area y.scratch
    row_text = row_bytes_one (caption t row) _ _ (whole_text handheld store row scratch x a t (holds_store handheld t store handheld_roomy holds) holds big) plain_text

    -- ROW NUMBER: with the same number
    pub row_number : x.number ≡ y.number
    row_number = matched all x y a b
      where
        Same : AfterRow → AfterRow → Type 0
        Same v w = v.number ≡ w.number

        shown : (v w : AfterRow) → RowShown handheld store scratch row v → PlainShown area wide row w → v.number ≡ w.number
        shown v w p q = ap (λ (z : AfterRow). z.number) p.after ∙ shown_number handheld p.tables scratch row p.display ∙ sym (ap (λ (z : AfterRow). z.number) q.after)

        roomy_both : (length scratch < 36) ↔ (length wide < 64)
        roomy_both = (λ h. absurd (omega (arith, h, big)), λ h. absurd (omega (arith, h, large)))

        all : Matched Same (showing handheld store scratch row) (plain_showing area wide row)
        all =
            rungs roomy_both refl
            (rungs (good_both store area log t holds area_is) refl
            (rungs absent_both refl
            (feet shown)))
