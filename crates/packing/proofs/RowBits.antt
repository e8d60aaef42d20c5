-- What a row answers, packed: where its part starts and how long it is have 16 bits each. Assumes nothing.
use Rattle.lists.proofs.Kit.{ℕ, ◌<◌, ◌≡◌, sym, subst, List, arith}
use Rattle.lists.specs.Ladder.{Answers}
use Rattle.tables.specs.declared.limits.Limits.{Limits}
use Rattle.screen.specs.declared.rows.Row.{Row}
use Rattle.screen.specs.Rows.{row_named}
use Rattle.screen.specs.declared.answers.Answer.{Answer}
use Rattle.screen.specs.declared.answers.Place.{Place}
use Rattle.screen.specs.declared.answers.Place.TheVariants.{Store, Scratch, Refused as NoPlace}
use Rattle.screen.specs.Screen.{RowPart, of_store, of_scratch, number, leaves, showing, numbering}
use Rattle.screen.proofs.PartLaws.{PartFits, part_fits}
use Rattle.packing.specs.Packing.{Packable, part_of, start_of, length_of, PacksPart, AnswersPart, AnswersNumber}

-- ---- a place by its case

-- the number r packs the place where its values fit
abbrev Packed : Place → ℕ → Type 0
Packed p r = start_of (part_of p) < 65536 → length_of (part_of p) < 65536 → PacksPart (part_of p) r

-- ---- what the calls answer

module _ (lim : Limits) (table row : ℕ) (store scratch : List ℕ) (which : Row) (named : which ≡ row_named table row) where
  -- NUMBERS: the number of a row
  pub numbers_packed : (a : Answer) (r : ℕ) → r ≡ number a → Answers (numbering lim store scratch which) (number a) → AnswersNumber lim table row store scratch r
  numbers_packed a r e x =
      subst (λ (w : Row). Answers (numbering lim store scratch w) r) named (subst (Answers (numbering lim store scratch which)) (sym e) x)

  module _ (ok : Packable lim) (after : List ℕ) where
    small : (p : RowPart) → PartFits lim store p → (start_of p < 65536) × (length_of p < 65536)
    small (of_store start bytes) (_, h) = (omega (arith, ok.size), omega (arith, ok.size))
    small (of_scratch bytes) h = (omega arith, omega arith)

    -- an answer of the code, by its name for C
    moved : (p : Place) → Answers (showing lim store scratch which) (leaves p after) → Answers (showing lim store scratch (row_named table row)) (leaves p after)
    moved p a = subst (λ (w : Row). Answers (showing lim store scratch w) (leaves p after)) named a

    fits : (p : Place) → Answers (showing lim store scratch which) (leaves p after)
        → (start_of (leaves p after).part < 65536) × (length_of (leaves p after).part < 65536)
    fits p a = small (leaves p after).part (part_fits lim ok.roomy store scratch which (leaves p after) a)

    -- SHOWS: what the call answers is packed whole
    pub shows_packed : (p : Place) (r : ℕ) → Answers (showing lim store scratch which) (leaves p after) → Packed p r → AnswersPart lim table row store scratch after r
    shows_packed (Store start bytes) r a packs =
        let (h, k) = fits (Store start bytes) a in
        record { number = _; part = of_store start bytes; allowed = moved (Store start bytes) a; packs = packs h k }
    shows_packed (Scratch bytes) r a packs =
        let (h, k) = fits (Scratch bytes) a in
        record { number = _; part = of_scratch bytes; allowed = moved (Scratch bytes) a; packs = packs h k }
    shows_packed (NoPlace why) r a packs =
        let (h, k) = fits (NoPlace why) a in
        record { number = _; part = of_store 0 0; allowed = moved (NoPlace why) a; packs = packs h k }
