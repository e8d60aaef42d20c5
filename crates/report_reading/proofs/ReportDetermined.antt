-- REPORT DETERMINED: reading a message has one answer, and its parameters are those of the report. Assumes nothing.
use Rattle.lists.proofs.Kit.{ℕ, ◌≡◌, refl, sym, ap, ◌∙◌, cond, eqb, List, length}
use Rattle.reports.specs.Items.{Item}
use Rattle.reports.specs.Reading.{Read}
use Rattle.reports.proofs.Determined.{reading_determined}
use Rattle.report_reading.specs.Reading.{told, counted, ReadAs}
use Rattle.report_reading.specs.declared.messages.ReportRead.{ReportRead}
use Rattle.report_reading.specs.declared.messages.ReportRead.TheVariants.{Size, Carrier, OtherType, Version, NoReport, Report}

-- the answer that tells this
answer_of : Read → ReportRead
answer_of x =
    cond (eqb x.number 0) (Report x.total x.index (length x.items)) (cond (eqb x.number 12) Size (cond (eqb x.number 13) Carrier
    (cond (eqb x.number 14) OtherType (cond (eqb x.number 1) Version NoReport))))

told_back : (r : ReportRead) (items : List Item) → length items ≡ counted r → answer_of (told r items) ≡ r
unfolding answer_of
told_back Size items e = refl
told_back Carrier items e = refl
told_back OtherType items e = refl
told_back Version items e = refl
told_back NoReport items e = refl
told_back (Report total index count) items e = ap (Report total index) e

-- REPORT DETERMINED: two answers that the contract of reading a report allows are equal
pub answer_determined : (most : ℕ) (m : List ℕ) (a b : ReportRead) → ReadAs most m a → ReadAs most m b → a ≡ b
answer_determined most m a b (l, e, x) (k, d, y) =
    sym (told_back a l e) ∙ ap answer_of (reading_determined most m (told a l) (told b k) x y) ∙ told_back b k d
