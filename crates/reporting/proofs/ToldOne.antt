-- TOLD ONE: what is told says which case the answer is. Assumes nothing.
use Rattle.lists.proofs.Kit.{ℕ, ◌≡◌, refl, sym, ap, ◌∙◌, cond, eqb, List}
use Rattle.lists.specs.Ladder.{Answers}
use Rattle.tables.specs.declared.limits.Limits.{Limits}
use Rattle.reports.specs.Reporting.{Told, After, reporting}
use Rattle.reports.proofs.Determined.{report_determined}
use Rattle.reporting.specs.declared.answers.NoReport.{NoReport}
use Rattle.reporting.specs.declared.answers.NoReport.TheVariants.{Buffer, NotAStore, Size, Carrier, OtherType, Version, BadQuery, NoMessage}
use Rattle.std.specs.Prelude.{Result, Ok, Err}
use Rattle.reporting.specs.declared.answers.Written.{Written}
use Rattle.reporting.specs.Told.{told}

-- the case of a number that is not 0
why : ℕ → NoReport
why n =
    cond (eqb n 15) Buffer (cond (eqb n 11) NotAStore (cond (eqb n 12) Size (cond (eqb n 13) Carrier (cond (eqb n 14) OtherType
    (cond (eqb n 1) Version (cond (eqb n 4) BadQuery NoMessage))))))

-- the answer that tells this
answer_of : Told → Result Written NoReport
answer_of x = cond (eqb x.number 0) (Ok (record { total = x.total; length = x.message_length })) (Err (why x.number))

told_back : (r : Result Written NoReport) → answer_of (told r) ≡ r
unfolding answer_of why
told_back (Ok w) = refl
told_back (Err Buffer) = refl
told_back (Err NotAStore) = refl
told_back (Err Size) = refl
told_back (Err Carrier) = refl
told_back (Err OtherType) = refl
told_back (Err Version) = refl
told_back (Err BadQuery) = refl
told_back (Err NoMessage) = refl

-- REPORT DETERMINED: two answers of the code, with the buffers that they left, are equal: the case too
pub answer_determined : (lim : Limits) (query : List ℕ) (index : ℕ) (store buffer : List ℕ) (a b : Result Written NoReport) (s t : List ℕ)
    → Answers (reporting lim query index store buffer) (record { answer = told a; buffer = s })
    → Answers (reporting lim query index store buffer) (record { answer = told b; buffer = t }) → (a ≡ b) × (s ≡ t)
answer_determined lim query index store buffer a b s t x y =
    let e = report_determined lim query index store buffer (record { answer = told a; buffer = s }) (record { answer = told b; buffer = t }) x y in
    (sym (told_back a) ∙ ap (λ (z : After). answer_of z.answer) e ∙ told_back b, ap (λ (z : After). z.buffer) e)
