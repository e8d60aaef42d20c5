-- What the report call answers, packed: one number and one buffer, and its bits give the values back. Assumes nothing.
use Rattle.lists.proofs.Kit.{ℕ, ◌/◌, ◌%◌, ◌<◌, ◌≡◌, sym, ap, ◌∙◌, List, arith}
use Rattle.std.specs.Prelude.{Result}
use Rattle.lists.specs.Every.{All}
use Rattle.lists.specs.Ladder.{Answers}
use Rattle.writing.specs.Canonical.{side_by_side, FitsField}
use Rattle.tables.specs.declared.limits.Limits.{Limits}
use Rattle.reports.specs.Reporting.{After, Told, Reportable, reporting}
use Rattle.reports.proofs.Determined.{report_determined}
use Rattle.reports.proofs.Theorems.{report_small}
use Rattle.reporting.specs.declared.answers.NoReport.{NoReport}
use Rattle.reporting.specs.declared.answers.Written.{Written}
use Rattle.reporting.specs.Told.{told}
use Rattle.packing.specs.PackedReports.{report_fields, AnswersReport}
use Rattle.packing.specs.PackedValues.{PacksFields, WhereFit}
use Rattle.packing.proofs.SideBySide.{read_back}

-- ---- what the call answers

module _ (lim : Limits) (query : List ℕ) (index : ℕ) (store buffer : List ℕ) where
  -- REPORTS: what the call answers is packed whole
  pub report_packed : All (◌< 256) query → Reportable lim → (after : List ℕ) (x : Result Written NoReport) (r : ℕ)
      → Answers (reporting lim query index store buffer) (record { answer = told x; buffer = after }) → WhereFit (report_fields (told x)) r
      → AnswersReport lim query index store buffer after r
  report_packed b can after x r a packs =
      let (n, t, l) = report_small lim query index store buffer b can (record { answer = told x; buffer = after }) a in
      let f : All FitsField (report_fields (told x)) = (l, (t, (n, tt))) in
      record { answer = told x; allowed = a; packs = record { fits = f; bits = packs f } }

  -- REPORTS DETERMINED: one number, and one buffer afterwards
  pub reports_determined : (s t : List ℕ) (r q : ℕ) → AnswersReport lim query index store buffer s r → AnswersReport lim query index store buffer t q → (r ≡ q) × (s ≡ t)
  reports_determined s t r q x y =
      let e = report_determined lim query index store buffer (record { answer = x.answer; buffer = s }) (record { answer = y.answer; buffer = t }) x.allowed y.allowed in (
        x.packs.bits ∙ ap (λ (a : After). side_by_side (report_fields a.answer)) e ∙ sym y.packs.bits,
        ap (λ (a : After). a.buffer) e,
      )

-- REPORT UNPACKED: shifts and masks give the values back, and no other bit is set
pub report_unpacked : (t : Told) (r : ℕ) → PacksFields (report_fields t) r
    → (r % 256 ≡ t.number) × (r / 256 % 256 ≡ t.total) × (r / 65536 % 65536 ≡ t.message_length) × (r < 4294967296)
report_unpacked t r p =
    let ((l, (k, (n, _))), small) = read_back (report_fields t) r p in
    (omega (arith, n), k, l, small)
