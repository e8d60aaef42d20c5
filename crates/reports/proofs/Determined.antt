-- DETERMINED: the report call and the reader have one outcome, and refusals leave the buffer. Assumes nothing.
use Prim.Native.Nat.{ℕ, ◌-◌}
use mathlib.Core.Path.{◌≡◌, sym, ◌∙◌}
use mathlib.Core.List.{List, []}
use lib.ListN.{length, get_or}
use Rattle.lists.specs.Ladder.{Answers}
use Rattle.lists.proofs.Ladder.{one_answer}
use Rattle.tables.specs.declared.limits.Limits.{Limits}
use Rattle.tables.specs.Tables.{Tables}
use Rattle.shared_texts.proofs.Forms.{layout_one}
use Rattle.reports.specs.Cut.{messages, report_bytes}
use Rattle.reports.specs.Reading.{Read, Reads, reading}
use Rattle.reports.specs.Reporting.{After, writes, Asks, Reports, reporting}
use Rattle.reports.proofs.ReadBack.{reports_one, queries_one}

-- READING DETERMINED: a message is read in one way
pub reading_determined : (most : ℕ) (message : List ℕ) (x y : Read) → Answers (reading most message) x → Answers (reading most message) y → x ≡ y
reading_determined most message x y p q = one_answer (reading most message) foot_one x y p q
  where
    foot_one : (a b : Read) → Reads message a → Reads message b → a ≡ b
    foot_one a b r s =
        let (n, i, l) = reports_one r.report s.report in
        let z : a.number ≡ b.number = r.good ∙ sym s.good in
        λ j. record { number = z j; total = n j; index = i j; items = l j }

module _ (m : Limits) (query : List ℕ) (index : ℕ) (store buffer : List ℕ) where
  -- a query asks one store for one thing
  pub asks_one : {t u : Tables} {r s : List ℕ} → Asks m query index store buffer t r → Asks m query index store buffer u s → (t ≡ u) × (r ≡ s)
  asks_one {t} {u} a b = (layout_one m t u a.holds.0 b.holds.0 (sym a.holds.1 ∙ b.holds.1), queries_one a.asks b.asks)

  -- what is written for these tables and types
  abbrev made : Tables → List ℕ → After
  made t r = writes m query index store buffer (length (messages m t r)) (report_bytes (length (messages m t r)) index (get_or (messages m t r) (index - 1) []))

  -- REPORT DETERMINED: a query is answered in one way
  pub report_determined : (x y : After) → Answers (reporting m query index store buffer) x → Answers (reporting m query index store buffer) y → x ≡ y
  report_determined x y p q = one_answer (reporting m query index store buffer) foot_one x y p q
    where
      foot_one : (a b : After) → Reports m query index store buffer a → Reports m query index store buffer b → a ≡ b
      foot_one a b r s =
          let (e, d) = asks_one r.asks s.asks in
          r.after ∙ (λ j. made (e j) (d j)) ∙ sym s.after
