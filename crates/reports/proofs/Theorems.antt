-- What is promised of the report call and of the reader together. Assumes nothing.
use Rattle.lists.proofs.Kit.{ℕ, zero, suc, ◌+◌, ◌-◌, ◌≤◌, ◌<◌, ◌≡◌, refl, sym, ap, ◌∙◌, ap₂, subst, ◌≢◌, inl, inr, List, [], ◌∷◌, ◌++◌, arith, length, get_or, take}
use Rattle.lists.specs.Every.{All}
use Rattle.lists.specs.Ladder.{Answers}
use Rattle.tables.specs.declared.limits.Limits.{Limits}
use Rattle.tables.specs.Limits.{handheld}
use Rattle.tables.specs.Store.{Holds}
use Rattle.tables.specs.Tables.{Tables}
use Rattle.reports.specs.Asked.{asked}
use Rattle.reports.specs.Cut.{messages, report_bytes}
use Rattle.reports.specs.Reading.{Read, reading}
use Rattle.reports.specs.Reporting.{Told, After, stays, Asks, Reportable, TooMany, reporting}
use Rattle.reports.specs.Reports.{TypesOf}
use Rattle.reports.proofs.CallRead.{ReadAs, report_read, types_bytes, types_few, in_total, has_index}
use Rattle.reports.proofs.Determined.{asks_one, reading_determined}
use Rattle.reports.proofs.Few.{few_messages}
use Rattle.reports.proofs.ReadBack.{whole_report, message_long}
use Rattle.reports.proofs.SplitLaws.{all}

-- number and total have a byte each, and the length two
abbrev pub Small : Told → Type 0
Small x = (x.number < 256) × (x.total < 256) × (x.message_length < 65536)

abbrev SmallRead : Read → Type 0
SmallRead r = (r.number < 256) × (r.total < 256) × (r.index < 256) × (length r.items < 256)

module _ (lim : Limits) (query : List ℕ) (index : ℕ) (store buffer : List ℕ) where
  -- REPORT STAYS: "All of them write nothing, 1 too"
  pub report_stays : (a : After) → Answers (reporting lim query index store buffer) a → a.answer.number ≢ 0 → a.buffer ≡ buffer
  report_stays a (inl (p, e)) n = ap (λ (x : After). x.buffer) e
  report_stays a (inr (p, inl (q, e))) n = ap (λ (x : After). x.buffer) e
  report_stays a (inr (p, inr (q, inl (r, e)))) n = ap (λ (x : After). x.buffer) e
  report_stays a (inr (p, inr (q, inr (r, inl (s, e))))) n = ap (λ (x : After). x.buffer) e
  report_stays a (inr (p, inr (q, inr (r, inr (s, inl (t, e)))))) n = ap (λ (x : After). x.buffer) e
  report_stays a (inr (p, inr (q, inr (r, inr (s, inr (t, inl (u, e))))))) n = ap (λ (x : After). x.buffer) e
  report_stays a (inr (p, inr (q, inr (r, inr (s, inr (t, inr (u, inl (v, e)))))))) n = ap (λ (x : After). x.buffer) e
  report_stays a (inr (p, inr (q, inr (r, inr (s, inr (t, inr (u, inr (v, inl (w, e))))))))) n = ap (λ (x : After). x.buffer) e
  report_stays a (inr (p, inr (q, inr (r, inr (s, inr (t, inr (u, inr (v, inr (w, inl (x, e)))))))))) n = ap (λ (y : After). y.buffer) e
  report_stays a (inr (p, inr (q, inr (r, inr (s, inr (t, inr (u, inr (v, inr (w, inr (x, f)))))))))) n = absurd (n (ap (λ (y : After). y.answer.number) f.after))

  -- REPORT SMALL: what is told fits an answer of 32 bits
  pub report_small : All (◌< 256) query → Reportable lim → (a : After) → Answers (reporting lim query index store buffer) a
      → Small a.answer
  report_small b can a ans = go ans
    where
      no : (n : ℕ) → n < 256 → a ≡ stays lim query index store buffer n → Small a.answer
      no n l e = subst (λ (x : After). Small x.answer) (sym e) (l, omega arith, omega arith)

      go : Answers (reporting lim query index store buffer) a → Small a.answer
      go (inl (p, e)) = no 15 (omega arith) e
      go (inr (p, inl (q, e))) = no 11 (omega arith) e
      go (inr (p, inr (q, inl (r, e)))) = no 12 (omega arith) e
      go (inr (p, inr (q, inr (r, inl (s, e))))) = no 13 (omega arith) e
      go (inr (p, inr (q, inr (r, inr (s, inl (t, e)))))) = no 14 (omega arith) e
      go (inr (p, inr (q, inr (r, inr (s, inr (t, inl (u, e))))))) = no 1 (omega arith) e
      go (inr (p, inr (q, inr (r, inr (s, inr (t, inr (u, inl (v, e)))))))) = no 4 (omega arith) e
      go (inr (p, inr (q, inr (r, inr (s, inr (t, inr (u, inr (v, inl (w, e))))))))) = no 4 (omega arith) e
      go (inr (p, inr (q, inr (r, inr (s, inr (t, inr (u, inr (v, inr (w, inl (x, e)))))))))) = no 16 (omega arith) e
      go (inr (p, inr (q, inr (r, inr (s, inr (t, inr (u, inr (v, inr (w, inr (x, f)))))))))) =
          let n = in_total lim query index store buffer f.tables f.types f.asks w in
          let (o, l) = has_index lim query index store buffer f.tables f.types f.asks x in
          let e : suc (index - 1) ≡ index = omega arith in
          let h = message_long lim f.tables f.types f.asks.holds.0 (types_bytes b f.asks.asks) can.wide (index - 1) (omega arith) in
          let k : length (report_bytes (length (messages lim f.tables f.types)) index (get_or (messages lim f.tables f.types) (index - 1) [])) ≤ lim.message
          = subst (λ (i : ℕ). length (report_bytes (length (messages lim f.tables f.types)) i (get_or (messages lim f.tables f.types) (index - 1) [])) ≤ lim.message) e h.1 in
          subst (λ (x : After). Small x.answer) (sym f.after) (omega arith, omega arith, omega (arith, k, can.short))

-- READ SMALL: what is read of a message fits an answer of 32 bits
pub read_small : (most : ℕ) (message : List ℕ) (r : Read) → Answers (reading most message) r
    → (r.number < 256) × (r.total < 256) × (r.index < 256) × (length r.items < 256)
read_small most message r (inl (p, e)) = subst SmallRead (sym e) (omega arith, omega arith, omega arith, omega arith)
read_small most message r (inr (p, inl (q, e))) = subst SmallRead (sym e) (omega arith, omega arith, omega arith, omega arith)
read_small most message r (inr (p, inr (q, inl (s, e)))) = subst SmallRead (sym e) (omega arith, omega arith, omega arith, omega arith)
read_small most message r (inr (p, inr (q, inr (s, inl (t, e))))) = subst SmallRead (sym e) (omega arith, omega arith, omega arith, omega arith)
read_small most message r (inr (p, inr (q, inr (s, inr (t, inl (u, e)))))) = subst SmallRead (sym e) (omega arith, omega arith, omega arith, omega arith)
read_small most message r (inr (p, inr (q, inr (s, inr (t, inr (u, f)))))) =
    let (x1, r1, h1, l1, e1, s1) = f.report.says in
    let (x2, r2, h2, l2, e2, s2) = s1 in
    let (x3, r3, h3, l3, e3, s3) = s2 in
    let (x4, r4, h4, l4, e4, s4) = s3 in
    let (x5, r5, h5, l5, e5, s5) = s4 in
    (omega (arith, f.good), omega (arith, h3, l3), omega (arith, h4, l4), omega (arith, h5, l5))

-- NEVER TOO MANY: a hand-held never answers 4 for a report of over 255 messages
pub never_too_many : (query : List ℕ) (index : ℕ) (store buffer : List ℕ) → All (◌< 256) query → (t : Tables) (types : List ℕ)
    → Asks handheld query index store buffer t types → TooMany handheld query index store buffer → ⊥
never_too_many query index store buffer b t types asks many =
    omega (arith, many t types asks, few_messages t types asks.holds.0 (types_bytes b asks.asks) (types_few asks.asks))

-- ---- all messages of a report

-- n in a row, from number i on
abbrev pub row : {A : Type 0} → ℕ → ℕ → (ℕ → A) → List A
row zero i f = []
row (suc n) i f = f i ∷ row n (suc i) f

-- a row that has every element of a list is the list
row_is : {A : Type 0} (d : A) (f : ℕ → A) (i : ℕ) (l : List A) → ((j : ℕ) → j < length l → f (i + j) ≡ get_or l j d) → row (length l) i f ≡ l
row_is d f i [] h = refl
row_is d f i (a ∷ l) h =
    ap₂ (λ x y. x ∷ y) (ap f (omega arith) ∙ h 0 (omega arith)) (row_is d f (suc i) l (λ j k. ap f (omega arith) ∙ h (suc j) (omega arith)))

-- one message of a report, as a call wrote it and as it was read
pub record Reported (lim : Limits) (query store : List ℕ) (index : ℕ) (a : After) (r : Read) : Type 0 where
  pub buffer : List ℕ
  pub written : Answers (reporting lim query index store buffer) a
  pub good : a.answer.number ≡ 0
  pub read : Answers (reading lim.message (take a.answer.message_length a.buffer)) r

module _ (lim : Limits) (query store : List ℕ) (b : All (◌< 256) query) (can : Reportable lim) (t : Tables) (types : List ℕ) (holds : Holds lim t store) (asks : TypesOf types query) where
  -- READ BACK: a message that a call wrote is read with the call's total, the index that was asked for, and that message's parameters
  pub message_read : (index : ℕ) (a : After) (r : Read) → Reported lim query store index a r
      → (r.number ≡ 0) × (r.total ≡ a.answer.total) × (r.total ≡ length (messages lim t types)) × (r.index ≡ index) × (r.items ≡ get_or (messages lim t types) (index - 1) [])
  message_read index a r m =
      let s : ReadAs lim query index store m.buffer a = report_read lim query index store m.buffer b can.wide can.short a m.written m.good in
      let d = reading_determined lim.message (take a.answer.message_length a.buffer) r _ m.read s.reads in
      let (x, y) = asks_one lim query index store m.buffer s.asks (record { holds = holds; asks = asks }) in (
        ap (λ (z : Read). z.number) d,
        ap (λ (z : Read). z.total) d,
        ap (λ (z : Read). z.total) d ∙ s.total ∙ (λ i. length (messages lim (x i) (y i))),
        ap (λ (z : Read). z.index) d,
        ap (λ (z : Read). z.items) d ∙ (λ i. get_or (messages lim (x i) (y i)) (index - 1) []),
      )

  -- ALL READ: what is read of messages 1 to the total, one after another, is what was asked for, up to the first unknown type
  pub all_read : (afters : ℕ → After) (reads : ℕ → Read) → ((i : ℕ) → 1 ≤ i → i ≤ length (messages lim t types) → Reported lim query store i (afters i) (reads i))
      → all (row (length (messages lim t types)) 1 (λ i. (reads i).items)) ≡ asked t types
  all_read afters reads each =
      let same : row (length (messages lim t types)) 1 (λ i. (reads i).items) ≡ messages lim t types
      = row_is [] (λ i. (reads i).items) 1 (messages lim t types) (λ j l.
      let back : 1 + j - 1 ≡ j = omega arith in
      (message_read (1 + j) (afters (1 + j)) (reads (1 + j)) (each (1 + j) (omega arith) (omega arith))).4 ∙ ap (λ k. get_or (messages lim t types) k []) back) in
      ap all same ∙ whole_report lim t types
