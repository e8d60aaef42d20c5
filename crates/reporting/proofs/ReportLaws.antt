-- What the call answers, refusal by refusal, and for a message that was written. Assumes nothing.
use Rattle.lists.proofs.Kit.{ℕ, ◌+◌, ◌-◌, ◌%◌, ◌≤◌, ◌<◌, ◌≡◌, refl, sym, ap, ◌∙◌, subst, subst⁻¹, inl, inr, List, [], ◌++◌, zero-add, mod-eq_of_lt, arith, length, get_or, take, drop}
use Rattle.std.specs.Prelude.{Result, Ok, Err, IsErrAnd}
use Rattle.lists.specs.Every.{All}
use Rattle.lists.proofs.Every.{all_get}
use Rattle.lists.specs.Ladder.{Answers}
use Rattle.writing.specs.Carrier.{InSize}
use Rattle.tables.specs.declared.limits.Limits.{Limits}
use Rattle.tables.specs.Limits.{handheld, vehicle}
use Rattle.tables.specs.Store.{StoreOf, Holds}
use Rattle.tables.specs.Tables.{Tables}
use Rattle.working.specs.Seen.{Seen}
use Rattle.export_write.specs.Writers.{Wrote}
use Rattle.export_write.proofs.WroteLaws.{wrote_length}
use Rattle.reports.specs.Cut.{item_size, messages, report_bytes}
use Rattle.reports.specs.Items.{Item, items_bytes}
use Rattle.reports.specs.Reporting.{After, Asks, stays, reporting, Reportable}
use Rattle.reports.specs.Reports.{TypesOf}
use Rattle.reports.proofs.CallRead.{query_opens}
use Rattle.reports.proofs.ReadBack.{items_length, queries_one, messages_fit}
use Rattle.reports.proofs.SplitLaws.{Fit}
use Rattle.reporting.specs.declared.answers.NoReport.{NoReport}
use Rattle.reporting.specs.declared.answers.NoReport.TheVariants.{Buffer, NotAStore, Size, Carrier, OtherType, Version, BadQuery, NoMessage}
use Rattle.reporting.specs.declared.answers.Written.{Written}
use Rattle.reporting.specs.declared.planning.Walk.{Walk}
use Rattle.reporting.specs.Asking.{RefusedAs}
use Rattle.reporting.specs.Plans.{items_from, PlanIs}
use Rattle.reporting.specs.Told.{told}
use Rattle.reporting.specs.Written.{ItemsPut, Headed, answering}

-- the refusal that `?` hands on
pub refused_as : (r : Result Written NoReport) (why : NoReport) → IsErrAnd r (λ e. e ≡ why) → r ≡ Err why
refused_as (Ok w) why h = absurd h
refused_as (Err e) why h = ap Err h

-- ---- before the plan

module _ (lim : Limits) (query : List ℕ) (index : ℕ) (store buffer : List ℕ) where
  -- "15"
  pub says_15 : length buffer < lim.message → Answers (reporting lim query index store buffer) (stays lim query index store buffer 15)
  says_15 h = inl (h, refl)

  module _ (big : lim.message ≤ length buffer) where
    -- "11"
    pub says_11 : (StoreOf lim store → ⊥) → Answers (reporting lim query index store buffer) (stays lim query index store buffer 11)
    says_11 n = inr (λ l. omega arith, inl (n, refl))

    module _ (s : StoreOf lim store) where
      -- "12, 13, 14, 1, 4"
      pub says_refused : (why : NoReport) → RefusedAs lim.message query why → Answers (reporting lim query index store buffer) (record { answer = told (Err why); buffer = buffer })
      says_refused Size n = inr (λ l. omega arith, inr (λ k. k s, inl (n, refl)))
      says_refused Carrier (i, n) = inr (λ l. omega arith, inr (λ k. k s, inr (λ k. k i, inl (n, refl))))
      says_refused OtherType (i, c, n) = inr (λ l. omega arith, inr (λ k. k s, inr (λ k. k i, inr (c, inl (n, refl)))))
      says_refused Version (i, c, o, n) = inr (λ l. omega arith, inr (λ k. k s, inr (λ k. k i, inr (c, inr (o, inl (n, refl))))))
      says_refused BadQuery (i, c, o, v, n) = inr (λ l. omega arith, inr (λ k. k s, inr (λ k. k i, inr (c, inr (o, inr (v, inl (n, refl)))))))
      says_refused Buffer n = absurd n
      says_refused NotAStore n = absurd n
      says_refused NoMessage n = absurd n

      -- a query goes on
      pub goes_on : (types : List ℕ) → InSize lim.message query → TypesOf types query → (x : After) → Answers (answering lim query index store buffer) x
          → Answers (reporting lim query index store buffer) x
      goes_on types i q x a =
          inr (
            λ l. omega arith,
            inr (
              λ k. k s,
              inr (
                λ k. k i,
                inr (
                  λ k. k q.any_coding q.data_bytes q.carried,
                  inr (λ k. k 1 2 q.any_coding q.data_bytes refl (query_opens q), inr (λ k. k 2 q.any_coding q.data_bytes (query_opens q), inr (λ k. k types q, a))),
                ),
              ),
            ),
          )

-- ---- behind it

-- a plan under other names
pub plan_as : {lim : Limits} {types work : List ℕ} {w : Walk} {room room' j j' : ℕ} → room ≡ room' → j ≡ j' → PlanIs lim types work room j w → PlanIs lim types work room' j' w
plan_as {lim} {types} {work} {w} e d p = subst (λ (z : ℕ × ℕ). PlanIs lim types work z.0 z.1 w) (λ i. (e i, d i)) p

module _ (lim : Limits) (query : List ℕ) (index : ℕ) (store work buffer types : List ℕ) (s : StoreOf lim store) (see : Seen lim store work) (q : TypesOf types query) (w : Walk)
    (p : PlanIs lim types work (lim.message - 10) (index - 1) w) where
  held : Holds lim s.store.tables store
  held = (s.store.allowed, s.store.bytes_are)

  asks : Asks lim query index store buffer s.store.tables types
  asks = record { holds = held; asks = q }

  -- the plan has the report's total
  total_is : (t : Tables) (r : List ℕ) → Asks lim query index store buffer t r → length (messages lim t r) ≡ w.closed + 1
  unfolding messages
  total_is t r a = ap (λ (x : List ℕ). length (messages lim t x)) (queries_one a.asks q) ∙ p.total t (see.1 t a.holds)

  -- "4"
  pub says_many : 255 < w.closed + 1 → Answers (answering lim query index store buffer) (record { answer = told (Err BadQuery); buffer = buffer })
  says_many l = inl (λ t r a. omega (arith, total_is t r a), refl)

  module _ (few : w.closed + 1 ≤ 255) where
    -- "16"
    pub says_none : (1 ≤ index → index ≤ w.closed + 1 → ⊥) → Answers (answering lim query index store buffer) (record { answer = told (Err NoMessage); buffer = buffer })
    says_none n = inr (λ k. omega (arith, k s.store.tables types asks, total_is s.store.tables types asks), inl (λ t r a o l. n o (omega (arith, total_is t r a)), refl))

    module _ (low : 1 ≤ index) (high : index ≤ w.closed + 1) where
      -- the message that the plan is of
      message_is : (get_or (messages lim s.store.tables types) (index - 1) [] ≡ take w.own (items_from lim s.store.tables types w.from))
          × (length (get_or (messages lim s.store.tables types) (index - 1) []) ≡ w.own)
      unfolding messages
      message_is = p.message s.store.tables (see.1 s.store.tables held) (omega arith)

      -- the message was written
      pub says_0 : Reportable lim → All (◌< 256) types → lim.message ≤ length buffer → (mid after : List ℕ) (end r : ℕ) → ItemsPut lim types work w buffer mid end
          → ((10 ≤ end) × (end ≤ length mid) × (end < 65540) → Headed (w.closed + 1) index (w.own % 256) end mid after r)
          → Answers (answering lim query index store buffer) (record { answer = told (Ok (record { total = w.closed + 1; length = r })); buffer = after })
      says_0 rep b big mid after end r put head =
          let t : Tables = s.store.tables in
          let ms : List (List Item) = messages lim t types in
          let n : length ms ≡ w.closed + 1 = total_is t types asks in
          let g : List Item = get_or ms (index - 1) [] in
          let f : Fit item_size (lim.message - 10) 255 g = all_get (Fit item_size (lim.message - 10) 255) ms (index - 1) [] (messages_fit lim t types held.0 b rep.wide) (omega arith) in
          let (e, c) = message_is in
          let room : 10 + length (items_bytes g) ≤ lim.message = omega (arith, items_length g, f.bytes, rep.wide) in
          let v : Wrote (items_bytes g) 10 buffer mid end = subst⁻¹ (λ (x : List Item). Wrote (items_bytes x) 10 buffer mid end) e
          (put t (see.1 t held) (subst (λ (x : List Item). 10 + length (items_bytes x) ≤ length buffer) e (omega arith))) in
          let k : Headed (w.closed + 1) index (w.own % 256) end mid after r
          = head (omega (arith, v.next), omega (arith, v.next, wrote_length (items_bytes g) 10 end buffer mid v), omega (arith, v.next, rep.short)) in
          let bs : List ℕ = report_bytes (length ms) index g in
          let y : Wrote bs 0 buffer after r = subst⁻¹ (λ (i : ℕ). Wrote (report_bytes i index g) 0 buffer after r) n
          (k.report g buffer (c ∙ sym (mod-eq_of_lt (omega (arith, f.few)))) v) in
          let l : r ≡ length bs = y.next ∙ zero-add (length bs) in
          let d : after ≡ bs ++ drop (length bs) buffer = y.content ∙ ap (λ (i : ℕ). bs ++ drop i buffer) (zero-add (length bs)) in
          inr (
            λ x. omega (arith, x t types asks),
            inr (
              λ x. x t types asks low (omega arith),
              record { tables = t; types = types; asks = asks; after = λ i. record { answer = record { number = 0; total = sym n i; message_length = l i }; buffer = d i } },
            ),
          )

-- HANDHELD: every message of a handheld's report fits
pub handheld_reportable : Reportable handheld
handheld_reportable = record { wide = omega arith; short = omega arith }

-- VEHICLE: and of a vehicle's
pub vehicle_reportable : Reportable vehicle
vehicle_reportable = record { wide = omega arith; short = omega arith }
