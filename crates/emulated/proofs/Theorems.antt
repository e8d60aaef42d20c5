-- The plain engine is the same as the hand-held as long as its area lasts. Assumes nothing.
use Rattle.lists.proofs.Kit.{ℕ, ◌≤◌, ◌<◌, ◌+◌, ◌≡◌, refl, sym, ap, ◌∙◌, subst₂, ◌≢◌, ◌↔◌, iff_rfl, ◌⊎◌, inl, inr, List, [], ◌∷◌, ◌++◌, length, take, take_at, arith}
use Rattle.lists.specs.Ladder.{Answers}
use Rattle.slots.specs.Slots.{written_over}
use Rattle.writing.specs.Settings.{Hash}
use Rattle.tables.specs.declared.start.Started.TheVariants.{Fresh}
use Rattle.tables.specs.Forms.{layout}
use Rattle.tables.specs.Limits.{handheld}
use Rattle.tables.specs.Store.{StoreOf, Holds, Begun, starting, begins}
use Rattle.tables.specs.Tables.{Tables, fresh}
use Rattle.tables.proofs.FreshLaws.{fresh_allowed}
use Rattle.tables.proofs.RoomyLaws.{handheld_roomy}
use Rattle.shared_texts.proofs.Forms.{holds_store}
use Rattle.requests.specs.Judge.{kept, refused}
use Rattle.requests.specs.Requests.{forget}
use Rattle.station.specs.Answers.{Said}
use Rattle.station.specs.Replies.{reply_bytes}
use Rattle.station.specs.Taking.{AfterTaking, AsRequest, AsQuery, Handled, taken}
use Rattle.station.proofs.StandardReply.{reply_length}
use Rattle.laws_taking.proofs.Theorems.{numbered, number_of, answered_0}
use Rattle.screen.specs.declared.rows.Row.{Row}
use Rattle.screen.specs.Screen.{AfterRow, showing, bytes_of}
use Rattle.plain_log.specs.declared.areas.Started.TheVariants.{Fresh as FreshArea}
use Rattle.plain_log.specs.Area.{area_size, log_bytes, area_bytes, TakenFrom, none_taken, AreaOf, IsArea, area_starting, area_begins}
use Rattle.plain_log.specs.Area as Areas
use Rattle.plain.specs.Plain.{plain_taken}
use Rattle.plain_log.proofs.AreaOne.{area_determined, turn_more}
use Rattle.plain_rows.specs.PlainRows.{plain_showing}
use Rattle.emulated.specs.Emulated.{Both, started, then_given, PassesEnd}
use Rattle.emulated.proofs.Matching.{Each, at_rung, at_foot, each}
use Rattle.emulated.proofs.Outcomes.{kept_allowed, Paired, untouched, answered, both_take, past_end, paired}
use Rattle.emulated.proofs.Rows.{row_text, row_number}

-- ---- the tables of both

-- the store and the area are of one set of tables
abbrev pub Same : (store area : List ℕ) → Type 0
Same store area = (log : List (List ℕ)) × (t : Tables) × Holds handheld t store × AreaOf area log t

-- fresh ones are
fresh_same : (store area : List ℕ) → store ≡ layout handheld fresh → area ≡ area_bytes [] → Same store area
fresh_same store area e d = ([], fresh, (fresh_allowed handheld, e), record { bytes = d; fits = omega arith; taken = none_taken })

-- what is left after a message
store_of : {x y : AfterTaking} → x ≡ y → x.store ≡ y.store
store_of e = ap (λ (z : AfterTaking). z.store) e

answer_of : {x y : AfterTaking} → x ≡ y → x.answer ≡ y.answer
answer_of e = ap (λ (z : AfterTaking). z.answer) e

reply_of : {x y : AfterTaking} → x ≡ y → x.reply ≡ y.reply
reply_of e = ap (λ (z : AfterTaking). z.reply) e

module _ (message store area reply reply' : List ℕ) (x y : AfterTaking) where
  -- a message leaves both with one set of tables, where it is not answered with 18
  same_after : Same store area → (length reply < 20) ↔ (length reply' < 20) → Answers (taken handheld message store reply) x → Answers (plain_taken message area reply') y
      → y.answer.number ≢ 18 → Same x.store y.store
  same_after (log, t, holds, area_is) side a b lasts = by (paired message store area reply reply' log t holds area_is side x y a b)
    where
      stay : x.store ≡ store → y.store ≡ area → Same x.store y.store
      stay e d = subst₂ Same (sym e) (sym d) (log, t, holds, area_is)

      by : Paired message store area reply reply' log t x y → Same x.store y.store
      by (untouched n _ _ e d) = stay (store_of e) (store_of d)
      by (answered number failed h _ (e, d) _) = stay (store_of e) (store_of d)
      by (both_take l u g fits (e, d)) =
          let (_, sized, _) = answered_0 handheld message store reply x a (number_of e) in
          let one : TakenFrom handheld t message l u
          = record { in_size = sized; coding = g.coding; count = g.count; bytes = g.settings; request = g.request; judged = g.judged } in
          (log ++ (message ∷ []), u, (kept_allowed g.coding g.count t g.settings l u holds.0 g.judged, store_of e), record { bytes = store_of d; fits = fits; taken = turn_more handheld area_is.taken one })
      by (past_end l u g _ e d) = absurd (lasts (number_of d))

-- SAME TABLES: after any messages, the store and the area are of one set of tables
pub same_tables : {ms : List (List ℕ)} {store area : List ℕ} → Both ms store area → (log : List (List ℕ)) × (t : Tables) × Holds handheld t store × AreaOf area log t
same_tables (started {store} {area} e d) = fresh_same store area e d
same_tables (then_given {store = store} {area = area} {message = message} {reply = reply} {reply' = reply'} {x = x} {y = y} p side a b lasts) =
    same_after message store area reply reply' x y (same_tables p) side a b lasts

-- AREA KEPT: so the area is still one
pub area_kept : {ms : List (List ℕ)} {store area : List ℕ} → Both ms store area → IsArea area
area_kept p = let (log, t, _, a) = same_tables p in (log, t, a)

-- STORE KEPT: and the store is
pub store_kept : {ms : List (List ℕ)} {store area : List ℕ} → Both ms store area → StoreOf handheld store
store_kept {store = store} p = let (_, t, h, _) = same_tables p in holds_store handheld t store handheld_roomy h

-- FROM STARTS: any bytes that were started are fresh
pub from_starts : (before before' store area : List ℕ) → Answers (starting handheld before) (begins Fresh store) → Answers (area_starting before') (area_begins FreshArea area) → Both [] store area
from_starts before before' store area (inl (_, e)) b = absurd (omega (arith, ap (λ (z : Begun). z.number) e))
from_starts before before' store area (inr a) (inl (_, e)) = absurd (omega (arith, ap (λ (z : Areas.Begun). z.number) e))
from_starts before before' store area (inr (_, (_, _, e))) (inr (_, (_, d))) =
    started (ap (λ (z : Begun). z.store) e) (ap (λ (z : Areas.Begun). z.area) d)

-- ---- the same numbers and replies

-- two outcomes with one answer, and the same bytes over each buffer
record Alike (reply reply' : List ℕ) (x y : AfterTaking) : Type 0 where
  answer : x.answer ≡ y.answer
  bytes : List ℕ
  as_said : length bytes ≡ x.answer.reply_length
  here : x.reply ≡ written_over bytes reply
  there : y.reply ≡ written_over bytes reply'

module _ {ms : List (List ℕ)} {store area : List ℕ} (p : Both ms store area) (message : List ℕ) where
  -- so are any two that are not answered with 18
  alike : (reply reply' : List ℕ) → (length reply < 20) ↔ (length reply' < 20) → (x y : AfterTaking) → Answers (taken handheld message store reply) x → Answers (plain_taken message area reply') y
      → y.answer.number ≢ 18 → Alike reply reply' x y
  alike reply reply' side x y a b lasts = let (log, t, h, i) = same_tables p in by log t (paired message store area reply reply' log t h i side x y a b)
    where
      -- both replied with these bytes, and the same was said
      replied : (number failed : ℕ) (h : Hash) (s r : AfterTaking) → x ≡ s → y ≡ r → s.answer ≡ r.answer → s.answer.reply_length ≡ 10 + length h.value
          → s.reply ≡ written_over (reply_bytes number failed h) reply → r.reply ≡ written_over (reply_bytes number failed h) reply' → Alike reply reply' x y
      replied number failed h s r e d same n i j = record {
        answer = answer_of e ∙ same ∙ sym (answer_of d);
        bytes = reply_bytes number failed h;
        as_said = reply_length number failed h ∙ sym n ∙ sym (ap (λ (z : Said). z.reply_length) (answer_of e));
        here = reply_of e ∙ i;
        there = reply_of d ∙ j;
      }

      by : (log : List (List ℕ)) (t : Tables) → Paired message store area reply reply' log t x y → Alike reply reply' x y
      by log t (untouched n _ _ e d) =
          record { answer = answer_of e ∙ sym (answer_of d); bytes = []; as_said = sym (ap (λ (z : Said). z.reply_length) (answer_of e)); here = reply_of e; there = reply_of d }
      by log t (answered number failed h _ (e, d) _) = replied number failed h _ _ e d refl refl refl refl
      by log t (both_take l u g fits (e, d)) = replied 0 0 u.hash _ _ e d refl refl refl refl
      by log t (past_end l u g _ e d) = absurd (lasts (number_of d))

  -- SAME ANSWER: "the same numbers, replies": with one reply buffer, the same is said and written
  pub same_answer : (reply : List ℕ) (x y : AfterTaking) → Answers (taken handheld message store reply) x → Answers (plain_taken message area reply) y → y.answer.number ≢ 18
      → (x.answer ≡ y.answer) × (x.reply ≡ y.reply)
  same_answer reply x y a b lasts = let s = alike reply reply iff_rfl x y a b lasts in (s.answer, s.here ∙ sym s.there)

  -- SAME REPLY: with two buffers of at least 20 bytes, the same is said, and the reply has the same bytes
  pub same_reply : (reply reply' : List ℕ) → 20 ≤ length reply → 20 ≤ length reply' → (x y : AfterTaking) → Answers (taken handheld message store reply) x
      → Answers (plain_taken message area reply') y → y.answer.number ≢ 18
      → (x.answer ≡ y.answer) × (take x.answer.reply_length x.reply ≡ take y.answer.reply_length y.reply)
  same_reply reply reply' big large x y a b lasts =
      let s = alike reply reply' (λ h. absurd (omega (arith, h, big)), λ h. absurd (omega (arith, h, large))) x y a b lasts in
      let n : y.answer.reply_length ≡ length s.bytes = sym (ap (λ (z : Said). z.reply_length) s.answer) ∙ sym s.as_said in
      (s.answer, said_bytes s.bytes reply x (sym s.as_said) s.here ∙ sym (said_bytes s.bytes reply' y n s.there))
    where
      -- as many bytes of the buffer as are said are those that were written
      said_bytes : (bytes buffer : List ℕ) (z : AfterTaking) → z.answer.reply_length ≡ length bytes → z.reply ≡ written_over bytes buffer → take z.answer.reply_length z.reply ≡ bytes
      said_bytes bytes buffer z n e = ap (take z.answer.reply_length) e ∙ take_at bytes _ z.answer.reply_length (sym n)

  -- ---- as long as the area lasts

  -- FULL EXACTLY: "18 .. exactly when a request that would be taken passes the area's end": the hand-held takes it
  pub full_exactly : (reply : List ℕ) (x y : AfterTaking) → Answers (taken handheld message store reply) x → Answers (plain_taken message area reply) y
      → (y.answer.number ≡ 18) ↔ ((x.answer.number ≡ 0) × PassesEnd message area)
  full_exactly reply x y a b =
      let (log, t, h, i) = same_tables p in
      let z = paired message store area reply reply log t h i iff_rfl x y a b in
      (ends log t i z, λ (n, e). full log t i z n e)
    where
      ends : (log : List (List ℕ)) (t : Tables) → AreaOf area log t → Paired message store area reply reply log t x y → y.answer.number ≡ 18 → (x.answer.number ≡ 0) × PassesEnd message area
      ends log t i (untouched n _ k e d) q = absurd (omega (arith, k, q, number_of d))
      ends log t i (answered number failed h k (e, d) _) q = absurd (omega (arith, k, q, number_of d))
      ends log t i (both_take l u g fits (e, d)) q = absurd (omega (arith, q, number_of d))
      ends log t i (past_end l u g passes e d) q =
          (number_of e, record { coding = g.coding; count = g.count; settings = g.settings; request = g.request; log = log; tables = t; area_is = i; passes = omega (arith, passes) })

      full : (log : List (List ℕ)) (t : Tables) → AreaOf area log t → Paired message store area reply reply log t x y → x.answer.number ≡ 0 → PassesEnd message area → y.answer.number ≡ 18
      full log t i (untouched n k _ e d) q w = absurd (omega (arith, k, q, number_of e))
      full log t i (answered number failed h k (e, d) never) q w = absurd (never (sym (number_of e) ∙ q) w.coding w.count w.settings w.request)
      full log t i (both_take l u g fits (e, d)) q w =
          let same : w.log ≡ log = (area_determined area w.log log w.tables t w.area_is i).0 in
          let long : length (log_bytes (w.log ++ (message ∷ []))) ≡ length (log_bytes (log ++ (message ∷ []))) = ap (λ v. length (log_bytes (v ++ (message ∷ [])))) same in
          absurd (omega (arith, fits, long, w.passes))
      full log t i (past_end l u g passes e d) q w = number_of d

-- HAND-HELD NEVER: "the handheld never gives it"
pub hand_held_never : (message store reply : List ℕ) (x : AfterTaking) → Answers (taken handheld message store reply) x → x.answer.number ≢ 18
hand_held_never message store reply x a = each all x a
  where
    Other : AfterTaking → Type 0
    Other z = z.answer.number ≢ 18

    under : (n : ℕ) → n < 18 → n ≢ 18
    under n h e = omega (arith, h, e)

    handled : (z : AfterTaking) → Handled handheld message store reply z → z.answer.number ≢ 18
    handled z h q = by h.comes_to
      where
        by : AsRequest handheld message store reply h.tables z ⊎ AsQuery handheld message store reply h.tables z → ⊥
        by (inl (c, count, settings, r, kept l u, j, e)) = omega (arith, q, number_of e)
        by (inl (c, count, settings, r, refused number failed, j, e)) = omega (arith, q, number_of e, (numbered c handheld (forget h.tables) j).1)
        by (inr (k, w, inl (_, _, e))) = omega (arith, q, number_of e)
        by (inr (k, w, inr (_, e))) = omega (arith, q, number_of e)

    all : Each Other (taken handheld message store reply)
    all =
        at_rung (under 10 (omega arith))
        (at_rung (under 11 (omega arith))
        (at_rung (under 12 (omega arith))
        (at_rung (under 13 (omega arith))
        (at_rung (under 14 (omega arith))
        (at_rung (under 1 (omega arith))
        (at_rung (under 4 (omega arith))
        (at_foot handled)))))))

-- ---- the same rows

-- SAME ROWS: "the same numbers .. and row texts, unit for unit"
pub same_rows : {ms : List (List ℕ)} {store area : List ℕ} → Both ms store area → (row : Row) (scratch wide : List ℕ) → 36 ≤ length scratch → 64 ≤ length wide
    → (x y : AfterRow) → Answers (showing handheld store scratch row) x → Answers (plain_showing area wide row) y
    → (x.number ≡ y.number) × (bytes_of x.part store x.scratch ≡ bytes_of y.part area y.scratch)
same_rows {store = store} {area = area} p row scratch wide big large x y a b =
    let (log, t, h, i) = same_tables p in
    (row_number store area log t h i row scratch wide big large x y a b, row_text store area log t h i row scratch wide big large x y a b)
