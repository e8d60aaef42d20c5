-- Moving parts from one set to another, one after the other. Assumes nothing.
use Rattle.std.specs.Prelude.{Ok, Err}
use Rattle.lists.proofs.Kit.{ℕ, zero, suc, ◌+◌, ◌-◌, ◌≤◌, ◌<◌, ◌≡◌, refl, sym, ap, ap₂, ◌∙◌, subst, inl, inr, List, [], ◌∷◌, ◌++◌, arith, mid_of, length, get_or, take, drop, take-suc, split_at, take-append_seam, drop-append_seam}
use Rattle.lists.specs.Ladder.{Answers}
use Rattle.tables.specs.declared.limits.Limits.{Limits}
use Rattle.tables.specs.Forms.{Roomy}
use Rattle.tables.specs.declared.start.Started.{Started}
use Rattle.tables.specs.Store.{StoreOf, Begun, begins, starting, Holds}
use Rattle.tables.specs.Tables.{Tables, no_hash, fresh}
use Rattle.tables.proofs.FreshLaws.{fresh_allowed}
use Rattle.tables.proofs.FormLaws.{shared_then}
use Rattle.working.specs.Seen.{Lends}
use Rattle.working.proofs.SeenLaws.{lends}
use Rattle.station.specs.declared.answers.Answer.{Answer}
use Rattle.slots.specs.Slots.{written_over}
use Rattle.station.specs.Replies.{reply_bytes}
use Rattle.requests.specs.Requests.{forget}
use Rattle.station.specs.Taking.{leaves, taken, AfterTaking as TakeAfter}
use Rattle.export.specs.declared.parts.Part.{Part}
use Rattle.export.specs.declared.parts.Part.TheVariants.{Lines}
use Rattle.export.specs.declared.parts.NoExport.{NoExport}
use Rattle.export.specs.declared.parts.NoExport.TheVariants.{Buffer, NotAStore, NoPart}
use Rattle.export.specs.Exportable.{Exportable}
use Rattle.export.specs.Exported.{ten, exported, request_bytes}
use Rattle.export.specs.Exporting.{AfterExport, told, no_export, exporting}
use Rattle.export.proofs.PartWriting.{ten_at}
use Rattle.restore.specs.Restored.{with_part, with_parts, Ready, requests, PartFits, HasRoom}
use Rattle.restore.specs.Restoring.{written_in_turn, restores, Lent, PartMoved, Moved}
use Rattle.restore.proofs.ExportedBytes.{written_one}
use Rattle.restore.proofs.FreshParts.{parts_more, coming_behind}
use Rattle.restore.proofs.Requests.{own_fits}
use Rattle.restore.proofs.Restored.{after_part, part_taken, after_holds, next_turn}

-- ---- the start

-- a store that was started is fresh
pub started_fresh : (lim : Limits) (before after : List ℕ) → StoreOf lim before → (a : Started) → Answers (starting lim before) (begins a after) → Holds lim fresh after
started_fresh lim before after s a (inl h) = absurd (h.0 s.size s.roomy)
started_fresh lim before after s a (inr h) = (fresh_allowed lim, ap (λ (b : Begun). b.store) h.1.2)

-- ---- one part

-- nothing is said of a part that was not written
pub not_moved : (lim : Limits) (part : ℕ) (from to buffer buffer_after reply to_after reply_after work : List ℕ) (k : NoExport)
    → (Exportable lim → Lends lim work → Answers (exporting lim part from buffer) (record { answer = told (Err k); buffer = buffer_after }))
    → Moved lim part from to to_after buffer buffer_after reply reply_after work
not_moved lim part from to buffer buffer_after reply to_after reply_after work k answers p t u n x roomy a b turn lent =
    absurd (never k (ap (λ (y : AfterExport). y.answer.number) (written_one lim part from buffer t p roomy a n lent.message _ (answers x (lends lim work lent.copy)))))
  where
    never : (k : NoExport) → no_export k ≡ 0 → ⊥
    never Buffer e = omega arith
    never NotAStore e = omega arith
    never NoPart e = omega arith

-- a part that was written and taken
pub moved : (lim : Limits) (part : ℕ) (from to buffer buffer_after reply to_after reply_after work message : List ℕ) (n : ℕ) (a : Answer)
    → (Exportable lim → Lends lim work → Answers (exporting lim part from buffer) (record { answer = told (Ok n); buffer = buffer_after }))
    → message ≡ mid_of 0 (n - 0) buffer_after → (length work ≡ lim.size → Answers (taken lim message to reply) (leaves a to_after reply_after))
    → Moved lim part from to to_after buffer buffer_after reply reply_after work
moved lim part from to buffer buffer_after reply to_after reply_after work message n a answers e takes p t u number x roomy holds there turn lent =
    let bytes : List ℕ = request_bytes (exported p t) in
    let w : _ = written_one lim part from buffer t p roomy holds number lent.message _ (answers x (lends lim work lent.copy)) in
    let b : buffer_after ≡ written_over bytes buffer = ap (λ (z : AfterExport). z.buffer) w in
    let l : n ≡ length bytes = ap (λ (z : AfterExport). z.answer.request_length) w in
    let i : n - 0 ≡ n = omega arith in
    let is : message ≡ bytes = e ∙ ap (λ (k : ℕ). take k buffer_after) i ∙ ap₂ take l b ∙ take-append_seam bytes (drop (length bytes) buffer) in
    let short : length (request_bytes (exported p t)) ≤ lim.message = (own_fits lim x t holds.0 p).request in
    let z : leaves a to_after reply_after ≡ after_part lim lim x roomy t holds.0 u to there reply lent.answer p short turn
    = part_taken lim lim x roomy t holds.0 u to there reply lent.answer p short turn _ (subst (λ (k : List ℕ). Answers (taken lim k to reply) (leaves a to_after reply_after)) is (takes lent.copy)) in
    record { to_is = ap (λ (k : TakeAfter). k.store) z; buffer_is = b; reply_is = ap (λ (k : TakeAfter). k.reply) z }

-- ---- all of them

-- one part more at the end
requests_more : (t : Tables) (ps : List Part) (p : Part) (buffer : List ℕ)
    → written_in_turn (requests t (ps ++ (p ∷ []))) buffer ≡ written_over (request_bytes (exported p t)) (written_in_turn (requests t ps) buffer)
requests_more t [] p buffer = refl
requests_more t (q ∷ ps) p buffer = requests_more t ps p (written_over (request_bytes (exported q t)) buffer)

-- the same bytes written again change nothing
again : (bytes buffer : List ℕ) → written_over bytes (written_over bytes buffer) ≡ written_over bytes buffer
again bytes buffer = ap (λ r. bytes ++ r) (drop-append_seam bytes (drop (length bytes) buffer))

module _ (lim : Limits) (from to buffer reply : List ℕ) (t u : Tables) where
  abbrev answer : List ℕ
  answer = reply_bytes 0 0 no_hash

  -- so many parts were moved
  pub record SoFar (k : ℕ) (to_now buffer_now reply_now : List ℕ) : Type 0 where
    pub holds : Holds lim (with_parts t (take k ten) u) to_now
    pub buffer_is : buffer_now ≡ written_in_turn (requests t (take k ten)) buffer
    pub reply_first : k ≡ 0 → reply_now ≡ reply
    pub reply_is : 0 < k → reply_now ≡ written_over answer reply

  pub so_far_start : Holds lim u to → SoFar 0 to buffer reply
  so_far_start h = record { holds = h; buffer_is = refl; reply_first = λ e. refl; reply_is = λ e. absurd (omega arith) }

  -- one part more
  pub so_far_on : (k : ℕ) (to_now buffer_now reply_now work to_then buffer_then reply_then : List ℕ) → k < length ten → Exportable lim → Roomy lim → Holds lim t from → Ready lim.texts u
      → Lent lim buffer_now reply_now work → SoFar k to_now buffer_now reply_now → Moved lim (k + 1) from to_now to_then buffer_now buffer_then reply_now reply_then work
      → SoFar (k + 1) to_then buffer_then reply_then
  so_far_on k to_now buffer_now reply_now work to_then buffer_then reply_then l able roomy h ready lent z v =
      let p : Part = get_or ten k Lines in
      let now : Tables = with_parts t (take k ten) u in
      let fits : PartFits lim t p = own_fits lim able t h.0 p in
      let turn : HasRoom lim t p now = next_turn lim lim able roomy t h.0 now to_now z.holds p (drop (suc k) ten)
      (shared_then lim.texts (coming_behind t u (take k ten) (p ∷ drop (suc k) ten) (sym (split_at ten k Lines l))) ready) fits in
      let x : PartMoved lim p t now to_then buffer_now buffer_then reply_now reply_then
      = v p t now (ten_at k l) able roomy h z.holds turn lent in
      let e : take k ten ++ (p ∷ []) ≡ take (k + 1) ten = sym (take-suc ten k Lines l) ∙ ap (λ (i : ℕ). take i ten) (let i : suc k ≡ k + 1 = omega arith in i) in
      let a : Holds lim (with_part p t (forget now)) to_then
      = after_holds lim lim able roomy t h.0 now to_now to_then z.holds p turn x.to_is in
      let same : with_part p t (forget now) ≡ with_parts t (take (k + 1) ten) u
      = sym (parts_more t (take k ten) p u) ∙ ap (λ (ps : List Part). with_parts t ps u) e in
      record {
        holds = subst (λ (w : Tables). Holds lim w to_then) same a;
        buffer_is = x.buffer_is ∙ ap (written_over (request_bytes (exported p t))) z.buffer_is ∙ sym (requests_more t (take k ten) p buffer)
            ∙ ap (λ (ps : List Part). written_in_turn (requests t ps) buffer) e;
        reply_first = λ w. absurd (omega arith);
        reply_is = λ w. x.reply_is ∙ over_again k z.reply_first z.reply_is;
      }
    where
      over_again : (k : ℕ) → (k ≡ 0 → reply_now ≡ reply) → (0 < k → reply_now ≡ written_over answer reply) → written_over answer reply_now ≡ written_over answer reply
      over_again zero f g = ap (written_over answer) (f refl)
      over_again (suc k) f g = ap (written_over answer) (g (omega arith)) ∙ again answer reply

  -- all of them
  pub so_far_end : (k : ℕ) (to_now buffer_now reply_now : List ℕ) → k ≡ length ten → SoFar k to_now buffer_now reply_now
      → record { answer = 0; to = to_now; buffer = buffer_now; reply = reply_now } ≡ restores lim from to buffer reply t
  so_far_end k to_now buffer_now reply_now e g =
      let z : SoFar (length ten) to_now buffer_now reply_now = subst (λ (i : ℕ). SoFar i to_now buffer_now reply_now) e g in
      let r : reply_now ≡ written_over answer reply = z.reply_is (omega arith) in
      λ i. record { answer = 0; to = z.holds.1 i; buffer = z.buffer_is i; reply = r i }
