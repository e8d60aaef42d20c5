-- What exporting answers, refusal by refusal, and for a request that was written. Assumes nothing.
use Rattle.std.specs.Prelude.{Result, Ok, Err, IsErrAnd}
use Rattle.export.specs.declared.parts.NoExport.{NoExport}
use Rattle.lists.proofs.Kit.{ℕ, ◌≤◌, ◌<◌, ◌≡◌, refl, sym, ap, ◌∙◌, inl, inr, List, ◌++◌, zero-add, arith, length, drop, length-append}
use Rattle.lists.specs.Ladder.{Answers}
use Rattle.writing.specs.Canonical.{canonical_all}
use Rattle.writing.specs.Settings.{Setting, unicode16}
use Rattle.tables.specs.declared.limits.Limits.{Limits}
use Rattle.tables.specs.Store.{StoreOf, Holds, Works}
use Rattle.tables.specs.Tables.{Tables}
use Rattle.working.specs.Seen.{Seen}
use Rattle.export.specs.declared.parts.Part.{Part}
use Rattle.export_write.specs.declared.writers.Settings.{Settings}
use Rattle.export.specs.Exported.{part_number, exported, request_bytes}
use Rattle.export.specs.Exporting.{AfterExport, told, exporting, stays}
use Rattle.export.specs.PartWriters.{PartWritten, Headed}
use Rattle.export_write.specs.Writers.{Wrote}
use Rattle.export_write.proofs.WroteLaws.{wrote_length}

-- the refusal that `?` hands on
pub refused_as : (r : Result ℕ NoExport) (why : NoExport) → IsErrAnd r (λ e. e ≡ why) → r ≡ Err why
refused_as (Ok n) why h = absurd h
refused_as (Err e) why h = ap Err h

module _ (lim : Limits) (part : ℕ) (store buffer : List ℕ) where
  -- "15"
  pub says_15 : length buffer < lim.message → Answers (exporting lim part store buffer) (stays lim part store buffer 15)
  says_15 h = inl (h, refl)

  -- "11"
  pub says_11 : lim.message ≤ length buffer → (StoreOf lim store → ⊥) → Answers (exporting lim part store buffer) (stays lim part store buffer 11)
  says_11 h n = inr (λ l. omega arith, inl (n, refl))

  -- "16"
  pub says_16 : lim.message ≤ length buffer → StoreOf lim store → ((p : Part) → part_number p ≡ part → ⊥) → Answers (exporting lim part store buffer) (stays lim part store buffer 16)
  says_16 h s n = inr (λ l. omega arith, inr (λ k. k s, inl (n, refl)))

  -- the request was written
  pub says_0 : (which : Part) (work mid after : List ℕ) (r : Settings) (end : ℕ) → lim.message ≤ length buffer → StoreOf lim store → Seen lim store work → part_number which ≡ part
      → PartWritten lim which work buffer mid r → ((8 ≤ r.end) × (r.end ≤ length mid) × (r.end < 65540) → Headed r.count r.end mid after end)
      → Answers (exporting lim part store buffer) (record { answer = record { number = 0; request_length = end }; buffer = after })
  says_0 which work mid after r end h s see n w headed =
      let t : Tables = s.store.tables in
      let held : Holds lim t store = (s.store.allowed, s.store.bytes_are) in
      let works : Works lim t work = see.1 t held in
      let ss : List Setting = exported which t in
      let v : Wrote (canonical_all unicode16 ss) 8 buffer mid r.end = w.writes.writes.wrote t works in
      let k = headed (w.writes.writes.from, omega (arith, v.fits, v.next, wrote_length (canonical_all unicode16 ss) 8 r.end buffer mid v), w.small) in
      let z : Wrote (request_bytes ss) 0 buffer after end = k.request ss buffer (sym (w.writes.counted t works)) v in
      let b : List ℕ = request_bytes ss in
      let e : end ≡ length b = z.next ∙ zero-add (length b) in
      let c : after ≡ b ++ drop (length b) buffer = z.content ∙ ap (λ (i : ℕ). b ++ drop i buffer) (zero-add (length b)) in
      inr (
        λ l. omega arith,
        inr (
          λ q. q s,
          inr (
            λ q. q which n,
            record { tables = t; holds = held; which = which; numbered = n; after = λ i. record { answer = record { number = 0; request_length = e i }; buffer = c i } },
          ),
        ),
      )

  -- a request that was written is within the buffer
  pub written_within : (after : List ℕ) (n : ℕ) → Answers (exporting lim part store buffer) (record { answer = told (Ok n); buffer = after }) → n ≤ length after
  written_within after n (inl (_, e)) = absurd (omega (arith, ap (λ (a : AfterExport). a.answer.number) e))
  written_within after n (inr (_, inl (_, e))) = absurd (omega (arith, ap (λ (a : AfterExport). a.answer.number) e))
  written_within after n (inr (_, inr (_, inl (_, e)))) = absurd (omega (arith, ap (λ (a : AfterExport). a.answer.number) e))
  written_within after n (inr (_, inr (_, inr (_, x)))) =
      let bytes : List ℕ = request_bytes (exported x.which x.tables) in
      let e : n ≡ length bytes = ap (λ (a : AfterExport). a.answer.request_length) x.after in
      let d : length after ≡ length (bytes ++ drop (length bytes) buffer) = ap (λ (a : AfterExport). length a.buffer) x.after in
      omega (arith, e, d, length-append bytes (drop (length bytes) buffer))
