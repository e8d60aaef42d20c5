-- EXPORTED BYTES: what exporting a part leaves at the start of its buffer is that part's request, and nothing else is allowed. Assumes nothing.
use Rattle.lists.proofs.Kit.{ℕ, ◌≤◌, ◌≡◌, sym, ap, ◌∙◌, inl, inr, List, arith, length, take, drop, take-append_seam}
use Rattle.lists.specs.Ladder.{Answers}
use Rattle.tables.specs.declared.limits.Limits.{Limits}
use Rattle.tables.specs.Forms.{Roomy}
use Rattle.tables.specs.Store.{Holds}
use Rattle.tables.specs.Tables.{Tables}
use Rattle.shared_texts.proofs.Forms.{holds_store, layout_one}
use Rattle.export.specs.declared.parts.Part.{Part}
use Rattle.export.specs.Exported.{part_number, exported, request_bytes}
use Rattle.export.proofs.Determined.{one_part}
use Rattle.export.specs.Exporting.{AfterExport, writes, exporting}

module _ (lim : Limits) (part : ℕ) (store buffer : List ℕ) where
  -- from a store, into a buffer of a message's size, the part is written
  pub written_one : (t : Tables) (p : Part) → Roomy lim → Holds lim t store → part_number p ≡ part → lim.message ≤ length buffer
      → (a : AfterExport) → Answers (exporting lim part store buffer) a → a ≡ writes lim part store buffer (request_bytes (exported p t))
  written_one t p room holds n size a (inl h) = absurd (omega (arith, h.0))
  written_one t p room holds n size a (inr (_, inl h)) = absurd (h.0 (holds_store lim t store room holds))
  written_one t p room holds n size a (inr (_, inr (_, inl h))) = absurd (h.0 p n)
  written_one t p room holds n size a (inr (_, inr (_, inr (_, x)))) =
      let e : x.tables ≡ t = layout_one lim x.tables t x.holds.0 holds.0 (sym x.holds.1 ∙ holds.1) in
      let w : x.which ≡ p = one_part x.which p (x.numbered ∙ sym n) in
      x.after ∙ (λ i. writes lim part store buffer (request_bytes (exported (w i) (e i))))

  -- EXPORTED BYTES: from a store, into a buffer of a message's size, a part's number gives its request
  pub exported_bytes : (t : Tables) (p : Part) → Roomy lim → Holds lim t store → part_number p ≡ part → lim.message ≤ length buffer
      → (a : AfterExport) → Answers (exporting lim part store buffer) a
      → (a.answer.number ≡ 0) × (take a.answer.request_length a.buffer ≡ request_bytes (exported p t))
  exported_bytes t p room holds n size a h =
      let bytes : List ℕ = request_bytes (exported p t) in
      let e : a ≡ writes lim part store buffer bytes = written_one t p room holds n size a h in
      (ap (λ (y : AfterExport). y.answer.number) e, ap (λ (y : AfterExport). take y.answer.request_length y.buffer) e ∙ take-append_seam bytes (drop (length bytes) buffer))
