-- An exported part's bytes are the standard's request of exactly the settings that `exported` names. Assumes nothing.
use Rattle.lists.proofs.Kit.{ℕ, ◌+◌, ◌≤◌, ◌≡◌, ap, ◌∙◌, subst⁻¹, inl, inr, List, arith, length, take, drop, take-append_seam}
use Rattle.lists.specs.Ladder.{Answers}
use Rattle.writing.specs.Carrier.{Counted, Request}
use Rattle.writing.specs.Settings.{Setting, unicode16}
use Rattle.writing.specs.Writing.{WrittenAll, WrittenAs}
use Rattle.writing.proofs.CanonicalLaws.{canonical_all_written}
use Rattle.read_carrier.proofs.OneMeaning.{settings_one}
use Rattle.read_carrier.proofs.TrueLength.{plain_carries}
use Rattle.tables.specs.declared.limits.Limits.{Limits}
use Rattle.tables.specs.Allowed.{Allowed}
use Rattle.tables.specs.Store.{Holds}
use Rattle.tables.specs.Tables.{Tables}
use Rattle.export.specs.declared.parts.Part.{Part}
use Rattle.export.specs.Exportable.{Exportable}
use Rattle.export.specs.Exported.{part_number, exported, data_bytes, request_bytes}
use Rattle.export.specs.Exporting.{AfterExport, exporting}
use Rattle.restore.specs.Restored.{longest}
use Rattle.restore.specs.StandardRequest.{StandardRequest}
use Rattle.restore.proofs.Fitting.{exported_readable, exported_count}
use Rattle.restore.proofs.Requests.{request_counted, longest_fits, exported_length}

-- settings that are counted, and written behind ParamSum
counted_written : (ss : List Setting) {settings d : List ℕ} → Counted (length ss) settings d → WrittenAll unicode16 ss settings
    → WrittenAs unicode16 ss d
counted_written ss {settings} k w =
    record { some_setting = k.some_setting; head = k.head; settings = settings; parts = k.parts; counted = k.says; written = w }

module _ (lim : Limits) (x : Exportable lim) (t : Tables) (ok : Allowed lim t) (p : Part) where
  -- EXPORTED REQUEST: a part's bytes are a request of the settings that it exports; "true lengths"
  pub exported_request : (r : Request unicode16 (exported p t) (request_bytes (exported p t))) × (r.carried.stated ≡ 2 + length r.data_bytes)
  exported_request =
      let ss : List Setting = exported p t in
      let (some, few) = exported_count lim x t ok p in
      let b : length (request_bytes ss) ≤ longest lim p = exported_length lim x t ok p in
      let k = plain_carries 7 (data_bytes ss) (omega arith) (omega (arith, (longest_fits lim x p).1)) in
      let w : WrittenAs unicode16 ss (data_bytes ss)
      = counted_written ss (request_counted ss some few) (canonical_all_written unicode16 ss (exported_readable lim x t ok p).fits) in
      (record { data_bytes = data_bytes ss; carried = k.0; written = w }, k.1)

  -- EXPORTED ONLY: and of no other list of settings
  pub exported_only : (ss : List Setting) → Request unicode16 ss (request_bytes (exported p t)) → ss ≡ exported p t
  exported_only ss r = settings_one unicode16 ss (exported p t) (request_bytes (exported p t)) r exported_request.0

  -- STANDARD REQUEST: "No FF; true lengths"
  pub exported_standard : StandardRequest (exported p t) (request_bytes (exported p t))
  exported_standard =
      record { is = exported_request.0; true_length = exported_request.1; no_last = (exported_readable lim x t ok p).no_last; only = exported_only }

module _ (lim : Limits) (part : ℕ) (store buffer : List ℕ) where
  -- EXPORT STANDARD: what export leaves at the buffer's start is such a request, of the part with this number of the tables that the store holds
  pub export_standard : Exportable lim → (a : AfterExport) → Answers (exporting lim part store buffer) a → a.answer.number ≡ 0
      → (p : Part) × (t : Tables) × (part_number p ≡ part) × Holds lim t store
      × StandardRequest (exported p t) (take a.answer.request_length a.buffer)
  export_standard x a (inl (_, e)) z = absurd (omega (arith, ap (λ (y : AfterExport). y.answer.number) e))
  export_standard x a (inr (_, inl (_, e))) z = absurd (omega (arith, ap (λ (y : AfterExport). y.answer.number) e))
  export_standard x a (inr (_, inr (_, inl (_, e)))) z = absurd (omega (arith, ap (λ (y : AfterExport). y.answer.number) e))
  export_standard x a (inr (_, inr (_, inr (_, o)))) z =
      let ss : List Setting = exported o.which o.tables in
      let bytes : List ℕ = request_bytes ss in
      let e : take a.answer.request_length a.buffer ≡ bytes
      = ap (λ (y : AfterExport). take y.answer.request_length y.buffer) o.after ∙ take-append_seam bytes (drop (length bytes) buffer) in
      (o.which, o.tables, o.numbered, o.holds, subst⁻¹ (StandardRequest ss) e (exported_standard lim x o.tables o.holds.0 o.which))
