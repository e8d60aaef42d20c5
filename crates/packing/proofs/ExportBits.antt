-- What exporting answers, packed: the length of a request that was exported has 16 bits. Assumes nothing.
use Rattle.lists.proofs.Kit.{ℕ, ◌≤◌, ◌<◌, ◌≡◌, ap, inl, inr, List, arith, length}
use Rattle.lists.specs.Ladder.{Answers}
use Rattle.tables.specs.declared.limits.Limits.{Limits}
use Rattle.export.specs.declared.parts.NoExport.{NoExport}
use Rattle.std.specs.Prelude.{Result}
use Rattle.export.specs.Exported.{exported, request_bytes}
use Rattle.export.specs.Exporting.{AfterExport, Told, told, exporting}
use Rattle.restore.specs.Restored.{longest}
use Rattle.restore.proofs.Requests.{exported_length, longest_fits}
use Rattle.packing.specs.Packing.{Packable, PacksExport, Exports}

-- ---- what the call answers

module _ (lim : Limits) (ok : Packable lim) (part : ℕ) (store buffer after : List ℕ) where
  -- no part is longer than 16 bits say
  length_small : (t : Told) → Answers (exporting lim part store buffer) (record { answer = t; buffer = after }) → t.request_length < 65536
  length_small t (inl (_, e)) = omega (arith, ap (λ (a : AfterExport). a.answer.request_length) e)
  length_small t (inr (_, inl (_, e))) = omega (arith, ap (λ (a : AfterExport). a.answer.request_length) e)
  length_small t (inr (_, inr (_, inl (_, e)))) = omega (arith, ap (λ (a : AfterExport). a.answer.request_length) e)
  length_small t (inr (_, inr (_, inr (_, x)))) =
      let e : t.request_length ≡ length (request_bytes (exported x.which x.tables)) = ap (λ (a : AfterExport). a.answer.request_length) x.after in
      let b : length (request_bytes (exported x.which x.tables)) ≤ longest lim x.which
      = exported_length lim ok.exportable x.tables x.holds.0 x.which in
      let l : longest lim x.which ≤ 65535 = (longest_fits lim ok.exportable x.which).1 in
      omega arith

  -- EXPORTS: what the call answers is packed whole
  pub exports_packed : (x : Result ℕ NoExport) (r : ℕ) → Answers (exporting lim part store buffer) (record { answer = told x; buffer = after })
      → ((told x).request_length < 65536 → PacksExport (told x) r) → Exports lim part store buffer after r
  exports_packed x r a packs = record { answer = told x; allowed = a; packs = packs (length_small (told x) a) }
