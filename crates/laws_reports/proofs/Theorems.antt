-- What taking answers to a query and to a report. Assumes nothing.
use Rattle.lists.proofs.Kit.{ℕ, ◌≤◌, ◌<◌, ◌≡◌, inl, inr, List, arith, length}
use Rattle.lists.specs.Ladder.{Answers}
use Rattle.writing.specs.Carrier.{InSize, OtherType, Opens}
use Rattle.tables.specs.declared.limits.Limits.{Limits}
use Rattle.tables.specs.Store.{StoreOf}
use Rattle.station.specs.Taking.{AfterTaking, stays, taken}
use Rattle.reports.specs.Items.{Item}
use Rattle.reports.specs.Reports.{TypesOf, ReportOf}
use Rattle.reports.proofs.CallRead.{query_opens, query_other, report_opens, report_other}

module _ (lim : Limits) (message store reply : List ℕ) (room : 20 ≤ length reply) (held : StoreOf lim store) (size : InSize lim.message message) where
  -- a carried message of another type is 14
  other_taken : {version kind coding : ℕ} {data_bytes : List ℕ} → Opens version kind coding data_bytes message → OtherType message
      → (a : AfterTaking) → Answers (taken lim message store reply) a → a ≡ stays lim message store reply 14
  other_taken o other a (inl (short, e)) = absurd (omega (arith, short))
  other_taken o other a (inr (_, inl (none, e))) = absurd (none held)
  other_taken o other a (inr (_, inr (_, inl (out, e)))) = absurd (out size)
  other_taken o other a (inr (_, inr (_, inr (_, inl (nothing, e))))) = absurd (nothing _ _ o.carried)
  other_taken o other a (inr (_, inr (_, inr (_, inr (_, inl (_, e)))))) = e
  other_taken o other a (inr (_, inr (_, inr (_, inr (_, inr (not_other, _)))))) = absurd (not_other other)

  -- QUERY NOT TAKEN: taking refuses a query with 14, and leaves store and reply buffer as they are
  pub query_not_taken : {types : List ℕ} → TypesOf types message → (a : AfterTaking) → Answers (taken lim message store reply) a → a ≡ stays lim message store reply 14
  query_not_taken q = other_taken (query_opens q) (query_other q)

  -- REPORT NOT TAKEN: and a report too
  pub report_not_taken : {total index : ℕ} {items : List Item} → ReportOf total index items message
      → (a : AfterTaking) → Answers (taken lim message store reply) a → a ≡ stays lim message store reply 14
  report_not_taken r = other_taken (report_opens r) (report_other r)
