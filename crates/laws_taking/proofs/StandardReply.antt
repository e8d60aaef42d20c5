-- Demand 2's "the reply is the standard's", over the contract of commit: for every message, store and reply buffer. Assumes nothing.
use Rattle.lists.proofs.Kit.{ℕ, ◌+◌, ◌≤◌, ◌<◌, ◌≡◌, refl, ap, subst⁻¹, inl, inr, ⊎_elim, Bool, true, false, List, ◌++◌, arith, length, take, drop, take_at}
use Rattle.lists.specs.Ladder.{Answers}
use Rattle.writing.specs.declared.Coding.{Coding}
use Rattle.writing.specs.Carrier.{Reply, Counted}
use Rattle.writing.specs.Ranges.{text_limits, InRange}
use Rattle.writing.specs.Settings.{Setting, Hash}
use Rattle.read_carrier.proofs.OneMeaning.{reply_one}
use Rattle.tables.specs.declared.limits.Limits.{Limits}
use Rattle.tables.specs.Allowed.{Allowed, HashOk}
use Rattle.tables.specs.Apply.{apply}
use Rattle.tables.specs.Forms.{layout}
use Rattle.tables.specs.Store.{Holds}
use Rattle.tables.specs.Tables.{Tables, no_hash}
use Rattle.tables.proofs.AllowedLaws.{forget_allowed}
use Rattle.station.specs.Replies.{reply_bytes}
use Rattle.station.proofs.StandardReply.{reply_length, standard_bytes}
use Rattle.requests.specs.Judge.{kept, refused, taken as all_taken, over, fault}
use Rattle.requests.specs.Requests.{WrittenIn, Known, Judged, forget, last_item}
use Rattle.station.specs.Taking.{AfterTaking, replies, stays, turned_down, AsRequest, AsQuery, taken}
use Rattle.station.proofs.TakeLaws.{no_hash_ok}
use Rattle.laws_taking.specs.StandardReply.{HashSent, code_0, kept_afterwards, StandardReply}
use Rattle.laws_taking.proofs.Demand.{run_allowed}
use Rattle.laws_taking.proofs.Determined.{one_writing, type_first}
use Rattle.laws_taking.proofs.JudgeLaws.{refused_number}

-- ParamSum has 8 bits
counted_small : {count : ℕ} {settings ds : List ℕ} → Counted count settings ds → count < 256
counted_small k = let z = k.says.5.5 in omega (arith, z.2, z.3)

-- a failed ID is at most ParamSum
failed_counted : (c : Coding) (lim : Limits) (t : Tables) {n number failed : ℕ} {bs : List ℕ} → Judged c lim n t bs (refused number failed) → failed ≤ n
failed_counted c lim t (over e q) = omega arith
failed_counted c lim t (fault left e q f) = omega arith

module _ (lim : Limits) (message store reply : List ℕ) where
  -- a reply that was written over the buffer
  written : (number failed : ℕ) (send reboot : Bool) (h : Hash) (after : List ℕ) → number < 256 → failed < 256 → HashOk h
      → HashSent lim number after h → (x : AfterTaking) → x ≡ replies lim message store reply number failed send reboot h after → StandardReply lim x
  written number failed send reboot h after n f ok s x e =
      let bytes : List ℕ = reply_bytes number failed h in
      let t : take (10 + length h.value) (bytes ++ drop (length bytes) reply) ≡ bytes
      = take_at bytes (drop (length bytes) reply) (10 + length h.value) (reply_length number failed h) in
      let r = subst⁻¹ (λ (l : List ℕ). (r : Reply number failed h l) × (r.carried.stated ≡ 2 + length r.data_bytes)) t
      (standard_bytes number failed h n f ok) in
      subst⁻¹ (StandardReply lim) e (record { hash = h; is = r.0; true_length = r.1; sent = s })

  -- a request's reply: 0 carries the hash kept now, a refusal none
  request_reply : (t : Tables) → Allowed lim t → (x : AfterTaking) → AsRequest lim message store reply t x → StandardReply lim x
  request_reply t ok x (c, count, settings, r, kept l u, all_taken _ q, e) =
      let now : Allowed lim u = run_allowed c lim q (forget_allowed lim t ok) in
      written 0 0 (last_item l).flags.reply (last_item l).flags.reboot u.hash (layout lim u) (omega arith) (omega arith) now.hash
      (kept_afterwards (inl refl) u (now, refl) refl) x e
  request_reply t ok x (c, count, settings, r, refused number failed, j, e) =
      let (a, b) = refused_number Setting Tables (WrittenIn c) (InRange text_limits) (apply lim) Known (one_writing c) (type_first c) j in
      written number failed true false no_hash store (omega arith) (omega (arith, failed_counted c lim (forget t) j, counted_small r.counted))
      no_hash_ok (code_0 (omega arith) b refl) x e

  -- a result query's reply: the store stays, and so does its hash
  query_reply : (t : Tables) → Holds lim t store → (x : AfterTaking) → AsQuery lim message store reply t x → StandardReply lim x
  query_reply t now x (h, q, inl (_, _, e)) =
      written 0 0 true false t.hash store (omega arith) (omega arith) now.0.hash (kept_afterwards (inl refl) t now refl) x e
  query_reply t now x (h, q, inr (_, e)) =
      written 5 0 true false t.hash store (omega arith) (omega arith) now.0.hash (kept_afterwards (inr refl) t now refl) x e

  -- a message that is turned down before its settings
  turned_reply : (number : ℕ) → 1 ≤ number → number ≤ 4 → (x : AfterTaking) → x ≡ turned_down lim message store reply number 0 → StandardReply lim x
  turned_reply number a b x e = written number 0 true false no_hash store (omega arith) (omega arith) no_hash_ok (code_0 a b refl) x e

  -- 10 and more write none
  no_reply : (k : ℕ) → 10 ≤ k → (x : AfterTaking) → x ≡ stays lim message store reply k → x.answer.number < 10 → StandardReply lim x
  no_reply k a x e n = absurd (omega (arith, ap (λ (y : AfterTaking). y.answer.number) e))

  -- STANDARD REPLY: "the reply is the standard's" (demand 2); "0 to 5 write a reply"
  pub reply_standard : (x : AfterTaking) → Answers (taken lim message store reply) x → x.answer.number < 10 → StandardReply lim x
  reply_standard x (inl (_, e)) = no_reply 10 (omega arith) x e
  reply_standard x (inr (_, inl (_, e))) = no_reply 11 (omega arith) x e
  reply_standard x (inr (_, inr (_, inl (_, e)))) = no_reply 12 (omega arith) x e
  reply_standard x (inr (_, inr (_, inr (_, inl (_, e))))) = no_reply 13 (omega arith) x e
  reply_standard x (inr (_, inr (_, inr (_, inr (_, inl (_, e)))))) = no_reply 14 (omega arith) x e
  reply_standard x (inr (_, inr (_, inr (_, inr (_, inr (_, inl (_, e))))))) = λ n. turned_reply 1 (omega arith) (omega arith) x e
  reply_standard x (inr (_, inr (_, inr (_, inr (_, inr (_, inr (_, inl (_, e)))))))) = λ n. turned_reply 4 (omega arith) (omega arith) x e
  reply_standard x (inr (_, inr (_, inr (_, inr (_, inr (_, inr (_, inr (_, h)))))))) =
      λ n. ⊎_elim (request_reply h.tables h.holds.0 x) (query_reply h.tables h.holds x) h.comes_to

  -- NO OTHER REPLY: whatever reply these bytes are, it says the answer's number and failed ID, and that hash
  pub reply_says : (x : AfterTaking) → Answers (taken lim message store reply) x → x.answer.number < 10 → {number failed : ℕ} {h : Hash}
      → Reply number failed h (take x.answer.reply_length x.reply)
      → (number ≡ x.answer.number) × (failed ≡ x.answer.failed) × HashSent lim x.answer.number x.store h
  reply_says x a n r =
      let s : StandardReply lim x = reply_standard x a n in
      let (p, q, k) = reply_one r s.is in
      (p, q, subst⁻¹ (HashSent lim x.answer.number x.store) k s.sent)
