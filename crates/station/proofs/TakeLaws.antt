-- A message handled step by step comes to what the contract of taking says. Assumes nothing.
use Rattle.lists.proofs.Kit.{ℕ, ◌≤◌, ◌≡◌, refl, sym, ap, ap₂, ◌∙◌, subst, subst⁻¹, subst₂, ◌⊎◌, inl, inr, List, Bool, true, false, arith, mid_of, put_mid, mid_len, length, drop}
use Rattle.std.specs.Prelude.{Option, Some, None, Result, Ok, Err}
use Rattle.lists.specs.Ladder.{Ladder, rung, foot, Answers}
use Rattle.writing.specs.declared.Coding.{Coding}
use Rattle.writing.specs.declared.LastFlags.{LastFlags}
use Rattle.writing.specs.declared.CfgResult.{CfgResult}
use Rattle.writing.specs.declared.CfgResult.TheVariants.{Taken, NoMatch}
use Rattle.writing.specs.Ranges.{no_hash as of_no_value}
use Rattle.writing.specs.Settings.{Setting, Hash}
use Rattle.writing.specs.Carrier.{result_number, Opens, InSize, NothingCarried, OtherType, OtherVersion, NoRequest, NoQuery}
use Rattle.read_carrier.specs.Message.{MessageIs}
use Rattle.read_carrier.specs.declared.carrier.Message.{Message}
use Rattle.read_carrier.specs.declared.carrier.Message.TheVariants.{Size, Carrier, «Type» as AnotherType, Version, NoRequest as NotRequest, Request, NoQuery as NotQuery, Query as AQuery}
use Rattle.read_carrier.proofs.KindLaws.{request_opens, other_type, other_version, opens_no_query, opens_no_request, uncounted}
use Rattle.read_carrier.proofs.MessageOne.{query_opens}
use Rattle.read_fields.specs.declared.hashes.HashPlace.{HashPlace}
use Rattle.tables.specs.declared.limits.Limits.{Limits}
use Rattle.tables.specs.Allowed.{HashOk}
use Rattle.tables.specs.Forms.{Roomy, layout}
use Rattle.tables.specs.Layout.{hash_bytes, used_size, hash_size}
use Rattle.tables.specs.Limits.{placed}
use Rattle.tables.specs.Store.{StoreOf, Holds, Works}
use Rattle.tables.specs.Tables.{Tables, no_hash}
use Rattle.tables.proofs.AllowedLaws.{forget_allowed}
use Rattle.tables.proofs.Frames.{hash_put}
use Rattle.tables.proofs.LayoutLaws.{placed_length}
use Rattle.shared_texts.proofs.FormFrames.{hash_stands}
use Rattle.station.specs.declared.answers.Answer.{Answer}
use Rattle.station.specs.declared.answers.Answer.TheVariants.{Untouched, Replied}
use Rattle.station.specs.declared.answers.Reply.{Reply}
use Rattle.requests.specs.declared.run.Fault.{Fault as RunFault}
use Rattle.station.specs.Answers.{said}
use Rattle.station.specs.Handling.{Queried, RequestJudged, Accepted, Weighed, answer_of, Verdict, VerdictIs, Keeps}
use Rattle.station.specs.Judging.{Judges}
use Rattle.requests.specs.Judge.{Outcome, kept, refused}
use Rattle.station.specs.Queries.{SameAs, HashSame}
use Rattle.station.specs.Replies.{ReplyWritten}
use Rattle.working.specs.declared.copies.Copy.{Copy}
use Rattle.working.specs.Copies.{Ready}
use Rattle.requests.specs.Requests.{Judged, forget}
use Rattle.station.proofs.CopyLaws.{ready_hash}
use Rattle.station.specs.Taking.{AfterTaking, leaves, stays, turned_down, replies, settled, Asked, AsRequest, AsQuery, Handled, taken}

-- no hash is a hash that may be kept
pub no_hash_ok : HashOk no_hash
no_hash_ok = record { size = of_no_value; bytes = tt }

module _ (lim : Limits) (message was reply : List ℕ) where
  -- a reply that was written, with what it says
  pub replied : (result : CfgResult) (number failed : ℕ) (send reboot : Bool) (h : Hash) (store hash after : List ℕ) (n : ℕ)
      → number ≡ result_number result → HashOk h → hash ≡ hash_bytes h → ReplyWritten number failed hash reply after n
      → leaves (Replied (record { result = result; failed = failed; send = send; reboot = reboot; length = n })) store after
      ≡ replies lim message was reply (result_number result) failed send reboot h store
  replied result number failed send reboot h store hash after n is ok e w =
      let (x, y) = subst (λ (k : ℕ). ReplyWritten k failed hash reply after n) is w h ok e in
      λ i. record {
        answer = record { number = result_number result; failed = failed; send = send; reboot = reboot; reply_length = y i };
        store = store;
        reply = x i;
      }

-- ---- a result query

module _ (message : List ℕ) (place : HashPlace) (store reply after : List ℕ) (result : CfgResult) (number n : ℕ) where
  -- the query matches exactly where the hash is the one kept
  pub queried : (k : Bool) → HashSame message place (mid_of 0 hash_size store) k → ((k ≡ true) × (result ≡ Taken)) ⊎ ((k ≡ false) × (result ≡ NoMatch))
      → number ≡ result_number result → ReplyWritten number 0 (mid_of 0 hash_size store) reply after n
      → Queried message place store reply after (record { result = result; failed = 0; send = true; reboot = false; length = n })
  queried k same which numbered w lim t (ok, is) (size, h, q, code, stands) = (h, q, by which)
    where
      kept_bytes : mid_of 0 hash_size store ≡ hash_bytes t.hash
      kept_bytes = ap (mid_of 0 hash_size) is ∙ hash_stands lim t ok

      compared : SameAs h t.hash k
      compared = same h t.hash ok.hash kept_bytes code q.in_range stands

      written : (said : CfgResult) → result ≡ said
          → leaves (Replied (record { result = result; failed = 0; send = true; reboot = false; length = n })) store after
          ≡ replies lim message store reply (result_number said) 0 true false t.hash store
      written said e =
          replied lim message store reply result number 0 true false t.hash store (mid_of 0 hash_size store) after n numbered ok.hash kept_bytes w
          ∙ ap (λ (x : CfgResult). replies lim message store reply (result_number x) 0 true false t.hash store) e

      by : ((k ≡ true) × (result ≡ Taken)) ⊎ ((k ≡ false) × (result ≡ NoMatch))
          → Asked lim message store reply h t.hash (leaves (Replied (record { result = result; failed = 0; send = true; reboot = false; length = n })) store after)
      by (inl (e, z)) = let (a, b) = subst (SameAs h t.hash) e compared in inl (a, b, written Taken z)
      by (inr (e, z)) = inr (subst (SameAs h t.hash) e compared, written NoMatch z)

-- ---- a request

-- a working copy with no hash kept
pub forgotten : (lim : Limits) (t : Tables) (w y : List ℕ) → Roomy lim → Works lim t w → (length (mid_of 0 hash_size w) ≡ 11 → y ≡ hash_bytes no_hash) → Works lim (forget t) (put_mid 0 hash_size w y)
forgotten lim t w y room (ok, is) e =
    let r : used_size lim ≤ lim.size = room.fits in
    let l : length w ≡ lim.size = ap length is ∙ placed_length lim t room ok in
    (forget_allowed (placed lim) t ok, ap₂ (put_mid 0 hash_size) is (e (mid_len 0 11 w (omega arith))) ∙ hash_put lim t ok no_hash)

-- the reply to a good one
pub accepted : (f : LastFlags) (n : ℕ) (hash reply after : List ℕ) → ReplyWritten 0 0 hash reply after n
    → Accepted f hash reply after (record { result = Taken; failed = 0; send = f.reply; reboot = f.reboot; length = n })
accepted f n hash reply after x lim message store store_after h ok e =
    replied lim message store reply Taken 0 0 f.reply f.reboot h store_after hash after n refl ok e x

-- ---- a message

module _ (lim : Limits) (message store reply : List ℕ) where
  -- the ladder from the rung of 4 on, from that of 1 on, and from that of 12 on
  abbrev from_4 : Ladder AfterTaking
  from_4 = rung (NoRequest message × NoQuery message) (turned_down lim message store reply 4 0) (foot (Handled lim message store reply))

  abbrev from_1 : Ladder AfterTaking
  from_1 = rung (OtherVersion message) (turned_down lim message store reply 1 0) from_4

  abbrev from_12 : Ladder AfterTaking
  from_12 =
      rung (InSize lim.message message → ⊥) (stays lim message store reply 12)
      (rung (NothingCarried message) (stays lim message store reply 13)
      (rung (OtherType message) (stays lim message store reply 14) from_1))

module _ (lim : Limits) (message store reply : List ℕ) (x : AfterTaking) (big : 20 ≤ length reply) (s : StoreOf lim store) where
  -- what comes after 10 and 11
  past_11 : Answers (from_12 lim message store reply) x → Answers (taken lim message store reply) x
  past_11 a = inr (λ h. omega arith, inr (λ n. n s, a))

  -- where a message opens as a request or a query, what comes after 14
  past_14 : {v k c : ℕ} {d : List ℕ} → InSize lim.message message → Opens v k c d message → (k ≡ 0) ⊎ (k ≡ 5)
      → Answers (from_1 lim message store reply) x → Answers (taken lim message store reply) x
  past_14 {v} {k} {c} {d} i o t a = past_11 (inr (λ n. n i, inr (λ n. n c d o.carried, inr (λ n. n v k c d t o, a))))

  -- with version 1, what comes after 1
  past_1 : {k c : ℕ} {d : List ℕ} → InSize lim.message message → Opens 1 k c d message → (k ≡ 0) ⊎ (k ≡ 5)
      → Answers (from_4 lim message store reply) x → Answers (taken lim message store reply) x
  past_1 {k} {c} {d} i o t a = past_14 i o t (inr (λ n. n k c d o, a))

  -- REQUEST ANSWERS: a request in size is answered as its settings come to, from the tables of the store
  pub request_answers : (t : Tables) → Holds lim t store → InSize lim.message message → AsRequest lim message store reply t x → Answers (taken lim message store reply) x
  request_answers t h i r = past_1 i (request_opens r.3) (inl refl) (inr (λ n. n.0 r.0 r.1 r.2 r.3, record { tables = t; holds = h; comes_to = inl r }))

  -- a query in size, as its hash and the one kept say
  query_answers : (t : Tables) → Holds lim t store → InSize lim.message message → AsQuery lim message store reply t x → Answers (taken lim message store reply) x
  query_answers t h i q = past_1 i (query_opens q.1) (inr refl) (inr (λ n. n.1 q.0 q.1, record { tables = t; holds = h; comes_to = inr q }))

  -- what each kind comes to, as it was read
  abbrev pub ByKind : Tables → Message → Type 0
  ByKind t Size = x ≡ stays lim message store reply 12
  ByKind t Carrier = x ≡ stays lim message store reply 13
  ByKind t AnotherType = x ≡ stays lim message store reply 14
  ByKind t Version = x ≡ turned_down lim message store reply 1 0
  ByKind t NotRequest = x ≡ turned_down lim message store reply 4 0
  ByKind t NotQuery = x ≡ turned_down lim message store reply 4 0
  ByKind t (AQuery p) = AsQuery lim message store reply t x
  ByKind t (Request count at c) = (o : Outcome Setting Tables) × Judged c lim count (forget t) (drop at message) o × (x ≡ settled lim message store reply o)

  by_kind : (t : Tables) → Holds lim t store → (k : Message) → MessageIs lim.message message k → ByKind t k → Answers (taken lim message store reply) x
  by_kind t h Size z e = past_11 (inl (z, e))
  by_kind t h Carrier z e = past_11 (inr (λ n. n z.0, inl (z.1, e)))
  by_kind t h AnotherType z e = past_11 (inr (λ n. n z.0, inr (λ n. n z.3 z.4 z.5.carried, inl (other_type z.5 z.6 z.7, e))))
  by_kind t h Version z e = past_14 z.0 z.5 z.6 (inl (other_version z.5 z.7, e))
  by_kind t h NotRequest z e = past_1 z.0 z.3 (inl refl) (inl ((uncounted z.3 z.4, opens_no_query z.3 refl), e))
  by_kind t h NotQuery z e = past_1 z.0 z.3 (inr refl) (inl ((opens_no_request z.3 refl, z.4), e))
  by_kind t h (AQuery p) z e = query_answers t h z.0 e
  by_kind t h (Request count at c) z e =
      request_answers t h z.0 (c, count, drop at message, record { data_bytes = z.1; carried = z.2; counted = z.3 }, e.0, e.1, e.2)

  -- HANDLED: a message to a store, by what it was read as
  pub handled : (k : Message) → MessageIs lim.message message k → ((t : Tables) → Holds lim t store → ByKind t k) → Answers (taken lim message store reply) x
  handled k is f =
      let a = s.store in
      let h : Holds lim a.tables store = (a.allowed, a.bytes_are) in
      by_kind a.tables h k is (f a.tables h)

-- ---- a verdict

module _ (lim : Limits) (message store reply after work : List ℕ) where
  -- REQUEST VERDICT: a fault turns the request down, and of a good one the working copy has the tables that the store becomes
  pub request_verdict : (c : Coding) (d : Copy) (count at : ℕ) → 20 ≤ length reply → StoreOf lim store → MessageIs lim.message message (Request count at c)
      → (run : Result LastFlags RunFault) (v : Reply × Option Copy) → RequestJudged c lim d message count at store work run → Weighed run d (mid_of 0 hash_size work) reply after v → VerdictIs lim message store reply after work (Ok v)
  request_verdict c d count at big s is (Ok f) (r, Some e) j (same, w) =
      let a = s.store in
      let h : Holds lim a.tables store = (a.allowed, a.bytes_are) in
      let z = j a.tables h in
      let b : mid_of 0 hash_size work ≡ hash_bytes z.tables.hash = ready_hash lim d a.tables z.tables work z.ready in
      let g : leaves (Replied r) (layout lim z.tables) after ≡ settled lim message store reply (kept z.settings z.tables)
      = w lim message store (layout lim z.tables) z.tables.hash z.allowed.hash b
      ∙ ap (λ (g : LastFlags). replies lim message store reply 0 0 g.reply g.reboot z.tables.hash (layout lim z.tables)) z.flags in (
        s.size,
        s.roomy,
        a.tables,
        z.tables,
        h,
        z.allowed,
        subst⁻¹ (λ (x : Copy). Ready lim x a.tables z.tables work) same z.ready,
        by_kind lim message store reply _ big s a.tables h (Request count at c) is (kept z.settings z.tables, z.judged, g),
      )
  request_verdict c d count at big s is (Err x) (r, None) j w =
      handled lim message store reply _ big s (Request count at c) is (λ t h. (refused (result_number x.result) x.failed, j t h, w lim message store))
  request_verdict c d count at big s is (Ok f) (r, None) j w = absurd w
  request_verdict c d count at big s is (Err x) (r, Some e) j w = absurd w

  -- JUDGED: the answer and the reply of a verdict are those of an outcome that taking allows
  pub judged : (v : Verdict) (a : Answer) → VerdictIs lim message store reply after work v → a ≡ answer_of v → Judges lim message store reply (said a) after
  judged (Err r) a d e = record { after = leaves (Untouched r) store after; allowed = d; says = ap said e; writes = refl }
  judged (Ok (r, None)) a d e = record { after = leaves (Replied r) store after; allowed = d; says = ap said e; writes = refl }
  judged (Ok (r, Some c)) a d e = record { after = leaves (Replied r) (layout lim d.3) after; allowed = d.7; says = ap said e; writes = refl }

  -- an outcome with this answer and store
  abbrev Left : Answer → List ℕ → Type 0
  Left a store_after = Answers (taken lim message store reply) (leaves a store_after after)

  -- COMMITTED: with what committing makes of the store, they are such an outcome
  pub committed : (v : Verdict) (a : Answer) (store_after : List ℕ) → VerdictIs lim message store reply after work v → Keeps v lim work store store_after → a ≡ answer_of v
      → Answers (taken lim message store reply) (leaves a store_after after)
  committed (Err r) a store_after d k e = subst₂ Left (sym e) (sym k) d
  committed (Ok (r, None)) a store_after d k e = subst₂ Left (sym e) (sym k) d
  committed (Ok (r, Some c)) a store_after (size, room, t, u, h, ok, w, d) k e = subst₂ Left (sym e) (sym (k size t u room h ok w).1) d
