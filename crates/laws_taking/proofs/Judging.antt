-- Judging and committing: both answer alike, and what was judged good is committed. Assumes nothing.
use Rattle.lists.proofs.Kit.{ℕ, ◌≤◌, ◌<◌, ◌≡◌, refl, sym, ap, ◌∙◌, subst, subst⁻¹, ◌≢◌, ◌⊎◌, inl, inr, Bool, true, false, List, [], append-nil, arith, length, take, drop, take_at}
use native.Mathlib.Decide.{dec_le}
use Rattle.lists.specs.Ladder.{Answers}
use Rattle.slots.specs.Slots.{written_over}
use Rattle.writing.specs.Settings.{Setting, Hash}
use Rattle.tables.specs.declared.limits.Limits.{Limits}
use Rattle.tables.specs.Forms.{layout}
use Rattle.tables.specs.Store.{Holds}
use Rattle.tables.specs.Tables.{Tables, no_hash}
use Rattle.tables.proofs.AllowedLaws.{forget_allowed}
use Rattle.requests.specs.Judge.{Outcome, kept, refused, taken as all_taken}
use Rattle.requests.specs.Requests.{forget, last_item}
use Rattle.station.specs.declared.answers.Answer.{Answer}
use Rattle.station.specs.Answers.{Said, said}
use Rattle.station.specs.Judging.{Judges}
use Rattle.station.specs.Replies.{reply_bytes}
use Rattle.station.specs.Taking.{AfterTaking, leaves, stays, replies, turned_down, settled, AsRequest, AsQuery, Handled, taken}
use Rattle.station.proofs.AnswerLaws.{said_one}
use Rattle.station.proofs.StandardReply.{reply_length}
use Rattle.laws_taking.specs.Demands.{InTurn}
use Rattle.laws_taking.specs.Judging.{SameInBoth, AllSettings, AsKept}
use Rattle.laws_taking.proofs.Demand.{run_allowed, run_written}
use Rattle.laws_taking.proofs.Determined.{outcome_determined}
use Rattle.laws_taking.proofs.Theorems.{numbered, number_of, had_room, answered_0, store_stays, counted_written}

-- ---- with one reply buffer

module _ (lim : Limits) (message store reply : List ℕ) where
  -- JUDGE DETERMINED: the contract of judging allows one answer of the code and one reply buffer
  pub judge_determined : (a b : Answer) (r q : List ℕ) → Judges lim message store reply (said a) r → Judges lim message store reply (said b) q → (a ≡ b) × (r ≡ q)
  judge_determined a b r q x y =
      let e = outcome_determined lim message store reply x.after y.after x.allowed y.allowed in
      (said_one a b (x.says ∙ ap (λ (z : AfterTaking). z.answer) e ∙ sym y.says), x.writes ∙ ap (λ (z : AfterTaking). z.reply) e ∙ sym y.writes)

  -- JUDGE IS COMMIT: "the same numbers and order from both", and "the reply that committing would write"
  pub judge_is_commit : (a b : Answer) (r s q : List ℕ) → Judges lim message store reply (said a) r → Answers (taken lim message store reply) (leaves b s q) → (a ≡ b) × (r ≡ q)
  judge_is_commit a b r s q x y = judge_determined a b r q x (record { after = leaves b s q; allowed = y; says = refl; writes = refl })

  -- a request with 0: all its settings were taken
  good_request : (t : Tables) → Holds lim t store → (x : AfterTaking) → AsRequest lim message store reply t x → x.answer.number ≡ 0 → AllSettings lim message store x.store
  good_request t held x (c, count, settings, r, kept l u, all_taken n q, e) z =
      let (w, k, y, turn) = run_written c lim q in
      record {
        coding = c;
        settings = l;
        request = record { data_bytes = r.data_bytes; carried = r.carried; written = counted_written r.counted n (k ∙ append-nil w) y };
        before = t;
        held = held;
        tables = u;
        in_turn = subst⁻¹ (λ (i : ℕ). InTurn lim i (forget t) l u) n turn;
        holds = (run_allowed c lim q (forget_allowed lim t held.0), ap (λ (y : AfterTaking). y.store) e);
      }
  good_request t held x (c, count, settings, r, refused number failed, j, e) z = absurd (omega (arith, z, number_of e, (numbered c lim (forget t) j).0))

  -- a result query with 0: it names the hash kept
  good_query : (t : Tables) → Holds lim t store → (x : AfterTaking) → AsQuery lim message store reply t x → x.answer.number ≡ 0 → AsKept lim message store x.store
  good_query t held x (h, q, inl (n, k, e)) z =
      record { hash = h; query = q; tables = t; holds = held; some_hash = n; is_kept = k; stays = ap (λ (y : AfterTaking). y.store) e }
  good_query t held x (h, q, inr (_, e)) z = absurd (omega (arith, z, number_of e))

  -- a message with 0 is one of the two
  good : (x : AfterTaking) → Answers (taken lim message store reply) x → x.answer.number ≡ 0 → AllSettings lim message store x.store ⊎ AsKept lim message store x.store
  good x a z = let (_, _, h) = answered_0 lim message store reply x a z in by h h.comes_to
    where
      by : (h : Handled lim message store reply x) → AsRequest lim message store reply h.tables x ⊎ AsQuery lim message store reply h.tables x
          → AllSettings lim message store x.store ⊎ AsKept lim message store x.store
      by h (inl r) = inl (good_request h.tables h.holds x r z)
      by h (inr q) = inr (good_query h.tables h.holds x q z)

-- ---- with another one

module _ (lim : Limits) (message store reply reply' : List ℕ) where
  -- what touches nothing, and what writes a reply, in both
  both_stay : (n : ℕ) → SameInBoth reply reply' (stays lim message store reply n) (stays lim message store reply' n)
  both_stay n = record { answer = refl; store = refl; bytes = []; as_said = refl; here = refl; there = refl }

  both_reply : (number failed : ℕ) (send reboot : Bool) (h : Hash) (after : List ℕ)
      → SameInBoth reply reply' (replies lim message store reply number failed send reboot h after) (replies lim message store reply' number failed send reboot h after)
  both_reply number failed send reboot h after =
      record { answer = refl; store = refl; bytes = reply_bytes number failed h; as_said = reply_length number failed h; here = refl; there = refl }

  both_settled : (o : Outcome Setting Tables) → SameInBoth reply reply' (settled lim message store reply o) (settled lim message store reply' o)
  both_settled (kept l u) = both_reply 0 0 (last_item l).flags.reply (last_item l).flags.reboot u.hash (layout lim u)
  both_settled (refused number failed) = both_reply number failed true false no_hash store

  -- an outcome that is so in both
  in_both : {x y z : AfterTaking} → x ≡ y → SameInBoth reply reply' y z → SameInBoth reply reply' x z
  in_both {z = z} e s = subst⁻¹ (λ (y : AfterTaking). SameInBoth reply reply' y z) e s

  -- what a message comes to with one, it comes to with the other
  comes_alike : (t : Tables) (x : AfterTaking) → AsRequest lim message store reply t x ⊎ AsQuery lim message store reply t x
      → (y : AfterTaking) × (AsRequest lim message store reply' t y ⊎ AsQuery lim message store reply' t y) × SameInBoth reply reply' x y
  comes_alike t x (inl (c, count, settings, r, o, j, e)) = (settled lim message store reply' o, inl (c, count, settings, r, o, j, refl), in_both e (both_settled o))
  comes_alike t x (inr (h, q, inl (n, k, e))) =
      (replies lim message store reply' 0 0 true false t.hash store, inr (h, q, inl (n, k, refl)), in_both e (both_reply 0 0 true false t.hash store))
  comes_alike t x (inr (h, q, inr (n, e))) =
      (replies lim message store reply' 5 0 true false t.hash store, inr (h, q, inr (n, refl)), in_both e (both_reply 5 0 true false t.hash store))

  module _ (big : 20 ≤ length reply) (big' : 20 ≤ length reply') where
    -- an outcome for the other buffer
    abbrev Other : AfterTaking → Type 0
    Other x = (y : AfterTaking) × Answers (taken lim message store reply') y × SameInBoth reply reply' x y

    long : length reply' < 20 → ⊥
    long h = omega (arith, h, big')

    other : (x : AfterTaking) → Answers (taken lim message store reply) x → Other x
    other x (inl (h, _)) = absurd (omega (arith, h, big))
    other x (inr (_, inl (a, e))) = (stays lim message store reply' 11, inr (long, inl (a, refl)), in_both e (both_stay 11))
    other x (inr (_, inr (a, inl (b, e)))) = (stays lim message store reply' 12, inr (long, inr (a, inl (b, refl))), in_both e (both_stay 12))
    other x (inr (_, inr (a, inr (b, inl (c, e))))) = (stays lim message store reply' 13, inr (long, inr (a, inr (b, inl (c, refl)))), in_both e (both_stay 13))
    other x (inr (_, inr (a, inr (b, inr (c, inl (d, e)))))) = (stays lim message store reply' 14, inr (long, inr (a, inr (b, inr (c, inl (d, refl))))), in_both e (both_stay 14))
    other x (inr (_, inr (a, inr (b, inr (c, inr (d, inl (f, e))))))) =
        (turned_down lim message store reply' 1 0, inr (long, inr (a, inr (b, inr (c, inr (d, inl (f, refl)))))), in_both e (both_reply 1 0 true false no_hash store))
    other x (inr (_, inr (a, inr (b, inr (c, inr (d, inr (f, inl (g, e)))))))) =
        (turned_down lim message store reply' 4 0, inr (long, inr (a, inr (b, inr (c, inr (d, inr (f, inl (g, refl))))))), in_both e (both_reply 4 0 true false no_hash store))
    other x (inr (_, inr (a, inr (b, inr (c, inr (d, inr (f, inr (g, h)))))))) =
        let (y, p, s) = comes_alike h.tables x h.comes_to in
        (y, inr (long, inr (a, inr (b, inr (c, inr (d, inr (f, inr (g, record { tables = h.tables; holds = h.holds; comes_to = p }))))))), s)

    -- ANY BUFFER: whatever two reply buffers of 20 or more bytes hold, answers and stores are equal, and the same bytes are written over both
    pub any_buffer : (x x' : AfterTaking) → Answers (taken lim message store reply) x → Answers (taken lim message store reply') x' → SameInBoth reply reply' x x'
    any_buffer x x' a a' =
        let (y, p, s) = other x a in
        subst (SameInBoth reply reply' x) (outcome_determined lim message store reply' y x' p a') s

  -- ---- what was judged

  -- what committing with the other buffer comes to, beside what was judged
  beside : (a : Said) (r : List ℕ) (j : Judges lim message store reply a r) → a.number ≢ 10 → 20 ≤ length reply'
      → (x : AfterTaking) → Answers (taken lim message store reply') x → SameInBoth reply reply' j.after x
  beside a r j n big' x p =
      any_buffer (had_room lim message store reply j.after j.allowed (λ e. n (ap (λ (s : Said). s.number) j.says ∙ e))) big' j.after x j.allowed p

  -- JUDGED, COMMITTED: "A message that was judged good and finds the same store is always committed, given a reply buffer of 20 bytes", whatever that holds: the answer is the
  -- same, and so are the bytes of the reply; a request leaves the tables after all its settings, and a result query the store as it was
  pub judged_committed : (a : Said) (r : List ℕ) → Judges lim message store reply a r → a.number ≡ 0 → 20 ≤ length reply'
      → (x : AfterTaking) → Answers (taken lim message store reply') x
      → (x.answer ≡ a) × (x.reply ≡ written_over (take a.reply_length r) reply') × (AllSettings lim message store x.store ⊎ AsKept lim message store x.store)
  judged_committed a r j z big' x p =
      let s = beside a r j (λ e. omega (arith, z, e)) big' x p in
      let same : x.answer ≡ a = sym (j.says ∙ s.answer) in
      let long : length s.bytes ≡ a.reply_length = s.as_said ∙ sym (ap (λ (y : Said). y.reply_length) j.says) in
      let cut : take a.reply_length r ≡ s.bytes
      = ap (take a.reply_length) (j.writes ∙ s.here) ∙ take_at s.bytes (drop (length s.bytes) reply) a.reply_length long in (
        same,
        s.there ∙ sym (ap (λ (l : List ℕ). written_over l reply') cut),
        good lim message store reply' x p (ap (λ (y : Said). y.number) same ∙ z),
      )

  -- JUDGED, REFUSED: judged with any other number, 10 aside, which is of the reply buffer: committing it to the same store changes no byte of it, whatever the reply buffer
  pub judged_refused : (a : Said) (r : List ℕ) → Judges lim message store reply a r → a.number ≢ 0 → a.number ≢ 10
      → (x : AfterTaking) → Answers (taken lim message store reply') x → x.store ≡ store
  judged_refused a r j n m x p = by (dec_le 20 (length reply'))
    where
      by : Dec (20 ≤ length reply') → x.store ≡ store
      by (yes big') =
          let same : x.answer ≡ a = sym (j.says ∙ (beside a r j m big' x p).answer) in
          store_stays lim message store reply' x p (λ e. n (sym (ap (λ (y : Said). y.number) same) ∙ e))
      by (no f) = store_stays lim message store reply' x p (λ e. f (had_room lim message store reply' x p (λ d. omega (arith, e, d))))
