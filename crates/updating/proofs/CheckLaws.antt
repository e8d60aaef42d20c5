-- What checking a proposed request says, test by test. Assumes nothing.
use Rattle.lists.proofs.Kit.{ℕ, ◌-◌, ◌≤◌, ◌≡◌, refl, sym, ap, ap₂, ◌∙◌, subst, ◌⊎◌, inl, inr, List, [], ◌∷◌, ◌++◌, Bool, true, length, take, drop, take_all, length-drop, mid_of, eqb, eqb-true, eq-eqb, arith}
use Rattle.lists.specs.Ladder.{Answers}
use denote.Enum.Declared.{tag_of}
use types.Run.{OneOf, miss}
use Rattle.slots.specs.Slots.{same?}
use Rattle.slots.proofs.Runs.{copy_whole, same_are, same_refl}
use Rattle.writing.specs.declared.Coding.{Coding}
use Rattle.read_carrier.specs.Message.{MessageIs}
use Rattle.read_carrier.specs.declared.carrier.Message.{Message}
use Rattle.read_carrier.specs.declared.carrier.Message.TheVariants.{Size, Carrier, «Type» as AnotherType, Version, NoRequest, Request, NoQuery, Query as AQuery}
use Rattle.read_carrier.specs.contracts.carrier.Message.{the_type}
use Rattle.read_carrier.proofs.KindLaws.{request_opens, other_type, other_version, opens_no_request, uncounted, not_both}
use Rattle.tables.specs.declared.limits.Limits.{Limits}
use Rattle.tables.specs.Layout.{hash_size, used_size}
use Rattle.tables.specs.Store.{StoreOf, Holds}
use Rattle.tables.specs.Tables.{Tables}
use Rattle.tables.proofs.AllowedLaws.{forget_allowed}
use Rattle.requests.specs.Judge.{kept, refused, taken as all_taken}
use Rattle.requests.specs.Requests.{Judged, forget}
use Rattle.station.specs.declared.answers.Answer.{Answer}
use Rattle.station.specs.Answers.{said}
use Rattle.station.specs.Taking.{AfterTaking, leaves, settled, AsRequest, AsQuery, taken}
use Rattle.station.proofs.TakeLaws.{request_answers}
use Rattle.laws_taking.proofs.Demand.{run_allowed}
use Rattle.laws_taking.proofs.Determined.{outcome_determined}
use Rattle.laws_taking.proofs.Theorems.{numbered, number_of, answered_0}
use Rattle.updating.specs.declared.answers.Check.TheVariants.{Yes, No, FirstNotAStore, SecondNotAStore}
use Rattle.updating.specs.Updating.{Updates, checking, RequestIn, Took, TailsSame}
use Rattle.updating.proofs.BehindHash.{same_behind}

-- ---- which messages are requests

-- a message that was read as a request
pub a_request : (most : ℕ) (m : List ℕ) (count at : ℕ) (c : Coding) → MessageIs most m (Request count at c) → RequestIn most m
a_request most m count at c z = (z.0, c, count, drop at m, record { data_bytes = z.1; carried = z.2; counted = z.3 })

-- and one that was read as anything else
pub no_request : (most : ℕ) (m : List ℕ) (k : Message) → OneOf (0 ∷ 1 ∷ 2 ∷ 3 ∷ 4 ∷ 6 ∷ 7 ∷ []) (tag_of the_type k) → MessageIs most m k → RequestIn most m → ⊥
no_request most m Size i z (s, c, n, b, r) = z s
no_request most m Carrier i z (s, c, n, b, r) = z.1 _ _ r.carried
no_request most m AnotherType i z (s, c, n, b, r) = other_type z.5 z.6 z.7 _ _ _ _ (inl refl) (request_opens r)
no_request most m Version i z (s, c, n, b, r) = other_version z.5 z.7 _ _ _ (request_opens r)
no_request most m NoRequest i z (s, c, n, b, r) = uncounted z.3 z.4 c n b r
no_request most m (Request count at d) i z (s, c, n, b, r) = absurd (miss (0 ∷ 1 ∷ 2 ∷ 3 ∷ 4 ∷ 6 ∷ 7 ∷ []) 5 tt i)
no_request most m NoQuery i z (s, c, n, b, r) = opens_no_request z.3 refl c n b r
no_request most m (AQuery p) i z (s, c, n, b, r) = not_both r z.2

-- ---- what committing a request says of it

module _ (lim : Limits) (first second message : List ℕ) where
  -- a request that updates comes to the tables after it
  module _ (u : Updates lim first second message) (s : StoreOf lim first) (reply : List ℕ) (long : 20 ≤ length reply) (x : AfterTaking) (a : Answers (taken lim message first reply) x) where
    updates_outcome : x ≡ settled lim message first reply (kept u.settings u.after)
    updates_outcome =
        outcome_determined lim message first reply x _ a
        (request_answers lim message first reply _ long s u.before u.held u.in_size (u.coding, u.count, u.settings_bytes, u.request, kept u.settings u.after, u.judged, refl))

    -- it is answered 0, and what stands behind the hash is the second's
    pub updates_taken : (v : Tables) × (w : Tables) × (x.answer.number ≡ 0) × Holds lim v x.store × Holds lim w second × (drop hash_size x.store ≡ drop hash_size second)
    updates_taken = by u.judged
      where
        by : Judged u.coding lim u.count (forget u.before) u.settings_bytes (kept u.settings u.after)
            → (v : Tables) × (w : Tables) × (x.answer.number ≡ 0) × Holds lim v x.store × Holds lim w second × (drop hash_size x.store ≡ drop hash_size second)
        by (all_taken n q) =
            let h : Holds lim u.after x.store = (run_allowed u.coding lim q (forget_allowed lim u.before u.held.0), ap (λ (y : AfterTaking). y.store) updates_outcome) in
            (u.after, u.wanted, number_of updates_outcome, h, u.asked, (same_behind lim u.after u.wanted x.store second h u.asked).1 u.same)

  -- a request that is answered 0 and leaves the second's tables updates
  pub taken_updates : RequestIn lim.message message → (w : Tables) → Holds lim w second → (reply : List ℕ) (x : AfterTaking) → Answers (taken lim message first reply) x
      → x.answer.number ≡ 0 → drop hash_size x.store ≡ drop hash_size second → Updates lim first second message
  taken_updates (size, c, n, bytes, r) w asked reply x a z same = let (_, _, h) = answered_0 lim message first reply x a z in by h.tables h.holds h.comes_to
    where
      by : (t : Tables) → Holds lim t first → AsRequest lim message first reply t x ⊎ AsQuery lim message first reply t x → Updates lim first second message
      by t held (inl (d, count, settings, q, kept l u, all_taken k runs, e)) =
          let h : Holds lim u x.store = (run_allowed d lim runs (forget_allowed lim t held.0), ap (λ (y : AfterTaking). y.store) e) in
          record {
            coding = d;
            count = count;
            settings_bytes = settings;
            request = q;
            in_size = size;
            before = t;
            held = held;
            settings = l;
            after = u;
            judged = all_taken k runs;
            wanted = w;
            asked = asked;
            same = (same_behind lim u w x.store second h asked).0 same;
          }
      by t held (inl (d, count, settings, q, refused number failed, j, e)) = absurd (omega (arith, z, number_of e, (numbered d lim (forget t) j).0))
      by t held (inr (h, q, _)) = absurd (not_both r q)

-- ---- the steps of the check

-- bytes behind the hash that were compared
pub tails_compared : (a b : List ℕ) (r : Bool) → r ≡ same? (mid_of hash_size (length a - hash_size) a) (mid_of hash_size (length b - hash_size) b) → TailsSame a b r
tails_compared a b r e h k =
    let d : r ≡ same? (drop hash_size a) (drop hash_size b) = e ∙ ap₂ same? (to_end a) (to_end b) in
    (λ q. same_are (drop hash_size a) (drop hash_size b) (sym d ∙ q), λ q. d ∙ ap (same? (drop hash_size a)) (sym q) ∙ same_refl (drop hash_size a))
  where
    to_end : (l : List ℕ) → mid_of hash_size (length l - hash_size) l ≡ drop hash_size l
    to_end l = take_all (length l - hash_size) (drop hash_size l) (omega (arith, length-drop hash_size l))

-- a message that was committed, with the number of its answer
pub took : (lim : Limits) (message store reply after reply_after : List ℕ) (a : Answer) (n : ℕ) → 20 ≤ length reply → Answers (taken lim message store reply) (leaves a after reply_after)
    → n ≡ (said a).number → Took lim message store after (eqb n 0)
took lim message store reply after reply_after a n long h e = record {
  reply = reply;
  long = long;
  outcome = leaves a after reply_after;
  allowed = h;
  left = refl;
  answered = (λ q. sym e ∙ eqb-true n 0 q, λ q. eq-eqb n 0 (e ∙ q));
}

-- a store has more bytes than a hash
pub wide : (lim : Limits) (store : List ℕ) → StoreOf lim store → hash_size ≤ lim.size
wide lim store s = let h : used_size lim ≤ lim.size = s.roomy.fits in omega arith

-- a message that was committed to a copy of the first
pub copied : (lim : Limits) (first message lent copy left : List ℕ) (r : Bool) → StoreOf lim first → length lent ≡ lim.size → copy ≡ take (length lent) first ++ drop (length first) lent
    → Took lim message copy left r → Took lim message first left r
copied lim first message lent copy left r s i e k = subst (λ (l : List ℕ). Took lim message l left r) (e ∙ copy_whole first lent (i ∙ sym s.size)) k

-- ---- what checking answers

module _ (lim : Limits) (first second message : List ℕ) where
  -- "11 for either store, first store first"
  pub says_first : (StoreOf lim first → ⊥) → Answers (checking lim first second message) FirstNotAStore
  says_first n = inl (n, refl)

  pub says_second : StoreOf lim first → (StoreOf lim second → ⊥) → Answers (checking lim first second message) SecondNotAStore
  says_second s n = inr (λ k. k s, inl (n, refl))

  module _ (s : StoreOf lim first) (z : StoreOf lim second) where
    says_no : (Updates lim first second message → ⊥) → Answers (checking lim first second message) No
    says_no n = inr (λ k. k s, inr (λ k. k z, n))

    -- the tables of the second
    held : Holds lim z.store.tables second
    held = (z.store.allowed, z.store.bytes_are)

    -- what is no request updates nothing
    pub no_is_request : (RequestIn lim.message message → ⊥) → Answers (checking lim first second message) No
    no_is_request n = says_no (λ u. n (u.in_size, u.coding, u.count, u.settings_bytes, u.request))

    module _ (r : Bool) (after : List ℕ) (k : Took lim message first after r) where
      -- nor does one that is not answered 0
      pub no_refused : (r ≡ true → ⊥) → Answers (checking lim first second message) No
      no_refused n = says_no (λ u. n (k.answered.1 (updates_taken lim first second message u s k.reply k.long k.outcome k.allowed).2))

      -- or leaves other tables
      pub no_other : (drop hash_size after ≡ drop hash_size second → ⊥) → Answers (checking lim first second message) No
      no_other n = says_no (λ u. n (ap (drop hash_size) k.left ∙ (updates_taken lim first second message u s k.reply k.long k.outcome k.allowed).5))

      -- the others do
      pub says_yes : RequestIn lim.message message → r ≡ true → drop hash_size after ≡ drop hash_size second → Answers (checking lim first second message) Yes
      says_yes q e same =
          inr (λ k. k s, inr (λ k. k z, taken_updates lim first second message q z.store.tables held k.reply k.outcome k.allowed (k.answered.0 e) (sym (ap (drop hash_size) k.left) ∙ same)))
