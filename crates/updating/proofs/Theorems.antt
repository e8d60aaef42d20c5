-- The laws of short updates, for every set, store and message: what the check and the proposer answer, and that a proposal that is taken is an update. Assumes nothing.
use Rattle.lists.proofs.Kit.{ℕ, ◌≤◌, ◌≡◌, ◌≢◌, refl, sym, ap, ap₂, ◌∙◌, subst, subst⁻¹, ◌⊎◌, inl, inr, ◌↔◌, List, true, arith, length, take, drop, some, take-append_seam}
use Rattle.lists.specs.Ladder.{Answers}
use Rattle.lists.proofs.Ladder.{one_answer}
use Rattle.writing.specs.declared.Coding.{Coding}
use Rattle.writing.specs.Canonical.{canonical_all}
use Rattle.writing.specs.Carrier.{RequestOf, Request}
use Rattle.writing.specs.Settings.{Setting, unicode16}
use Rattle.read_carrier.proofs.CarrierLaws.{carries_one}
use Rattle.read_carrier.proofs.KindLaws.{not_both}
use Rattle.read_carrier.proofs.MessageOne.{coding_one}
use Rattle.tables.specs.declared.limits.Limits.{Limits}
use Rattle.tables.specs.Apply.{apply, in_turn}
use Rattle.tables.specs.Store.{StoreOf, Holds}
use Rattle.tables.specs.Tables.{Tables}
use Rattle.tables.specs.Texts.{WhereShared}
use Rattle.tables.proofs.AllowedLaws.{forget_allowed}
use Rattle.requests.specs.Judge.{kept}
use Rattle.requests.specs.Requests.{Judged, forget}
use Rattle.station.specs.Taking.{AfterTaking, taken}
use Rattle.laws_taking.specs.Demands.{InTurn}
use Rattle.laws_taking.specs.Judging.{AllSettings, AsKept}
use Rattle.laws_taking.proofs.Judging.{judged_committed}
use Rattle.laws_taking.proofs.Theorems.{number_of, answered_0}
use Rattle.laws_joining.proofs.OneRequest.{in_turn_of}
use Rattle.export.specs.declared.parts.Part.{Part}
use Rattle.export.specs.Exportable.{Exportable}
use Rattle.export.specs.Exported.{exported, request_bytes}
use Rattle.restore.specs.Restored.{with_part, SameTables}
use Rattle.restore.proofs.FreshRuns.{taken_within}
use Rattle.restore.proofs.Requests.{exported_is, exported_in_size, own_fits}
use Rattle.restore.proofs.Restored.{part_taken}
use Rattle.restore.proofs.StandardRequests.{exported_request, exported_only}
use Rattle.updating.specs.declared.answers.Check.{Check}
use Rattle.updating.specs.declared.answers.Check.TheVariants.{Yes, No, FirstNotAStore, SecondNotAStore}
use Rattle.updating.specs.declared.answers.Proposal.{Proposal}
use Rattle.updating.specs.declared.answers.Proposal.TheVariants as P
use Rattle.updating.specs.Updating.{Updates, Says, checking, Sole, NoneOrSeveral, never_between, AfterProposal, stays, writes, Proposes, proposing, told}
use Rattle.updating.proofs.BehindHash.{one_held, same_behind}
use Rattle.updating.proofs.CheckLaws.{updates_taken, taken_updates}
use Rattle.updating.proofs.Parts.{sole_mixed, sole_one, single_or_not, none_single}
use Rattle.updating.proofs.PartRoom.{has_room}

-- ---- the check

module _ (lim : Limits) (first second message : List ℕ) where
  -- CHECKING DETERMINED: the contract of the check allows one answer of the code
  pub checking_determined : (a b : Check) → Answers (checking lim first second message) a → Answers (checking lim first second message) b → a ≡ b
  checking_determined = one_answer (checking lim first second message) one
    where
      one : (a b : Check) → Says lim first second message a → Says lim first second message b → a ≡ b
      one Yes Yes x y = refl
      one Yes No x y = absurd (y x)
      one Yes FirstNotAStore x y = absurd y
      one Yes SecondNotAStore x y = absurd y
      one No Yes x y = absurd (x y)
      one No No x y = refl
      one No FirstNotAStore x y = absurd y
      one No SecondNotAStore x y = absurd y
      one FirstNotAStore b x y = absurd x
      one SecondNotAStore b x y = absurd x

  -- where neither is refused, the answer says what it says
  past_11 : ((StoreOf lim first → ⊥) → ⊥) → ((StoreOf lim second → ⊥) → ⊥) → (c : Check) → Answers (checking lim first second message) c → Says lim first second message c
  past_11 s z c (inl (n, _)) = absurd (s n)
  past_11 s z c (inr (_, inl (n, _))) = absurd (z n)
  past_11 s z c (inr (_, inr (_, h))) = h

  -- an update gets a yes
  updates_yes : Updates lim first second message → (c : Check) → Says lim first second message c → c ≡ Yes
  updates_yes u Yes h = refl
  updates_yes u No h = absurd (h u)
  updates_yes u FirstNotAStore h = absurd h
  updates_yes u SecondNotAStore h = absurd h

  module _ (s : StoreOf lim first) (z : StoreOf lim second) (reply : List ℕ) (long : 20 ≤ length reply) (x : AfterTaking) (a : Answers (taken lim message first reply) x) where
    -- YES EXACTLY: the check of two stores says yes exactly if the message is a request, and committing it to the first, with any reply buffer of 20 or more bytes, is answered 0 and leaves
    -- a store with the second's tables, the kept hash aside
    pub yes_exactly : (c : Check) → Answers (checking lim first second message) c
        → (c ≡ Yes) ↔ (((d : Coding) × (count : ℕ) × (settings : List ℕ) × RequestOf d count settings message) × (x.answer.number ≡ 0)
        × ((v : Tables) × (w : Tables) × Holds lim v x.store × Holds lim w second × SameTables v w))
    yes_exactly c answers = (
      λ e.
          let u : Updates lim first second message = subst (Says lim first second message) e (past_11 (λ n. n s) (λ n. n z) c answers) in
          let (v, w, n, h, k, same) = updates_taken lim first second message u s reply long x a in
          ((u.coding, u.count, u.settings_bytes, u.request), n, (v, w, h, k, (same_behind lim v w x.store second h k).0 same)),
      λ ((d, count, settings, r), n, (v, w, h, k, same)).
          let (_, size, _) = answered_0 lim message first reply x a n in
          updates_yes (taken_updates lim first second message (size, d, count, settings, r) w k reply x a n ((same_behind lim v w x.store second h k).1 same)) c
          (past_11 (λ n. n s) (λ n. n z) c answers),
    )

module _ (lim : Limits) (message : List ℕ) where
  -- what updates one store to another does so whatever hashes the two keep
  moved_aside : (first second first' second' : List ℕ) (t u t' u' : Tables) → Holds lim t first → Holds lim u second → Holds lim t' first' → Holds lim u' second' → SameTables t t' → SameTables u u'
      → Updates lim first second message → Updates lim first' second' message
  moved_aside first second first' second' t u t' u' h k h' k' e d y =
      let b : y.before ≡ t = one_held lim y.before t first y.held h in
      let w : y.wanted ≡ u = one_held lim y.wanted u second y.asked k in
      record {
        coding = y.coding;
        count = y.count;
        settings_bytes = y.settings_bytes;
        request = y.request;
        in_size = y.in_size;
        before = t';
        held = h';
        settings = y.settings;
        after = y.after;
        judged = subst (λ (v : Tables). Judged y.coding lim y.count v y.settings_bytes (kept y.settings y.after)) (ap forget b ∙ e) y.judged;
        wanted = u';
        asked = k';
        same = y.same ∙ ap forget w ∙ d;
      }

  -- HASH ASIDE: so a request updates one store to another exactly if it updates those of the same tables, whatever hashes they keep
  pub hash_aside : (first second first' second' : List ℕ) (t u t' u' : Tables) → Holds lim t first → Holds lim u second → Holds lim t' first' → Holds lim u' second' → SameTables t t' → SameTables u u'
      → Updates lim first second message ↔ Updates lim first' second' message
  hash_aside first second first' second' t u t' u' h k h' k' e d =
      (moved_aside first second first' second' t u t' u' h k h' k' e d, moved_aside first' second' first second t' u' t u h' k' h k (sym e) (sym d))

-- ---- the proposer

-- the one part that differs is that of any tables held
sole_held : (lim : Limits) (first second : List ℕ) (t u v w : Tables) → Holds lim t first → Holds lim u second → Holds lim v first → Holds lim w second → (p : Part) → Sole p v w → Sole p t u
sole_held lim first second t u v w h k i j p o = subst (λ (y : Tables). Sole p y u) (one_held lim v t first i h) (subst (Sole p v) (one_held lim w u second j k) o)

module _ (lim : Limits) (first second buffer : List ℕ) where
  -- one answer, and one buffer
  one_proposal : (a b : AfterProposal) → Proposes lim first second buffer a → Proposes lim first second buffer b → a ≡ b
  one_proposal a b x y =
      let u : x.wanted ≡ y.wanted = one_held lim x.wanted y.wanted second x.asked y.asked in
      let p : x.which ≡ y.which = sole_one x.which y.which y.before y.wanted
      (sole_held lim first second y.before y.wanted x.before x.wanted y.held y.asked x.held x.asked x.which x.sole) y.sole in
      x.outcome ∙ ap₂ (λ (q : Part) (v : Tables). writes lim first second buffer (request_bytes (exported q v))) p u ∙ sym y.outcome

  -- PROPOSING DETERMINED: the contract of the proposer allows one answer of the code, and one buffer
  pub proposing_determined : (a b : Proposal) (s t : List ℕ) → Answers (proposing lim first second buffer) (record { answer = a; buffer = s })
      → Answers (proposing lim first second buffer) (record { answer = b; buffer = t }) → (a ≡ b) × (s ≡ t)
  proposing_determined a b s t x y =
      let e = one_answer (proposing lim first second buffer) one_proposal _ _ x y in
      (ap (λ (z : AfterProposal). z.answer) e, ap (λ (z : AfterProposal). z.buffer) e)

  -- NINETEEN EXACTLY: of two stores, with a buffer of a message's size, it answers 19 "exactly when the tables of no export part, or of several, differ"
  pub nineteen_exactly : Exportable lim → StoreOf lim first → StoreOf lim second → lim.message ≤ length buffer → (t u : Tables) → Holds lim t first → Holds lim u second
      → (a : AfterProposal) → Answers (proposing lim first second buffer) a → (a.answer ≡ P.NoSinglePart) ↔ NoneOrSeveral t u
  nineteen_exactly x s z size t u h k a answers = (λ e. single answers e (single_or_not lim x t u h.0 k.0), none answers)
    where
      single : Answers (proposing lim first second buffer) a → a.answer ≡ P.NoSinglePart → ((p : Part) × Sole p t u) ⊎ NoneOrSeveral t u → NoneOrSeveral t u
      single y e (inr n) = n
      single (inl (n, _)) e (inl o) = absurd (n s)
      single (inr (_, inl (n, _))) e (inl o) = absurd (n z)
      single (inr (_, inr (_, inl (n, _)))) e (inl o) = absurd (omega (arith, n, size))
      single (inr (_, inr (_, inr (_, inl (n, _))))) e (inl (p, o)) = absurd (n t u h k p o)
      single (inr (_, inr (_, inr (_, inr (_, q))))) e (inl o) =
          absurd (omega (arith, ap (λ (r : Proposal). (told r).number) (sym (ap (λ (y : AfterProposal). y.answer) q.outcome) ∙ e)))

      none : Answers (proposing lim first second buffer) a → NoneOrSeveral t u → a.answer ≡ P.NoSinglePart
      none (inl (n, _)) o = absurd (n s)
      none (inr (_, inl (n, _))) o = absurd (n z)
      none (inr (_, inr (_, inl (n, _)))) o = absurd (omega (arith, n, size))
      none (inr (_, inr (_, inr (_, inl (_, e))))) o = ap (λ (y : AfterProposal). y.answer) e
      none (inr (_, inr (_, inr (_, inr (n, _))))) o = absurd (n (λ v w i j p y. none_single t u o p (sole_held lim first second t u v w h k i j p y)))

-- ---- what is proposed

module _ (lim : Limits) (x : Exportable lim) (first second : List ℕ) (t u : Tables) (h : Holds lim t first) (k : Holds lim u second) (p : Part) (sole : Sole p t u) where
  abbrev bytes : List ℕ
  bytes = request_bytes (exported p u)

  request : RequestOf unicode16 (length (exported p u)) (canonical_all unicode16 (exported p u)) bytes
  request = exported_is lim x u k.0 p

  -- the second's part, taken by the first, leaves the second's tables
  leaves_second : (after : List ℕ) → AllSettings lim bytes first after → (v : Tables) × Holds lim v after × SameTables v u
  leaves_second after a =
      let d : a.coding ≡ unicode16 = coding_one a.coding unicode16 (carries_one a.request.carried (exported_request lim x u k.0 p).0.carried).0 in
      let e : a.settings ≡ exported p u
      = exported_only lim x u k.0 p a.settings (subst (λ (c : Coding). Request c a.settings bytes) d a.request) in
      let b : a.before ≡ t = one_held lim a.before t first a.held h in
      let turn : in_turn (apply lim) (exported p u) (forget t) ≡ some a.tables
      = in_turn_of lim (length (exported p u)) (forget t) a.tables (exported p u)
      (subst (λ (v : Tables). InTurn lim (length (exported p u)) (forget v) (exported p u) a.tables) b
      (subst (λ (l : List Setting). InTurn lim (length l) (forget a.before) l a.tables) e a.in_turn)) in
      let is : a.tables ≡ with_part p u (forget t)
      = (taken_within lim lim u (forget t) k.0 (forget_allowed lim t h.0) p (own_fits lim x u k.0 p).places a.tables turn).0 in
      (a.tables, a.holds, ap forget is ∙ sole_mixed p t u sole)

  -- so it updates
  part_updates : (reply : List ℕ) (y : AfterTaking) → Answers (taken lim bytes first reply) y → y.answer.number ≡ 0 → Updates lim first second bytes
  part_updates reply y a n =
      let (long, _, _) = answered_0 lim bytes first reply y a n in
      by (judged_committed lim bytes first reply reply y.answer y.reply (record { after = y; allowed = a; says = refl; writes = refl }) n long y a).2
    where
      by : AllSettings lim bytes first y.store ⊎ AsKept lim bytes first y.store → Updates lim first second bytes
      by (inl s) =
          let (v, i, same) = leaves_second y.store s in
          taken_updates lim first second bytes (exported_in_size lim x u k.0 p, unicode16, _, _, request) u k reply y a n ((same_behind lim v u y.store second i k).1 same)
      by (inr s) = absurd (not_both request s.query)

module _ (lim : Limits) (first second buffer : List ℕ) (a : AfterProposal) (n : ℕ) (answers : Answers (proposing lim first second buffer) a) (w : a.answer ≡ P.Written n) where
  -- where a request was written, no test held
  pub record WasProposed : Type 0 where
    pub first_store : (StoreOf lim first → ⊥) → ⊥
    pub second_store : (StoreOf lim second → ⊥) → ⊥
    pub proposes : Proposes lim first second buffer a
    pub is : take n a.buffer ≡ request_bytes (exported proposes.which proposes.wanted)

  pub was_proposed : WasProposed
  was_proposed = by answers
    where
      -- another case has another number
      never : (q : Proposal) → a ≡ stays lim first second buffer q → (told q).number ≢ 0 → ⊥
      never q e f = f (ap (λ (r : Proposal). (told r).number) (sym (ap (λ (y : AfterProposal). y.answer) e) ∙ w))

      by : Answers (proposing lim first second buffer) a → WasProposed
      by (inl (_, e)) = absurd (never P.FirstNotAStore e (λ d. omega (arith, d)))
      by (inr (_, inl (_, e))) = absurd (never P.SecondNotAStore e (λ d. omega (arith, d)))
      by (inr (_, inr (_, inl (_, e)))) = absurd (never P.Buffer e (λ d. omega (arith, d)))
      by (inr (_, inr (_, inr (_, inl (_, e))))) = absurd (never P.NoSinglePart e (λ d. omega (arith, d)))
      by (inr (s, inr (z, inr (_, inr (_, q))))) =
          let bytes : List ℕ = request_bytes (exported q.which q.wanted) in
          let l : n ≡ length bytes = ap (λ (r : Proposal). (told r).request_length) (sym w ∙ ap (λ (y : AfterProposal). y.answer) q.outcome) in
          record {
            first_store = s;
            second_store = z;
            proposes = q;
            is = ap₂ take l (ap (λ (y : AfterProposal). y.buffer) q.outcome) ∙ take-append_seam bytes (drop (length bytes) buffer);
          }

  -- PROPOSED YES: what was written gets a yes wherever the first store takes it, with some reply buffer
  pub proposed_yes : Exportable lim → (reply : List ℕ) (y : AfterTaking) → Answers (taken lim (take n a.buffer) first reply) y → y.answer.number ≡ 0
      → (c : Check) → Answers (checking lim first second (take n a.buffer)) c → c ≡ Yes
  proposed_yes x reply y took z c says =
      let b = was_proposed in
      let q = b.proposes in
      updates_yes lim first second (take n a.buffer)
      (subst⁻¹ (λ (m : List ℕ). Updates lim first second m) b.is
      (part_updates lim x first second q.before q.wanted q.held q.asked q.which q.sole reply y (subst (λ (m : List ℕ). Answers (taken lim m first reply) y) b.is took) z)) c
      (past_11 lim first second (take n a.buffer) b.first_store b.second_store c says)

  -- PROPOSED TAKEN: the first store, with any reply buffer of 20 or more bytes, takes it where each text has a place of its own; and where texts share an area, it takes any part but those of slots
  pub proposed_taken : Exportable lim → StoreOf lim first → (t u : Tables) → Holds lim t first → Holds lim u second → (p : Part) → Sole p t u → WhereShared lim.texts (never_between p ≡ true)
      → (reply : List ℕ) → 20 ≤ length reply → (y : AfterTaking) → Answers (taken lim (take n a.buffer) first reply) y → y.answer.number ≡ 0
  proposed_taken x s t u h k p sole sure reply long y took =
      let b = was_proposed in
      let q = b.proposes in
      let d : q.wanted ≡ u = one_held lim q.wanted u second q.asked k in
      let which : q.which ≡ p = sole_one q.which p t u (sole_held lim first second t u q.before q.wanted h k q.held q.asked q.which q.sole) sole in
      let is : take n a.buffer ≡ request_bytes (exported p u) = b.is ∙ ap₂ (λ (r : Part) (v : Tables). request_bytes (exported r v)) which d in
      number_of (part_taken lim lim x s.roomy u k.0 t first h reply long p (own_fits lim x u k.0 p).request (has_room lim x t u h.0 k.0 p sole sure) y
      (subst (λ (m : List ℕ). Answers (taken lim m first reply) y) is took))
