-- What a request that may be joined comes to: its settings in turn, or the first that lacks room. Assumes nothing.
use Rattle.lists.proofs.Kit.{ℕ, zero, suc, ◌+◌, ◌≤◌, ◌≡◌, refl, sym, ap, ◌∙◌, subst, subst⁻¹, ◌⊎◌, inl, inr, List, [], ◌∷◌, ◌++◌, append-nil, append_assoc, Option, none, some, option_some_injective, arith, length, length-append}
use Rattle.lists.specs.Bytes.{Bytes}
use Rattle.lists.specs.Every.{All}
use Rattle.lists.proofs.Every.{all_left, all_right, all_turn}
use Rattle.writing.specs.declared.Coding.{Coding}
use Rattle.writing.specs.declared.Kind.TheVariants.{Last}
use Rattle.writing.specs.Carrier.{Request, RequestOf}
use Rattle.writing.specs.Ranges.{text_limits, InRange}
use Rattle.writing.specs.Settings.{Setting, group_contacts, individual_contacts, lines, key, quick_texts, home, channels, system, status_texts, group, individual, line_slot, last}
use Rattle.writing.specs.Writing.{WrittenAll}
use Rattle.read_fields.proofs.Parts.{bytes_left}
use Rattle.read_carrier.proofs.CarrierLaws.{carries_one}
use Rattle.read_carrier.proofs.KindLaws.{bytes_right, request_bytes, not_both}
use Rattle.read_carrier.proofs.MessageOne.{coding_one}
use Rattle.read_carrier.proofs.OneMeaning.{settings_one}
use Rattle.tables.specs.declared.limits.Limits.{Limits}
use Rattle.tables.specs.Apply.{apply, and_then, in_turn}
use Rattle.tables.specs.Owns.{put_own}
use Rattle.tables.specs.Store.{StoreOf, Holds}
use Rattle.tables.specs.Tables.{Tables, no_hash}
use Rattle.tables.proofs.AllowedLaws.{forget_allowed}
use Rattle.tables.proofs.Owns.{first}
use Rattle.tables.proofs.RoomSentences.{Stuck, no_room}
use Rattle.requests.specs.Judge as J
use Rattle.requests.specs.Judge.{Outcome, kept, refused, room}
use Rattle.requests.specs.Requests.{WrittenIn, Runs, Fault, Judged, forget, item_of, or_else, last_item, LastItem}
use Rattle.requests.proofs.RunLaws.{not_ff}
use Rattle.station.specs.Taking.{AfterTaking, settled}
use Rattle.station.proofs.TakeLaws.{request_answers}
use Rattle.laws_taking.specs.Demands.{InTurn}
use Rattle.laws_taking.specs.Judging.{AllSettings, AsKept}
use Rattle.laws_taking.proofs.Demand.{run_allowed, written_runs, hash_own}
use Rattle.laws_taking.proofs.Determined.{outcome_determined, type_first}
use Rattle.laws_taking.proofs.Judging.{judged_committed}
use Rattle.laws_taking.proofs.Theorems.{written_counted}
use Rattle.joining.specs.Joining.{Joinable}
use Rattle.laws_joining.specs.Sending.{Sent, LacksRoom}

-- ---- settings that are no FF

-- a setting in range where one is counted after it is in range wherever it stands
anywhere : (s : Setting) (n : ℕ) → InRange text_limits 1 s → InRange text_limits n s
anywhere (group_contacts o f es) n i = i
anywhere (individual_contacts o f es) n i = i
anywhere (lines o f es) n i = i
anywhere (key t f) n i = i
anywhere (quick_texts o es) n i = i
anywhere (home h) n i = i
anywhere (channels o ns) n i = i
anywhere (system x) n i = i
anywhere (status_texts o es) n i = i
anywhere (group o f x) n i = i
anywhere (individual o f x) n i = i
anywhere (line_slot o f x) n i = i
anywhere (last f h) n i = absurd (omega (arith, i.1))

-- NO LAST: none of them is an FF
pub no_last : (l : List Setting) → All (InRange text_limits 1) l → All (λ s. item_of s ≡ none) l
no_last l r = all_turn (InRange text_limits 1) (λ s. item_of s ≡ none) (λ s i. not_ff s 1 i (omega arith)) l r

-- so they have no last item
none_last : (l : List Setting) → All (λ s. item_of s ≡ none) l → last_item l ≡ last_item []
none_last [] p = refl
none_last (s ∷ l) p = ap (λ (o : Option LastItem). or_else o (last_item l)) p.0 ∙ none_last l p.1

-- tables that keep no hash have none to forget
pub nothing_kept : (u : Tables) → u.hash ≡ no_hash → forget u ≡ u
nothing_kept u e = ap (put_own Last u) (sym e)

-- ---- in turn

module _ (lim : Limits) where
  -- settings that have room in turn are taken in turn, where enough are counted
  turned : (n : ℕ) (t u : Tables) (l : List Setting) → All (InRange text_limits 1) l → length l ≤ n → in_turn (apply lim) l t ≡ some u → InTurn lim n t l u
  turned n t u [] r h e = option_some_injective t u e
  turned zero t u (s ∷ l) r h e = absurd (omega (arith, h))
  turned (suc n) t u (s ∷ l) r h e =
      let (v, p, q) = first lim s l t u e in
      (anywhere s n r.0, v, p, turned n v u l r.1 (omega (arith, h)) q)

  -- and back, whatever their ranges
  pub in_turn_of : (n : ℕ) (t u : Tables) (l : List Setting) → InTurn lim n t l u → in_turn (apply lim) l t ≡ some u
  in_turn_of n t u [] z = ap some z
  in_turn_of zero t u (s ∷ l) z = absurd z
  in_turn_of (suc n) t u (s ∷ l) (i, v, e, z) = ap (λ (o : Option Tables). and_then o (in_turn (apply lim) l)) e ∙ in_turn_of n v u l z

-- the writing of two lists, one after the other
written_apart : (c : Coding) (a b : List Setting) (x : List ℕ) → WrittenAll c (a ++ b) x → (v : List ℕ) × (w : List ℕ) × (x ≡ v ++ w) × WrittenAll c a v × WrittenAll c b w
written_apart c [] b x p = ([], x, refl, refl, p)
written_apart c (s ∷ a) b x (z, r, e, y, p) =
    let (v, w, k, q, q') = written_apart c a b r p in
    (z ++ v, w, e ∙ ap (λ (i : List ℕ). z ++ i) k ∙ sym (append_assoc z v w), (z, v, refl, y, q), q')

module _ (c : Coding) (lim : Limits) where
  -- a setting that stands next and has no room is at fault with 2
  no_room_next : (left : ℕ) (u : Tables) (s : Setting) (bs w r : List ℕ) → bs ≡ w ++ r → WrittenIn c s w → InRange text_limits left s → apply lim s u ≡ none → Fault c lim left u bs 2
  no_room_next left u s bs w r e y i a =
      let (b, v, k, _) = type_first c s w y in
      let z : bs ≡ b ∷ (v ++ r) = e ∙ ap (λ (l : List ℕ). l ++ r) k in
      subst⁻¹ (λ (l : List ℕ). Fault c lim left u l 2) z (room {w = w} {s = s} r (sym z ∙ e) y i a)

  -- a setting that lacks room after those that had: the request is refused there
  pub stuck_judged : (l : List Setting) (t : Tables) (bs : List ℕ) → Bytes bs → WrittenAll c l bs → All (InRange text_limits 1) l
      → (s : Stuck (apply lim) l t) → Judged c lim (length l) t bs (refused 2 (length s.done + 1))
  stuck_judged l t bs bytes written ranged s =
      let here : List Setting = s.entry ∷ s.rest in
      let range : All (InRange text_limits 1) (s.done ++ here) = subst (All (InRange text_limits 1)) s.split ranged in
      let long : length l ≡ length s.done + suc (length s.rest) = ap length s.split ∙ length-append s.done here in
      let (v, z, e, p, (w, r, k, y, _)) = written_apart c s.done here bs (subst (λ (i : List Setting). WrittenAll c i bs) s.split written) in
      let left_bytes : Bytes (w ++ r) = subst Bytes k (bytes_right v z (subst Bytes e bytes)) in
      let ran : InTurn lim (length l) t s.done s.table
      = turned lim (length l) t s.table s.done (all_left (InRange text_limits 1) s.done here range) (omega (arith, long)) s.came in
      J.fault {l = s.done} (length s.rest) (sym long) (written_runs c lim (length l) t s.table bs v z s.done bytes e p ran)
      (no_room_next (length s.rest) s.table s.entry z w r k (y, bytes_left w r left_bytes)
      (anywhere s.entry (length s.rest) (all_right (InRange text_limits 1) s.done here range).0) s.full)

-- ---- sent to a store

module _ {lim : Limits} {store : List ℕ} {c : Coding} {l : List Setting} {bs message : List ℕ} {x : AfterTaking} (is_Is_store : StoreOf lim store)
    (j : Joinable lim.message c l bs message) (sent : Sent lim message store x) (t : Tables) (held : Holds lim t store) where
  -- its bytes are bytes
  abbrev bytes : Bytes bs
  bytes = request_bytes j.request sent.bytes

  -- what its settings come to, from the store's tables without their hash, is what it comes to
  settled_so : {o : Outcome Setting Tables} → Judged c lim (length l) (forget t) bs o → x ≡ settled lim message store sent.reply o
  settled_so {o} r =
      let y : AfterTaking = settled lim message store sent.reply o in
      outcome_determined lim message store sent.reply x y sent.comes_to
      (request_answers lim message store sent.reply y sent.long is_Is_store t held j.size (c, length l, bs, j.request, o, r, refl))

  -- where all have room, it is taken, and the store has the tables after them, which keep no hash
  pub record Full (u : Tables) : Type 0 where
    pub turn : in_turn (apply lim) l (forget t) ≡ some u
    pub number : x.answer.number ≡ 0
    pub holds : Holds lim u x.store
    pub no_more : forget u ≡ u

  pub all_full : (u : Tables) → in_turn (apply lim) l (forget t) ≡ some u → Full u
  all_full u e =
      let z : InTurn lim (length l) (forget t) l u = turned lim (length l) (forget t) u l j.in_range (omega arith) e in
      let q : Runs c lim (length l) (forget t) bs l u []
      = written_runs c lim (length l) (forget t) u bs bs [] l bytes (sym (append-nil bs)) j.written z in
      let k : x ≡ settled lim message store sent.reply (kept l u) = settled_so (J.taken refl q) in
      record {
        turn = e;
        number = ap (λ (y : AfterTaking). y.answer.number) k;
        holds = (run_allowed c lim q (forget_allowed lim t held.0), ap (λ (y : AfterTaking). y.store) k);
        no_more = nothing_kept u (hash_own lim (length l) (forget t) u l refl z ∙ ap (λ (i : LastItem). i.hash) (none_last l (no_last l j.in_range)));
      }

  -- where one lacks room, it is refused with 2 and that setting's number, and the store stays
  pub one_lacks : (s : Stuck (apply lim) l (forget t)) → LacksRoom store (length s.done + 1) x
  one_lacks s =
      let k = settled_so (stuck_judged c lim l (forget t) bs bytes j.written j.in_range s) in
      (ap (λ (y : AfterTaking). y.answer.number) k, ap (λ (y : AfterTaking). y.answer.failed) k, ap (λ (y : AfterTaking). y.store) k)

  -- and one of the two is so
  abbrev pub Came : Type 0
  Came = ((u : Tables) × Full u) ⊎ ((s : Stuck (apply lim) l (forget t)) × LacksRoom store (length s.done + 1) x)

  pub came : Came
  came = go (in_turn (apply lim) l (forget t)) refl
    where
      go : (o : Option Tables) → in_turn (apply lim) l (forget t) ≡ o → Came
      go none e = let s = (no_room (apply lim) l (forget t)).0 e in inr (s, one_lacks s)
      go (some u) e = inl (u, all_full u e)

-- ---- a request of any settings that was taken

-- such a request, as it counts them
abbrev pub request_of : {c : Coding} {l : List Setting} {message : List ℕ} (r : Request c l message) → RequestOf c (length l) r.written.settings message
request_of r = record { data_bytes = r.data_bytes; carried = r.carried; counted = written_counted r.written }

-- TAKEN IN TURN: answered 0, all its settings were taken in turn
pub taken_in_turn : (lim : Limits) {c : Coding} {l : List Setting} {message store : List ℕ} {x : AfterTaking} → Request c l message → Sent lim message store x → x.answer.number ≡ 0
    → (t : Tables) × (u : Tables) × Holds lim t store × InTurn lim (length l) (forget t) l u × Holds lim u x.store
taken_in_turn lim {c} {l} {message} {store} {x} r s n =
    by (judged_committed lim message store s.reply s.reply x.answer x.reply (record { after = x; allowed = s.comes_to; says = refl; writes = refl })
    n s.long x s.comes_to).2
  where
    by : AllSettings lim message store x.store ⊎ AsKept lim message store x.store
        → (t : Tables) × (u : Tables) × Holds lim t store × InTurn lim (length l) (forget t) l u × Holds lim u x.store
    by (inl k) =
        let d : k.coding ≡ c = coding_one k.coding c (carries_one k.request.carried r.carried).0 in
        let e : k.settings ≡ l = settings_one c k.settings l message (subst (λ (i : Coding). Request i k.settings message) d k.request) r in
        (k.before, k.tables, k.held, subst (λ (i : List Setting). InTurn lim (length i) (forget k.before) i k.tables) e k.in_turn, k.holds)
    by (inr k) = absurd (not_both (request_of r) k.query)
