-- A request that was judged after those of an area comes to what the contract of taking says. Assumes nothing.
use Rattle.lists.proofs.Kit.{ℕ, ◌≤◌, ◌<◌, ◌+◌, ◌≡◌, refl, sym, ap, ap₂, ◌∙◌, inl, Bool, true, false, true≢false, cond, leb, List, [], ◌∷◌, ◌++◌, length, drop, arith, le-leb, leb-true}
use native.Mathlib.Decide.{dec_le}
use Rattle.writing.specs.declared.Coding.{Coding}
use Rattle.writing.specs.declared.Kind.{Kind}
use Rattle.writing.specs.declared.Kind.TheVariants.{GroupContacts, IndividualContacts, Lines, Key, QuickTexts, Home, Channels, System, StatusTexts, Group, Individual, LineSlot, Last}
use Rattle.writing.specs.declared.LastFlags.{LastFlags}
use Rattle.writing.specs.Carrier.{result_number}
use Rattle.writing.specs.Settings.{Setting, Hash}
use Rattle.read_carrier.specs.Message.{MessageIs}
use Rattle.read_carrier.specs.declared.carrier.Message.TheVariants.{Request as ARequest}
use Rattle.tables.specs.Limits.{handheld}
use Rattle.tables.specs.Owns.{own}
use Rattle.tables.specs.Tables.{Tables, no_hash}
use Rattle.tables.specs.Texts.{text_size}
use Rattle.requests.specs.declared.run.Fault.{Fault}
use Rattle.requests.specs.declared.run.Request.{Request}
use Rattle.requests.specs.Judge.{Outcome, kept, refused, taken}
use Rattle.requests.specs.Requests.{Judged, forget, last_item}
use Rattle.events.specs.Deeds as D
use Rattle.events.specs.Sums.{many}
use Rattle.events.proofs.TellingLaws.{telling_hash}
use Rattle.laws_taking.proofs.Demand.{run_written, hash_own}
use Rattle.station.specs.declared.answers.Reply.{Reply}
use Rattle.station.specs.Taking.{AfterTaking, stays, replies}
use Rattle.plain_judge.specs.declared.judge.Item.{Item}
use Rattle.std.specs.declared.result.Result.TheVariants.{Ok, Err}
use Rattle.plain_judge.specs.Judging.{Weights, Logged, Ran, RunIs}
use Rattle.plain_log.specs.declared.checks.Area.{Area}
use Rattle.plain_log.specs.declared.keeping.PastEnd.{PastEnd}
use Rattle.plain_log.specs.Area.{area_size, log_bytes}
use Rattle.plain_log.specs.Checking.{AreaSeen}
use Rattle.plain_log.specs.Frames.{KeepIs}
use Rattle.plain.specs.declared.answers.Answer.TheVariants.{Untouched, Replied}
use Rattle.plain.specs.declared.answers.Refusal.TheVariants.{AreaFull}
use Rattle.plain.specs.Plain.{plain_leaves, plain_settled, kept_behind, PlainHandled}
use Rattle.plain.specs.Steps.{TurnedDown, Accepted}

-- ---- tables with no hash kept

-- the table of the hash weighs nothing
same_weight : (t : Tables) (k : Kind) → (many k (own k t) ≡ many k (own k (forget t))) × (text_size k (own k t) ≡ text_size k (own k (forget t)))
same_weight t GroupContacts = (refl, refl)
same_weight t IndividualContacts = (refl, refl)
same_weight t Lines = (refl, refl)
same_weight t Key = (refl, refl)
same_weight t QuickTexts = (refl, refl)
same_weight t Home = (refl, refl)
same_weight t Channels = (refl, refl)
same_weight t System = (refl, refl)
same_weight t StatusTexts = (refl, refl)
same_weight t Group = (refl, refl)
same_weight t Individual = (refl, refl)
same_weight t LineSlot = (refl, refl)
same_weight t Last = (refl, refl)

-- so the numbers that are kept are those of the tables without it
pub forget_weights : (ws : List ℕ) (t : Tables) → Weights ws t → Weights ws (forget t)
forget_weights ws t w = record {
  all = w.all;
  entries = λ k. w.entries k ∙ (same_weight t k).0;
  bytes = λ k. w.bytes k ∙ (same_weight t k).1;
  sum = w.sum;
  room = w.room;
}

-- the deeds of a log tell them, too
pub forget_logged : (s : List ℕ) (n : ℕ) (ds : List D.Deed) (t : Tables) → Logged s n ds t → Logged s n ds (forget t)
forget_logged s n ds t l = record { follow = l.follow; count = l.count; few = l.few; short = l.short; tells = telling_hash handheld ds t no_hash l.tells }

-- "After each taken request the hash kept is that request's own"
pub own_hash : (c : Coding) (n : ℕ) (t : Tables) (bs : List ℕ) (l : List Setting) (u : Tables) → Judged c handheld n (forget t) bs (kept l u) → u.hash ≡ (last_item l).hash
own_hash c n t bs l u (taken q r) = hash_own handheld n (forget t) u l refl (run_written c handheld r).3

-- ---- the end of the area

-- a number that is not at most another is above it
pub leb_not : (a b : ℕ) → leb a b ≡ false → b < a
leb_not a b e = by (dec_le a b)
  where
    by : Dec (a ≤ b) → b < a
    by (yes h) = absurd (true≢false (sym (le-leb a b h) ∙ e))
    by (no n) = omega (arith, n)

module _ (message area reply : List ℕ) (log : List (List ℕ)) (a : AfterTaking) where
  -- a request that does not pass it
  pub fits_behind : 4 + length (log_bytes (log ++ (message ∷ []))) ≤ area_size → kept_behind message area reply log a ≡ a
  fits_behind h = ap (λ (b : Bool). cond b a (stays handheld message area reply 18)) (le-leb (4 + length (log_bytes (log ++ (message ∷ [])))) area_size h)

  -- and one that does
  pub passes_end : area_size < 4 + length (log_bytes (log ++ (message ∷ []))) → kept_behind message area reply log a ≡ stays handheld message area reply 18
  passes_end h = by (leb (4 + length (log_bytes (log ++ (message ∷ [])))) area_size) refl
    where
      by : (b : Bool) → leb (4 + length (log_bytes (log ++ (message ∷ [])))) area_size ≡ b → cond b a (stays handheld message area reply 18) ≡ stays handheld message area reply 18
      by true e = absurd (omega (arith, leb-true (4 + length (log_bytes (log ++ (message ∷ [])))) area_size e, h))
      by false e = refl

-- ---- what a request comes to

module _ (m s reply ws : List ℕ) (q : Request) (seen : Area) (a : AreaSeen s ws seen)
    (is : MessageIs handheld.message m (ARequest q.count q.at q.coding)) where
  -- a request of settings that come to this
  asked : (x : AfterTaking) (o : Outcome Setting Tables) → Judged q.coding handheld q.count (forget a.tables) (drop q.at m) o → x ≡ plain_settled m s reply a.log o → PlainHandled m s reply x
  asked x o j e = record {
    log = a.log;
    tables = a.tables;
    area_is = a.area;
    comes_to = inl (q.coding, q.count, drop q.at m, record { data_bytes = is.1; carried = is.2; counted = is.3 }, o, j, e);
  }

  -- one with a fault is turned down
  pub fault_asked : (vs after : List ℕ) (f : Fault) (r : Reply) → RunIs s seen.deeds m q ws vs (Err f) → TurnedDown f.result f.failed reply after r
      → PlainHandled m s reply (plain_leaves (Replied r) s after)
  fault_asked vs after f r run down =
      asked _ (refused (result_number f.result) f.failed) (run a.deeds (forget a.tables) (forget_logged s _ _ _ a.logged) (forget_weights ws _ a.weights)) (down m s)

  module _ (vs : List ℕ) (i : Item) (n : ℕ) (run : RunIs s seen.deeds m q ws vs (Ok (i, n))) where
    -- what running its settings left
    ran : Ran m q a.deeds (forget a.tables) vs i n
    ran = run a.deeds (forget a.tables) (forget_logged s _ _ _ a.logged) (forget_weights ws _ a.weights)

    -- a good one that passes the area's end touches nothing
    pub full_asked : (t : List ℕ) (past : PastEnd) → KeepIs s seen.used m t (Err past) → PlainHandled m s reply (plain_leaves (Untouched AreaFull) t reply)
    full_asked t past k =
        asked _ (kept ran.settings ran.tables) ran.judged
        (ap (λ (x : List ℕ). plain_leaves (Untouched AreaFull) x reply) k.0 ∙ sym (passes_end m s reply a.log _ (k.1 a.log a.area.bytes a.area.fits a.used)))

    -- and is kept otherwise
    pub kept_asked : (t after : List ℕ) (r : Reply) → KeepIs s seen.used m t (Ok tt) → Accepted m i.flags i.hash reply after r → PlainHandled m s reply (plain_leaves (Replied r) t after)
    kept_asked t after r k acc =
        let (e, f) = k a.log a.area.bytes a.area.fits a.used in
        let l = ran.settings in
        let u = ran.tables in
        let h : u.hash ≡ (last_item l).hash = own_hash q.coding q.count a.tables (drop q.at m) l u ran.judged in
        asked _ (kept l u) ran.judged
        (acc m s t (last_item l).hash ran.item.hash
        ∙ ap₂ (λ (g : LastFlags) (z : Hash). replies handheld m s reply 0 0 g.reply g.reboot z t) ran.item.flags (sym h)
        ∙ ap (λ (x : List ℕ). replies handheld m s reply 0 0 (last_item l).flags.reply (last_item l).flags.reboot u.hash x) e
        ∙ sym (fits_behind m s reply a.log _ f))
