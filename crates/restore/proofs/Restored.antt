-- RESTORED: the ten exported requests, taken by any other set that they fit, give it the same tables, where it is fresh or each text has a place of its own; of its own kind, they fit. Assumes nothing.
use Rattle.lists.proofs.Kit.{ℕ, ◌≤◌, ◌≡◌, refl, sym, ap, ◌∙◌, subst⁻¹, false, List, [], ◌∷◌, Option, none, length}
use Rattle.lists.specs.Every.{All}
use Rattle.lists.proofs.Every.{all_any}
use Rattle.lists.specs.Ladder.{Answers}
use Rattle.writing.specs.Canonical.{canonical_all}
use Rattle.writing.specs.Settings.{Setting, unicode16}
use Rattle.tables.specs.declared.limits.Limits.{Limits}
use Rattle.tables.specs.declared.limits.Texts.{Texts}
use Rattle.tables.specs.declared.limits.Texts.TheVariants.{Placed}
use Rattle.tables.specs.Allowed.{Allowed}
use Rattle.tables.specs.Forms.{layout, Roomy}
use Rattle.tables.specs.Store.{Holds}
use Rattle.tables.specs.Tables.{Tables, no_hash, fresh}
use Rattle.tables.proofs.AllowedLaws.{forget_allowed}
use Rattle.tables.specs.Texts.{WhereShared}
use Rattle.tables.proofs.FormLaws.{shared_then, shared_too}
use Rattle.shared_texts.proofs.Forms.{holds_store, layout_one}
use Rattle.requests.specs.Judge.{kept, taken as all_taken}
use Rattle.requests.specs.Requests.{forget, item_of, or_else, LastItem, last_item}
use Rattle.station.specs.Taking.{AfterTaking, replies, settled, AsRequest, taken}
use Rattle.laws_taking.proofs.Demand.{run_allowed}
use Rattle.laws_taking.proofs.Determined.{outcome_determined}
use Rattle.station.proofs.TakeLaws.{request_answers}
use Rattle.export.specs.declared.parts.Part.{Part}
use Rattle.export.specs.declared.parts.Part.TheVariants.{Lines, Fixed, QuickTexts, Channels, StatusTexts, Groups, Individuals, GroupContacts, IndividualContacts, LineSlots}
use Rattle.export.specs.Exported.{ten, exported, request_bytes}
use Rattle.export.specs.Exportable.{Exportable}
use Rattle.restore.specs.Restored.{with_part, with_parts, SameTables, Ready, requests, TakenInTurn, PartFits, HasRoom}
use Rattle.restore.proofs.Fitting.{exported_readable}
use Rattle.restore.proofs.FreshParts.{Coming, coming_first, coming_next, coming_turn, ready_turn}
use Rattle.restore.proofs.PartRuns.{part_runs}
use Rattle.restore.proofs.Requests.{request_in_size, exported_is, own_fits}

-- ---- one part

-- settings without FF ask for no reply and no reboot
no_flags : (ss : List Setting) → All (λ s. item_of s ≡ none) ss → last_item ss ≡ last_item []
no_flags [] h = refl
no_flags (s ∷ ss) h = ap (λ (o : Option LastItem). or_else o (last_item ss)) h.0 ∙ no_flags ss h.1

-- no part changes the hash
part_hash : (p : Part) (t u : Tables) → (with_part p t u).hash ≡ u.hash
part_hash Lines t u = refl
part_hash Fixed t u = refl
part_hash QuickTexts t u = refl
part_hash Channels t u = refl
part_hash StatusTexts t u = refl
part_hash Groups t u = refl
part_hash Individuals t u = refl
part_hash GroupContacts t u = refl
part_hash IndividualContacts t u = refl
part_hash LineSlots t u = refl

-- ---- from a set to another

module _ (from to : Limits) (x : Exportable from) (room : Roomy to) (t : Tables) (ok : Allowed from t) where
  module _ (u : Tables) (store : List ℕ) (holds : Holds to u store) (reply : List ℕ) (long : 20 ≤ length reply) (p : Part)
      (short : length (request_bytes (exported p t)) ≤ to.message) (turn : HasRoom to t p u) where
    -- what taking the part's request leaves
    abbrev pub after_part : AfterTaking
    after_part = replies to (request_bytes (exported p t)) store reply 0 0 false false no_hash (layout to (with_part p t (forget u)))

    -- it is what the settings come to
    settled_part : after_part ≡ settled to (request_bytes (exported p t)) store reply (kept (exported p t) (with_part p t (forget u)))
    settled_part =
        let f : last_item (exported p t) ≡ last_item [] = no_flags (exported p t) (exported_readable from x t ok p).no_last in
        let h : (with_part p t (forget u)).hash ≡ no_hash = part_hash p t (forget u) in
        sym (λ i. replies to (request_bytes (exported p t)) store reply 0 0 (f i).flags.reply (f i).flags.reboot (h i) (layout to (with_part p t (forget u))))

    -- the part's request comes to it
    part_request : AsRequest to (request_bytes (exported p t)) store reply u after_part
    part_request = (
      unicode16,
      length (exported p t),
      canonical_all unicode16 (exported p t),
      exported_is from x t ok p,
      kept (exported p t) (with_part p t (forget u)),
      all_taken refl (part_runs from to t (forget u) ok (forget_allowed to u holds.0) x p turn),
      settled_part,
    )

    -- the contract of taking allows it
    pub part_answers : Answers (taken to (request_bytes (exported p t)) store reply) after_part
    part_answers =
        request_answers to (request_bytes (exported p t)) store reply after_part long (holds_store to u store room holds) u holds
        (request_in_size to.message (exported p t) short) part_request

    -- and nothing else
    pub part_taken : (a : AfterTaking) → Answers (taken to (request_bytes (exported p t)) store reply) a → a ≡ after_part
    part_taken a h = outcome_determined to (request_bytes (exported p t)) store reply a after_part h part_answers

  -- the store after each part holds the tables so far
  pub after_holds : (u : Tables) (store after : List ℕ) → Holds to u store → (p : Part) → HasRoom to t p u → after ≡ layout to (with_part p t (forget u))
      → Holds to (with_part p t (forget u)) after
  after_holds u store after holds p turn e =
      let old : Allowed to (forget u) = forget_allowed to u holds.0 in
      (run_allowed unicode16 to (part_runs from to t (forget u) ok old x p turn) old, e)

  -- where texts share an area, the set is one that comes to these parts from a fresh start
  abbrev pub ComesTo : List Part → Tables → Type 0
  ComesTo ps u = WhereShared to.texts (Coming t ps u)

  -- then the first that fits has room
  pub next_turn : (u : Tables) (store : List ℕ) → Holds to u store → (p : Part) (ps : List Part) → ComesTo (p ∷ ps) u → PartFits to t p → HasRoom to t p u
  next_turn u store holds p ps c fits = coming_turn from to t u ok holds.0 p fits.places ps c fits.texts

  -- and with it taken the set comes to the others
  pub then_comes : (u : Tables) (p : Part) (ps : List Part) → ComesTo (p ∷ ps) u → ComesTo ps (with_part p t (forget u))
  then_comes u p ps c = shared_then to.texts (coming_next t u p ps) c

  -- PARTS TAKEN: parts that fit, taken in turn, leave the store of these tables
  pub parts_taken : (ps : List Part) → All (PartFits to t) ps → (u : Tables) (store after : List ℕ) → Holds to u store → ComesTo ps u → TakenInTurn to (requests t ps) store after
      → Holds to (with_parts t ps u) after
  parts_taken [] fits u store after holds c h = (holds.0, h ∙ holds.1)
  parts_taken (p ∷ ps) fits u store after holds c (reply, a, long, h, more) =
      let turn : HasRoom to t p u = next_turn u store holds p ps c fits.0 in
      let e : a ≡ after_part u store holds reply long p fits.0.request turn = part_taken u store holds reply long p fits.0.request turn a h in
      parts_taken ps fits.1 (with_part p t (forget u)) a.store after
      (after_holds u store a.store holds p turn (ap (λ (y : AfterTaking). y.store) e)) (then_comes u p ps c) more

  -- PARTS TAKABLE: and they can be taken in turn, with any reply buffer that is long enough
  pub parts_takable : (reply : List ℕ) → 20 ≤ length reply → (ps : List Part) → All (PartFits to t) ps → (u : Tables) (store : List ℕ) → Holds to u store → ComesTo ps u
      → TakenInTurn to (requests t ps) store (layout to (with_parts t ps u))
  parts_takable reply long [] fits u store holds c = sym holds.1
  parts_takable reply long (p ∷ ps) fits u store holds c =
      let turn : HasRoom to t p u = next_turn u store holds p ps c fits.0 in (
        reply,
        after_part u store holds reply long p fits.0.request turn,
        long,
        part_answers u store holds reply long p fits.0.request turn,
        parts_takable reply long ps fits.1 (with_part p t (forget u)) _ (after_holds u store _ holds p turn refl) (then_comes u p ps c),
      )

-- ---- which sets are ready

-- FRESH READY: one that was just started
pub fresh_ready : (x : Texts) → Ready x fresh
fresh_ready x = shared_too x refl

-- ANY READY: and where each text has a place of its own, any, whatever it held
pub any_ready : (lim : Limits) → lim.texts ≡ Placed → (u : Tables) → Ready lim.texts u
any_ready lim e u = subst⁻¹ (λ (x : Texts). Ready x u) e tt

-- ---- from a set to another of its kind

module _ (lim : Limits) (x : Exportable lim) (room : Roomy lim) (t : Tables) (ok : Allowed lim t) where
  module _ (u : Tables) (store : List ℕ) (holds : Holds lim u store) (ready : Ready lim.texts u) (reply : List ℕ) (long : 20 ≤ length reply) (p : Part) where
    -- EXPORTED TAKEN: the request is taken, asks for no reply, and leaves the set's tables with those of the part
    pub exported_taken : (a : AfterTaking) → Answers (taken lim (request_bytes (exported p t)) store reply) a
        → (a.answer.number ≡ 0) × (a.answer.send ≡ false) × (a.store ≡ layout lim (with_part p t (forget u)))
    exported_taken a h =
        let fits : PartFits lim t p = own_fits lim x t ok p in
        let e = part_taken lim lim x room t ok u store holds reply long p fits.request (ready_turn lim lim t u ok holds.0 p fits.places ready ok.texts) a h in
        (ap (λ (y : AfterTaking). y.answer.number) e, ap (λ (y : AfterTaking). y.answer.send) e, ap (λ (y : AfterTaking). y.store) e)

  -- all ten fit
  ten_fit : All (PartFits lim t) ten
  ten_fit = all_any (PartFits lim t) (own_fits lim x t ok) ten

  -- and a set that is ready comes to them
  ready_comes : (u : Tables) → Ready lim.texts u → ComesTo lim lim x room t ok ten u
  ready_comes u ready = shared_then lim.texts (coming_first t u ten [] refl) ready

  -- RESTORED: the ten requests in turn leave the store of the same tables, the kept hash aside
  pub restored : (u : Tables) (store after : List ℕ) → Holds lim u store → Ready lim.texts u → TakenInTurn lim (requests t ten) store after → after ≡ layout lim (forget t)
  restored u store after holds ready h = (parts_taken lim lim x room t ok ten ten_fit u store after holds (ready_comes u ready) h).1

  -- SAME TABLES: so any tables that the last store holds are the same
  pub same_tables : (u v : Tables) (store after : List ℕ) → Holds lim u store → Ready lim.texts u → TakenInTurn lim (requests t ten) store after → Holds lim v after → SameTables v t
  same_tables u v store after holds ready h now =
      ap forget (layout_one lim v (forget t) now.0 (forget_allowed lim t ok) (sym now.1 ∙ restored u store after holds ready h))

  -- RESTORABLE: what RESTORED speaks of comes to pass
  pub restorable : (reply : List ℕ) → 20 ≤ length reply → (u : Tables) (store : List ℕ) → Holds lim u store → Ready lim.texts u
      → TakenInTurn lim (requests t ten) store (layout lim (forget t))
  restorable reply long u store holds ready = parts_takable lim lim x room t ok reply long ten ten_fit u store holds (ready_comes u ready)
