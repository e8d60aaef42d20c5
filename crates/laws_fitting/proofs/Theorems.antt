-- When one set takes what another has exported, and where it stops otherwise: docs/RULES.md, Y3 to Y7, for any two sets. Assumes nothing.
use Rattle.lists.proofs.Kit.{ℕ, ◌≤◌, ◌≡◌, refl, sym, ap, ◌∙◌, ◌↔◌, iff_trans, ◌⊎◌, inl, inr, List, [], ◌∷◌, ◌++◌, arith, length, replicate}
use Rattle.lists.specs.Every.{All}
use Rattle.lists.proofs.Every.{all_any}
use Rattle.lists.specs.Ladder.{Answers}
use Rattle.tables.specs.declared.limits.Limits.{Limits}
use Rattle.tables.specs.Allowed.{Allowed}
use Rattle.tables.specs.Forms.{layout, Roomy}
use Rattle.tables.specs.Limits.{handheld, vehicle, placed}
use Rattle.tables.specs.Store.{Holds}
use Rattle.tables.specs.Tables.{Tables}
use Rattle.tables.specs.Texts.{text_sum, TextRoom}
use Rattle.tables.proofs.RoomyLaws.{handheld_roomy, vehicle_roomy}
use Rattle.tables.proofs.FormLaws.{shared_then}
use Rattle.requests.specs.Requests.{forget}
use Rattle.station.specs.Taking.{AfterTaking, taken}
use Rattle.export.specs.declared.parts.Part.{Part}
use Rattle.export.specs.Exportable.{Exportable}
use Rattle.export.specs.Exported.{ten, exported, request_bytes}
use Rattle.export.proofs.RequestLaws.{handheld_exportable, vehicle_exportable}
use Rattle.restore.specs.Restored.{with_part, with_parts, Ready, requests, TakenInTurn, PartFits, HasRoom}
use Rattle.restore.proofs.FreshParts.{coming_first, coming_behind}
use Rattle.restore.proofs.Requests.{exported_in_size}
use Rattle.restore.proofs.Restored.{ComesTo, part_taken, after_holds, next_turn, then_comes, parts_taken, parts_takable}
use Rattle.laws_fitting.specs.Fits.{FitsIn, AllTaken, StopsAt}
use Rattle.laws_fitting.proofs.Deciding.{FirstWithout, one_first, each_part, fits_each, each_fits, first_misfit}
use Rattle.laws_fitting.proofs.Refusing.{taken_turn, part_refused, surely_refused}

-- ---- the tables

-- ALLOWED IN: tables that one set may hold, another may whose room their lines, their channels and their texts fit: "All other rules are equal"
pub allowed_in : (from to : Limits) (t : Tables) → Allowed from t → length t.lines ≤ to.lines → length t.channels ≤ to.channels → TextRoom to.texts (text_sum t) → Allowed to t
allowed_in from to t ok l c room = record {
  hash = ok.hash;
  key = ok.key;
  home = ok.home;
  system = ok.system;
  quick = ok.quick;
  status = ok.status;
  groups = ok.groups;
  individuals = ok.individuals;
  line_slots = ok.line_slots;
  group_contacts = ok.group_contacts;
  distinct_groups = ok.distinct_groups;
  individual_contacts = ok.individual_contacts;
  distinct_individuals = ok.distinct_individuals;
  channels = (c, ok.channels.1);
  lines = (l, ok.lines.1);
  distinct = ok.distinct;
  texts = room;
}

-- FITS OR NOT: whether an export fits is decided
pub fits_or_not : (to : Limits) (t : Tables) → Dec (FitsIn to t)
fits_or_not to t = by (first_misfit to t)
  where
    by : All (PartFits to t) ten ⊎ FirstWithout (PartFits to t) ten → Dec (FitsIn to t)
    by (inl h) = yes (each_fits to t h)
    by (inr r) = no (λ f. r.has_not (fits_each to t f r.element))

-- ---- taken

module _ (from to : Limits) (x : Exportable from) (room : Roomy to) (t : Tables) (ok : Allowed from t) where
  -- ---- by any set

  -- the tables after a part whose settings had room in turn
  after_taken : (p : Part) (u : Tables) (store : List ℕ) → Holds to u store → length (request_bytes (exported p t)) ≤ to.message → HasRoom to t p u
      → (reply : List ℕ) (a : AfterTaking) → 20 ≤ length reply
      → Answers (taken to (request_bytes (exported p t)) store reply) a → (a.answer.number ≡ 0) × Holds to (with_part p t (forget u)) a.store
  after_taken p u store holds short turn reply a long h =
      let e = part_taken from to x room t ok u store holds reply long p short turn a h in
      (ap (λ (y : AfterTaking). y.answer.number) e, after_holds from to x room t ok u store a.store holds p turn (ap (λ (y : AfterTaking). y.store) e))

  -- parts that are all answered 0 were not too long, and leave these tables, whatever was held
  all_answered : (ps : List Part) (u : Tables) (store after : List ℕ) → Holds to u store → AllTaken to (requests t ps) store after
      → All (λ p. length (request_bytes (exported p t)) ≤ to.message) ps × Holds to (with_parts t ps u) after
  all_answered [] u store after holds h = (tt, (holds.0, h ∙ holds.1))
  all_answered (p ∷ ps) u store after holds (reply, a, long, h, z, more) =
      let (short, turn) = taken_turn from to x room t ok u store holds reply long p a h z in
      let (all, last) = all_answered ps (with_part p t (forget u)) a.store after (after_taken p u store holds short turn reply a long h).1 more in
      ((short, all), last)

  module _ (u : Tables) (store : List ℕ) (holds : Holds to u store) where
    -- TAKEN THEN SAME: where all ten are taken, the other set has the same tables, the kept hash aside, whatever it held
    pub taken_then_same : (after : List ℕ) → AllTaken to (requests t ten) store after → after ≡ layout to (forget t)
    taken_then_same after h = (all_answered ten u store after holds h).1.1

    -- TAKEN THEN FITS: and the export fits it
    pub taken_then_fits : (after : List ℕ) → AllTaken to (requests t ten) store after → FitsIn to t
    taken_then_fits after h =
        let (all, last) = all_answered ten u store after holds h in
        let now : Allowed to (forget t) = last.0 in
        record { lines = now.lines.0; channels = now.channels.0; requests = each_part (λ p. length (request_bytes (exported p t)) ≤ to.message) all; texts = now.texts }

  -- ---- by a set that is ready

  -- parts that fit are all answered 0, whatever reply buffers are lent
  surely_taken : (ps : List Part) → All (PartFits to t) ps → (u : Tables) (store after : List ℕ) → Holds to u store → ComesTo from to x room t ok ps u
      → TakenInTurn to (requests t ps) store after → AllTaken to (requests t ps) store after
  surely_taken [] fits u store after holds c h = h
  surely_taken (p ∷ ps) fits u store after holds c (reply, a, long, h, more) =
      let turn : HasRoom to t p u = next_turn from to x room t ok u store holds p ps c fits.0 in
      let (z, next) = after_taken p u store holds fits.0.request turn reply a long h in
      (reply, a, long, h, z, surely_taken ps fits.1 (with_part p t (forget u)) a.store after next (then_comes from to x room t ok u p ps c) more)

  module _ (u : Tables) (store : List ℕ) (holds : Holds to u store) (ready : Ready to.texts u) where
    -- it comes to the first of the ten
    comes_first : (ps behind : List Part) → ps ++ behind ≡ ten → ComesTo from to x room t ok ps u
    comes_first ps behind e = shared_then to.texts (coming_first t u ps behind e) ready

    -- and so to all
    comes : ComesTo from to x room t ok ten u
    comes = comes_first ten [] refl

    -- what is left by parts that fit
    abbrev left_by : List Part → List ℕ
    left_by ps = layout to (with_parts t ps u)

    -- it is left by taking them
    left_taken : (ps : List Part) → All (PartFits to t) ps → ComesTo from to x room t ok ps u → TakenInTurn to (requests t ps) store (left_by ps)
    left_taken ps fits c = parts_takable from to x room t ok (replicate 20 0) (omega arith) ps fits u store holds c

    -- TAKEN EXACTLY WHEN: "Say exactly when it is taken: when its lines and channels fit the handheld's room and no written request passes 4,096 bytes", and the texts have room; of any two sets, the other fresh, or whatever it held where each text has a place of its own
    pub taken_exactly_when : ((after : List ℕ) × AllTaken to (requests t ten) store after) ↔ FitsIn to t
    taken_exactly_when = (
      λ (after, h). taken_then_fits u store holds after h,
      λ f. let fits : All (PartFits to t) ten = all_any (PartFits to t) (fits_each to t f) ten in
          (left_by ten, surely_taken ten fits u store (left_by ten) holds comes (left_taken ten fits comes)),
    )

    -- TAKEN WHATEVER: an export that fits is answered 0 at every part, whatever reply buffers are lent
    pub taken_whatever : (after : List ℕ) → FitsIn to t → TakenInTurn to (requests t ten) store after → AllTaken to (requests t ten) store after
    taken_whatever after f h = surely_taken ten (all_any (PartFits to t) (fits_each to t f) ten) u store after holds comes h

    -- REFUSED WITH: "A vehicle's export may be refused by a handheld with 2 or 12": one that does not fit is taken up to its first part that does not, and that is refused
    pub refused_with : (FitsIn to t → ⊥) → (p : Part) × StopsAt to t p store
    refused_with n = by (first_misfit to t)
      where
        by : All (PartFits to t) ten ⊎ FirstWithout (PartFits to t) ten → (p : Part) × StopsAt to t p store
        by (inl h) = absurd (n (each_fits to t h))
        by (inr r) =
            let c : ComesTo from to x room t ok r.before u = comes_first r.before (r.element ∷ r.behind) r.order in
            let took : TakenInTurn to (requests t r.before) store (left_by r.before) = left_taken r.before r.have c in
            let now : Holds to (with_parts t r.before u) (left_by r.before)
            = parts_taken from to x room t ok r.before r.have u store (left_by r.before) holds c took in
            let here : ComesTo from to x room t ok (r.element ∷ r.behind) (with_parts t r.before u)
            = shared_then to.texts (coming_behind t u r.before (r.element ∷ r.behind) r.order) ready in (
              r.element,
              record {
                before = r.before;
                behind = r.behind;
                order = r.order;
                fit = r.have;
                misfit = r.has_not;
                held = left_by r.before;
                taken_before = surely_taken r.before r.have u store (left_by r.before) holds c took;
                refuses = λ reply a long h. surely_refused from to x room t ok _ (left_by r.before) now reply long r.element r.behind here r.has_not a h;
                comes = λ reply long. let z = part_refused from to x room t ok _ (left_by r.before) now reply long r.element r.behind here r.has_not in (z.0, z.1);
              },
            )

-- STOPS ONE: it stops at one part, whatever the other set held
pub stops_one : (to : Limits) (t : Tables) (p q : Part) (store store' : List ℕ) → StopsAt to t p store → StopsAt to t q store' → p ≡ q
stops_one to t p q store store' a b =
    one_first (PartFits to t) a.before b.before p q a.behind b.behind (a.order ∙ sym b.order) a.fit a.misfit b.fit b.misfit

-- STOPS UNFIT: and none that fits stops
pub stops_unfit : (to : Limits) (t : Tables) (p : Part) (store : List ℕ) → StopsAt to t p store → FitsIn to t → ⊥
stops_unfit to t p store s f = s.misfit (fits_each to t f p)

-- ---- the third condition

-- IDLE SIZE: in a set each of whose parts is one request, no request of lines and channels that have room passes the message size
pub idle_size : (from to : Limits) → Exportable to → (t : Tables) → Allowed from t → length t.lines ≤ to.lines → length t.channels ≤ to.channels
    → (p : Part) → length (request_bytes (exported p t)) ≤ to.message
idle_size from to x t ok l c p =
    let able : Exportable (placed to) = record { counted = x.counted; channels = x.channels; status = x.status; lines = x.lines } in
    (exported_in_size (placed to) able t (allowed_in from (placed to) t ok l c tt) p).1

-- ROOM FITS: so an export fits such a set exactly if its lines, its channels and its texts have room
pub room_fits : (from to : Limits) → Exportable to → (t : Tables) → Allowed from t
    → FitsIn to t ↔ ((length t.lines ≤ to.lines) × (length t.channels ≤ to.channels) × TextRoom to.texts (text_sum t))
room_fits from to x t ok = (
  λ f. (omega (arith, f.lines), omega (arith, f.channels), f.texts),
  λ (l, c, r). record { lines = omega (arith, l); channels = omega (arith, c); requests = idle_size from to x t ok l c; texts = r },
)

-- OWN KIND: every set's export fits its own kind
pub own_kind : (lim : Limits) → Exportable lim → (t : Tables) → Allowed lim t → FitsIn lim t
own_kind lim x t ok = (room_fits lim lim x t ok).1 (ok.lines.0, ok.channels.0, ok.texts)

-- ---- the two sets

-- HANDHELD IN VEHICLE: every hand-held's export fits a vehicle set
pub handheld_in_vehicle : (t : Tables) → Allowed handheld t → FitsIn vehicle t
handheld_in_vehicle t ok = (room_fits handheld vehicle vehicle_exportable t ok).1 (omega (arith, ok.lines.0), omega (arith, ok.channels.0), tt)

-- HANDHELD TO VEHICLE: and is taken by it, whatever it held
pub handheld_to_vehicle : (t : Tables) → Allowed handheld t → (u : Tables) (store : List ℕ) → Holds vehicle u store → (after : List ℕ) × AllTaken vehicle (requests t ten) store after
handheld_to_vehicle t ok u store holds = (taken_exactly_when handheld vehicle handheld_exportable vehicle_roomy t ok u store holds tt).1 (handheld_in_vehicle t ok)

-- VEHICLE TO HANDHELD: a vehicle's export is taken by a hand-held that is ready exactly if it has at most 32 lines and 64 channels and its texts have room
pub vehicle_to_handheld : (t : Tables) → Allowed vehicle t → (u : Tables) (store : List ℕ) → Holds handheld u store → Ready handheld.texts u
    → ((after : List ℕ) × AllTaken handheld (requests t ten) store after) ↔ ((length t.lines ≤ 32) × (length t.channels ≤ 64) × TextRoom handheld.texts (text_sum t))
vehicle_to_handheld t ok u store holds ready =
    iff_trans (taken_exactly_when vehicle handheld vehicle_exportable handheld_roomy t ok u store holds ready) (room_fits vehicle handheld handheld_exportable t ok)
