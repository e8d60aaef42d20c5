-- A setting applied to its region of the store is applied to the store. Assumes nothing.
use Prim.Native.Nat.{ℕ, ◌+◌, ◌-◌, ◌≤◌, ◌<◌}
use mathlib.Core.Path.{◌≡◌, refl, ap, ap₂, sym, ◌∙◌, subst, subst⁻¹}
use mathlib.Core.Bool.{Bool, true}
use mathlib.Core.List.{List, [], ◌∷◌}
use mathlib.Core.Option.{some}
use native.Mathlib.Omega.{arith}
use denote.Enum.Declared.{tag_of}
use types.Run.{OneOf, miss}
use borrow.Rule.Slice.PartMut.{put_mid, mid_of, mid_len}
use lib.ListN.{length}
use Rattle.counted_lists.specs.Counted.{Tried}
use Rattle.counted_lists.proofs.ListLaws.{tried_room}
use Rattle.writing.specs.declared.Coding.{Coding}
use Rattle.writing.specs.declared.KeyTarget.{KeyTarget}
use Rattle.writing.specs.declared.KeyTarget.TheVariants.{Current, ToGroup, ToIndividual}
use Rattle.writing.specs.declared.KeyFlags.{KeyFlags}
use Rattle.writing.specs.declared.LineFlags.{LineFlags}
use Rattle.writing.specs.declared.LastFlags.{LastFlags}
use Rattle.writing.specs.declared.GroupFlags.{GroupFlags}
use Rattle.writing.specs.declared.IndividualFlags.{IndividualFlags}
use Rattle.writing.specs.declared.HomeNumbers.{HomeNumbers}
use Rattle.writing.specs.declared.SystemCode.{SystemCode}
use Rattle.writing.specs.declared.Operation.{Operation}
use Rattle.writing.specs.Canonical.{Fits}
use Rattle.writing.specs.Ranges.{text_limits, InRange}
use Rattle.writing.specs.Settings.{Setting, Slot, Hash, kind, group_contacts, individual_contacts, lines, key, quick_texts, home, channels, system, status_texts, group, individual, line_slot, last}
use Rattle.read_fields.specs.declared.hashes.HashPlace.{HashPlace}
use Rattle.settings.specs.declared.settings.Entries.{Entries}
use Rattle.settings.specs.declared.settings.GroupPlace.{GroupPlace}
use Rattle.settings.specs.declared.settings.IndividualPlace.{IndividualPlace}
use Rattle.settings.specs.declared.settings.LinePlace.{LinePlace}
use Rattle.settings.specs.declared.settings.Setting.{Setting as Read}
use Rattle.settings.specs.declared.settings.Setting.TheVariants.{GroupContacts, IndividualContacts, Lines, Key, QuickTexts, Home, Channels, System, StatusTexts, Group, Individual, LineSlot, Last}
use Rattle.settings.specs.contracts.settings.Setting.{the_type}
use Rattle.store_places.specs.declared.texts.TextTable.TheVariants.{Quick, Status}
use Rattle.tables.specs.declared.limits.Limits.{Limits}
use Rattle.tables.specs.Allowed.{TargetOk}
use Rattle.tables.specs.Apply.{change, own_after, with_room}
use Rattle.store_places.specs.Changes.{TextsAre, TextsApplied, GroupsAre, GroupApplied, IndividualsAre, IndividualApplied, LineSlotsAre, LineSlotApplied, KeyPut, SystemPut, HashPut}
use Rattle.tables.specs.Forms.{Roomy}
use Rattle.tables.specs.Layout.{channels_at, channels_size, contacts_size, group_contacts_at, group_flags, groups_at, hash_bytes, hash_size, home_at, home_bytes, home_size, individual_contacts_at, individual_flags, individuals_at, key_address, key_at, key_bytes, key_size, placed_layout, line_slots_at, line_slots_size, lines_at, lines_size, member_size, quick_at, quick_size, status_at, status_size, system_at, system_bytes, system_size}
use Rattle.store_lists.specs.Lists.{ChannelTable, ChannelsApplied, ContactTable, ContactsApplied, FlagsOk, LineTable, LinesApplied}
use Rattle.tables.specs.Store.{Works, Applied}
use Rattle.tables.specs.declared.members.Members.TheVariants.{OfGroups, OfIndividuals}
use Rattle.tables.specs.Limits.{contact_places}
use Rattle.tables.specs.Tables.{Tables}
use Rattle.tables.specs.Owns.{Own, own, put_own}
use Rattle.store_apply.specs.Places.{Unlisted}
use Rattle.tables.proofs.AllowedLaws.{change_allowed}
use Rattle.tables.proofs.FitsLaws.{fits_key, fits_system, fits_group, fits_individual, fits_line_slot}
use Rattle.tables.proofs.LayoutLaws.{placed_length}
use Rattle.tables.proofs.Frames.{hash_put as hash_back, key_put as key_back, home_put as home_back, system_put as system_back, quick_placed, quick_back, status_placed, status_back, groups_placed, groups_back, individuals_placed, individuals_back, line_slots_placed, line_slots_back, contacts_counted, contacts_back, channels_counted, channels_back, lines_ordered, lines_back}

-- ---- a region put back

-- x is the setting v that was meant
module _ (l : Limits) (was : Tables) (s : List ℕ) (is : Works l was s) (c : Coding) (left : ℕ) (x v : Setting) (q : x ≡ v) (r : InRange text_limits left x) (p : Fits c x) where
  -- what was tried on its table was tried on the tables
  joined : (Is : Own (kind v) → List ℕ → Type 0) (y t : List ℕ) (k : Bool) → ((u : Own (kind v)) → Is u y → t ≡ placed_layout l (put_own (kind v) was u))
      → Tried Is (own_after l v (own (kind v) was)) y k → Tried (Works l) (change l x was) t k
  joined Is y t k back h = subst⁻¹ (λ z. Tried (Works l) (change l z was) t k) q (record {
    room = λ e.
        let (u, d, i) = h.room e in
        let f : change l v was ≡ some (put_own (kind v) was u) = ap (with_room (put_own (kind v) was)) d in
        (put_own (kind v) was u, f, (change_allowed l was (put_own (kind v) was u) c left v is.0 (subst (InRange text_limits left) q r) (subst (Fits c) q p) f, back u i));
    full = λ e. ap (with_room (put_own (kind v) was)) (h.full e);
  })

  -- a table in n bytes from a on
  region_tried : (Is : Own (kind v) → List ℕ → Type 0) (a n : ℕ) (y : List ℕ) (k : Bool) → ((u : Own (kind v)) → Is u y → put_mid a n (placed_layout l was) y ≡ placed_layout l (put_own (kind v) was u))
      → Is (own (kind v) was) (mid_of a n (placed_layout l was)) → (Is (own (kind v) was) (mid_of a n s) → Tried Is (own_after l v (own (kind v) was)) y k) → Tried (Works l) (change l x was) (put_mid a n s y) k
  region_tried Is a n y k back here tried =
      joined Is y (put_mid a n s y) k (λ u e. ap (λ z. put_mid a n z y) is.1 ∙ back u e) (tried (subst⁻¹ (λ z. Is (own (kind v) was) (mid_of a n z)) is.1 here))

  -- one that has room for all
  changed : (Is : Own (kind v) → List ℕ → Type 0) (a n : ℕ) (y : List ℕ) → ((u : Own (kind v)) → Is u y → put_mid a n (placed_layout l was) y ≡ placed_layout l (put_own (kind v) was u))
      → Is (own (kind v) was) (mid_of a n (placed_layout l was)) → (Is (own (kind v) was) (mid_of a n s) → (u : Own (kind v)) × (own_after l v (own (kind v) was) ≡ some u) × Is u y)
      → Tried (Works l) (change l x was) (put_mid a n s y) true
  changed Is a n y back here change = region_tried Is a n y true back here (λ t. let (u, d, i) = change t in tried_room Is u d i)

  -- one of a fixed size, by its bytes
  fixed : (bytes : Own (kind v) → List ℕ) (a n : ℕ) (y : List ℕ) → ((u : Own (kind v)) → put_mid a n (placed_layout l was) (bytes u) ≡ placed_layout l (put_own (kind v) was u))
      → (u : Own (kind v)) → own_after l v (own (kind v) was) ≡ some u → y ≡ bytes u → Tried (Works l) (change l x was) (put_mid a n s y) true
  fixed bytes a n y back u d i =
      joined (λ u z. z ≡ bytes u) y (put_mid a n s y) true (λ w e. ap₂ (put_mid a n) is.1 e ∙ back w) (tried_room (λ u z. z ≡ bytes u) u d i)

-- a fixed region has its length
wide : (l : Limits) (was : Tables) (s : List ℕ) → Roomy l → Works l was s → (a n : ℕ) → a + n ≤ channels_at → length (mid_of a n s) ≡ n
wide l was s room is a n h =
    let e : length s ≡ l.size = ap length is.1 ∙ placed_length l was room is.0 in
    let k : a + n - a ≡ n = omega arith in
    ap (λ j. length (mid_of a j s)) (sym k) ∙ mid_len a (a + n) s (omega (arith, e, room.fits)) ∙ k

-- a target's address has 24 bits
target_fits : (t : KeyTarget) → TargetOk t → key_address t < 16777216
target_fits (Current g) h = omega arith
target_fits (ToGroup a) h = h.1
target_fits (ToIndividual a) h = h.1

-- ---- the fixed regions

module _ (l : Limits) (m s y : List ℕ) where
  pub store_key : (target : KeyTarget) (f : KeyFlags) → KeyPut target f (mid_of key_at key_size s) y → Applied l m (Key target f) s (put_mid key_at key_size s y) true
  store_key target f h was x c left room is q r p =
      fixed l was s is c left x (key target f) q r p key_bytes key_at key_size y (key_back l was is.0) (record { target = target; flags = f }) refl
      (h (target_fits target (fits_key c target f left (subst (InRange text_limits left) q r) (subst (Fits c) q p))) (wide l was s room is 11 4 (omega arith)))

  pub store_home : (n : HomeNumbers) → (length (mid_of home_at home_size s) ≡ 4 → y ≡ home_bytes n) → Applied l m (Home n) s (put_mid home_at home_size s y) true
  store_home n h was x c left room is q r p =
      fixed l was s is c left x (home n) q r p home_bytes home_at home_size y (home_back l was is.0) n refl (h (wide l was s room is 15 4 (omega arith)))

  pub store_system : (n : SystemCode) → SystemPut n (mid_of system_at system_size s) y → Applied l m (System n) s (put_mid system_at system_size s y) true
  store_system n h was x c left room is q r p =
      let f = fits_system c n left (subst (InRange text_limits left) q r) (subst (Fits c) q p) in
      fixed l was s is c left x (system n) q r p system_bytes system_at system_size y (system_back l was is.0) n refl
      (h (omega (arith, f.la)) (omega (arith, f.roaming)) (wide l was s room is 19 3 (omega arith)))

  pub store_hash : (f : LastFlags) (a : HashPlace) → HashPut m a (mid_of 0 hash_size s) y → Applied l m (Last f a) s (put_mid 0 hash_size s y) true
  store_hash f a h was x c left room is (v, q, at, size) r p =
      let k : Hash = record { code = a.code; value = v } in
      fixed l was s is c left x (last f k) q r p hash_bytes 0 hash_size y (hash_back l was is.0) k refl (h v size at (wide l was s room is 0 11 (omega arith)))

  -- ---- the indexed tables

  pub store_quick : (o : Operation) (a : Entries) → TextsApplied Quick m o a (mid_of quick_at quick_size s) y → Applied l m (QuickTexts o a) s (put_mid quick_at quick_size s y) true
  store_quick o a h was x c left room is (es, q, at) r p =
      changed l was s is c left x (quick_texts o es) q r p (TextsAre Quick) quick_at quick_size y (λ v e. quick_back l was is.0 v y e) (quick_placed l was is.0)
      (h es at (subst (InRange text_limits left) q r) was.quick)

  pub store_status : (o : Operation) (a : Entries) → TextsApplied Status m o a (mid_of status_at status_size s) y → Applied l m (StatusTexts o a) s (put_mid status_at status_size s y) true
  store_status o a h was x c left room is (es, q, at) r p =
      changed l was s is c left x (status_texts o es) q r p (TextsAre Status) status_at status_size y (λ v e. status_back l was is.0 v y e) (status_placed l was is.0)
      (h es at (subst (InRange text_limits left) q r) was.status)

  -- ---- the slots

  pub store_group : (o : Operation) (f : GroupFlags) (a : GroupPlace) → GroupApplied m o f a (mid_of groups_at member_size s) y → Applied l m (Group o f a) s (put_mid groups_at member_size s y) true
  store_group o f a h was x c left room is (us, q, (next, at)) r p =
      let fit = subst (Fits c) q p in
      let low : a.index < 16 = fit.1.1.1.1.1.1.1.1.1.1.0 in
      let slot : Slot _ = record { index = a.index; address = a.address; text = us } in
      changed l was s is c left x (group o f slot) q r p GroupsAre groups_at member_size y (λ u e. groups_back l was is.0 u y e) (groups_placed l was is.0)
      (λ t. (_, refl, h was.groups us next at low (fits_group c o f slot left (subst (InRange text_limits left) q r) fit) t))

  pub store_individual : (o : Operation) (f : IndividualFlags) (a : IndividualPlace) → IndividualApplied m o f a (mid_of individuals_at member_size s) y → Applied l m (Individual o f a) s (put_mid individuals_at member_size s y) true
  store_individual o f a h was x c left room is (us, q, (next, at)) r p =
      let fit = subst (Fits c) q p in
      let low : a.index < 16 = fit.1.1.1.1.1.1.1.0 in
      let slot : Slot _ = record { index = a.index; address = a.address; text = us } in
      changed l was s is c left x (individual o f slot) q r p IndividualsAre individuals_at member_size y (λ u e. individuals_back l was is.0 u y e) (individuals_placed l was is.0)
      (λ t. (_, refl, h was.individuals us next at low (fits_individual c o f slot left (subst (InRange text_limits left) q r) fit) t))

  pub store_line_slot : (o : Operation) (f : LineFlags) (a : LinePlace) → LineSlotApplied m o f a (mid_of line_slots_at line_slots_size s) y
      → Applied l m (LineSlot o f a) s (put_mid line_slots_at line_slots_size s y) true
  store_line_slot o f a h was x c left room is (e, q, at) r p =
      let fit = subst (Fits c) q p in
      let low : a.index < 16 = fit.1.1.1.1.1.1.1.1.0 in
      let slot : Slot _ = record { index = a.index; address = e.number; text = e.text } in
      changed l was s is c left x (line_slot o f slot) q r p LineSlotsAre line_slots_at line_slots_size y (λ u d. line_slots_back l was is.0 u y d) (line_slots_placed l was is.0)
      (λ t. (_, refl, h was.line_slots e at low (fits_line_slot c o f slot left (subst (InRange text_limits left) q r) fit) t))

  -- ---- the lists

  pub store_group_contacts : (o : Operation) (f : GroupFlags) (a : Entries) (b : ℕ) (k : Bool) → (f.attribute < 4 → f.priority < 4 → b ≡ group_flags f)
      → ContactsApplied o m b a (mid_of group_contacts_at contacts_size s) y k → Applied l m (GroupContacts o f a) s (put_mid group_contacts_at contacts_size s y) k
  store_group_contacts o f a b k byte h was x c left room is (es, q, at) r p =
      let range = subst (InRange text_limits left) q r in
      let fit = subst (Fits c) q p in
      let ok : FlagsOk OfGroups f = (range.0, fit.1.1.1.0, fit.1.1.1.1.1.1.1.1.0) in
      region_tried l was s is c left x (group_contacts o f es) q r p (ContactTable OfGroups contact_places) group_contacts_at contacts_size y k
      (λ u e. contacts_back l was is.0 OfGroups u y e) (contacts_counted l was is.0 OfGroups)
      (λ t. h OfGroups f contact_places was.group_contacts es (byte ok.1 ok.2) ok t at range.1)

  pub store_individual_contacts : (o : Operation) (f : IndividualFlags) (a : Entries) (b : ℕ) (k : Bool) → (f.priority < 4 → b ≡ individual_flags f)
      → ContactsApplied o m b a (mid_of individual_contacts_at contacts_size s) y k → Applied l m (IndividualContacts o f a) s (put_mid individual_contacts_at contacts_size s y) k
  store_individual_contacts o f a b k byte h was x c left room is (es, q, at) r p =
      let low : f.priority < 4 = (subst (Fits c) q p).1.1.1.1.1.0 in
      region_tried l was s is c left x (individual_contacts o f es) q r p (ContactTable OfIndividuals contact_places) individual_contacts_at contacts_size y k
      (λ u e. contacts_back l was is.0 OfIndividuals u y e) (contacts_counted l was is.0 OfIndividuals)
      (λ t. h OfIndividuals f contact_places was.individual_contacts es (byte low) low t at (subst (InRange text_limits left) q r))

  pub store_channels : (o : Operation) (a : Entries) (n : ℕ) (k : Bool) → n ≡ channels_size l → ChannelsApplied o m a (mid_of channels_at n s) y k → Applied l m (Channels o a) s (put_mid channels_at n s y) k
  store_channels o a n k w h was x c left room is (es, q, at) r p =
      region_tried l was s is c left x (channels o es) q r p (ChannelTable l.channels) channels_at n y k
      (λ v e. ap (λ j. put_mid channels_at j (placed_layout l was) y) w ∙ channels_back l was is.0 v y e)
      (subst⁻¹ (λ j. ChannelTable l.channels was.channels (mid_of channels_at j (placed_layout l was))) w (channels_counted l was is.0 room))
      (λ t. h l.channels was.channels es t at (subst (InRange text_limits left) q r))

  pub store_lines : (o : Operation) (f : LineFlags) (a : Entries) (b n : ℕ) (k : Bool) → b ≡ lines_at l → n ≡ lines_size l → LinesApplied o m f a (mid_of b n s) y k → Applied l m (Lines o f a) s (put_mid b n s y) k
  store_lines o f a b n k v w h was x c left room is (es, q, at) r p =
      let low : f.priority < 4 = (subst (Fits c) q p).1.1.1.1.1.0 in
      region_tried l was s is c left x (lines o f es) q r p (LineTable l.lines) b n y k
      (λ z e. ap₂ (λ a j. put_mid a j (placed_layout l was) y) v w ∙ lines_back l was is.0 z y e)
      (subst⁻¹ (LineTable l.lines was.lines) (ap₂ (λ a j. mid_of a j (placed_layout l was)) v w) (lines_ordered l was is.0 room))
      (λ t. h low l.lines was.lines es t at (subst (InRange text_limits left) q r))

  -- ---- no store of these limits

  -- a store has the limits' size, and room for its tables
  pub no_store : (r : Read) (t : List ℕ) (k : Bool) → (Roomy l → length s ≡ l.size → ⊥) → Applied l m r s t k
  no_store r t k h was x c left room is q i p = absurd (h room (ap length is.1 ∙ placed_length l was room is.0))

-- ---- the setting by its case

-- what is said of a case is said of the setting
pub as_read : (l : Limits) (m s t : List ℕ) (k : Bool) (r q : Read) → r ≡ q → Applied l m q s t k → Applied l m r s t k
as_read l m s t k r q e h = subst⁻¹ (λ z. Applied l m z s t k) e h

-- ---- settings that are for no list

-- such are those that the code leaves over when it has taken the lists
pub unlisted : (r : Read) → OneOf (3 ∷ 4 ∷ 5 ∷ 7 ∷ 8 ∷ 9 ∷ 10 ∷ 11 ∷ 12 ∷ []) (tag_of the_type r) → Unlisted r
unlisted (GroupContacts o f p) k = miss (3 ∷ 4 ∷ 5 ∷ 7 ∷ 8 ∷ 9 ∷ 10 ∷ 11 ∷ 12 ∷ []) 0 tt k
unlisted (IndividualContacts o f p) k = miss (3 ∷ 4 ∷ 5 ∷ 7 ∷ 8 ∷ 9 ∷ 10 ∷ 11 ∷ 12 ∷ []) 1 tt k
unlisted (Lines o f p) k = miss (3 ∷ 4 ∷ 5 ∷ 7 ∷ 8 ∷ 9 ∷ 10 ∷ 11 ∷ 12 ∷ []) 2 tt k
unlisted (Key t f) k = tt
unlisted (QuickTexts o p) k = tt
unlisted (Home h) k = tt
unlisted (Channels o p) k = miss (3 ∷ 4 ∷ 5 ∷ 7 ∷ 8 ∷ 9 ∷ 10 ∷ 11 ∷ 12 ∷ []) 6 tt k
unlisted (System c) k = tt
unlisted (StatusTexts o p) k = tt
unlisted (Group o f p) k = tt
unlisted (Individual o f p) k = tt
unlisted (LineSlot o f p) k = tt
unlisted (Last f p) k = tt

-- and those that it leaves over when it has taken the others are for a list
pub no_place : (r : Read) → OneOf (0 ∷ 1 ∷ 2 ∷ 6 ∷ []) (tag_of the_type r) → Unlisted r → ⊥
no_place (GroupContacts o f p) k u = u
no_place (IndividualContacts o f p) k u = u
no_place (Lines o f p) k u = u
no_place (Key t f) k u = miss (0 ∷ 1 ∷ 2 ∷ 6 ∷ []) 3 tt k
no_place (QuickTexts o p) k u = miss (0 ∷ 1 ∷ 2 ∷ 6 ∷ []) 4 tt k
no_place (Home h) k u = miss (0 ∷ 1 ∷ 2 ∷ 6 ∷ []) 5 tt k
no_place (Channels o p) k u = u
no_place (System c) k u = miss (0 ∷ 1 ∷ 2 ∷ 6 ∷ []) 7 tt k
no_place (StatusTexts o p) k u = miss (0 ∷ 1 ∷ 2 ∷ 6 ∷ []) 8 tt k
no_place (Group o f p) k u = miss (0 ∷ 1 ∷ 2 ∷ 6 ∷ []) 9 tt k
no_place (Individual o f p) k u = miss (0 ∷ 1 ∷ 2 ∷ 6 ∷ []) 10 tt k
no_place (LineSlot o f p) k u = miss (0 ∷ 1 ∷ 2 ∷ 6 ∷ []) 11 tt k
no_place (Last f p) k u = miss (0 ∷ 1 ∷ 2 ∷ 6 ∷ []) 12 tt k
