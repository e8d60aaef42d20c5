-- Every setting leaves allowed tables. Assumes nothing.
use Rattle.lists.proofs.Kit.{◌↔◌, ℕ, ◌≡◌, refl, subst, subst⁻¹, Bool, true, false, List, Option, none, some, ◌≤◌, ap, cond, leb, leb-true, option_some_injective, option_none_ne_some}
use Rattle.slots.specs.Slots.{Present}
use Rattle.writing.specs.declared.Coding.{Coding}
use Rattle.writing.specs.declared.HomeNumbers.{HomeNumbers}
use Rattle.writing.specs.declared.SystemCode.{SystemCode}
use Rattle.writing.specs.Canonical.{Fits}
use Rattle.writing.specs.Ranges.{text_limits, InRange, InChannel, no_hash as hash_0}
use Rattle.writing.specs.Settings.{Text, Hash, Setting, kind, group_contacts, individual_contacts, lines, key, quick_texts, home, channels, system, status_texts, group, individual, line_slot, last}
use Rattle.tables.specs.declared.limits.Limits.{Limits}
use Rattle.tables.specs.Allowed.{Allowed, HashOk, TargetOk, HomeOk, SystemOk, QuickOk, StatusOk, GroupOk, IndividualOk, LineOk, PlacesOk, ListOk, KeyedOk, LinesOk}
use Rattle.tables.specs.Apply.{and_then, own_after, with_room, slot_after, change, within, apply}
use Rattle.tables.specs.Limits.{placed, quick_places, status_places, slot_places, contact_places}
use Rattle.tables.specs.declared.members.Members.TheVariants.{OfGroups, OfIndividuals}
use Rattle.tables.specs.MemberKinds.{contact_key}
use Rattle.tables.specs.Tables.{Line, GroupMember, IndividualMember, Tables, no_hash}
use Rattle.writing.specs.declared.Kind.{Kind}
use Rattle.writing.specs.declared.Kind.TheVariants.{GroupContacts, IndividualContacts, Lines, Key, QuickTexts, Home, Channels, System, StatusTexts, Group, Individual, LineSlot, Last}
use Rattle.tables.specs.Owns.{Own, own, only, put_own}
use Rattle.tables.specs.Texts.{text_sum, TextRoom}
use Rattle.tables.specs.declared.limits.Texts.{Texts}
use Rattle.tables.specs.declared.limits.Texts.TheVariants.{Placed, Shared}
use Rattle.tables.proofs.RoomSentences.{apply_change}
use Rattle.tables.proofs.FitsLaws.{fits_group_contacts, fits_individual_contacts, fits_lines, fits_key, fits_quick, fits_home, fits_system, fits_status, fits_group, fits_individual, fits_line_slot, fits_hash}
use Rattle.tables.proofs.Owns.{own_put, own_other, same_kind}
use Rattle.tables.proofs.StepLaws.{place_keeps, contacts_after_keeps, lines_after_keeps, quick_after_keeps, status_after_keeps, channels_after_keeps}

-- ---- tables by kind of setting

-- which table of a kind is allowed
abbrev pub OwnOk : Limits → (k : Kind) → Own k → Type 0
OwnOk lim GroupContacts x = KeyedOk GroupOk (contact_key OfGroups) contact_places x
OwnOk lim IndividualContacts x = KeyedOk IndividualOk (contact_key OfIndividuals) contact_places x
OwnOk lim Lines x = LinesOk lim.lines x
OwnOk lim Key x = TargetOk x.target
OwnOk lim QuickTexts x = PlacesOk QuickOk quick_places x
OwnOk lim Home x = HomeOk x
OwnOk lim Channels x = ListOk InChannel lim.channels x
OwnOk lim System x = SystemOk x
OwnOk lim StatusTexts x = PlacesOk StatusOk status_places x
OwnOk lim Group x = PlacesOk GroupOk slot_places x
OwnOk lim Individual x = PlacesOk IndividualOk slot_places x
OwnOk lim LineSlot x = PlacesOk LineOk slot_places x
OwnOk lim Last x = HashOk x

-- each of allowed tables is
pub own_ok : (lim : Limits) (t : Tables) → Allowed lim t → (k : Kind) → OwnOk lim k (own k t)
own_ok lim t ok GroupContacts = (ok.group_contacts, ok.distinct_groups)
own_ok lim t ok IndividualContacts = (ok.individual_contacts, ok.distinct_individuals)
own_ok lim t ok Lines = (ok.lines, ok.distinct)
own_ok lim t ok Key = ok.key
own_ok lim t ok QuickTexts = ok.quick
own_ok lim t ok Home = ok.home
own_ok lim t ok Channels = ok.channels
own_ok lim t ok System = ok.system
own_ok lim t ok StatusTexts = ok.status
own_ok lim t ok Group = ok.groups
own_ok lim t ok Individual = ok.individuals
own_ok lim t ok LineSlot = ok.line_slots
own_ok lim t ok Last = ok.hash

-- and tables of which each is are allowed
pub all_ok : (lim : Limits) (t : Tables) → ((k : Kind) → OwnOk lim k (own k t)) → TextRoom lim.texts (text_sum t) → Allowed lim t
all_ok lim t o room = record {
  hash = o Last;
  key = o Key;
  home = o Home;
  system = o System;
  quick = o QuickTexts;
  status = o StatusTexts;
  groups = o Group;
  individuals = o Individual;
  line_slots = o LineSlot;
  group_contacts = (o GroupContacts).0;
  distinct_groups = (o GroupContacts).1;
  individual_contacts = (o IndividualContacts).0;
  distinct_individuals = (o IndividualContacts).1;
  channels = o Channels;
  lines = (o Lines).0;
  distinct = (o Lines).1;
  texts = room;
}

-- how the store keeps texts does not matter to any one table
own_placed : (lim : Limits) (k : Kind) (x : Own k) → OwnOk lim k x ↔ OwnOk (placed lim) k x
own_placed lim GroupContacts x = (λ p. p, λ p. p)
own_placed lim IndividualContacts x = (λ p. p, λ p. p)
own_placed lim Lines x = (λ p. p, λ p. p)
own_placed lim Key x = (λ p. p, λ p. p)
own_placed lim QuickTexts x = (λ p. p, λ p. p)
own_placed lim Home x = (λ p. p, λ p. p)
own_placed lim Channels x = (λ p. p, λ p. p)
own_placed lim System x = (λ p. p, λ p. p)
own_placed lim StatusTexts x = (λ p. p, λ p. p)
own_placed lim Group x = (λ p. p, λ p. p)
own_placed lim Individual x = (λ p. p, λ p. p)
own_placed lim LineSlot x = (λ p. p, λ p. p)
own_placed lim Last x = (λ p. p, λ p. p)

-- ALLOWED-PLACED: allowed tables are allowed where each text has a place of its own
pub allowed_placed : (lim : Limits) (t : Tables) → Allowed lim t → Allowed (placed lim) t
allowed_placed lim t ok = all_ok (placed lim) t (λ k. (own_placed lim k (own k t)).0 (own_ok lim t ok k)) tt

-- ALLOWED-WITHIN: and the other way round, where their texts have room together
pub allowed_within : (lim : Limits) (t : Tables) → Allowed (placed lim) t → TextRoom lim.texts (text_sum t) → Allowed lim t
allowed_within lim t ok room = all_ok lim t (λ k. (own_placed lim k (own k t)).1 (own_ok (placed lim) t ok k)) room

-- ---- allowed tables with one of them changed

-- tables of which one is changed are allowed where its texts have room among the others
module _ (lim : Limits) (t : Tables) (ok : Allowed lim t) where
  -- PUT-ALLOWED: a table that is allowed is put among them
  pub put_allowed : (k : Kind) (x : Own k) → OwnOk lim k x → TextRoom lim.texts (text_sum (put_own k t x)) → Allowed lim (put_own k t x)
  put_allowed k x p room = all_ok lim (put_own k t x) (λ j. go j (only k j) refl) room
    where
      go : (j : Kind) (b : Bool) → only k j ≡ b → OwnOk lim j (own j (put_own k t x))
      go j true e = subst (λ (i : Kind). OwnOk lim i (own i (put_own k t x))) (same_kind k j e) (subst⁻¹ (OwnOk lim k) (own_put k t x) p)
      go j false e = subst⁻¹ (OwnOk lim j) (own_other k j t x e) (own_ok lim t ok j)

  -- the kept hash
  pub hash_allowed : (x : Hash) → HashOk x → Allowed lim (put_own Last t x)
  hash_allowed x p = put_allowed Last x p ok.texts

  -- the channels
  pub channels_allowed : (x : List ℕ) → ListOk InChannel lim.channels x → Allowed lim (put_own Channels t x)
  channels_allowed x p = put_allowed Channels x p ok.texts

  -- FORGET-ALLOWED: no hash is kept
  pub forget_allowed : Allowed lim (put_own Last t no_hash)
  forget_allowed = hash_allowed no_hash (record { size = hash_0; bytes = tt })

-- ---- settings

-- what is made where there is room
room_keeps : {A B : Type 0} (I : A → Type 0) (J : B → Type 0) (f : A → B) → ((a : A) → I a → J (f a)) → (o : Option A) → Present I o → Present J (with_room f o)
room_keeps I J f h none p = tt
room_keeps I J f h (some a) p = h a p

-- what it makes of its own table is allowed
own_keeps : (lim : Limits) (t : Tables) (c : Coding) (left : ℕ) (s : Setting) → Allowed (placed lim) t → InRange text_limits left s → Fits c s → Present (OwnOk lim (kind s)) (own_after lim s (own (kind s) t))
own_keeps lim t c left (group_contacts o f es) ok r p =
    contacts_after_keeps OfGroups contact_places o f es t.group_contacts (fits_group_contacts c o f es left r p) (ok.group_contacts, ok.distinct_groups)
own_keeps lim t c left (individual_contacts o f es) ok r p =
    contacts_after_keeps OfIndividuals contact_places o f es t.individual_contacts (fits_individual_contacts c o f es left r p) (ok.individual_contacts, ok.distinct_individuals)
own_keeps lim t c left (lines o f es) ok r p = lines_after_keeps lim.lines o f es t.lines (fits_lines c o f es left r p) (ok.lines, ok.distinct)
own_keeps lim t c left (key target f) ok r p = fits_key c target f left r p
own_keeps lim t c left (quick_texts o es) ok r p = quick_after_keeps o es t.quick (fits_quick c o es left r p) ok.quick
own_keeps lim t c left (home h) ok r p = fits_home c h left r p
own_keeps lim t c left (channels o ns) ok r p = channels_after_keeps lim.channels o ns t.channels r ok.channels
own_keeps lim t c left (system s) ok r p = fits_system c s left r p
own_keeps lim t c left (status_texts o es) ok r p = status_after_keeps o es t.status (fits_status c o es left r p) ok.status
own_keeps lim t c left (group o f s) ok r p = place_keeps GroupOk slot_places s.index (slot_after o _) t.groups (fits_group c o f s left r p) ok.groups
own_keeps lim t c left (individual o f s) ok r p = place_keeps IndividualOk slot_places s.index (slot_after o _) t.individuals (fits_individual c o f s left r p) ok.individuals
own_keeps lim t c left (line_slot o f s) ok r p = place_keeps LineOk slot_places s.index (slot_after o _) t.line_slots (fits_line_slot c o f s left r p) ok.line_slots
own_keeps lim t c left (last f h) ok r p = fits_hash c f h left r p

-- CHANGE-KEEPS: where there is a place, a setting in range whose values fit leaves tables that are allowed but for their texts' room
pub change_keeps : (lim : Limits) (t : Tables) (c : Coding) (left : ℕ) (s : Setting) → Allowed (placed lim) t → InRange text_limits left s → Fits c s → Present (Allowed (placed lim)) (change lim s t)
change_keeps lim t c left s ok r p =
    room_keeps (OwnOk lim (kind s)) (Allowed (placed lim)) (put_own (kind s) t) (λ x h. put_allowed (placed lim) t ok (kind s) x ((own_placed lim (kind s) x).0 h) tt) (own_after lim s (own (kind s) t))
    (own_keeps lim t c left s ok r p)

-- CHANGE-ALLOWED: the tables that it leaves
pub change_allowed : (lim : Limits) (t u : Tables) (c : Coding) (left : ℕ) (s : Setting) → Allowed (placed lim) t → InRange text_limits left s → Fits c s → change lim s t ≡ some u → Allowed (placed lim) u
change_allowed lim t u c left s ok r p e = subst (Present (Allowed (placed lim))) e (change_keeps lim t c left s ok r p)

-- WITHIN-ROOM: tables that are within have room for their texts
within_room : (x : Texts) (t u : Tables) → within x t ≡ some u → TextRoom x (text_sum u)
within_room Placed t u e = tt
within_room (Shared a) t u e = go (leb (text_sum t) a) refl e
  where
    go : (b : Bool) → leb (text_sum t) a ≡ b → cond b (some t) none ≡ some u → text_sum u ≤ a
    go true h e = subst (λ (v : Tables). text_sum v ≤ a) (option_some_injective t u e) (leb-true (text_sum t) a h)
    go false h e = absurd (option_none_ne_some u e)

-- and so have those that a setting leaves
pub apply_room : (lim : Limits) (s : Setting) (t u : Tables) → apply lim s t ≡ some u → TextRoom lim.texts (text_sum u)
apply_room lim s t u e = go (change lim s t) e
  where
    go : (o : Option Tables) → and_then o (within lim.texts) ≡ some u → TextRoom lim.texts (text_sum u)
    go none e = absurd (option_none_ne_some u e)
    go (some v) e = within_room lim.texts v u e

-- APPLY-ALLOWED: the tables that a setting leaves are allowed
pub apply_allowed : (lim : Limits) (t u : Tables) (c : Coding) (left : ℕ) (s : Setting) → Allowed lim t → InRange text_limits left s → Fits c s → apply lim s t ≡ some u → Allowed lim u
apply_allowed lim t u c left s ok r p e =
    allowed_within lim u (change_allowed lim t u c left s (allowed_placed lim t ok) r p (apply_change lim s t u e)) (apply_room lim s t u e)
