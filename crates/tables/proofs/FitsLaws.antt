-- A setting in range whose values fit their fields holds only what the tables may hold. Assumes nothing.
use Rattle.lists.proofs.Kit.{ℕ, ◌≤◌, ◌<◌, List, [], ◌∷◌, map, arith, length}
use Rattle.lists.specs.Every.{All}
use Rattle.lists.proofs.Every.{all_both, all_right}
use Rattle.writing.specs.declared.LineFlags.{LineFlags}
use Rattle.writing.specs.declared.KeyTarget.{KeyTarget}
use Rattle.writing.specs.declared.KeyTarget.TheVariants.{Current, ToGroup, ToIndividual}
use Rattle.writing.specs.declared.KeyFlags.{KeyFlags}
use Rattle.writing.specs.declared.HomeNumbers.{HomeNumbers}
use Rattle.writing.specs.declared.SystemCode.{SystemCode}
use Rattle.writing.specs.declared.GroupFlags.{GroupFlags}
use Rattle.writing.specs.declared.IndividualFlags.{IndividualFlags}
use Rattle.writing.specs.declared.LastFlags.{LastFlags}
use Rattle.writing.specs.declared.Operation.{Operation}
use Rattle.writing.specs.declared.Operation.TheVariants.{Add, Delete, Replace}
use Rattle.plan.specs.declared.numbers.GroupAddress.{GroupAddress}
use Rattle.plan.specs.declared.numbers.IndividualAddress.{IndividualAddress}
use Rattle.writing.specs.declared.Coding.{Coding}
use Rattle.writing.specs.Canonical.{FitsField, Fits}
use Rattle.writing.specs.Fields.{val, each}
use Rattle.writing.specs.Ranges.{text_limits, InRange, InContact, InAddressed, InQuick, InStatus}
use Rattle.writing.specs.Settings.{Text, Number, Contact, Addressed, Entry, Slot, Hash, group_contacts, individual_contacts, lines, key, quick_texts, home, system, status_texts, group, individual, line_slot, last}
use Rattle.writing.specs.Writing.{text, number, contact, addressed, quick_text, status_text}
use Rattle.writing.proofs.TextUnits.{fits_each}
use Rattle.slots.specs.Slots.{Present}
use Rattle.tables.specs.Allowed.{TextOk, AddressOk, QuickOk, StatusOk, LineOk, GroupOk, IndividualOk, TargetOk, HomeOk, SystemOk, HashOk}
use Rattle.tables.specs.Apply.{line_of, contact_of, slot_after}
use Rattle.tables.specs.Limits.{quick_places}
use Rattle.tables.specs.declared.members.Members.{Members}
use Rattle.tables.specs.declared.members.Members.TheVariants.{OfGroups, OfIndividuals}
use Rattle.tables.specs.MemberKinds.{FlagsIn, AddressIn, number_of}
use Rattle.tables.specs.Members.{member_ok}
use Rattle.tables.proofs.TextLaws.{units_16}

-- ---- parts

-- a text's units
fits_text : (c : Coding) (n : ℕ) (us : Text) → length us ≤ n → All FitsField (text c us) → TextOk n us
fits_text c n us h p = record { short = h; units = units_16 c us p }

-- a value's bytes
fits_bytes : (v : List ℕ) → All FitsField (map (val 8) v) → All (◌< 256) v
fits_bytes [] p = tt
fits_bytes (b ∷ v) p = (p.0, fits_bytes v p.1)

-- ---- settings of entries

-- what an entry puts into a list of quick texts; a delete puts nothing
abbrev pub QuickFit : Operation → Entry → Type 0
QuickFit Add e = (e.index < quick_places) × QuickOk e.text
QuickFit Delete e = Unit {0}
QuickFit Replace e = (e.index < quick_places) × QuickOk e.text

-- contacts of either kind, where what is allowed of their flags makes them so
fits_contacts : (w : Members) (c : Coding) (f : FlagsIn w) → ((e : Addressed (AddressIn w)) → AddressOk (number_of w e.address) → TextOk 16 e.text → member_ok w (contact_of f e))
    → (es : List (Addressed (AddressIn w))) → All (InAddressed (number_of w) text_limits) es → All FitsField (each (addressed (number_of w) c) es) → All (λ e. member_ok w (contact_of f e)) es
fits_contacts w c f made es r p =
    all_both (InAddressed (number_of w) text_limits) (λ e. All FitsField (addressed (number_of w) c e)) (λ e. member_ok w (contact_of f e))
    (λ e s q. made e (s.0, q.0) (fits_text c 16 e.text s.1 q.1)) es r (fits_each (addressed (number_of w) c) es p)

-- group contacts
pub fits_group_contacts : (c : Coding) (o : Operation) (f : GroupFlags) (es : List (Addressed GroupAddress)) (left : ℕ) → InRange text_limits left (group_contacts o f es) → Fits c (group_contacts o f es)
    → All (λ e. GroupOk (contact_of f e)) es
fits_group_contacts c o f es left r p =
    fits_contacts OfGroups c f (λ e a u. record { attribute = (r.0, p.1.1.1.0); priority = p.1.1.1.1.1.1.1.1.0; address = a; text = u }) es r.1 p.1.1.1.1.1.1.1.1.1.1.1

-- individual contacts
pub fits_individual_contacts : (c : Coding) (o : Operation) (f : IndividualFlags) (es : List (Addressed IndividualAddress)) (left : ℕ) → InRange text_limits left (individual_contacts o f es)
    → Fits c (individual_contacts o f es) → All (λ e. IndividualOk (contact_of f e)) es
fits_individual_contacts c o f es left r p =
    fits_contacts OfIndividuals c f (λ e a u. record { priority = p.1.1.1.1.1.0; address = a; text = u }) es r p.1.1.1.1.1.1.1.1

-- one line contact
fits_line : (c : Coding) (f : LineFlags) → f.priority < 4 → (e : Contact) → InContact text_limits e → All FitsField (contact c e) → LineOk (line_of f e)
fits_line c f h e r p = record { priority = h; number = r.0; text = fits_text c 16 e.text r.1 (all_right FitsField (number e.number) (text c e.text) p) }

-- line contacts
pub fits_lines : (c : Coding) (o : Operation) (f : LineFlags) (es : List Contact) (left : ℕ) → InRange text_limits left (lines o f es) → Fits c (lines o f es) → All (λ e. LineOk (line_of f e)) es
fits_lines c o f es left r p =
    all_both (InContact text_limits) (λ e. All FitsField (contact c e)) (λ e. LineOk (line_of f e)) (fits_line c f p.1.1.1.1.1.0) es r
    (fits_each (contact c) es p.1.1.1.1.1.1.1.1.1)

-- one quick text
fits_quick_text : (c : Coding) (o : Operation) (e : Entry) → InQuick text_limits o e → All FitsField (quick_text c e) → QuickFit o e
fits_quick_text c Add e r p = (p.1.0, record { some_unit = r.0; text = fits_text c 23 e.text r.1 p.1.1 })
fits_quick_text c Delete e r p = tt
fits_quick_text c Replace e r p = (p.1.0, record { some_unit = r.0; text = fits_text c 23 e.text r.1 p.1.1 })

-- quick texts
pub fits_quick : (c : Coding) (o : Operation) (es : List Entry) (left : ℕ) → InRange text_limits left (quick_texts o es) → Fits c (quick_texts o es) → All (QuickFit o) es
fits_quick c o es left r p =
    all_both (InQuick text_limits o) (λ e. All FitsField (quick_text c e)) (QuickFit o) (fits_quick_text c o) es r
    (fits_each (quick_text c) es p.1.1.1.1)

-- status texts
pub fits_status : (c : Coding) (o : Operation) (es : List Entry) (left : ℕ) → InRange text_limits left (status_texts o es) → Fits c (status_texts o es) → All (λ e. StatusOk e.text) es
fits_status c o es left r p =
    all_both (InStatus text_limits) (λ e. All FitsField (status_text c e)) (λ e. StatusOk e.text) (λ e s q. fits_text c 16 e.text s.2 q.1) es r
    (fits_each (status_text c) es p.1.1.1.1.1)

-- ---- slots

-- a group slot
pub fits_group : (c : Coding) (o : Operation) (f : GroupFlags) (s : Slot GroupAddress) (left : ℕ) → InRange text_limits left (group o f s) → Fits c (group o f s) → Present GroupOk (slot_after o (record { flags = f; address = s.address; text = s.text }))
fits_group c Add f s left r p =
    record {
      attribute = (r.0.0, p.1.1.1.0);
      priority = p.1.1.1.1.1.1.1.1.0;
      address = (r.0.1, p.1.1.1.1.1.1.1.1.1.1.1.0);
      text = fits_text c 16 s.text r.1 p.1.1.1.1.1.1.1.1.1.1.1.1;
    }
fits_group c Delete f s left r p = tt
fits_group c Replace f s left r p = absurd r.0

-- an individual slot
pub fits_individual : (c : Coding) (o : Operation) (f : IndividualFlags) (s : Slot IndividualAddress) (left : ℕ) → InRange text_limits left (individual o f s) → Fits c (individual o f s) → Present IndividualOk (slot_after o (record { flags = f; address = s.address; text = s.text }))
fits_individual c Add f s left r p =
    record {
      priority = p.1.1.1.1.1.0;
      address = (r.0, p.1.1.1.1.1.1.1.1.0);
      text = fits_text c 16 s.text r.1 p.1.1.1.1.1.1.1.1.1;
    }
fits_individual c Delete f s left r p = tt
fits_individual c Replace f s left r p = absurd r.0

-- a line slot
pub fits_line_slot : (c : Coding) (o : Operation) (f : LineFlags) (s : Slot Number) (left : ℕ) → InRange text_limits left (line_slot o f s) → Fits c (line_slot o f s)
    → Present LineOk (slot_after o (record { flags = f; number = s.address; text = s.text }))
fits_line_slot c Add f s left r p =
    record {
      priority = p.1.1.1.1.1.0;
      number = r.1;
      text = fits_text c 16 s.text r.2 (all_right FitsField (number s.address) (text c s.text) p.1.1.1.1.1.1.1.1.1);
    }
fits_line_slot c Delete f s left r p = tt
fits_line_slot c Replace f s left r p = absurd r.0

-- ---- fixed contents

-- the emergency key
pub fits_key : (c : Coding) (t : KeyTarget) (f : KeyFlags) (left : ℕ) → InRange text_limits left (key t f) → Fits c (key t f) → TargetOk t
fits_key c (Current g) f left r p = tt
fits_key c (ToGroup a) f left r p = (r, p.1.1.1.1.1.1.1.1.0)
fits_key c (ToIndividual a) f left r p = (r, p.1.1.1.1.1.1.1.1.0)

-- the home numbers
pub fits_home : (c : Coding) (h : HomeNumbers) (left : ℕ) → InRange text_limits left (home h) → Fits c (home h) → HomeOk h
fits_home c h left r p = record { nzi = p.1.1.0; np = r }

-- the system code
pub fits_system : (c : Coding) (s : SystemCode) (left : ℕ) → InRange text_limits left (system s) → Fits c (system s) → SystemOk s
fits_system c s left r p =
    let w : s.roaming < 4 = p.1.1.1.1.0 in
    record { lai = p.1.1.0; la = r.0; roaming = omega (arith, r.1) }

-- the hash of the last item
pub fits_hash : (c : Coding) (f : LastFlags) (h : Hash) (left : ℕ) → InRange text_limits left (last f h) → Fits c (last f h) → HashOk h
fits_hash c f h left r p = record { size = r.0; bytes = fits_bytes h.value p.1.1.1.1.1 }
