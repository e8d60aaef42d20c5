-- Group and individual contacts: what stands under an address is what the last setting for it sent. Assumes nothing.
use Rattle.lists.proofs.Kit.{◌≡◌, refl, sym, ap, ◌∙◌, List, map, some}
use Rattle.writing.specs.declared.Kind.TheVariants.{GroupContacts, IndividualContacts}
use Rattle.writing.specs.declared.Operation.{Operation}
use Rattle.writing.specs.Settings.{Setting, Addressed, group_contacts, individual_contacts, lines, key, quick_texts, home, channels, system, status_texts, group, individual, line_slot, last}
use Rattle.tables.specs.declared.limits.Limits.{Limits}
use Rattle.tables.specs.declared.members.Members.{Members}
use Rattle.tables.specs.declared.members.Members.TheVariants.{OfGroups, OfIndividuals}
use Rattle.tables.specs.Apply.{apply, has_address, contact_of, contacts_after}
use Rattle.tables.specs.Limits.{contact_places}
use Rattle.tables.specs.MemberKinds.{FlagsIn, AddressIn, MemberIn, number_of, contact_key}
use Rattle.tables.specs.Members.{contacts_in}
use Rattle.tables.specs.Owns.{put_own}
use Rattle.tables.specs.Tables.{Tables}
use Rattle.tables.proofs.ContactSentences.{has_number, key_is_number}
use Rattle.tables.proofs.Owns.{others_stay}
use Rattle.tables.proofs.RoomSentences.{apply_change, came}
use Rattle.requests.specs.Requests.{or_else}
use Rattle.laws_screen.specs.ByKey.{found, under_key, to_group_contact, to_individual_contact, to_contact}
use Rattle.laws_screen.proofs.KeyLaws.{looks_by, key_left}
use Rattle.laws_screen.proofs.Sent.{Sees}

-- what a setting of contacts leaves under an address
contacts_left : (w : Members) (a : AddressIn w) (o : Operation) (f : FlagsIn w) (es : List (Addressed (AddressIn w))) (xs ys : List (MemberIn w))
    → contacts_after w contact_places o f es xs ≡ some ys
    → found (has_address w a) ys ≡ or_else (under_key (has_address w a) o (map (contact_of f) es)) (found (has_address w a) xs)
contacts_left w a o f es xs ys e =
    key_left (λ x. has_address w x.address) (has_address w a) (looks_by (contact_key w) (has_number w) (key_is_number w) (number_of w a)) (contact_of f) contact_places o es xs ys e

group_contact_step : (lim : Limits) (a : AddressIn OfGroups) (s : Setting) (t u : Tables) → apply lim s t ≡ some u
    → found (has_address OfGroups a) u.group_contacts ≡ or_else (to_group_contact a s) (found (has_address OfGroups a) t.group_contacts)
group_contact_step lim a (group_contacts o f es) t u e =
    let (ys, made, is) = came (put_own GroupContacts t) (contacts_after OfGroups contact_places o f es t.group_contacts) u (apply_change lim (group_contacts o f es) t u e) in
    ap (λ x. found (has_address OfGroups a) x.group_contacts) (sym is) ∙ contacts_left OfGroups a o f es t.group_contacts ys made
group_contact_step lim a (individual_contacts o f es) t u e = ap (found (has_address OfGroups a)) (others_stay lim (individual_contacts o f es) t u GroupContacts e refl)
group_contact_step lim a (lines o f es) t u e = ap (found (has_address OfGroups a)) (others_stay lim (lines o f es) t u GroupContacts e refl)
group_contact_step lim a (key x f) t u e = ap (found (has_address OfGroups a)) (others_stay lim (key x f) t u GroupContacts e refl)
group_contact_step lim a (quick_texts o es) t u e = ap (found (has_address OfGroups a)) (others_stay lim (quick_texts o es) t u GroupContacts e refl)
group_contact_step lim a (home h) t u e = ap (found (has_address OfGroups a)) (others_stay lim (home h) t u GroupContacts e refl)
group_contact_step lim a (channels o ns) t u e = ap (found (has_address OfGroups a)) (others_stay lim (channels o ns) t u GroupContacts e refl)
group_contact_step lim a (system x) t u e = ap (found (has_address OfGroups a)) (others_stay lim (system x) t u GroupContacts e refl)
group_contact_step lim a (status_texts o es) t u e = ap (found (has_address OfGroups a)) (others_stay lim (status_texts o es) t u GroupContacts e refl)
group_contact_step lim a (group o f s) t u e = ap (found (has_address OfGroups a)) (others_stay lim (group o f s) t u GroupContacts e refl)
group_contact_step lim a (individual o f s) t u e = ap (found (has_address OfGroups a)) (others_stay lim (individual o f s) t u GroupContacts e refl)
group_contact_step lim a (line_slot o f s) t u e = ap (found (has_address OfGroups a)) (others_stay lim (line_slot o f s) t u GroupContacts e refl)
group_contact_step lim a (last f h) t u e = ap (found (has_address OfGroups a)) (others_stay lim (last f h) t u GroupContacts e refl)

individual_contact_step : (lim : Limits) (a : AddressIn OfIndividuals) (s : Setting) (t u : Tables) → apply lim s t ≡ some u
    → found (has_address OfIndividuals a) u.individual_contacts ≡ or_else (to_individual_contact a s) (found (has_address OfIndividuals a) t.individual_contacts)
individual_contact_step lim a (group_contacts o f es) t u e = ap (found (has_address OfIndividuals a)) (others_stay lim (group_contacts o f es) t u IndividualContacts e refl)
individual_contact_step lim a (individual_contacts o f es) t u e =
    let (ys, made, is) = came (put_own IndividualContacts t) (contacts_after OfIndividuals contact_places o f es t.individual_contacts) u (apply_change lim (individual_contacts o f es) t u e) in
    ap (λ x. found (has_address OfIndividuals a) x.individual_contacts) (sym is) ∙ contacts_left OfIndividuals a o f es t.individual_contacts ys made
individual_contact_step lim a (lines o f es) t u e = ap (found (has_address OfIndividuals a)) (others_stay lim (lines o f es) t u IndividualContacts e refl)
individual_contact_step lim a (key x f) t u e = ap (found (has_address OfIndividuals a)) (others_stay lim (key x f) t u IndividualContacts e refl)
individual_contact_step lim a (quick_texts o es) t u e = ap (found (has_address OfIndividuals a)) (others_stay lim (quick_texts o es) t u IndividualContacts e refl)
individual_contact_step lim a (home h) t u e = ap (found (has_address OfIndividuals a)) (others_stay lim (home h) t u IndividualContacts e refl)
individual_contact_step lim a (channels o ns) t u e = ap (found (has_address OfIndividuals a)) (others_stay lim (channels o ns) t u IndividualContacts e refl)
individual_contact_step lim a (system x) t u e = ap (found (has_address OfIndividuals a)) (others_stay lim (system x) t u IndividualContacts e refl)
individual_contact_step lim a (status_texts o es) t u e = ap (found (has_address OfIndividuals a)) (others_stay lim (status_texts o es) t u IndividualContacts e refl)
individual_contact_step lim a (group o f s) t u e = ap (found (has_address OfIndividuals a)) (others_stay lim (group o f s) t u IndividualContacts e refl)
individual_contact_step lim a (individual o f s) t u e = ap (found (has_address OfIndividuals a)) (others_stay lim (individual o f s) t u IndividualContacts e refl)
individual_contact_step lim a (line_slot o f s) t u e = ap (found (has_address OfIndividuals a)) (others_stay lim (line_slot o f s) t u IndividualContacts e refl)
individual_contact_step lim a (last f h) t u e = ap (found (has_address OfIndividuals a)) (others_stay lim (last f h) t u IndividualContacts e refl)

-- CONTACT PLACES: an address is a place, by which a contact is seen
pub contact_sees : (w : Members) (a : AddressIn w) → Sees (λ t. found (has_address w a) (contacts_in w t)) (λ t. Unit {0}) (to_contact w a)
contact_sees OfGroups a = record { forgets = λ t h. (refl, tt); step = λ lim s t u e h. (group_contact_step lim a s t u e, tt) }
contact_sees OfIndividuals a = record { forgets = λ t h. (refl, tt); step = λ lim s t u e h. (individual_contact_step lim a s t u e, tt) }
