-- How many entries the table of a kind has, and how many bytes its texts take, as they are read from events by a reader who keeps no table.
use Rattle.std.specs.Prelude.{ℕ, ◌*◌, List, [], map, eqb, length}
use Rattle.std.proofs.Math.Option.{Option, some}
use Rattle.slots.specs.Slots.{sum}
use Rattle.writing.specs.declared.Kind.{Kind}
use Rattle.writing.specs.declared.Kind.TheVariants.{GroupContacts, IndividualContacts, Lines, Key, QuickTexts, Home, Channels, System, StatusTexts, Group, Individual, LineSlot, Last}
use Rattle.writing.specs.Settings.{Text}
use Rattle.tables.specs.declared.limits.Limits.{Limits}
use Rattle.tables.specs.declared.members.Members.TheVariants.{OfGroups, OfIndividuals}
use Rattle.tables.specs.Apply.{same_key}
use Rattle.tables.specs.Limits.{quick_places, status_places, slot_places, contact_places}
use Rattle.tables.specs.MemberKinds.{contact_key}
use Rattle.tables.specs.Owns.{Own}
use Rattle.tables.specs.Tables.{line_key}
use Rattle.tables.specs.Texts.{text_kinds}
use Rattle.events.specs.Events.{count_on, total_on}
use Rattle.events.specs.Places.{Inside, spots_total_on}
use Rattle.events.specs.Channels.{channel_count_on}
use Rattle.events.specs.Settings.{Does, quick_place, quick_change, status_place, status_change, slot_place, slot_change}
use Rattle.events.specs.Logs.{History}

-- ---- how many

-- the entries of a list; the other tables are not counted
abbrev pub many : (k : Kind) → Own k → ℕ
many GroupContacts x = length x
many IndividualContacts x = length x
many Lines x = length x
many Key x = 0
many QuickTexts x = 0
many Home x = 0
many Channels x = length x
many System x = 0
many StatusTexts x = 0
many Group x = 0
many Individual x = 0
many LineSlot x = 0
many Last x = 0

-- how many there are after events, which follow those that were read: none where there is no room
abbrev pub counted : Limits → (k : Kind) → List (Does k) → List (Does k) → ℕ → Option ℕ
counted lim GroupContacts read es c = count_on (contact_key OfGroups) eqb contact_places read es c
counted lim IndividualContacts read es c = count_on (contact_key OfIndividuals) eqb contact_places read es c
counted lim Lines read es c = count_on line_key same_key lim.lines read es c
counted lim Key read es c = some 0
counted lim QuickTexts read es c = some 0
counted lim Home read es c = some 0
counted lim Channels read es c = channel_count_on lim.channels read es c
counted lim System read es c = some 0
counted lim StatusTexts read es c = some 0
counted lim Group read es c = some 0
counted lim Individual read es c = some 0
counted lim LineSlot read es c = some 0
counted lim Last read es c = some 0

-- ---- how many bytes of texts

-- "two bytes a unit, without ends"
abbrev pub text_bytes : Text → ℕ
text_bytes us = 2 * length us

-- the bytes of a table's texts after events, which follow those that were read
abbrev pub size_on : (k : Kind) → List (Does k) → List (Does k) → ℕ → ℕ
size_on GroupContacts read es s = total_on (contact_key OfGroups) eqb (λ g. text_bytes g.text) read es s
size_on IndividualContacts read es s = total_on (contact_key OfIndividuals) eqb (λ i. text_bytes i.text) read es s
size_on Lines read es s = total_on line_key same_key (λ l. text_bytes l.text) read es s
size_on Key read es s = 0
size_on QuickTexts read es s = spots_total_on quick_place quick_change text_bytes read es s
size_on Home read es s = 0
size_on Channels read es s = 0
size_on System read es s = 0
size_on StatusTexts read es s = spots_total_on status_place status_change text_bytes read es s
size_on Group read es s = spots_total_on slot_place slot_change (λ g. text_bytes g.text) read es s
size_on Individual read es s = spots_total_on slot_place slot_change (λ i. text_bytes i.text) read es s
size_on LineSlot read es s = spots_total_on slot_place slot_change (λ l. text_bytes l.text) read es s
size_on Last read es s = 0

-- of all events, from the first
abbrev pub size_read : (k : Kind) → List (Does k) → ℕ
size_read k es = size_on k [] es 0

-- and of all tables that have texts
abbrev pub sum_read : History → ℕ
sum_read es = sum (map (λ k. size_read k (es k)) text_kinds)

-- the places that are changed are among those of the table
abbrev pub InPlaces : (k : Kind) → List (Does k) → Type 0
InPlaces GroupContacts es = Unit {0}
InPlaces IndividualContacts es = Unit {0}
InPlaces Lines es = Unit {0}
InPlaces Key es = Unit {0}
InPlaces QuickTexts es = Inside quick_place quick_places es
InPlaces Home es = Unit {0}
InPlaces Channels es = Unit {0}
InPlaces System es = Unit {0}
InPlaces StatusTexts es = Inside status_place status_places es
InPlaces Group es = Inside slot_place slot_places es
InPlaces Individual es = Inside slot_place slot_places es
InPlaces LineSlot es = Inside slot_place slot_places es
InPlaces Last es = Unit {0}
