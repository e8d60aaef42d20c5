-- The events of settings in range whose values fit their fields change places of the tables and no others. Assumes nothing.
use Rattle.lists.proofs.Kit.{ℕ, ◌-◌, ◌<◌, List, [], ◌∷◌, ◌++◌, map, arith}
use Rattle.lists.specs.Every.{All}
use Rattle.lists.proofs.Every.{all_turn}
use Rattle.writing.specs.declared.Coding.{Coding}
use Rattle.writing.specs.declared.Kind.{Kind}
use Rattle.writing.specs.declared.Kind.TheVariants.{GroupContacts, IndividualContacts, Lines, Key, QuickTexts, Home, Channels, System, StatusTexts, Group, Individual, LineSlot, Last}
use Rattle.writing.specs.declared.Operation.{Operation}
use Rattle.writing.specs.declared.Operation.TheVariants.{Add, Delete, Replace}
use Rattle.writing.specs.Canonical.{FitsField, Fits}
use Rattle.writing.specs.Ranges.{text_limits, InRange, InStatus}
use Rattle.writing.specs.Settings.{Setting, kind, group_contacts, individual_contacts, lines, key, quick_texts, home, channels, system, status_texts, group, individual, line_slot, last}
use Rattle.writing.specs.Writing.{quick_text}
use Rattle.writing.proofs.TextUnits.{fits_each}
use Rattle.tables.specs.Limits.{quick_places, status_places, slot_places}
use Rattle.events.specs.Events.{Event, clear, put, remove}
use Rattle.events.specs.Places.{Inside}
use Rattle.events.specs.Settings.{bare, events_by, slot_events, quick_place, status_place, slot_place, member_at, line_at, Does, Its, its_group_contacts, its_individual_contacts, its_lines, its_key, its_quick_texts, its_home, its_channels, its_system, its_status_texts, its_group, its_individual, its_line_slot, its_last, Indexed}
use Rattle.events.specs.Logs.{Told, its_own, not_its, Log, no_setting, then_setting}
use Rattle.events.specs.Sums.{InPlaces}

-- ---- one setting

-- entries by their place: that are put, that go, and by operation
puts_inside : {E : Type 0} (place : E → ℕ) (n : ℕ) (es : List (ℕ × E)) → All (λ e. place e < n) (bare es) → Inside place n (map (λ e. put e.0 e.1) es)
puts_inside place n [] h = tt
puts_inside place n (e ∷ es) h = (h.0, puts_inside place n es h.1)

drops_inside : {E : Type 0} (place : E → ℕ) (n : ℕ) (es : List (ℕ × E)) → All (λ e. place e < n) (bare es) → Inside place n (map (λ e. remove (place e.1)) es)
drops_inside place n [] h = tt
drops_inside place n (e ∷ es) h = (h.0, drops_inside place n es h.1)

by_inside : {E : Type 0} (place : E → ℕ) (n : ℕ) (o : Operation) (es : List (ℕ × E)) → All (λ e. place e < n) (bare es) → Inside place n (events_by (λ e. e) place o es)
by_inside place n Add es h = puts_inside place n es h
by_inside place n Delete es h = drops_inside place n es h
by_inside place n Replace es h = puts_inside place n es h

-- a slot
slot_inside : {A : Type 0} (n : ℕ) (o : Operation) (at : ℕ) (a : ℕ × A) → a.0 < n → Inside slot_place n (slot_events o at a)
slot_inside n Add at a h = (h, tt)
slot_inside n Delete at a h = (h, tt)
slot_inside n Replace at a h = (h, tt)

-- ITS-INSIDE: the events of a setting whose indices are those of places change places
pub its_inside : (s : Setting) (es : List (Does (kind s))) → Its s es → Indexed s → InPlaces (kind s) es
its_inside s es (its_group_contacts cs) h = tt
its_inside s es (its_individual_contacts cs) h = tt
its_inside s es (its_lines cs) h = tt
its_inside s es (its_key n) h = tt
its_inside s es (its_quick_texts {o} cs) h = by_inside quick_place quick_places o cs h
its_inside s es (its_home n) h = tt
its_inside s es (its_channels ns) h = tt
its_inside s es (its_system n) h = tt
its_inside s es (its_status_texts {o} cs) h = by_inside status_place status_places o cs h
its_inside s es (its_group {o} {f} {s = g} n) h = slot_inside slot_places o n (member_at f g) h
its_inside s es (its_individual {o} {f} {s = g} n) h = slot_inside slot_places o n (member_at f g) h
its_inside s es (its_line_slot {o} {f} {s = g} n) h = slot_inside slot_places o n (line_at f g) h
its_inside s es (its_last n) h = tt

-- FITS-INDEXED: the indices of a setting in range whose values fit their fields are those of places
pub fits_indexed : (c : Coding) (left : ℕ) (s : Setting) → InRange text_limits left s → Fits c s → Indexed s
fits_indexed c left (group_contacts o f es) r p = tt
fits_indexed c left (individual_contacts o f es) r p = tt
fits_indexed c left (lines o f es) r p = tt
fits_indexed c left (key g f) r p = tt
fits_indexed c left (quick_texts o es) r p = all_turn (λ e. All FitsField (quick_text c e)) (λ e. e.index < quick_places) (λ e q. q.1.0) es (fits_each (quick_text c) es p.1.1.1.1)
fits_indexed c left (home h) r p = tt
fits_indexed c left (channels o ns) r p = tt
fits_indexed c left (system x) r p = tt
fits_indexed c left (status_texts o es) r p = all_turn (InStatus text_limits) (λ e. e.index - 32 < status_places) (λ e q. omega (arith, q.0, q.1)) es r
fits_indexed c left (group o f s) r p = p.1.1.1.1.1.1.1.1.1.1.0
fits_indexed c left (individual o f s) r p = p.1.1.1.1.1.1.1.0
fits_indexed c left (line_slot o f s) r p = p.1.1.1.1.1.1.1.1.0
fits_indexed c left (last f h) r p = tt

-- ---- settings in turn

-- events, and then others
inside_append : {A : Type 0} (place : A → ℕ) (n : ℕ) (es more : List (Event A ℕ)) → Inside place n es → Inside place n more → Inside place n (es ++ more)
inside_append place n [] more h m = m
inside_append place n (clear ∷ es) more h m = inside_append place n es more h m
inside_append place n (put j a ∷ es) more h m = (h.0, inside_append place n es more h.1 m)
inside_append place n (remove k ∷ es) more h m = (h.0, inside_append place n es more h.1 m)

pub places_append : (k : Kind) (es more : List (Does k)) → InPlaces k es → InPlaces k more → InPlaces k (es ++ more)
places_append GroupContacts es more h m = tt
places_append IndividualContacts es more h m = tt
places_append Lines es more h m = tt
places_append Key es more h m = tt
places_append QuickTexts es more h m = inside_append quick_place quick_places es more h m
places_append Home es more h m = tt
places_append Channels es more h m = tt
places_append System es more h m = tt
places_append StatusTexts es more h m = inside_append status_place status_places es more h m
places_append Group es more h m = inside_append slot_place slot_places es more h m
places_append Individual es more h m = inside_append slot_place slot_places es more h m
places_append LineSlot es more h m = inside_append slot_place slot_places es more h m
places_append Last es more h m = tt

-- no events change none
no_places : (k : Kind) → InPlaces k []
no_places GroupContacts = tt
no_places IndividualContacts = tt
no_places Lines = tt
no_places Key = tt
no_places QuickTexts = tt
no_places Home = tt
no_places Channels = tt
no_places System = tt
no_places StatusTexts = tt
no_places Group = tt
no_places Individual = tt
no_places LineSlot = tt
no_places Last = tt

pub told_inside : (k : Kind) (s : Setting) (es : List (Does k)) → Told k s es → Indexed s → InPlaces k es
told_inside k s es (its_own {es = vs} i) h = its_inside s vs i h
told_inside k s es (not_its q) h = no_places k

-- LOG-INSIDE: and so do those of settings in turn
pub log_inside : (k : Kind) (l : List Setting) (es : List (Does k)) → Log k l es → All Indexed l → InPlaces k es
log_inside k l es no_setting h = no_places k
log_inside k l es (then_setting {s} {l = rest} {es = first} {more} o r) h = places_append k first more (told_inside k s first o h.0) (log_inside k rest more r h.1)
