-- What a setting makes of its table is what its events make of it, by kind. Assumes nothing.
use Rattle.lists.proofs.Kit.{ℕ, ◌-◌, ◌≡◌, refl, sym, ap, ◌∙◌, false, List, [], ◌∷◌, map, Option, none, some, replicate, set, eqb, eqb-true, eq-eqb}
use Rattle.writing.specs.declared.LineFlags.{LineFlags}
use Rattle.writing.specs.declared.Operation.{Operation}
use Rattle.writing.specs.declared.Operation.TheVariants.{Add, Delete, Replace}
use Rattle.writing.specs.Settings.{Text, Contact, Addressed, Number, Entry, Slot, Setting, kind}
use Rattle.tables.specs.declared.limits.Limits.{Limits}
use Rattle.tables.specs.declared.members.Members.{Members}
use Rattle.tables.specs.declared.members.Members.TheVariants.{OfGroups, OfIndividuals}
use Rattle.tables.specs.Apply.{and_then, in_turn, start_from, same_key, line_of, entry_key, line_step, lines_after, contact_of, contact_step, contacts_after, quick_step, quick_after, status_step, status_after, channel_step, channels_after, slot_after, own_after}
use Rattle.tables.specs.Limits.{quick_places, status_places, slot_places, contact_places}
use Rattle.tables.specs.MemberKinds.{FlagsIn, AddressIn, MemberIn, number_of, contact_key}
use Rattle.tables.specs.Owns.{Own}
use Rattle.tables.specs.Tables.{Line, LineKey, line_key}
use Rattle.tables.proofs.Sentences.{key_is_both}
use Rattle.events.specs.Events.{Event, clear, put, remove, Decides, step, after}
use Rattle.events.specs.Places.{place_step, places_after}
use Rattle.events.specs.Channels.{channel_do, channels_left}
use Rattle.events.specs.Settings.{bare, events_by, line_events, contact_events, channel_events, quick_events, status_events, slot_events, quick_place, quick_change, status_place, status_change, slot_place, slot_change, member_at, line_at, Does, run, Its, its_group_contacts, its_individual_contacts, its_lines, its_key, its_quick_texts, its_home, its_channels, its_system, its_status_texts, its_group, its_individual, its_line_slot, its_last}
use Rattle.events.proofs.ReadingLaws.{always_room}

-- ---- keys

-- a number decides
pub nat_decides : Decides eqb
nat_decides = record { are = eqb-true; itself = λ k. eq-eqb k k refl }

-- a key as a line has it
abbrev line_with : LineKey → Line
line_with k = record { flags = record { encryption = false; emergency = false; priority = 0; pabx = k.pabx }; number = k.number; text = [] }

-- and so does the key of a line
pub key_decides : Decides same_key
key_decides = record { are = λ j k. (key_is_both k (line_with j)).0; itself = λ k. (key_is_both k (line_with k)).1 refl }

-- ---- entries in turn are events in turn

-- each entry does what its event does
turn_map : {E D T : Type 0} (f : E → T → Option T) (g : D → T → Option T) (v : ℕ × E → D) → ((e : ℕ × E) (t : T) → f e.1 t ≡ g (v e) t) → (es : List (ℕ × E)) (t : T) → in_turn f (bare es) t ≡ in_turn g (map v es) t
turn_map f g v h [] t = refl
turn_map {T = T} f g v h (e ∷ es) t = ap (λ o. and_then o (in_turn f (bare es))) (h e t) ∙ go (g (v e) t) (turn_map f g v h es)
  where
    go : (o : Option T) → ((u : T) → in_turn f (bare es) u ≡ in_turn g (map v es) u) → and_then o (in_turn f (bare es)) ≡ and_then o (in_turn g (map v es))
    go none r = refl
    go (some u) r = r u

-- what an operation does with an entry is what its event does
record Alike {E A K T : Type 0} (does : Operation → E → T → Option T) (act : Event A K → T → Option T) (made : E → A) (named : E → K) (empty : T) : Type 0 where
  adds : (n : ℕ) (e : E) (t : T) → does Add e t ≡ act (put n (made e)) t
  drops : (e : E) (t : T) → does Delete e t ≡ act (remove (named e)) t
  replaces : (n : ℕ) (e : E) (t : T) → does Replace e t ≡ act (put n (made e)) t
  clears : (t : T) → act clear t ≡ some empty

-- and so for all entries of a setting
turned : {E A K T : Type 0} (does : Operation → E → T → Option T) (act : Event A K → T → Option T) (made : E → A) (named : E → K) (empty : T) → Alike does act made named empty
    → (o : Operation) (es : List (ℕ × E)) (t : T) → in_turn (does o) (bare es) (start_from o empty t) ≡ in_turn act (events_by made named o es) t
turned does act made named empty h Add es t = turn_map (does Add) act (λ e. put e.0 (made e.1)) (λ e u. h.adds e.0 e.1 u) es t
turned does act made named empty h Delete es t = turn_map (does Delete) act (λ e. remove (named e.1)) (λ e u. h.drops e.1 u) es t
turned does act made named empty h Replace es t =
    turn_map (does Replace) act (λ e. put e.0 (made e.1)) (λ e u. h.replaces e.0 e.1 u) es empty
    ∙ sym (ap (λ o. and_then o (in_turn act (map (λ e. put e.0 (made e.1)) es))) (h.clears t))

-- ---- lists

-- line contacts
pub lines_are : (room : ℕ) (o : Operation) (f : LineFlags) (es : List (ℕ × Contact)) (ls : List Line) → lines_after room o f (bare es) ls ≡ after line_key same_key room (line_events o f es) ls
lines_are room o f es ls =
    turned (λ p e. line_step room p f e) (step line_key same_key room) (line_of f) (entry_key f) []
    (record { adds = λ n e t. refl; drops = λ e t. refl; replaces = λ n e t. refl; clears = λ t. refl }) o es ls

-- group and individual contacts
pub contacts_are : (w : Members) (room : ℕ) (o : Operation) (f : FlagsIn w) (es : List (ℕ × Addressed (AddressIn w))) (xs : List (MemberIn w))
    → contacts_after w room o f (bare es) xs ≡ after (contact_key w) eqb room (contact_events w o f es) xs
contacts_are w room o f es xs =
    turned (λ p e. contact_step w room p f e) (step (contact_key w) eqb room) (contact_of f) (λ e. number_of w e.address) []
    (record { adds = λ n e t. refl; drops = λ e t. refl; replaces = λ n e t. refl; clears = λ t. refl }) o es xs

-- channels
pub channels_are : (room : ℕ) (o : Operation) (ns : List (ℕ × ℕ)) (cs : List ℕ) → channels_after room o (bare ns) cs ≡ channels_left room (channel_events o ns) cs
channels_are room o ns cs =
    turned (channel_step room) (channel_do room) (λ c. c) (λ c. c) []
    (record { adds = λ n e t. refl; drops = λ e t. refl; replaces = λ n e t. refl; clears = λ t. refl }) o ns cs

-- ---- places, which always have room

-- quick texts
quick_turn : (o : Operation) (es : List (ℕ × Entry)) (qs : List (Option Text)) → quick_after o (bare es) qs ≡ in_turn (λ v t. some (place_step quick_place quick_change quick_places v t)) (quick_events o es) qs
quick_turn o es qs =
    turned quick_step (λ v t. some (place_step quick_place quick_change quick_places v t)) (λ e. e) (λ e. e.index) (replicate quick_places none)
    (record { adds = λ n e t. refl; drops = λ e t. refl; replaces = λ n e t. refl; clears = λ t. refl }) o es qs

pub quick_are : (o : Operation) (es : List (ℕ × Entry)) (qs : List (Option Text)) → quick_after o (bare es) qs ≡ some (places_after quick_place quick_change quick_places (quick_events o es) qs)
quick_are o es qs = quick_turn o es qs ∙ always_room (place_step quick_place quick_change quick_places) (quick_events o es) qs

-- status texts
status_turn : (o : Operation) (es : List (ℕ × Entry)) (ss : List (Option Text)) → status_after o (bare es) ss ≡ in_turn (λ v t. some (place_step status_place status_change status_places v t)) (status_events o es) ss
status_turn o es ss =
    turned status_step (λ v t. some (place_step status_place status_change status_places v t)) (λ e. e) (λ e. e.index - 32) (replicate status_places none)
    (record { adds = λ n e t. refl; drops = λ e t. refl; replaces = λ n e t. refl; clears = λ t. refl }) o es ss

pub status_are : (o : Operation) (es : List (ℕ × Entry)) (ss : List (Option Text)) → status_after o (bare es) ss ≡ some (places_after status_place status_change status_places (status_events o es) ss)
status_are o es ss = status_turn o es ss ∙ always_room (place_step status_place status_change status_places) (status_events o es) ss

-- slots
pub slots_are : {A : Type 0} (many : ℕ) (o : Operation) (n : ℕ) (a : ℕ × A) (os : List (Option A)) → set os a.0 (slot_after o a.1) ≡ places_after slot_place slot_change many (slot_events o n a) os
slots_are many Add n a os = refl
slots_are many Delete n a os = refl
slots_are many Replace n a os = refl

-- line slots
pub line_slots_are : (o : Operation) (f : LineFlags) (s : Slot Number) (n : ℕ) (os : List (Option Line))
    → set os s.index (slot_after o (line_at f s).1) ≡ places_after slot_place slot_change slot_places (slot_events o n (line_at f s)) os
line_slots_are o f s n os = slots_are slot_places o n (line_at f s) os

slots_turn : {A : Type 0} (many : ℕ) (o : Operation) (n : ℕ) (a : ℕ × A) (os : List (Option A))
    → some (set os a.0 (slot_after o a.1)) ≡ in_turn (λ v t. some (place_step slot_place slot_change many v t)) (slot_events o n a) os
slots_turn many o n a os = ap some (slots_are many o n a os) ∙ sym (always_room (place_step slot_place slot_change many) (slot_events o n a) os)

-- ---- a setting

-- SETTINGS-ARE: a setting makes of its own table what its events make of it, and has room where they have
pub settings_are : (lim : Limits) (s : Setting) (es : List (Does (kind s))) (x : Own (kind s)) → Its s es → own_after lim s x ≡ in_turn (run lim (kind s)) es x
settings_are lim s es x (its_group_contacts {o} {f} cs) = contacts_are OfGroups contact_places o f cs x
settings_are lim s es x (its_individual_contacts {o} {f} cs) = contacts_are OfIndividuals contact_places o f cs x
settings_are lim s es x (its_lines {o} {f} cs) = lines_are lim.lines o f cs x
settings_are lim s es x (its_key n) = refl
settings_are lim s es x (its_quick_texts {o} cs) = quick_turn o cs x
settings_are lim s es x (its_home n) = refl
settings_are lim s es x (its_channels {o} ns) = channels_are lim.channels o ns x
settings_are lim s es x (its_system n) = refl
settings_are lim s es x (its_status_texts {o} cs) = status_turn o cs x
settings_are lim s es x (its_group {o} {f} {s = g} n) = slots_turn slot_places o n (member_at f g) x
settings_are lim s es x (its_individual {o} {f} {s = g} n) = slots_turn slot_places o n (member_at f g) x
settings_are lim s es x (its_line_slot {o} {f} {s = g} n) = slots_turn slot_places o n (line_at f g) x
settings_are lim s es x (its_last n) = refl
