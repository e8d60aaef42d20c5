-- What each setting does to its table: document 01, "What each operation does". None is "no room".
use Rattle.std.specs.Prelude.{ℕ, ◌-◌, Bool, ◌&&◌, cond, List, [], ◌∷◌, get_or, set, replicate, eqb, leb}
use Rattle.std.proofs.Math.Option.{Option, none, some}
use Rattle.slots.specs.Slots.{unless, same?}
use Rattle.counted_lists.specs.Counted.{put_last, put_keyed}
use Rattle.writing.specs.declared.LineFlags.{LineFlags}
use Rattle.writing.specs.declared.Operation.{Operation}
use Rattle.writing.specs.declared.Operation.TheVariants.{Add, Delete, Replace}
use Rattle.writing.specs.Settings.{Text, Contact, Addressed, Entry, Setting, group_contacts, individual_contacts, lines, key, quick_texts, home, channels, system, status_texts, group, individual, line_slot, last, kind}
use Rattle.writing.specs.Writing.{bit}
use Rattle.tables.specs.declared.limits.Limits.{Limits}
use Rattle.tables.specs.declared.limits.Texts.{Texts}
use Rattle.tables.specs.declared.limits.Texts.TheVariants.{Placed, Shared}
use Rattle.tables.specs.Limits.{quick_places, status_places, contact_places}
use Rattle.tables.specs.declared.members.Members.{Members}
use Rattle.tables.specs.declared.members.Members.TheVariants.{OfGroups, OfIndividuals}
use Rattle.tables.specs.MemberKinds.{FlagsIn, AddressIn, MemberIn, number_of}
use Rattle.tables.specs.Tables.{Line, LineKey, line_key, Member, Tables}
use Rattle.tables.specs.Owns.{Own, own, put_own}
use Rattle.tables.specs.Texts.{text_sum}

-- ---- entries in turn

-- and then the next, where the first had room
abbrev pub and_then : {A B : Type 0} → Option A → (A → Option B) → Option B
and_then none f = none
and_then (some a) f = f a

-- "A setting has no room when, at some entry, the table is then full and the entry needs a new place"
abbrev pub in_turn : {A T : Type 0} → (A → T → Option T) → List A → T → Option T
in_turn step [] t = some t
in_turn step (a ∷ l) t = and_then (step a t) (in_turn step l)

-- "Replace empties the table, then adds each entry in order"
abbrev pub start_from : {T : Type 0} → Operation → T → T → T
start_from Add empty t = t
start_from Delete empty t = t
start_from Replace empty t = empty

-- ---- lists by a key: line contacts, group contacts, individual contacts

-- what an operation with one entry makes of a list, by the test that says which entries have the entry's key
abbrev pub keyed_step : {A : Type 0} → (A → A → Bool) → ℕ → Operation → A → List A → Option (List A)
keyed_step same room Add a ls = put_keyed (same a) room a ls
keyed_step same room Delete a ls = some (unless (same a) ls)
keyed_step same room Replace a ls = put_keyed (same a) room a ls

-- ---- line contacts

-- "Add, delete and replace compare both"
abbrev pub same_key : LineKey → LineKey → Bool
same_key j k = eqb (bit j.pabx) (bit k.pabx) && same? j.number k.number

-- whether a line has the key k
abbrev pub has_key : LineKey → Line → Bool
has_key k l = same_key (line_key l) k

-- "Add puts a new key at the end and overwrites a known one in its place, flags included"
abbrev pub put_line : ℕ → Line → List Line → Option (List Line)
put_line room l ls = put_keyed (has_key (line_key l)) room l ls

-- "Delete closes the gap"; "Deleting what isn't there does nothing"
abbrev pub drop_line : LineKey → List Line → List Line
drop_line k ls = unless (has_key k) ls

abbrev pub line_of : LineFlags → Contact → Line
line_of f e = record { flags = f; number = e.number; text = e.text }

-- the key of an entry: the IDtype of its setting, and its own digits
abbrev pub entry_key : LineFlags → Contact → LineKey
entry_key f e = line_key (line_of f e)

abbrev pub line_step : ℕ → Operation → LineFlags → Contact → List Line → Option (List Line)
line_step room o f e ls = keyed_step (λ l. has_key (line_key l)) room o (line_of f e) ls

abbrev pub lines_after : ℕ → Operation → LineFlags → List Contact → List Line → Option (List Line)
lines_after room o f es ls = in_turn (line_step room o f) es (start_from o [] ls)

-- ---- group and individual contacts: "cleared and then added in order, as lines are"

-- whether a contact has the address a
abbrev pub has_address : (w : Members) → AddressIn w → MemberIn w → Bool
has_address w a x = eqb (number_of w x.address) (number_of w a)

-- an add puts a new address at the end and overwrites a known one in its place, flags included
abbrev pub put_contact : (w : Members) → ℕ → MemberIn w → List (MemberIn w) → Option (List (MemberIn w))
put_contact w room x xs = put_keyed (has_address w x.address) room x xs

-- a delete closes the gap, and does nothing where the address isn't there
abbrev pub drop_contact : (w : Members) → AddressIn w → List (MemberIn w) → List (MemberIn w)
drop_contact w a xs = unless (has_address w a) xs

abbrev pub contact_of : {Flags Address : Type 0} → Flags → Addressed Address → Member Flags Address
contact_of f e = record { flags = f; address = e.address; text = e.text }

abbrev pub contact_step : (w : Members) → ℕ → Operation → FlagsIn w → Addressed (AddressIn w) → List (MemberIn w) → Option (List (MemberIn w))
contact_step w room o f e xs = keyed_step (λ x. has_address w x.address) room o (contact_of f e) xs

abbrev pub contacts_after : (w : Members) → ℕ → Operation → FlagsIn w → List (Addressed (AddressIn w)) → List (MemberIn w) → Option (List (MemberIn w))
contacts_after w room o f es xs = in_turn (contact_step w room o f) es (start_from o [] xs)

-- ---- quick texts and status texts

-- "Quick texts: add to an index that has a text does nothing"
abbrev pub if_absent : Option Text → Text → Option Text
if_absent none us = some us
if_absent (some vs) us = some vs

abbrev pub quick_step : Operation → Entry → List (Option Text) → Option (List (Option Text))
quick_step Add e qs = some (set qs e.index (if_absent (get_or qs e.index none) e.text))
quick_step Delete e qs = some (set qs e.index none)
quick_step Replace e qs = some (set qs e.index (if_absent (get_or qs e.index none) e.text))

abbrev pub quick_after : Operation → List Entry → List (Option Text) → Option (List (Option Text))
quick_after o es qs = in_turn (quick_step o) es (start_from o (replicate quick_places none) qs)

-- "Status texts and slots: add overwrites"; status code 32 has the first place
abbrev pub status_step : Operation → Entry → List (Option Text) → Option (List (Option Text))
status_step Add e ss = some (set ss (e.index - 32) (some e.text))
status_step Delete e ss = some (set ss (e.index - 32) none)
status_step Replace e ss = some (set ss (e.index - 32) (some e.text))

abbrev pub status_after : Operation → List Entry → List (Option Text) → Option (List (Option Text))
status_after o es ss = in_turn (status_step o) es (start_from o (replicate status_places none) ss)

-- ---- channels

-- "Channels: add always appends, so repeats are kept"
abbrev pub put_channel : ℕ → ℕ → List ℕ → Option (List ℕ)
put_channel room n cs = put_last room n cs

-- "delete removes every match"
abbrev pub drop_channel : ℕ → List ℕ → List ℕ
drop_channel n cs = unless (λ c. eqb c n) cs

abbrev pub channel_step : ℕ → Operation → ℕ → List ℕ → Option (List ℕ)
channel_step room Add n cs = put_channel room n cs
channel_step room Delete n cs = some (drop_channel n cs)
channel_step room Replace n cs = put_channel room n cs

abbrev pub channels_after : ℕ → Operation → List ℕ → List ℕ → Option (List ℕ)
channels_after room o ns cs = in_turn (channel_step room o) ns (start_from o [] cs)

-- ---- slots

-- "Status texts and slots: add overwrites"; a delete empties the slot
abbrev pub slot_after : {A : Type 0} → Operation → A → Option A
slot_after Add a = some a
slot_after Delete a = none
slot_after Replace a = some a

-- ---- a setting

-- where there was room
abbrev pub with_room : {A B : Type 0} → (A → B) → Option A → Option B
with_room f none = none
with_room f (some a) = some (f a)

-- what a setting makes of its own table; "CB, CD and CF overwrite"; FF's hash is kept
abbrev pub own_after : Limits → (s : Setting) → Own (kind s) → Option (Own (kind s))
own_after lim (group_contacts o f es) x = contacts_after OfGroups contact_places o f es x
own_after lim (individual_contacts o f es) x = contacts_after OfIndividuals contact_places o f es x
own_after lim (lines o f es) x = lines_after lim.lines o f es x
own_after lim (key target f) x = some (record { target = target; flags = f })
own_after lim (quick_texts o es) x = quick_after o es x
own_after lim (home h) x = some h
own_after lim (channels o ns) x = channels_after lim.channels o ns x
own_after lim (system s) x = some s
own_after lim (status_texts o es) x = status_after o es x
own_after lim (group o f s) x = some (set x s.index (slot_after o (record { flags = f; address = s.address; text = s.text })))
own_after lim (individual o f s) x = some (set x s.index (slot_after o (record { flags = f; address = s.address; text = s.text })))
own_after lim (line_slot o f s) x = some (set x s.index (slot_after o (record { flags = f; number = s.address; text = s.text })))
own_after lim (last f h) x = some h

-- and of the tables, their texts' room aside: the others stay
abbrev pub change : Limits → Setting → Tables → Option Tables
change lim s t = with_room (put_own (kind s) t) (own_after lim s (own (kind s) t))

-- "no room exactly when the texts held after it, summed, pass 4,096 bytes": judged after each whole setting, not after an entry and not after the message
abbrev pub within : Texts → Tables → Option Tables
within Placed t = some t
within (Shared a) t = cond (leb (text_sum t) a) (some t) none

-- what a setting makes of the tables
abbrev pub apply : Limits → Setting → Tables → Option Tables
apply lim s t = and_then (change lim s t) (within lim.texts)
