-- Whether a setting has room, by numbers that are read from the events: for each list, and for any setting. Assumes nothing.
use Rattle.lists.proofs.Kit.{ℕ, ◌≡◌, refl, sym, ap, ◌∙◌, ◌↔◌, List, [], Option, none, some, option_some_ne_none, length, eqb}
use mathlib.Core.Option.{map}
use Rattle.writing.specs.declared.Kind.{Kind}
use Rattle.writing.specs.declared.Kind.TheVariants.{GroupContacts, IndividualContacts, Lines, Key, QuickTexts, Home, Channels, System, StatusTexts, Group, Individual, LineSlot, Last}
use Rattle.writing.specs.declared.LineFlags.{LineFlags}
use Rattle.writing.specs.declared.Operation.{Operation}
use Rattle.writing.specs.Settings.{Contact, Addressed, Setting, kind}
use Rattle.tables.specs.declared.limits.Limits.{Limits}
use Rattle.tables.specs.declared.members.Members.{Members}
use Rattle.tables.specs.declared.members.Members.TheVariants.{OfGroups, OfIndividuals}
use Rattle.tables.specs.Apply.{in_turn, same_key, lines_after, contacts_after, channels_after, with_room, own_after, change}
use Rattle.tables.specs.Limits.{quick_places, status_places, slot_places, contact_places}
use Rattle.tables.specs.MemberKinds.{FlagsIn, AddressIn, MemberIn, contact_key}
use Rattle.tables.specs.Owns.{Own, own, put_own}
use Rattle.tables.specs.Tables.{Line, LineKey, line_key, Tables, fresh}
use Rattle.events.specs.Events.{Event, after, count_on}
use Rattle.events.specs.Places.{place_step}
use Rattle.events.specs.Channels.{channels_left, channel_count_on}
use Rattle.events.specs.Settings.{bare, line_events, contact_events, channel_events, quick_place, quick_change, status_place, status_change, slot_place, slot_change, latest, Does, run, Its}
use Rattle.events.specs.Sums.{many, counted}
use Rattle.events.proofs.ReadingLaws.{always_room}
use Rattle.events.proofs.Counting.{count_is}
use Rattle.events.proofs.ChannelLaws.{channel_count_is}
use Rattle.events.proofs.SettingLaws.{nat_decides, key_decides, lines_are, contacts_are, channels_are, settings_are}

-- ---- lists: whether a setting has room, and how many there are then, is counted over the events that were read

-- line contacts
pub lines_count : (room : ℕ) (before : List (Event Line LineKey)) (ls : List Line) (o : Operation) (f : LineFlags) (es : List (ℕ × Contact)) → after line_key same_key room before [] ≡ some ls
    → count_on line_key same_key room before (line_events o f es) (length ls) ≡ map length (lines_after room o f (bare es) ls)
lines_count room before ls o f es e = count_is line_key same_key key_decides room (line_events o f es) before ls e ∙ sym (ap (map length) (lines_are room o f es ls))

-- group and individual contacts
pub contacts_count : (w : Members) (room : ℕ) (before : List (Event (MemberIn w) ℕ)) (xs : List (MemberIn w)) (o : Operation) (f : FlagsIn w) (es : List (ℕ × Addressed (AddressIn w)))
    → after (contact_key w) eqb room before [] ≡ some xs
    → count_on (contact_key w) eqb room before (contact_events w o f es) (length xs) ≡ map length (contacts_after w room o f (bare es) xs)
contacts_count w room before xs o f es e =
    count_is (contact_key w) eqb nat_decides room (contact_events w o f es) before xs e ∙ sym (ap (map length) (contacts_are w room o f es xs))

-- channels
pub channels_count : (room : ℕ) (before : List (Event ℕ ℕ)) (cs : List ℕ) (o : Operation) (ns : List (ℕ × ℕ)) → channels_left room before [] ≡ some cs
    → channel_count_on room before (channel_events o ns) (length cs) ≡ map length (channels_after room o (bare ns) cs)
channels_count room before cs o ns e = channel_count_is room (channel_events o ns) before cs e ∙ sym (ap (map length) (channels_are room o ns cs))

-- ---- any table

-- what always has room is not counted
no_count : {A T : Type 0} (c : ℕ) (f : A → T → T) (es : List A) (t : T) → some c ≡ map (λ x. c) (in_turn (λ v u. some (f v u)) es t)
no_count c f es t = sym (ap (map (λ x. c)) (always_room f es t))

-- COUNTED-IS: the count says how many entries events leave in the table of a kind, or that there is no room
pub counted_is : (lim : Limits) (k : Kind) (read es : List (Does k)) (x : Own k) → in_turn (run lim k) read (own k fresh) ≡ some x → counted lim k read es (many k x) ≡ map (many k) (in_turn (run lim k) es x)
counted_is lim GroupContacts read es x e = count_is (contact_key OfGroups) eqb nat_decides contact_places es read x e
counted_is lim IndividualContacts read es x e = count_is (contact_key OfIndividuals) eqb nat_decides contact_places es read x e
counted_is lim Lines read es x e = count_is line_key same_key key_decides lim.lines es read x e
counted_is lim Key read es x e = no_count 0 latest es x
counted_is lim QuickTexts read es x e = no_count 0 (place_step quick_place quick_change quick_places) es x
counted_is lim Home read es x e = no_count 0 latest es x
counted_is lim Channels read es x e = channel_count_is lim.channels es read x e
counted_is lim System read es x e = no_count 0 latest es x
counted_is lim StatusTexts read es x e = no_count 0 (place_step status_place status_change status_places) es x
counted_is lim Group read es x e = no_count 0 (place_step slot_place slot_change slot_places) es x
counted_is lim Individual read es x e = no_count 0 (place_step slot_place slot_change slot_places) es x
counted_is lim LineSlot read es x e = no_count 0 (place_step slot_place slot_change slot_places) es x
counted_is lim Last read es x e = no_count 0 latest es x

-- ---- a setting

-- nothing comes of nothing, and of nothing else
map_none : {A B : Type 0} (f : A → B) (o : Option A) → (map f o ≡ none) ↔ (o ≡ none)
map_none f none = (λ e. refl, λ e. refl)
map_none f (some a) = (λ e. absurd (option_some_ne_none (f a) e), λ e. absurd (option_some_ne_none a e))

room_map : {A B : Type 0} (f : A → B) (o : Option A) → with_room f o ≡ map f o
room_map f none = refl
room_map f (some a) = refl

-- FULL-EXACTLY: a table is full at some entry of a setting exactly if the count says that there is no room
pub full_exactly : (lim : Limits) (s : Setting) (t : Tables) (read es : List (Does (kind s))) → in_turn (run lim (kind s)) read (own (kind s) fresh) ≡ some (own (kind s) t) → Its s es
    → (change lim s t ≡ none) ↔ (counted lim (kind s) read es (many (kind s) (own (kind s) t)) ≡ none)
full_exactly lim s t read es h i =
    let k : Kind = kind s in
    let q : own_after lim s (own k t) ≡ in_turn (run lim k) es (own k t) = settings_are lim s es (own k t) i in
    let c : counted lim k read es (many k (own k t)) ≡ map (many k) (in_turn (run lim k) es (own k t)) = counted_is lim k read es (own k t) h in
    let r : change lim s t ≡ map (put_own k t) (own_after lim s (own k t)) = room_map (put_own k t) (own_after lim s (own k t)) in (
      λ e. c ∙ (map_none (many k) (in_turn (run lim k) es (own k t))).1 (sym q ∙ (map_none (put_own k t) (own_after lim s (own k t))).0 (sym r ∙ e)),
      λ e. r ∙ (map_none (put_own k t) (own_after lim s (own k t))).1 (q ∙ (map_none (many k) (in_turn (run lim k) es (own k t))).0 (sym c ∙ e)),
    )
