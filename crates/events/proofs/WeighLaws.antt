-- The deeds of a setting weigh in its table what the setting makes of the table, and there is room for both or for neither. Assumes nothing.
use Rattle.lists.proofs.Kit.{ℕ, suc, ◌≡◌, refl, sym, ap, ap₂, ◌∙◌, List, [], ◌∷◌, ◌++◌, map, map-append, nil≢cons, cons≢nil, head-eq_of_cons-eq, tail-eq_of_cons-eq, Option, none, some, add-one, zero-add, length, length-append}
use Rattle.lists.specs.Every.{All}
use Rattle.lists.proofs.Every.{all_append, all_any, all_made}
use Rattle.writing.specs.declared.Kind.{Kind}
use Rattle.writing.specs.declared.Kind.TheVariants.{GroupContacts, IndividualContacts, Lines, Key, QuickTexts, Home, Channels, System, StatusTexts, Group, Individual, LineSlot, Last}
use Rattle.writing.specs.declared.LineFlags.{LineFlags}
use Rattle.writing.specs.declared.Operation.{Operation}
use Rattle.writing.specs.declared.Operation.TheVariants.{Add, Delete, Replace}
use Rattle.writing.specs.Ranges.{text_limits, InContact, InRange}
use Rattle.writing.specs.Settings.{Contact, Setting, kind, group_contacts, individual_contacts, lines, key, quick_texts, home, channels, system, status_texts, group, individual, line_slot, last}
use Rattle.tables.specs.declared.limits.Limits.{Limits}
use Rattle.tables.specs.Apply.{and_then, in_turn, with_room, own_after, change, line_of, entry_key, contact_of}
use Rattle.tables.specs.Limits.{quick_places, status_places, slot_places}
use Rattle.tables.specs.Owns.{Own, own, put_own}
use Rattle.tables.specs.Tables.{Tables, fresh}
use Rattle.tables.proofs.Owns.{own_put}
use Rattle.tables.proofs.RoomSentences.{turn_append}
use Rattle.events.specs.Events.{Event, clear, put, remove}
use Rattle.events.specs.Settings.{Does, run, line_events, member_at, line_at, quick_place, quick_change, status_place, status_change, slot_place, slot_change, Indexed}
use Rattle.events.specs.Logs.{History}
use Rattle.events.specs.Sums.{InPlaces}
use Rattle.events.specs.Deeds.{Seen, seen_as, as_seen, Spoken, Deed, nothing, clears, puts, removes, doing, opening, listing, deeds, told, from_on, events_from}
use Rattle.events.specs.Knowing.{weigh, known_for, weigh_all, weight_of, LineKeys, Telling}
use Rattle.events.proofs.Alone.{only_itself}
use Rattle.events.proofs.PlaceLaws.{inside_first}
use Rattle.events.proofs.InsideLaws.{its_inside}
use Rattle.events.proofs.SettingLaws.{settings_are}
use Rattle.events.proofs.DeedLaws.{told_append, deeds_told, events_its}
use Rattle.events.proofs.EventWeights.{weight_at, deed_at, Keyed, event_weighed}

-- ---- deeds for one table

-- a deed does nothing, or something to the table of kind k
data Mine (k : Kind) : Deed → Type 0 where
  does_nothing : Mine k nothing
  its_clears : Mine k (clears k)
  its_puts : {a : Seen} → Mine k (puts k a)
  its_removes : {c : ℕ} → Mine k (removes k c)

-- what an operation does with an entry is for the table of its kind
doing_mine : (k : Kind) (o : Operation) (a : Seen) → Mine k (doing k o a)
doing_mine k Add a = its_puts
doing_mine k Delete a = its_removes
doing_mine k Replace a = its_puts

-- and what it does before its entries
opening_mine : (k : Kind) (o : Operation) → Mine k (opening k o)
opening_mine k Add = does_nothing
opening_mine k Delete = does_nothing
opening_mine k Replace = its_clears

-- and so are the deeds of a list of entries
listing_mine : {E : Type 0} (k : Kind) (o : Operation) (seen : E → Seen) (es : List E) → All (Mine k) (listing k o seen es)
listing_mine k o seen es = (opening_mine k o, all_made (Mine k) (λ e. doing k o (seen e)) (λ e. doing_mine k o (seen e)) es)

-- those of a setting are for its own table
deeds_mine : (s : Setting) → All (Mine (kind s)) (deeds s)
deeds_mine (group_contacts o f es) = listing_mine GroupContacts o (λ e. seen_as GroupContacts (contact_of f e)) es
deeds_mine (individual_contacts o f es) = listing_mine IndividualContacts o (λ e. seen_as IndividualContacts (contact_of f e)) es
deeds_mine (lines o f es) = listing_mine Lines o (λ e. seen_as Lines (line_of f e)) es
deeds_mine (key t f) = (does_nothing, tt)
deeds_mine (quick_texts o es) = listing_mine QuickTexts o (seen_as QuickTexts) es
deeds_mine (home h) = (does_nothing, tt)
deeds_mine (channels o ns) = listing_mine Channels o (seen_as Channels) ns
deeds_mine (system c) = (does_nothing, tt)
deeds_mine (status_texts o es) = listing_mine StatusTexts o (seen_as StatusTexts) es
deeds_mine (group o f s) = (doing_mine Group o (seen_as Group (member_at f s)), tt)
deeds_mine (individual o f s) = (doing_mine Individual o (seen_as Individual (member_at f s)), tt)
deeds_mine (line_slot o f s) = (doing_mine LineSlot o (seen_as LineSlot (line_at f s)), tt)
deeds_mine (last f h) = (does_nothing, tt)

-- ---- keys in range

-- of the lines of a setting in range
lines_keyed : (o : Operation) (f : LineFlags) (n : ℕ) (es : List Contact) → All (InContact text_limits) es → All (Keyed Lines) (line_events o f (from_on n es))
lines_keyed o f n es h = by o
  where
    putting : (m : ℕ) (cs : List Contact) → All (InContact text_limits) cs → All (Keyed Lines) (map (λ e. put e.0 (line_of f e.1)) (from_on m cs))
    putting m [] h = tt
    putting m (c ∷ cs) h = ((h.0.0, tt), putting (suc m) cs h.1)

    removing : (m : ℕ) (cs : List Contact) → All (InContact text_limits) cs → All (Keyed Lines) (map (λ e. remove (entry_key f e.1)) (from_on m cs))
    removing m [] h = tt
    removing m (c ∷ cs) h = ((h.0.0, tt), removing (suc m) cs h.1)

    by : (p : Operation) → All (Keyed Lines) (line_events p f (from_on n es))
    by Add = putting n es h
    by Delete = removing n es h
    by Replace = (tt, putting n es h)

-- of any setting in range
events_keyed : (n left : ℕ) (s : Setting) → InRange text_limits left s → All (Keyed (kind s)) (events_from n s)
events_keyed n left (group_contacts o f es) r = all_any (Keyed GroupContacts) (λ v. tt) (events_from n (group_contacts o f es))
events_keyed n left (individual_contacts o f es) r = all_any (Keyed IndividualContacts) (λ v. tt) (events_from n (individual_contacts o f es))
events_keyed n left (lines o f es) r = lines_keyed o f (suc n) es r
events_keyed n left (key t f) r = (tt, tt)
events_keyed n left (quick_texts o es) r = all_any (Keyed QuickTexts) (λ v. tt) (events_from n (quick_texts o es))
events_keyed n left (home h) r = (tt, tt)
events_keyed n left (channels o ns) r = all_any (Keyed Channels) (λ v. tt) (events_from n (channels o ns))
events_keyed n left (system c) r = (tt, tt)
events_keyed n left (status_texts o es) r = all_any (Keyed StatusTexts) (λ v. tt) (events_from n (status_texts o es))
events_keyed n left (group o f s) r = all_any (Keyed Group) (λ v. tt) (events_from n (group o f s))
events_keyed n left (individual o f s) r = all_any (Keyed Individual) (λ v. tt) (events_from n (individual o f s))
events_keyed n left (line_slot o f s) r = all_any (Keyed LineSlot) (λ v. tt) (events_from n (line_slot o f s))
events_keyed n left (last f h) r = (tt, tt)

-- of the lines of a history
keys_each : (es : List (Does Lines)) → LineKeys es → All (Keyed Lines) es
keys_each [] h = tt
keys_each (clear ∷ es) h = (tt, keys_each es h)
keys_each (put n l ∷ es) h = ((h.0, tt), keys_each es h.1)
keys_each (remove j ∷ es) h = ((h.0, tt), keys_each es h.1)

-- of all events of a history whose lines are in range
history_keyed : (es : History) → LineKeys (es Lines) → (k : Kind) → All (Keyed k) (es k)
history_keyed es h GroupContacts = all_any (Keyed GroupContacts) (λ v. tt) (es GroupContacts)
history_keyed es h IndividualContacts = all_any (Keyed IndividualContacts) (λ v. tt) (es IndividualContacts)
history_keyed es h Lines = keys_each (es Lines) h
history_keyed es h Key = all_any (Keyed Key) (λ v. tt) (es Key)
history_keyed es h QuickTexts = all_any (Keyed QuickTexts) (λ v. tt) (es QuickTexts)
history_keyed es h Home = all_any (Keyed Home) (λ v. tt) (es Home)
history_keyed es h Channels = all_any (Keyed Channels) (λ v. tt) (es Channels)
history_keyed es h System = all_any (Keyed System) (λ v. tt) (es System)
history_keyed es h StatusTexts = all_any (Keyed StatusTexts) (λ v. tt) (es StatusTexts)
history_keyed es h Group = all_any (Keyed Group) (λ v. tt) (es Group)
history_keyed es h Individual = all_any (Keyed Individual) (λ v. tt) (es Individual)
history_keyed es h LineSlot = all_any (Keyed LineSlot) (λ v. tt) (es LineSlot)
history_keyed es h Last = all_any (Keyed Last) (λ v. tt) (es Last)

-- the places that are changed, of the first event and of the others
places_first : (k : Kind) (v : Does k) (vs : List (Does k)) → InPlaces k (v ∷ vs) → InPlaces k (v ∷ []) × InPlaces k vs
places_first GroupContacts v vs h = (tt, tt)
places_first IndividualContacts v vs h = (tt, tt)
places_first Lines v vs h = (tt, tt)
places_first Key v vs h = (tt, tt)
places_first QuickTexts v vs h = inside_first quick_place quick_change quick_places v vs h
places_first Home v vs h = (tt, tt)
places_first Channels v vs h = (tt, tt)
places_first System v vs h = (tt, tt)
places_first StatusTexts v vs h = inside_first status_place status_change status_places v vs h
places_first Group v vs h = inside_first slot_place slot_change slot_places v vs h
places_first Individual v vs h = inside_first slot_place slot_change slot_places v vs h
places_first LineSlot v vs h = inside_first slot_place slot_change slot_places v vs h
places_first Last v vs h = (tt, tt)

-- ---- deeds in turn

-- the deeds that were read are seen of events with keys in range, which left x
record Read (lim : Limits) (k : Kind) (ds : List Deed) (es : List (Does k)) (x : Own k) : Type 0 where
  seen : told k 0 ds ≡ map (as_seen k) es
  keys : All (Keyed k) es
  left : in_turn (run lim k) es (own k fresh) ≡ some x

module _ (lim : Limits) (k : Kind) where
  -- one deed more
  read_more : (ds : List Deed) (es us : List (Does k)) (x y : Own k) (d : Deed) → Read lim k ds es x → told k (length ds) (d ∷ []) ≡ map (as_seen k) us → All (Keyed k) us → in_turn (run lim k) us x ≡ some y
      → Read lim k (ds ++ (d ∷ [])) (es ++ us) y
  read_more ds es us x y d r e q t = record {
    seen = told_append k 0 ds (d ∷ [])
        ∙ ap₂ (λ (a b : List (Event Seen ℕ)). a ++ b) r.seen (ap (λ (n : ℕ). told k n (d ∷ [])) (zero-add (length ds)) ∙ e)
        ∙ sym (map-append (as_seen k) es us);
    keys = all_append (Keyed k) es us r.keys q;
    left = turn_append (run lim k) es us (own k fresh) ∙ ap (λ o. and_then o (in_turn (run lim k) us)) r.left ∙ t;
  }

  -- the number of the next deed
  next_number : (ds more : List Deed) (d : Deed) → told k (length (ds ++ (d ∷ []))) more ≡ told k (suc (length ds)) more
  next_number ds more d = ap (λ (n : ℕ). told k n more) (length-append ds (d ∷ []) ∙ add-one (length ds))

  -- what is asked of the deeds that follow
  abbrev Weighs : List Deed → Type 0
  Weighs more = (ds : List Deed) (es vs : List (Does k)) (x : Own k) → Read lim k ds es x → told k (length ds) more ≡ map (as_seen k) vs → All (Keyed k) vs → InPlaces k vs
      → weigh_all lim ds more (weight_at k x) ≡ mathlib.Core.Option.map (weight_at k) (in_turn (run lim k) vs x)

  -- no deed
  weighs_none : Weighs []
  weighs_none ds es [] x r e q p = refl
  weighs_none ds es (v ∷ vs) x r e q p = absurd (nil≢cons e)

  -- a deed that does nothing, and then others
  weighs_nothing : (more : List Deed) → Weighs more → Weighs (nothing ∷ more)
  weighs_nothing more w ds es vs x r e q p = w (ds ++ (nothing ∷ [])) (es ++ []) vs x (read_more ds es [] x x nothing r refl tt refl) (next_number ds more nothing ∙ e) q p

  -- a deed that does something, and then others
  weighs_one : Spoken k → (more : List Deed) → Weighs more → (u : Event Seen ℕ) (ds : List Deed) → told k (length ds) (deed_at k u ∷ []) ≡ u ∷ []
      → (es vs : List (Does k)) (x : Own k) → Read lim k ds es x → u ∷ told k (suc (length ds)) more ≡ map (as_seen k) vs → All (Keyed k) vs → InPlaces k vs
      → weigh_all lim ds (deed_at k u ∷ more) (weight_at k x) ≡ mathlib.Core.Option.map (weight_at k) (in_turn (run lim k) vs x)
  weighs_one sp more w u ds one es [] x r e q p = absurd (cons≢nil e)
  weighs_one sp more w u ds one es (v ∷ vs) x r e q p =
      ap (λ o. and_then o (weigh_all lim (ds ++ (deed_at k u ∷ [])) more))
      (ap (λ (z : Event Seen ℕ). weigh lim (deed_at k z) (known_for ds (deed_at k z)) (weight_at k x)) h ∙ event_weighed lim k ds es x v sp r.seen r.keys q.0 (places_first k v vs p).0 r.left)
      ∙ go (run lim k v x) refl
    where
      h : u ≡ as_seen k v
      h = head-eq_of_cons-eq e

      go : (o : Option (Own k)) → run lim k v x ≡ o
          → and_then (mathlib.Core.Option.map (weight_at k) o) (weigh_all lim (ds ++ (deed_at k u ∷ [])) more) ≡ mathlib.Core.Option.map (weight_at k) (and_then o (in_turn (run lim k) vs))
      go none t = refl
      go (some y) t =
          w (ds ++ (deed_at k u ∷ [])) (es ++ (v ∷ [])) vs y
          (read_more ds es (v ∷ []) x y (deed_at k u) r (one ∙ ap (λ (z : Event Seen ℕ). z ∷ []) h) (q.0, tt) (ap (λ o. and_then o (in_turn (run lim k) [])) t))
          (next_number ds more (deed_at k u) ∙ tail-eq_of_cons-eq e) q.1 (places_first k v vs p).1

  -- one deed, and then others
  weighs_next : Spoken k → (d : Deed) → Mine k d → (more : List Deed) → Weighs more → Weighs (d ∷ more)
  weighs_next sp d does_nothing more w ds es vs x r e = weighs_nothing more w ds es vs x r e
  weighs_next sp d its_clears more w ds es vs x r e = weighs_one sp more w clear ds (rw (only_itself k)) es vs x r (rw (only_itself k) at e)
  weighs_next sp d (its_puts {a}) more w ds es vs x r e = weighs_one sp more w (put (length ds) a) ds (rw (only_itself k)) es vs x r (rw (only_itself k) at e)
  weighs_next sp d (its_removes {c}) more w ds es vs x r e = weighs_one sp more w (remove c) ds (rw (only_itself k)) es vs x r (rw (only_itself k) at e)

  -- DEEDS-WEIGHED: deeds weigh in their table what their events make of it
  deeds_weighed : Spoken k → (more : List Deed) → All (Mine k) more → Weighs more
  deeds_weighed sp [] m = weighs_none
  deeds_weighed sp (d ∷ more) m = weighs_next sp d m.0 more (deeds_weighed sp more m.1)

-- ---- a setting

-- what a table weighs, put where it belongs
weight_put : (k : Kind) (t : Tables) (o : Option (Own k)) → mathlib.Core.Option.map (weight_at k) o ≡ mathlib.Core.Option.map (weight_of k) (with_room (put_own k t) o)
weight_put k t none = refl
weight_put k t (some y) = ap (λ (x : Own k). some (weight_at k x)) (sym (own_put k t y))

-- of a kind of which something is seen
spoken_weighed : (lim : Limits) (ds : List Deed) (s : Setting) (t : Tables) (left : ℕ) → Spoken (kind s) → Telling lim ds t → InRange text_limits left s → Indexed s
    → weigh_all lim ds (deeds s) (weight_of (kind s) t) ≡ mathlib.Core.Option.map (weight_of (kind s)) (change lim s t)
spoken_weighed lim ds s t left sp h r i =
    let k : Kind = kind s in
    let vs : List (Does k) = events_from (length ds) s in
    deeds_weighed lim k sp (deeds s) (deeds_mine s) ds (h.history k) vs (own k t) (record { seen = h.seen k sp; keys = history_keyed h.history h.keys k; left = h.tells k })
    (deeds_told s (length ds) sp) (events_keyed (length ds) left s r) (its_inside s vs (events_its (length ds) s) i)
    ∙ ap (mathlib.Core.Option.map (weight_at k)) (sym (settings_are lim s vs (own k t) (events_its (length ds) s)))
    ∙ weight_put k t (own_after lim s (own k t))

-- SETTING-WEIGHED: the deeds of a setting make of what its table weighs what the setting makes of the tables, and say when there is no room
pub setting_weighed : (lim : Limits) (ds : List Deed) (s : Setting) (t : Tables) (left : ℕ) → Telling lim ds t → InRange text_limits left s → Indexed s
    → weigh_all lim ds (deeds s) (weight_of (kind s) t) ≡ mathlib.Core.Option.map (weight_of (kind s)) (change lim s t)
setting_weighed lim ds (group_contacts o f es) t left h r i = spoken_weighed lim ds (group_contacts o f es) t left tt h r i
setting_weighed lim ds (individual_contacts o f es) t left h r i = spoken_weighed lim ds (individual_contacts o f es) t left tt h r i
setting_weighed lim ds (lines o f es) t left h r i = spoken_weighed lim ds (lines o f es) t left tt h r i
setting_weighed lim ds (key g f) t left h r i = refl
setting_weighed lim ds (quick_texts o es) t left h r i = spoken_weighed lim ds (quick_texts o es) t left tt h r i
setting_weighed lim ds (home x) t left h r i = refl
setting_weighed lim ds (channels o ns) t left h r i = spoken_weighed lim ds (channels o ns) t left tt h r i
setting_weighed lim ds (system c) t left h r i = refl
setting_weighed lim ds (status_texts o es) t left h r i = spoken_weighed lim ds (status_texts o es) t left tt h r i
setting_weighed lim ds (group o f s) t left h r i = spoken_weighed lim ds (group o f s) t left tt h r i
setting_weighed lim ds (individual o f s) t left h r i = spoken_weighed lim ds (individual o f s) t left tt h r i
setting_weighed lim ds (line_slot o f s) t left h r i = spoken_weighed lim ds (line_slot o f s) t left tt h r i
setting_weighed lim ds (last f x) t left h r i = refl
