-- Deeds that tell tables: of a fresh set, after what is not seen, and after settings in turn. Assumes nothing.
use Rattle.lists.proofs.Kit.{ℕ, ◌+◌, ◌≡◌, refl, sym, ap, ap₂, ◌∙◌, subst, Bool, true, false, List, [], ◌∷◌, ◌++◌, map, append-nil, append_assoc, map-append, length, some, option_some_injective}
use Rattle.lists.specs.Every.{All}
use Rattle.writing.specs.declared.Kind.{Kind}
use Rattle.writing.specs.declared.Kind.TheVariants.{GroupContacts, IndividualContacts, Lines, Key, QuickTexts, Home, Channels, System, StatusTexts, Group, Individual, LineSlot, Last}
use Rattle.writing.specs.declared.LineFlags.{LineFlags}
use Rattle.writing.specs.declared.Operation.{Operation}
use Rattle.writing.specs.declared.Operation.TheVariants.{Add, Delete, Replace}
use Rattle.writing.specs.Ranges.{text_limits, InContact, InRange}
use Rattle.writing.specs.Settings.{Contact, Hash, Setting, kind, last}
use Rattle.tables.specs.declared.limits.Limits.{Limits}
use Rattle.tables.specs.Apply.{in_turn, line_of, entry_key, change, apply}
use Rattle.tables.specs.Owns.{put_own, only}
use Rattle.tables.specs.Tables.{Tables, fresh}
use Rattle.tables.proofs.Owns.{same_kind}
use Rattle.tables.proofs.RoomSentences.{apply_change}
use Rattle.shared_texts.proofs.RoomLaws.{then_some}
use Rattle.events.specs.Events.{Event, clear, put, remove}
use Rattle.events.specs.Settings.{bare, line_events, Does, Its, its_group_contacts, its_individual_contacts, its_lines, its_key, its_quick_texts, its_home, its_channels, its_system, its_status_texts, its_group, its_individual, its_line_slot, its_last, Indexed}
use Rattle.events.specs.Logs.{Told, its_own, not_its, no_setting, History, behind}
use Rattle.events.specs.Deeds.{Seen, Deed, nothing, deeds, all_deeds, told, as_seen, Spoken, events_from}
use Rattle.events.specs.Knowing.{LineKeys, Telling}
use Rattle.events.proofs.LogLaws.{tells_fresh, tells_more}
use Rattle.events.proofs.SumLaws.{adds_told}
use Rattle.events.proofs.InsideLaws.{places_append, told_inside, log_inside}
use Rattle.events.proofs.Alone.{alone, alone_own, alone_others, its_adds}
use Rattle.events.proofs.DeedLaws.{told_append, deeds_told, deeds_others, events_its}

-- ---- the keys of lines

-- lines that are put, that go, and by operation
puts_keys : (f : LineFlags) (es : List (ℕ × Contact)) → All (InContact text_limits) (bare es) → LineKeys (map (λ e. put e.0 (line_of f e.1)) es)
puts_keys f [] h = tt
puts_keys f (e ∷ es) h = (h.0.0, puts_keys f es h.1)

drops_keys : (f : LineFlags) (es : List (ℕ × Contact)) → All (InContact text_limits) (bare es) → LineKeys (map (λ e. remove (entry_key f e.1)) es)
drops_keys f [] h = tt
drops_keys f (e ∷ es) h = (h.0.0, drops_keys f es h.1)

by_keys : (o : Operation) (f : LineFlags) (es : List (ℕ × Contact)) → All (InContact text_limits) (bare es) → LineKeys (line_events o f es)
by_keys Add f es h = puts_keys f es h
by_keys Delete f es h = drops_keys f es h
by_keys Replace f es h = puts_keys f es h

-- the keys of the events of a kind are in range; other kinds than lines need none
abbrev KeysIn : (k : Kind) → List (Does k) → Type 0
KeysIn GroupContacts es = Unit {0}
KeysIn IndividualContacts es = Unit {0}
KeysIn Lines es = LineKeys es
KeysIn Key es = Unit {0}
KeysIn QuickTexts es = Unit {0}
KeysIn Home es = Unit {0}
KeysIn Channels es = Unit {0}
KeysIn System es = Unit {0}
KeysIn StatusTexts es = Unit {0}
KeysIn Group es = Unit {0}
KeysIn Individual es = Unit {0}
KeysIn LineSlot es = Unit {0}
KeysIn Last es = Unit {0}

-- those of a setting in range are
its_keys : (left : ℕ) (s : Setting) (es : List (Does (kind s))) → Its s es → InRange text_limits left s → KeysIn (kind s) es
its_keys left s es (its_group_contacts cs) h = tt
its_keys left s es (its_individual_contacts cs) h = tt
its_keys left s es (its_lines {o} {f} cs) h = by_keys o f cs h
its_keys left s es (its_key n) h = tt
its_keys left s es (its_quick_texts cs) h = tt
its_keys left s es (its_home n) h = tt
its_keys left s es (its_channels ns) h = tt
its_keys left s es (its_system n) h = tt
its_keys left s es (its_status_texts cs) h = tt
its_keys left s es (its_group n) h = tt
its_keys left s es (its_individual n) h = tt
its_keys left s es (its_line_slot n) h = tt
its_keys left s es (its_last n) h = tt

-- no events have none
no_keys : (k : Kind) → KeysIn k []
no_keys GroupContacts = tt
no_keys IndividualContacts = tt
no_keys Lines = tt
no_keys Key = tt
no_keys QuickTexts = tt
no_keys Home = tt
no_keys Channels = tt
no_keys System = tt
no_keys StatusTexts = tt
no_keys Group = tt
no_keys Individual = tt
no_keys LineSlot = tt
no_keys Last = tt

-- so the events of a setting for any table have keys in range
told_keys : (left : ℕ) (k : Kind) (s : Setting) (es : List (Does k)) → Told k s es → InRange text_limits left s → KeysIn k es
told_keys left k s es (its_own {es = vs} i) h = its_keys left s vs i h
told_keys left k s es (not_its q) h = no_keys k

-- events, and then others
keys_append : (es more : List (Does Lines)) → LineKeys es → LineKeys more → LineKeys (es ++ more)
keys_append [] more h m = m
keys_append (clear ∷ es) more h m = keys_append es more h m
keys_append (put n l ∷ es) more h m = (h.0, keys_append es more h.1 m)
keys_append (remove j ∷ es) more h m = (h.0, keys_append es more h.1 m)

-- ---- no deeds

-- TELLING-FRESH: no deeds tell a fresh set
pub telling_fresh : (lim : Limits) → Telling lim [] fresh
telling_fresh lim = record { history = λ k. []; tells = tells_fresh lim; seen = λ k p. refl; inside = λ k. log_inside k [] [] no_setting tt; keys = tt }

-- TELLING-NOTHING: a deed that does nothing changes nothing
pub telling_nothing : (lim : Limits) (ds : List Deed) (t : Tables) → Telling lim ds t → Telling lim (ds ++ (nothing ∷ [])) t
telling_nothing lim ds t h = record { history = h.history; tells = h.tells; seen = λ k p. told_append k 0 ds (nothing ∷ []) ∙ append-nil (told k 0 ds) ∙ h.seen k p; inside = h.inside; keys = h.keys }

-- ---- one setting

-- deeds that are seen as the events of a setting for every table tell the tables after it
telling_more : (lim : Limits) (ds more : List Deed) (s : Setting) (vs : List (Does (kind s))) (t u : Tables) → Telling lim ds t → LineKeys (alone (kind s) vs Lines) → Indexed s → Its s vs
    → ((k : Kind) → Spoken k → told k (0 + length ds) more ≡ map (as_seen k) (alone (kind s) vs k)) → change lim s t ≡ some u → Telling lim (ds ++ more) u
telling_more lim ds more s vs t u h r x i m e = record {
  history = behind h.history news;
  tells = tells_more lim s h.history news t u h.tells now e;
  seen = λ k p. told_append k 0 ds more ∙ ap₂ (λ (a b : List (Event Seen ℕ)). a ++ b) (h.seen k p) (m k p) ∙ sym (map-append (as_seen k) (h.history k) (news k));
  inside = λ k. places_append k (h.history k) (news k) (h.inside k) (told_inside k s (news k) (now k) x);
  keys = keys_append (h.history Lines) (news Lines) h.keys r;
}
  where
    news : History
    news = alone (kind s) vs

    now : (k : Kind) → Told k s (news k)
    now = adds_told s news (its_adds s vs i)

-- the deeds of a setting are seen as its events for every table
deeds_alone : (s : Setting) (n : ℕ) (k : Kind) → Spoken k → told k n (deeds s) ≡ map (as_seen k) (alone (kind s) (events_from n s) k)
deeds_alone s n k = go (only (kind s) k) refl
  where
    go : (b : Bool) → only (kind s) k ≡ b → Spoken k → told k n (deeds s) ≡ map (as_seen k) (alone (kind s) (events_from n s) k)
    go true h = subst (λ (j : Kind). Spoken j → told j n (deeds s) ≡ map (as_seen j) (alone (kind s) (events_from n s) j)) (same_kind (kind s) k h)
        (λ p. deeds_told s n p ∙ ap (map (as_seen (kind s))) (sym (alone_own (kind s) (events_from n s))))
    go false h = λ p. deeds_others s k n h ∙ ap (map (as_seen k)) (sym (alone_others (kind s) k (events_from n s) h))

-- TELLING-SETTING: the deeds of a setting that had room, behind those before it, tell the tables after it
pub telling_setting : (lim : Limits) (ds : List Deed) (s : Setting) (t u : Tables) (left : ℕ) → Telling lim ds t → InRange text_limits left s → Indexed s → change lim s t ≡ some u → Telling lim (ds ++ deeds s) u
telling_setting lim ds s t u left h r x e =
    telling_more lim ds (deeds s) s vs t u h (told_keys left Lines s (alone (kind s) vs Lines) (adds_told s (alone (kind s) vs) (its_adds s vs i) Lines) r) x i (deeds_alone s (0 + length ds)) e
  where
    vs : List (Does (kind s))
    vs = events_from (0 + length ds) s

    i : Its s vs
    i = events_its (0 + length ds) s

-- a kind of which something is seen is not that of the hash
spoken_other : (k : Kind) → Spoken k → only Last k ≡ false
spoken_other GroupContacts p = refl
spoken_other IndividualContacts p = refl
spoken_other Lines p = refl
spoken_other QuickTexts p = refl
spoken_other Channels p = refl
spoken_other StatusTexts p = refl
spoken_other Group p = refl
spoken_other Individual p = refl
spoken_other LineSlot p = refl
spoken_other Key p = absurd p
spoken_other Home p = absurd p
spoken_other System p = absurd p
spoken_other Last p = absurd p

-- TELLING-HASH: deeds tell the tables with another hash, too, for it is not seen
pub telling_hash : (lim : Limits) (ds : List Deed) (t : Tables) (h : Hash) → Telling lim ds t → Telling lim ds (put_own Last t h)
telling_hash lim ds t h g =
    subst (λ (xs : List Deed). Telling lim xs (put_own Last t h)) (append-nil ds)
    (telling_more lim ds [] (last (record { reboot = false; reply = false }) h) vs t (put_own Last t h) g (subst LineKeys (sym (alone_others Last Lines vs refl)) tt) tt (its_last 0) none_seen refl)
  where
    vs : List (Does Last)
    vs = put 0 h ∷ []

    none_seen : (k : Kind) → Spoken k → [] ≡ map (as_seen k) (alone Last vs k)
    none_seen k p = ap (map (as_seen k)) (sym (alone_others Last k vs (spoken_other k p)))

-- ---- settings in turn

-- TELLING-SETTINGS: and so do those of settings that had room in turn
pub telling_settings : (lim : Limits) (ds : List Deed) (l : List Setting) (t u : Tables) → Telling lim ds t → All (λ s. (left : ℕ) × InRange text_limits left s) l → All Indexed l → in_turn (apply lim) l t ≡ some u
    → Telling lim (ds ++ all_deeds l) u
telling_settings lim ds [] t u h r x e = subst (λ (xs : List Deed). Telling lim xs u) (sym (append-nil ds)) (subst (Telling lim ds) (option_some_injective t u e) h)
telling_settings lim ds (s ∷ l) t u h r x e =
    let (v, p, q) = then_some (apply lim s t) (in_turn (apply lim) l) u e in
    subst (λ (xs : List Deed). Telling lim xs u) (append_assoc ds (deeds s) (all_deeds l))
    (telling_settings lim (ds ++ deeds s) l v u (telling_setting lim ds s t v r.0.0 h r.0.1 x.0 (apply_change lim s t v p)) r.1 x.1 q)
