-- From the events of a table to what a reader of deeds knows: an entry by its key, what stands in a place, and how often a channel is there. Assumes nothing.
use Rattle.lists.proofs.Kit.{ℕ, suc, ◌≡◌, refl, sym, ap, ◌∙◌, Bool, true, false, cond, true≢false, List, [], ◌∷◌, map, Option, none, some, option_none_ne_some, option_some_ne_none, eqb}
use Rattle.lists.specs.Every.{All}
use Rattle.lists.proofs.Every.{all_any}
use Rattle.writing.specs.declared.Kind.{Kind}
use Rattle.writing.specs.declared.Kind.TheVariants.{GroupContacts, IndividualContacts, Lines, QuickTexts, Channels, StatusTexts, Group, Individual, LineSlot}
use Rattle.writing.specs.Ranges.{InNumber}
use Rattle.tables.specs.declared.members.Members.TheVariants.{OfGroups, OfIndividuals}
use Rattle.tables.specs.Apply.{same_key}
use Rattle.tables.specs.MemberKinds.{contact_key}
use Rattle.tables.specs.Owns.{only}
use Rattle.tables.specs.Tables.{LineKey, line_key}
use Rattle.events.specs.Reading.{reading}
use Rattle.events.specs.Events.{Event, clear, put, remove, Decides, entry, birth, look_step, look}
use Rattle.events.specs.Places.{spot_step, spot}
use Rattle.events.specs.Channels.{often_step, often_on}
use Rattle.events.specs.Settings.{Does, quick_place, quick_change, status_place, status_change, slot_place, slot_change}
use Rattle.events.specs.Rows.{Cell}
use Rattle.events.specs.Deeds.{Seen, seen_as, code_of, as_seen, line_code, Deed, nothing, clears, puts, removes, told}
use Rattle.events.specs.Knowing.{Known, unknown, first_stays, staying, put_known, know_step, know_on, know, Shown, shown_of, cell_shown, LineKeys}
use Rattle.events.proofs.SettingLaws.{nat_decides, key_decides}
use Rattle.events.proofs.CodeLaws.{line_code_one, codes_decide, codes_turned}

-- ---- what is known goes by the events of its own kind

-- what is known of the key c after one event more
abbrev pub hear : Kind → ℕ → Event Seen ℕ → Known → Known
hear k c clear o = unknown
hear k c (put n a) o = cond (eqb a.key c) (put_known k n a o) o
hear k c (remove d) o = cond (eqb d c) unknown o

-- after all
abbrev pub heard : Kind → ℕ → List (Event Seen ℕ) → Known
heard k c us = reading (hear k c) us unknown

-- one event, if there is one
heard_if : (k : Kind) (c : ℕ) (b : Bool) (u : Event Seen ℕ) (us : List (Event Seen ℕ)) (o : Known) → reading (hear k c) us (cond b (hear k c u o) o) ≡ reading (hear k c) (cond b (u ∷ us) us) o
heard_if k c true u us o = refl
heard_if k c false u us o = refl

-- after deeds that have the numbers from n on
known_on : (k : Kind) (c n : ℕ) (ds : List Deed) (o : Known) → know_on k c n ds o ≡ reading (hear k c) (told k n ds) o
known_on k c n [] o = refl
known_on k c n (nothing ∷ ds) o = known_on k c (suc n) ds o
known_on k c n (clears j ∷ ds) o = known_on k c (suc n) ds (know_step k c n (clears j) o) ∙ heard_if k c (only j k) clear (told k (suc n) ds) o
known_on k c n (puts j a ∷ ds) o = known_on k c (suc n) ds (know_step k c n (puts j a) o) ∙ heard_if k c (only j k) (put n a) (told k (suc n) ds) o
known_on k c n (removes j d ∷ ds) o = known_on k c (suc n) ds (know_step k c n (removes j d) o) ∙ heard_if k c (only j k) (remove d) (told k (suc n) ds) o

-- KNOWN-TOLD: what is known of a key is read from the events of its table
pub known_told : (k : Kind) (c : ℕ) (ds : List Deed) → know k c ds ≡ heard k c (told k 0 ds)
known_told k c ds = known_on k c 0 ds unknown

-- ---- reading what is seen of events, beside the events

-- what is seen of an event, by what is seen of its entry and of its key
abbrev seen_by : {A K : Type 0} → (A → Seen) → (K → ℕ) → Event A K → Event Seen ℕ
seen_by seen code clear = clear
seen_by seen code (put n a) = put n (seen a)
seen_by seen code (remove j) = remove (code j)

-- by kind
by_kind : (k : Kind) (es : List (Does k)) → map (as_seen k) es ≡ map (seen_by (seen_as k) (code_of k)) es
by_kind k [] = refl
by_kind k (clear ∷ es) = ap (λ (l : List (Event Seen ℕ)). clear ∷ l) (by_kind k es)
by_kind k (put n a ∷ es) = ap (λ (l : List (Event Seen ℕ)). put n (seen_as k a) ∷ l) (by_kind k es)
by_kind k (remove j ∷ es) = ap (λ (l : List (Event Seen ℕ)). remove (code_of k j) ∷ l) (by_kind k es)

-- deeds whose events are seen so
known_seen : (k : Kind) (c : ℕ) (ds : List Deed) (es : List (Does k)) → told k 0 ds ≡ map (as_seen k) es → know k c ds ≡ heard k c (map (seen_by (seen_as k) (code_of k)) es)
known_seen k c ds es e = known_told k c ds ∙ ap (heard k c) (e ∙ by_kind k es)

-- what each event keeps, all keep
carried : {D E S T : Type 0} (f : E → S → S) (g : D → T → T) (v : D → E) (R : S → T → Type 0) (P : D → Type 0) → ((x : D) (s : S) (t : T) → P x → R s t → R (f (v x) s) (g x t))
    → (es : List D) (s : S) (t : T) → All P es → R s t → R (reading f (map v es) s) (reading g es t)
carried f g v R P h [] s t p r = r
carried f g v R P h (x ∷ es) s t p r = carried f g v R P h es (f (v x) s) (g x t) p.1 (h x s t p.0 r)

-- ---- lists by a key

-- the latest entry stays
pub latest_stays : (o : Option (ℕ × Seen)) (a : Seen) → staying false o a ≡ a
latest_stays none a = refl
latest_stays (some e) a = refl

-- the key of an event has P
abbrev OfKey : {A K : Type 0} → (A → K) → (K → Type 0) → Event A K → Type 0
OfKey key P clear = Unit {0}
OfKey key P (put n a) = P (key a)
OfKey key P (remove j) = P j

module _ {A K : Type 0} (key : A → K) (same : K → K → Bool) (d : Decides same) (seen : A → Seen) (code : K → ℕ) (keyed : (a : A) → (seen a).key ≡ code (key a)) where
  -- an entry with its birth, as it is seen
  abbrev born : Option (ℕ × A) → Option (ℕ × Seen)
  born o = mathlib.Core.Option.map (λ e. (e.0, seen e.1)) o

  -- it was born where the entry was
  born_birth : (n : ℕ) (t : Option (ℕ × A)) → birth n (born t) ≡ birth n t
  born_birth n none = refl
  born_birth n (some e) = refl

  -- what is put where the latest entry stays
  born_put : (k : Kind) (n : ℕ) (a : A) (o : Known) (t : Option (ℕ × A)) → first_stays k ≡ false → o.found_at ≡ born t → (put_known k n (seen a) o).found_at ≡ some (birth n t, seen a)
  born_put k n a o t h r =
      ap (λ (f : Option (ℕ × Seen)). some (birth n f, staying (first_stays k) f (seen a))) r
      ∙ ap (λ (b : Bool). some (birth n (born t), staying b (born t) (seen a))) h
      ∙ λ i. some (born_birth n t i, latest_stays (born t) (seen a) i)

  -- one event keeps that the reader of deeds knows what looking finds
  found_next : (k : Kind) (κ : K) → first_stays k ≡ false → (v : Event A K) (o : Known) (t : Option (ℕ × A)) → OfKey key (λ j. code j ≡ code κ → j ≡ κ) v → o.found_at ≡ born t
      → (hear k (code κ) (seen_by seen code v) o).found_at ≡ born (look_step key same κ v t)
  found_next k κ h clear o t one r = refl
  found_next k κ h (put n a) o t one r = go (eqb (seen a).key (code κ)) (same (key a) κ) (ap (λ (c : ℕ). eqb c (code κ)) (keyed a) ∙ codes_decide same d code (key a) κ one)
    where
      go : (b c : Bool) → b ≡ c → (cond b (put_known k n (seen a) o) o).found_at ≡ born (cond c (some (birth n t, a)) t)
      go true true e = born_put k n a o t h r
      go true false e = absurd (true≢false e)
      go false true e = absurd (true≢false (sym e))
      go false false e = r
  found_next k κ h (remove j) o t one r = go (eqb (code j) (code κ)) (same κ j) (codes_turned same d code j κ one)
    where
      go : (b c : Bool) → b ≡ c → (cond b unknown o).found_at ≡ born (cond c none t)
      go true true e = refl
      go true false e = absurd (true≢false e)
      go false true e = absurd (true≢false (sym e))
      go false false e = r

  -- and so do all
  found_all : (k : Kind) (κ : K) → first_stays k ≡ false → (es : List (Event A K)) → All (OfKey key (λ j. code j ≡ code κ → j ≡ κ)) es
      → (heard k (code κ) (map (seen_by seen code) es)).found_at ≡ born (look key same κ es)
  found_all k κ h es one =
      carried (hear k (code κ)) (look_step key same κ) (seen_by seen code) (λ o t. o.found_at ≡ born t) (OfKey key (λ j. code j ≡ code κ → j ≡ κ)) (found_next k κ h) es unknown none one refl

-- any key is told from others where codes are keys
any_key : {A : Type 0} (key : A → ℕ) (κ : ℕ) (v : Event A ℕ) → OfKey key (λ j. j ≡ κ → j ≡ κ) v
any_key key κ clear = tt
any_key key κ (put n a) = λ e. e
any_key key κ (remove j) = λ e. e

-- the keys of lines in range are told from one in range
line_keys : (κ : LineKey) (es : List (Does Lines)) → InNumber κ.number → LineKeys es → All (OfKey line_key (λ j. line_code j ≡ line_code κ → j ≡ κ)) es
line_keys κ [] q h = tt
line_keys κ (clear ∷ es) q h = (tt, line_keys κ es q h)
line_keys κ (put n l ∷ es) q h = (line_code_one (line_key l) κ h.0 q, line_keys κ es q h.1)
line_keys κ (remove j ∷ es) q h = (line_code_one j κ h.0 q, line_keys κ es q h.1)

-- KNOWN-LISTED: what is known of a key is what looking for it finds: group contacts
pub known_groups : (κ : ℕ) (ds : List Deed) (es : List (Does GroupContacts)) → told GroupContacts 0 ds ≡ map (as_seen GroupContacts) es
    → (know GroupContacts κ ds).found_at ≡ mathlib.Core.Option.map (λ e. (e.0, seen_as GroupContacts e.1)) (look (contact_key OfGroups) eqb κ es)
known_groups κ ds es e =
    ap (λ (o : Known). o.found_at) (known_seen GroupContacts κ ds es e)
    ∙ found_all (contact_key OfGroups) eqb nat_decides (seen_as GroupContacts) (code_of GroupContacts) (λ a. refl) GroupContacts κ refl es (all_any _ (any_key (contact_key OfGroups) κ) es)

-- individual contacts
pub known_individuals : (κ : ℕ) (ds : List Deed) (es : List (Does IndividualContacts)) → told IndividualContacts 0 ds ≡ map (as_seen IndividualContacts) es
    → (know IndividualContacts κ ds).found_at ≡ mathlib.Core.Option.map (λ e. (e.0, seen_as IndividualContacts e.1)) (look (contact_key OfIndividuals) eqb κ es)
known_individuals κ ds es e =
    ap (λ (o : Known). o.found_at) (known_seen IndividualContacts κ ds es e)
    ∙ found_all (contact_key OfIndividuals) eqb nat_decides (seen_as IndividualContacts) (code_of IndividualContacts) (λ a. refl) IndividualContacts κ refl es (all_any _ (any_key (contact_key OfIndividuals) κ) es)

-- lines, whose keys are numbers in range
pub known_lines : (κ : LineKey) (ds : List Deed) (es : List (Does Lines)) → told Lines 0 ds ≡ map (as_seen Lines) es → InNumber κ.number → LineKeys es
    → (know Lines (line_code κ) ds).found_at ≡ mathlib.Core.Option.map (λ e. (e.0, seen_as Lines e.1)) (look line_key same_key κ es)
known_lines κ ds es e q h =
    ap (λ (o : Known). o.found_at) (known_seen Lines (line_code κ) ds es e)
    ∙ found_all line_key same_key key_decides (seen_as Lines) line_code (λ a. refl) Lines κ refl es (line_keys κ es q h)

-- ---- places

-- what is put shows what the change shows, where both showed the same before
abbrev pub Shows : {A B : Type 0} → Bool → (Option B → A → Option B) → (A → Seen) → (B → Shown) → Type 0
Shows {A} {B} first change seen show = (o : Option (ℕ × Seen)) (t : Option B) (a : A) → mathlib.Core.Option.map show t ≡ mathlib.Core.Option.map shown_of (entry o)
    → mathlib.Core.Option.map show (change t a) ≡ some (shown_of (staying first o (seen a)))

module _ {A B : Type 0} (place : A → ℕ) (change : Option B → A → Option B) (seen : A → Seen) (show : B → Shown) (placed : (a : A) → (seen a).key ≡ place a) where
  -- one event keeps that the reader of deeds knows what stands in a place
  shown_next : (k : Kind) (i : ℕ) → Shows (first_stays k) change seen show → (v : Event A ℕ) (o : Known) (t : Option B) → Unit {0} → mathlib.Core.Option.map show t ≡ mathlib.Core.Option.map shown_of (entry o.found_at)
      → mathlib.Core.Option.map show (spot_step place change i v t) ≡ mathlib.Core.Option.map shown_of (entry (hear k i (seen_by seen (λ j. j) v) o).found_at)
  shown_next k i h clear o t u r = refl
  shown_next k i h (put n a) o t u r = go (eqb (place a) i) (eqb (seen a).key i) (ap (λ (c : ℕ). eqb c i) (sym (placed a)))
    where
      go : (b c : Bool) → b ≡ c → mathlib.Core.Option.map show (cond b (change t a) t) ≡ mathlib.Core.Option.map shown_of (entry (cond c (put_known k n (seen a) o) o).found_at)
      go true true e = h o.found_at t a r
      go true false e = absurd (true≢false e)
      go false true e = absurd (true≢false (sym e))
      go false false e = r
  shown_next k i h (remove j) o t u r = go (eqb j i)
    where
      go : (b : Bool) → mathlib.Core.Option.map show (cond b none t) ≡ mathlib.Core.Option.map shown_of (entry (cond b unknown o).found_at)
      go true = refl
      go false = r

  -- and so do all
  shown_all : (k : Kind) (i : ℕ) → Shows (first_stays k) change seen show → (es : List (Event A ℕ))
      → mathlib.Core.Option.map show (spot place change i es) ≡ mathlib.Core.Option.map shown_of (entry (heard k i (map (seen_by seen (λ j. j)) es)).found_at)
  shown_all k i h es =
      carried (hear k i) (spot_step place change i) (seen_by seen (λ j. j)) (λ o t. mathlib.Core.Option.map show t ≡ mathlib.Core.Option.map shown_of (entry o.found_at)) (λ v. Unit {0}) (shown_next k i h) es unknown none (all_any (λ v. Unit {0}) (λ v. tt) es) refl

-- a quick text stays
pub quick_shows : Shows (first_stays QuickTexts) quick_change (seen_as QuickTexts) (cell_shown QuickTexts)
quick_shows none none a r = refl
quick_shows none (some us) a r = absurd (option_some_ne_none (cell_shown QuickTexts us) r)
quick_shows (some e) none a r = absurd (option_none_ne_some (shown_of e.1) r)
quick_shows (some e) (some us) a r = r

-- and other entries take the place of what stands there
latest_shows : {A B : Type 0} (made : A → B) (seen : A → Seen) (show : B → Shown) → ((a : A) → show (made a) ≡ shown_of (seen a)) → Shows {A = A} {B = B} false (λ t a. some (made a)) seen show
latest_shows made seen show h o t a r = ap some (h a ∙ ap shown_of (sym (latest_stays o (seen a))))

-- a status text
pub status_shows : Shows (first_stays StatusTexts) status_change (seen_as StatusTexts) (cell_shown StatusTexts)
status_shows = latest_shows (λ e. e.text) (seen_as StatusTexts) (cell_shown StatusTexts) (λ a. refl)

-- a group in a slot
pub group_shows : Shows (first_stays Group) slot_change (seen_as Group) (cell_shown Group)
group_shows = latest_shows (λ a. a.1) (seen_as Group) (cell_shown Group) (λ a. refl)

-- an individual in a slot
pub individual_shows : Shows (first_stays Individual) slot_change (seen_as Individual) (cell_shown Individual)
individual_shows = latest_shows (λ a. a.1) (seen_as Individual) (cell_shown Individual) (λ a. refl)

-- a line in a slot
pub line_shows : Shows (first_stays LineSlot) slot_change (seen_as LineSlot) (cell_shown LineSlot)
line_shows = latest_shows (λ a. a.1) (seen_as LineSlot) (cell_shown LineSlot) (λ a. refl)

-- what is known of a place, after deeds whose events are seen so, shows what stands there
abbrev pub KnowsPlace : (k : Kind) → (ℕ → List (Does k) → Option (Cell k)) → Type 0
KnowsPlace k at = (i : ℕ) (ds : List Deed) (es : List (Does k)) → told k 0 ds ≡ map (as_seen k) es → mathlib.Core.Option.map (cell_shown k) (at i es) ≡ mathlib.Core.Option.map shown_of (entry (know k i ds).found_at)

-- where it is heard
place_heard : (k : Kind) (at : ℕ → List (Does k) → Option (Cell k))
    → ((i : ℕ) (es : List (Does k)) → mathlib.Core.Option.map (cell_shown k) (at i es) ≡ mathlib.Core.Option.map shown_of (entry (heard k i (map (seen_by (seen_as k) (code_of k)) es)).found_at)) → KnowsPlace k at
place_heard k at h i ds es e = h i es ∙ ap (λ (o : Known). mathlib.Core.Option.map shown_of (entry o.found_at)) (sym (known_seen k i ds es e))

-- KNOWN-PLACED: quick texts
pub known_quick : KnowsPlace QuickTexts (spot quick_place quick_change)
known_quick = place_heard QuickTexts (spot quick_place quick_change) (λ i. shown_all quick_place quick_change (seen_as QuickTexts) (cell_shown QuickTexts) (λ a. refl) QuickTexts i quick_shows)

-- status texts
pub known_status : KnowsPlace StatusTexts (spot status_place status_change)
known_status = place_heard StatusTexts (spot status_place status_change) (λ i. shown_all status_place status_change (seen_as StatusTexts) (cell_shown StatusTexts) (λ a. refl) StatusTexts i status_shows)

-- groups in slots
pub known_group_slots : KnowsPlace Group (spot slot_place slot_change)
known_group_slots = place_heard Group (spot slot_place slot_change) (λ i. shown_all slot_place slot_change (seen_as Group) (cell_shown Group) (λ a. refl) Group i group_shows)

-- individuals in slots
pub known_individual_slots : KnowsPlace Individual (spot slot_place slot_change)
known_individual_slots = place_heard Individual (spot slot_place slot_change) (λ i. shown_all slot_place slot_change (seen_as Individual) (cell_shown Individual) (λ a. refl) Individual i individual_shows)

-- lines in slots
pub known_line_slots : KnowsPlace LineSlot (spot slot_place slot_change)
known_line_slots = place_heard LineSlot (spot slot_place slot_change) (λ i. shown_all slot_place slot_change (seen_as LineSlot) (cell_shown LineSlot) (λ a. refl) LineSlot i line_shows)

-- ---- channels

-- one event keeps how often a channel is there
often_kept : (c : ℕ) (v : Event ℕ ℕ) (o : Known) (t : ℕ) → Unit {0} → o.often ≡ t → (hear Channels c (seen_by (seen_as Channels) (code_of Channels) v) o).often ≡ often_step c v t
often_kept c clear o t u r = refl
often_kept c (put n a) o t u r = go (eqb a c)
  where
    go : (b : Bool) → (cond b (put_known Channels n (seen_as Channels a) o) o).often ≡ cond b (suc t) t
    go true = ap suc r
    go false = r
often_kept c (remove j) o t u r = go (eqb j c)
  where
    go : (b : Bool) → (cond b unknown o).often ≡ cond b 0 t
    go true = refl
    go false = r

-- KNOWN-OFTEN: a channel is there as often as its events say
pub known_often : (c : ℕ) (ds : List Deed) (es : List (Does Channels)) → told Channels 0 ds ≡ map (as_seen Channels) es → (know Channels c ds).often ≡ often_on c es 0
known_often c ds es e =
    ap (λ (o : Known). o.often) (known_seen Channels c ds es e)
    ∙ carried (hear Channels c) (often_step c) (seen_by (seen_as Channels) (code_of Channels)) (λ o t. o.often ≡ t) (λ v. Unit {0}) (often_kept c) es unknown 0 (all_any (λ v. Unit {0}) (λ v. tt) es) refl
