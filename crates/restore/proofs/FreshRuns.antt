-- FRESH RUNS: an exported part's settings have room in turn where each text has a place of its own; where texts share an area and the part's tables are those of a fresh set, exactly if the texts do. Assumes nothing.
use Rattle.lists.proofs.Kit.{ℕ, suc, ◌+◌, ◌*◌, ◌≤◌, ◌≡◌, refl, sym, ap, ◌∙◌, ◌↔◌, ◌⊎◌, inl, inr, List, [], ◌∷◌, ◌++◌, map, map-append, Option, none, some, option_some_injective, option_some_ne_none, arith, length, take, drop, take-append-drop}
use Rattle.counted_lists.specs.Counted.{Without, Distinct}
use Rattle.writing.specs.declared.Kind.{Kind}
use Rattle.writing.specs.declared.Kind.TheVariants as K
use Rattle.writing.specs.declared.Operation.TheVariants.{Add, Replace}
use Rattle.writing.specs.Settings.{Text, Entry, Setting, lines, channels, texts}
use Rattle.tables.specs.declared.limits.Limits.{Limits}
use Rattle.tables.specs.declared.members.Members.TheVariants.{OfGroups, OfIndividuals}
use Rattle.tables.specs.Allowed.{Allowed}
use Rattle.tables.specs.Apply.{and_then, in_turn, with_room, channel_step, change, apply}
use Rattle.tables.specs.Owns.{own, put_own}
use Rattle.tables.specs.Tables.{Line, line_key, Tables, fresh}
use Rattle.tables.specs.Texts.{rows, present, units_of, text_sum, table_sum, text_size, TextRoom, Passes, WhereShared}
use Rattle.tables.proofs.RoomSentences.{Stuck, no_room, line_no_room}
use Rattle.tables.proofs.FormLaws.{shared_then, shared_too}
use Rattle.shared_texts.proofs.RoomLaws.{turn_change}
use Rattle.shared_texts.proofs.Sums.{units_append, sum_put}
use Rattle.export.specs.declared.parts.Part.{Part}
use Rattle.export.specs.declared.parts.Part.TheVariants.{Lines, Fixed, QuickTexts, Channels, StatusTexts, Groups, Individuals, GroupContacts, IndividualContacts, LineSlots}
use Rattle.export_write.specs.ContactSettings.{contact_add}
use Rattle.export_write.specs.LineSettings.{no_line_flags, line_add, line_slot_setting}
use Rattle.export_write.specs.EntrySettings.{entries, quick_add, slots}
use Rattle.export_write.specs.MemberWriters.{member_setting}
use Rattle.export_write.proofs.SlotWriting.{slots_length}
use Rattle.export.specs.Exported.{exported}
use Rattle.restore.specs.Restored.{with_part, PlacesFor, carried, first_past, FreshPart}
use Rattle.restore.proofs.CarriedTexts.{carried_turn, turn_within, turn_past}
use Rattle.restore.proofs.FirstPast.{stuck_past, stuck_at_full}
use Rattle.restore.proofs.PartRuns.{lines_turn, part_turn}
use Rattle.restore.proofs.TextRooms.{room_if, room_or_past}

-- ---- what an exported part carries: the texts of its tables

-- the texts of a list are those of its entries
listed_units : {A : Type 0} (text : A → Text) (ls : List A) → units_of (present (rows text (map some ls))) ≡ units_of (map text ls)
listed_units text [] = refl
listed_units text (a ∷ ls) = ap (λ (n : ℕ). length (text a) + n) (listed_units text ls)

-- settings of one text each
module _ {A : Type 0} (text : A → Text) (setting : A → Setting) (one : (a : A) → texts (setting a) ≡ text a ∷ []) where
  each_carried : (ls : List A) → carried (map setting ls) ≡ 2 * units_of (map text ls)
  each_carried [] = refl
  each_carried (a ∷ ls) = omega (arith, ap units_of (one a), each_carried ls)

  -- of a list
  list_carried : (ls : List A) → carried (map setting ls) ≡ table_sum (rows text (map some ls))
  list_carried ls = each_carried ls ∙ ap (λ (n : ℕ). 2 * n) (sym (listed_units text ls))

-- settings of slots: an empty one carries no unit
module _ {A : Type 0} (text : A → Text) (setting : ℕ → Option A → Setting) (empty : (i : ℕ) → units_of (texts (setting i none)) ≡ 0)
    (full : (i : ℕ) (a : A) → texts (setting i (some a)) ≡ text a ∷ []) where
  slots_carried : (i : ℕ) (os : List (Option A)) → carried (slots setting i os) ≡ table_sum (rows text os)
  slots_carried i [] = refl
  slots_carried i (none ∷ os) = omega (arith, empty i, slots_carried (suc i) os)
  slots_carried i (some a ∷ os) = omega (arith, ap units_of (full i a), slots_carried (suc i) os)

-- entries by index or code
entries_carried : (i : ℕ) (os : List (Option Text)) → units_of (map (λ (e : Entry). e.text) (entries i os)) ≡ units_of (present (rows (λ us. us) os))
entries_carried i [] = refl
entries_carried i (none ∷ os) = entries_carried (suc i) os
entries_carried i (some us ∷ os) = ap (λ (n : ℕ). length us + n) (entries_carried (suc i) os)

-- entries cut in two
cut_carried : (n : ℕ) (es : List Entry) → units_of (map (λ (e : Entry). e.text) (take n es)) + units_of (map (λ (e : Entry). e.text) (drop n es)) ≡ units_of (map (λ (e : Entry). e.text) es)
cut_carried n es =
    let text : Entry → Text = λ e. e.text in
    sym (units_append (map text (take n es)) (map text (drop n es)))
    ∙ ap units_of (sym (map-append text (take n es) (drop n es)))
    ∙ ap (λ (l : List Entry). units_of (map text l)) (take-append-drop n es)

-- ---- what it adds where its tables are fresh

-- a fresh table has no text
pub fresh_size : (k : Kind) → text_size k (own k fresh) ≡ 0
fresh_size K.GroupContacts = refl
fresh_size K.IndividualContacts = refl
fresh_size K.Lines = refl
fresh_size K.Key = refl
fresh_size K.QuickTexts = refl
fresh_size K.Home = refl
fresh_size K.Channels = refl
fresh_size K.System = refl
fresh_size K.StatusTexts = refl
fresh_size K.Group = refl
fresh_size K.Individual = refl
fresh_size K.LineSlot = refl
fresh_size K.Last = refl

module _ (t u : Tables) where
  -- one table
  table_added : (k : Kind) (n : ℕ) → n ≡ text_size k (own k t) → own k u ≡ own k fresh → text_sum (put_own k u (own k t)) ≡ text_sum u + n
  table_added k n c e = omega (arith, c, sum_put k u (own k t), ap (text_size k) e ∙ fresh_size k)

  -- PART ADDED: the sum with a part is the sum before and what the part's settings carry
  pub part_added : (p : Part) → FreshPart p u → text_sum (with_part p t u) ≡ text_sum u + carried (exported p t)
  part_added Lines f = table_added K.Lines _ (omega (arith, list_carried (λ l. l.text) line_add (λ l. refl) t.lines)) (f K.Lines refl)
  part_added Fixed f = omega arith
  part_added QuickTexts f =
      let es : List Entry = entries 0 t.quick in
      table_added K.QuickTexts _ (omega (arith, each_carried (λ e. e.text) quick_add (λ e. refl) (drop 63 es), cut_carried 63 es, entries_carried 0 t.quick)) (f K.QuickTexts refl)
  part_added Channels f = omega arith
  part_added StatusTexts f = table_added K.StatusTexts _ (omega (arith, entries_carried 32 t.status)) (f K.StatusTexts refl)
  part_added Groups f = table_added K.Group _ (slots_carried (λ g. g.text) (member_setting OfGroups) (λ i. refl) (λ i g. refl) 0 t.groups) (f K.Group refl)
  part_added Individuals f = table_added K.Individual _ (slots_carried (λ g. g.text) (member_setting OfIndividuals) (λ i. refl) (λ i g. refl) 0 t.individuals) (f K.Individual refl)
  part_added GroupContacts f =
      table_added K.GroupContacts _ (omega (arith, list_carried (λ g. g.text) (contact_add OfGroups) (λ g. refl) t.group_contacts)) (f K.GroupContacts refl)
  part_added IndividualContacts f =
      table_added K.IndividualContacts _ (omega (arith, list_carried (λ g. g.text) (contact_add OfIndividuals) (λ g. refl) t.individual_contacts)) (f K.IndividualContacts refl)
  part_added LineSlots f = table_added K.LineSlot _ (slots_carried (λ l. l.text) line_slot_setting (λ i. refl) (λ i l. refl) 0 t.line_slots) (f K.LineSlot refl)

-- ---- settings in turn

-- no part is exported as no setting
exported_some : (from : Limits) (t : Tables) → Allowed from t → (p : Part) → 1 ≤ length (exported p t)
exported_some from t ok Lines = omega arith
exported_some from t ok Fixed = omega arith
exported_some from t ok QuickTexts = omega arith
exported_some from t ok Channels = omega arith
exported_some from t ok StatusTexts = omega arith
exported_some from t ok Groups = omega (arith, slots_length (member_setting OfGroups) 0 t.groups, ok.groups.0)
exported_some from t ok Individuals = omega (arith, slots_length (member_setting OfIndividuals) 0 t.individuals, ok.individuals.0)
exported_some from t ok GroupContacts = omega arith
exported_some from t ok IndividualContacts = omega arith
exported_some from t ok LineSlots = omega (arith, slots_length line_slot_setting 0 t.line_slots, ok.line_slots.0)

module _ (from to : Limits) (t u : Tables) (ok : Allowed from t) (old : Allowed to u) (p : Part) (places : PlacesFor to t p) where
  -- what the part's settings change the tables to
  changed : in_turn (change to) (exported p t) u ≡ some (with_part p t u)
  changed = part_turn from to t u ok old p places

  -- TAKEN WITHIN: where a part's settings have room in turn, they leave the part's tables as t has them, and texts that have room
  pub taken_within : (v : Tables) → in_turn (apply to) (exported p t) u ≡ some v → (v ≡ with_part p t u) × TextRoom to.texts (text_sum v)
  taken_within v e = (
    option_some_injective v (with_part p t u) (sym (turn_change to (exported p t) u v e) ∙ changed),
    turn_within to (exported p t) u v (exported_some from t ok p) e,
  )

  -- PAST AREA: so they have no room where the texts with the part's pass the area, whatever the part's tables were
  pub past_area : Passes to.texts (text_sum (with_part p t u)) → in_turn (apply to) (exported p t) u ≡ none
  past_area = turn_past to (exported p t) u (with_part p t u) changed (λ v e. (taken_within v e).1)

  module _ (f : WhereShared to.texts (FreshPart p u)) where
    -- then the part adds what its settings carry
    adds : WhereShared to.texts (text_sum (with_part p t u) ≡ text_sum u + carried (exported p t))
    adds = shared_then to.texts (part_added t u p) f

    -- FRESH PART TURN: where the texts with the part's have room, and the part's tables are those of a fresh set if texts share an area, they have room in turn and leave the part's tables as t has them
    pub fresh_part_turn : TextRoom to.texts (text_sum (with_part p t u)) → in_turn (apply to) (exported p t) u ≡ some (with_part p t u)
    fresh_part_turn h =
        carried_turn to (exported p t) u (with_part p t u) changed
        (room_if to.texts (text_sum u + carried (exported p t)) (text_sum (with_part p t u)) (shared_then to.texts {P = text_sum (with_part p t u) ≡ text_sum u + carried (exported p t)} (λ e. omega arith) adds) h)

    -- FRESH EXACTLY: and they have none exactly if the texts with the part's pass the area
    pub fresh_exactly : (in_turn (apply to) (exported p t) u ≡ none) ↔ Passes to.texts (text_sum (with_part p t u))
    fresh_exactly = (λ e. by (room_or_past to.texts (text_sum (with_part p t u))) e, past_area)
      where
        by : TextRoom to.texts (text_sum (with_part p t u)) ⊎ Passes to.texts (text_sum (with_part p t u)) → in_turn (apply to) (exported p t) u ≡ none
            → Passes to.texts (text_sum (with_part p t u))
        by (inl h) e = absurd (option_some_ne_none (with_part p t u) (sym (fresh_part_turn h) ∙ e))
        by (inr h) e = h

    -- FRESH STUCK: and then the setting without room is the first with which what was held and what the settings carry pass it
    pub fresh_stuck : TextRoom to.texts (text_sum u) → Passes to.texts (text_sum (with_part p t u))
        → (s : Stuck (apply to) (exported p t) u) × (length s.done + 1 ≡ first_past to.texts (text_sum u) (exported p t))
    fresh_stuck held = stuck_past to (exported p t) u (with_part p t u) changed adds held

-- ---- with fewer places than entries

module _ (to : Limits) (t u : Tables) where
  -- more lines than places: as many as there are places, the next one, and those behind it
  module _ (placed : List Line) (next : Line) (behind : List Line) (parts : t.lines ≡ placed ++ next ∷ behind) (many : length placed ≡ to.lines)
      (apart : Distinct line_key placed) (new : Without line_key (line_key next) placed) where
    abbrev before : List Setting
    before = lines Replace no_line_flags [] ∷ map line_add placed

    few : length placed ≤ to.lines
    few = omega (arith, many)

    -- the add of the first line without a place finds the table full
    abbrev lines_full : Stuck (change to) (exported Lines t) u
    lines_full = record {
      done = before;
      entry = line_add next;
      rest = map line_add behind;
      split = ap (λ (l : List Line). lines Replace no_line_flags [] ∷ map line_add l) parts
          ∙ ap (λ (l : List Setting). lines Replace no_line_flags [] ∷ l) (map-append line_add placed (next ∷ behind));
      table = put_own K.Lines u placed;
      came = lines_turn to u placed few apart;
      full = ap (λ r. with_room (put_own K.Lines u) (and_then r some)) ((line_no_room to.lines next placed few).1 (many, new));
    }

    -- LINES FULL: so the settings of lines do not change the tables
    pub lines_none : in_turn (change to) (exported Lines t) u ≡ none
    lines_none = (no_room (change to) (exported Lines t) u).1 lines_full

    -- LINES SHORT: and it lacks room, or a setting before it with which the texts pass the area
    pub lines_short : WhereShared to.texts (FreshPart Lines u) → TextRoom to.texts (text_sum u)
        → (s : Stuck (apply to) (exported Lines t) u) × (length s.done + 1 ≡ first_past to.texts (text_sum u) before)
    lines_short f held = stuck_at_full to (exported Lines t) u lines_full (shared_then to.texts (part_added (put_own K.Lines t placed) u Lines) f) held

  -- more channels than places
  module _ (short : in_turn (channel_step to.channels Add) t.channels [] ≡ none) where
    -- their one setting finds the table full
    abbrev channels_full : Stuck (change to) (exported Channels t) u
    channels_full = record {
      done = [];
      entry = channels Replace t.channels;
      rest = [];
      split = refl;
      table = u;
      came = refl;
      full = ap (with_room (put_own K.Channels u)) short;
    }

    -- CHANNELS FULL: so it does not change the tables
    pub channels_none : in_turn (change to) (exported Channels t) u ≡ none
    channels_none = (no_room (change to) (exported Channels t) u).1 channels_full

    -- CHANNELS SHORT: and it lacks room
    pub channels_short : TextRoom to.texts (text_sum u) → (s : Stuck (apply to) (exported Channels t) u) × (length s.done + 1 ≡ 1)
    channels_short held =
        stuck_at_full to (exported Channels t) u channels_full (shared_too to.texts (let e : text_sum u ≡ text_sum u + 0 = omega arith in e)) held
