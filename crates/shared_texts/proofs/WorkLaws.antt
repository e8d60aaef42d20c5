-- A store with shared texts and a working copy with texts in places of their own, of the same tables: how each is made of the other. Assumes nothing.
use Rattle.lists.proofs.Kit.{ℕ, suc, ◌+◌, ◌*◌, ◌-◌, ◌≤◌, ◌<◌, ◌≡◌, refl, sym, ap, ap₂, ◌∙◌, List, [], ◌∷◌, ◌++◌, map, append_assoc, none, some, arith, mid_of, length, take, drop, get_or, replicate, length-append, take_at}
use Rattle.slots.specs.Slots.{flat, pad, u24}
use Rattle.orders.specs.OrderParts.{order_bytes}
use Rattle.writing.specs.Settings.{Text}
use Rattle.tables.specs.declared.limits.Limits.{Limits}
use Rattle.tables.specs.Allowed.{Allowed, QuickOk, StatusOk, GroupOk, IndividualOk, LineOk}
use Rattle.tables.specs.Layout.{placed_layout, hash_bytes, key_bytes, home_bytes, system_bytes, quick_bytes, status_bytes, group_bytes, individual_bytes, line_bytes, group_flags, individual_flags, count_size, member_width, line_width, contacts_size, channels_size, lines_size, quick_size, status_size, member_size, line_slots_size, used_size, quick_at, status_at, groups_at, individuals_at, line_slots_at, group_contacts_at, individual_contacts_at, channels_at, lines_at}
use Rattle.tables.specs.LineHeads.{head_bytes}
use Rattle.tables.specs.Limits.{placed, quick_places, status_places, slot_places, contact_places}
use Rattle.tables.specs.Order.{line_order}
use Rattle.tables.specs.Tables.{Tables, GroupMember, IndividualMember, Line}
use Rattle.tables.proofs.EntryCodes.{line_code}
use Rattle.tables.proofs.FixedCodes.{hash_code}
use Rattle.tables.proofs.Frames.{region_get}
use Rattle.tables.proofs.TextCodes.{digits_length}
use Rattle.tables.proofs.TextLaws.{text_padded}
use Rattle.tables.specs.Heads.{text_halves, line_halves, member_halves, quick_head, status_head, line_head, group_head, individual_head, quick_own, status_own, member_own, line_own}
use Rattle.shared_texts.specs.declared.Run.{Run}
use Rattle.shared_texts.specs.Moves.{spread, loaded_run, loaded, saved_run, saved_area, saved, run_sum, work_sum}
use Rattle.tables.specs.SharedLayout.{quick_heads_size, status_heads_size, member_heads_size, line_slot_heads_size, contact_heads_size, line_heads_size, status_heads_at, group_heads_at, individual_heads_at, line_slot_heads_at, group_contact_heads_at, individual_contact_heads_at, shared_channels_at, line_heads_at, heads_size, shared_size, shared_layout}
use Rattle.shared_texts.specs.Shared.{text_runs, heads_in, slots_in, no_run, counted_before}
use Rattle.tables.specs.Texts.{text_tables, texts_in, texts_of, text_sum, units_of, units_before, table_sum, unit_bytes, area}
use Rattle.shared_texts.proofs.Cuts.{area_is}
use Rattle.shared_texts.proofs.MoveLaws.{Formed}
use Rattle.shared_texts.proofs.RunLaws.{AllMoved, table_moved, list_moved, before_counted, run_heads, run_length, run_loads, run_texts, run_placed, runs_placed}
use Rattle.shared_texts.proofs.SharedFrames.{ListAt, FollowedAt, line_long, list_at, followed_at, shared_get}

-- ---- entries in both forms

-- an entry's bytes without its text, and then
abbrev quick_slot : Text → List ℕ
quick_slot us = quick_head (text_halves.head us)

abbrev status_slot : Text → List ℕ
status_slot us = status_head (text_halves.head us)

abbrev group_slot : GroupMember → List ℕ
group_slot g = group_head (member_halves.head g)

abbrev individual_slot : IndividualMember → List ℕ
individual_slot i = individual_head (member_halves.head i)

abbrev line_slot : Line → List ℕ
line_slot l = line_head (line_halves.head l)

pub quick_formed : Formed QuickOk (λ us. us) quick_own 23 quick_slot quick_bytes
quick_formed = record { own = λ us. []; long = λ us. refl; head = λ us. refl; full = λ us. sym (text_padded 23 us); short = λ us p. p.text.short; units = λ us p. p.text.units }

pub status_formed : Formed StatusOk (λ us. us) status_own 16 status_slot status_bytes
status_formed = record { own = λ us. 1 ∷ []; long = λ us. refl; head = λ us. refl; full = λ us. ap (λ (l : List ℕ). 1 ∷ l) (sym (text_padded 16 us)); short = λ us p. p.short; units = λ us p. p.units }

pub group_formed : Formed GroupOk (λ g. g.text) member_own 16 group_slot group_bytes
group_formed =
    record {
      own = λ g. group_flags g.flags ∷ u24 g.address.0;
      long = λ g. refl;
      head = λ g. refl;
      full = λ g. ap (λ (l : List ℕ). group_flags g.flags ∷ u24 g.address.0 ++ l) (sym (text_padded 16 g.text));
      short = λ g p. p.text.short;
      units = λ g p. p.text.units;
    }

pub individual_formed : Formed IndividualOk (λ i. i.text) member_own 16 individual_slot individual_bytes
individual_formed =
    record {
      own = λ i. individual_flags i.flags ∷ u24 i.address.0;
      long = λ i. refl;
      head = λ i. refl;
      full = λ i. ap (λ (l : List ℕ). individual_flags i.flags ∷ u24 i.address.0 ++ l) (sym (text_padded 16 i.text));
      short = λ i p. p.text.short;
      units = λ i p. p.text.units;
    }

pub line_formed : Formed LineOk (λ l. l.text) line_own 16 line_slot line_bytes
line_formed =
    record {
      own = λ l. head_bytes l.flags l.number;
      long = λ l. ap (λ (i : ℕ). suc (suc i)) (digits_length l.number);
      head = λ l. refl;
      full = λ l. ap (λ (x : List ℕ). head_bytes l.flags l.number ++ x) (sym (text_padded 16 l.text));
      short = λ l p. p.text.short;
      units = λ l p. p.text.units;
    }

-- ---- a store and its working copy

-- runs, made of runs that are equal, by region: a list has its count before it, and the lines their order behind them
rebuilt : {f f' q q' s s' g g' v v' d d' j j' e e' k k' i i' c c' l l' m m' o o' : List ℕ} {z z' : List (List ℕ)}
    → f ≡ f' → q ≡ q' → s ≡ s' → g ≡ g' → v ≡ v' → d ≡ d' → j ≡ j' → e ≡ e' → k ≡ k' → i ≡ i' → c ≡ c' → l ≡ l' → m ≡ m' → o ≡ o' → z ≡ z'
    → flat (f ∷ q ∷ s ∷ g ∷ v ∷ d ∷ j ∷ e ∷ k ∷ i ∷ c ∷ l ∷ m ∷ o ∷ z) ≡ flat (f' ∷ q' ∷ s' ∷ g' ∷ v' ∷ d' ∷ (j' ++ e') ∷ (k' ++ i') ∷ c' ∷ ((l' ++ m') ++ o') ∷ z')
rebuilt f q s g v d j e k i c l m o z = (λ n. flat (f n ∷ q n ∷ s n ∷ g n ∷ v n ∷ d n ∷ j n ∷ e n ∷ k n ∷ i n ∷ c n ∷ l n ∷ m n ∷ o n ∷ z n)) ∙ simp append_assoc

module _ (lim : Limits) (a : ℕ) (t : Tables) (ok : Allowed (placed lim) t) where
  -- the store, and the working copy
  abbrev s : List ℕ
  s = shared_layout lim a t

  abbrev w : List ℕ
  w = placed_layout lim t

  -- ---- list tables, in both

  pub groups_stored : ListAt (suc member_own) group_slot contact_places group_contact_heads_at s t.group_contacts
  groups_stored = list_at (suc member_own) group_slot contact_places group_contact_heads_at s t.group_contacts (shared_get lim a t ok 9 (omega arith) group_contact_heads_at contact_heads_size refl refl)

  pub groups_worked : ListAt member_width group_bytes contact_places group_contacts_at w t.group_contacts
  groups_worked = list_at member_width group_bytes contact_places group_contacts_at w t.group_contacts (region_get lim t ok 9 (omega arith) group_contacts_at contacts_size refl refl)

  pub individuals_stored : ListAt (suc member_own) individual_slot contact_places individual_contact_heads_at s t.individual_contacts
  individuals_stored = list_at (suc member_own) individual_slot contact_places individual_contact_heads_at s t.individual_contacts (shared_get lim a t ok 10 (omega arith) individual_contact_heads_at contact_heads_size refl refl)

  pub individuals_worked : ListAt member_width individual_bytes contact_places individual_contacts_at w t.individual_contacts
  individuals_worked = list_at member_width individual_bytes contact_places individual_contacts_at w t.individual_contacts (region_get lim t ok 10 (omega arith) individual_contacts_at contacts_size refl refl)

  pub lines_stored : FollowedAt (suc line_own) line_slot lim.lines (line_heads_at lim) s t.lines (order_bytes lim.lines (line_order t.lines))
  lines_stored = followed_at (suc line_own) line_slot line_long lim.lines (line_heads_at lim) s t.lines _ (shared_get lim a t ok 12 (omega arith) (line_heads_at lim) (line_heads_size lim) (omega arith) refl)

  pub lines_worked : FollowedAt line_width line_bytes lim.lines (lines_at lim) w t.lines (order_bytes lim.lines (line_order t.lines))
  lines_worked = followed_at line_width line_bytes line_code.long lim.lines (lines_at lim) w t.lines _ (region_get lim t ok 12 (omega arith) (lines_at lim) (lines_size lim) (omega arith) refl)

  -- ---- tables that have texts

  -- every one of them, in both
  pub all_moved : AllMoved s w (text_runs lim) (text_tables t)
  all_moved =
      let quick = table_moved QuickOk (λ us. us) quick_own 23 quick_slot quick_bytes quick_formed s w quick_at quick_at quick_places t.quick ok.quick.0 ok.quick.1
      (shared_get lim a t ok 4 (omega arith) quick_at quick_heads_size refl refl) (region_get lim t ok 4 (omega arith) quick_at quick_size refl refl) in
      let status = table_moved StatusOk (λ us. us) status_own 16 status_slot status_bytes status_formed s w status_heads_at status_at status_places t.status ok.status.0 ok.status.1
      (shared_get lim a t ok 5 (omega arith) status_heads_at status_heads_size refl refl) (region_get lim t ok 5 (omega arith) status_at status_size refl refl) in
      let groups = table_moved GroupOk (λ g. g.text) member_own 16 group_slot group_bytes group_formed s w group_heads_at groups_at slot_places t.groups ok.groups.0 ok.groups.1
      (shared_get lim a t ok 6 (omega arith) group_heads_at member_heads_size refl refl) (region_get lim t ok 6 (omega arith) groups_at member_size refl refl) in
      let individuals = table_moved IndividualOk (λ i. i.text) member_own 16 individual_slot individual_bytes individual_formed s w individual_heads_at individuals_at slot_places t.individuals ok.individuals.0 ok.individuals.1
      (shared_get lim a t ok 7 (omega arith) individual_heads_at member_heads_size refl refl) (region_get lim t ok 7 (omega arith) individuals_at member_size refl refl) in
      let line_slots = table_moved LineOk (λ l. l.text) line_own 16 line_slot line_bytes line_formed s w line_slot_heads_at line_slots_at slot_places t.line_slots ok.line_slots.0 ok.line_slots.1
      (shared_get lim a t ok 8 (omega arith) line_slot_heads_at line_slot_heads_size refl refl) (region_get lim t ok 8 (omega arith) line_slots_at line_slots_size refl refl) in
      let group_contacts = list_moved GroupOk (λ g. g.text) member_own 16 group_slot group_bytes group_formed s w (group_contact_heads_at + count_size) (group_contacts_at + count_size) contact_places t.group_contacts ok.group_contacts.0 ok.group_contacts.1
      groups_stored.1 groups_worked.1 in
      let individual_contacts = list_moved IndividualOk (λ i. i.text) member_own 16 individual_slot individual_bytes individual_formed s w (individual_contact_heads_at + count_size) (individual_contacts_at + count_size) contact_places t.individual_contacts ok.individual_contacts.0 ok.individual_contacts.1
      individuals_stored.1 individuals_worked.1 in
      let lines = list_moved LineOk (λ l. l.text) line_own 16 line_slot line_bytes line_formed s w (line_heads_at lim + count_size) (lines_at lim + count_size) lim.lines t.lines ok.lines.0 ok.lines.1
      lines_stored.0.1 lines_worked.0.1 in
      (quick, (status, (groups, (individuals, (line_slots, (group_contacts, (individual_contacts, (lines, tt))))))))

  -- ROW-PLACE: the last bytes of the heads before a row say how many units stand before its text
  pub row_place : (k r : ℕ) → k < 8 → r ≤ (get_or (text_runs lim) k no_run).many → counted_before s (text_runs lim) k r ≡ units_before (text_tables t) k r
  row_place = before_counted s w (text_runs lim) (text_tables t) all_moved

  -- ROW-LENGTH: and the last byte of its own head how many it has
  pub row_length : (k r : ℕ) (us : Text) → get_or (get_or (text_tables t) k []) r none ≡ some us → get_or (heads_in s (get_or (text_runs lim) k no_run)) (r * suc (get_or (text_runs lim) k no_run).own + (get_or (text_runs lim) k no_run).own) 0 ≡ length us
  row_length = run_length s w (text_runs lim) (text_tables t) all_moved

  -- WORK-SUM-IS: the sum of the texts, read from a working copy
  pub work_sum_is : work_sum lim w ≡ text_sum t
  work_sum_is = ap (λ (i : ℕ). 2 * i) (runs_placed s w (text_runs lim) (text_tables t) all_moved)

  -- TABLE-SUM-IS: and that of one table
  pub table_sum_is : (k : ℕ) → k < 8 → run_sum w (get_or (text_runs lim) k no_run) ≡ table_sum (get_or (text_tables t) k [])
  table_sum_is k h = ap (λ (i : ℕ). 2 * i) (run_placed s w (text_runs lim) (text_tables t) all_moved k h)

  -- table k's heads are what its slots keep beside the texts, and the units that stand there
  saved_heads : (k : ℕ) → k < 8 → saved_run lim w k ≡ heads_in s (get_or (text_runs lim) k no_run)
  saved_heads k h = run_heads s w (text_runs lim) (text_tables t) all_moved k h

  -- the area is what stands in the places for texts, and zeros
  saved_texts : saved_area lim a w ≡ area a (texts_of t)
  saved_texts = ap (pad 0 a) (run_texts s w (text_runs lim) (text_tables t) all_moved)

  -- where the texts fit, table k's slots are its heads and the units that stand in the area behind those that the heads before it count
  loaded_table : text_sum t ≤ a → (k : ℕ) → k < 8 → loaded_run lim a s k ≡ slots_in w (get_or (text_runs lim) k no_run)
  loaded_table room k h =
      let x : Run = get_or (text_runs lim) k no_run in
      let b : counted_before s (text_runs lim) k 0 ≡ units_of (texts_in (take k (text_tables t))) = omega (arith, row_place k 0 h (omega arith)) in
      let e : mid_of (heads_size lim) a s ≡ flat (map unit_bytes (texts_of t)) ++ replicate (a - text_sum t) 0 = shared_get lim a t ok 13 (omega arith) (heads_size lim) a (omega arith) refl ∙ area_is a (texts_of t) room in
      ap₂ (λ (i : ℕ) (l : List ℕ). spread x.own x.room x.many (heads_in s x) (drop (2 * i) l)) b e
      ∙ run_loads s w (text_runs lim) (text_tables t) all_moved (replicate (a - text_sum t) 0) k h

  -- ---- regions without texts

  -- the hash, the key, the home numbers and the system code
  abbrev pub fixed : List ℕ
  fixed = hash_bytes t.hash ++ (key_bytes t.key ++ (home_bytes t.home ++ system_bytes t.system))

  -- in front of any bytes
  pub fixed_front : (x : List ℕ) → hash_bytes t.hash ++ (key_bytes t.key ++ (home_bytes t.home ++ (system_bytes t.system ++ x))) ≡ fixed ++ x
  fixed_front x = sym (append_assoc (hash_bytes t.hash) (key_bytes t.key ++ (home_bytes t.home ++ system_bytes t.system)) x)

  -- are 22 bytes
  pub fixed_long : length fixed ≡ quick_at
  fixed_long = length-append (hash_bytes t.hash) (key_bytes t.key ++ (home_bytes t.home ++ system_bytes t.system)) ∙ ap (λ (i : ℕ). i + 11) (hash_code.long t.hash)

  fixed_taken : (x : List ℕ) → take quick_at (fixed ++ x) ≡ fixed
  fixed_taken x = take_at fixed x quick_at fixed_long

  -- of the store
  fixed_stored : mid_of 0 quick_at s ≡ fixed
  unfolding shared_layout
  fixed_stored = ap (take quick_at) (fixed_front _) ∙ fixed_taken _

  -- and of the working copy
  pub fixed_worked : mid_of 0 quick_at w ≡ fixed
  unfolding placed_layout
  fixed_worked = ap (take quick_at) (fixed_front _) ∙ fixed_taken _

  -- ---- the whole

  -- SAVED-STORE: what a working copy of the tables is saved as is their store
  pub saved_store : saved lim a w ≡ s
  unfolding shared_layout
  saved_store =
      let f = fixed_worked in
      let q = saved_heads 0 (omega arith) ∙ shared_get lim a t ok 4 (omega arith) quick_at quick_heads_size refl refl in
      let p = saved_heads 1 (omega arith) ∙ shared_get lim a t ok 5 (omega arith) status_heads_at status_heads_size refl refl in
      let g = saved_heads 2 (omega arith) ∙ shared_get lim a t ok 6 (omega arith) group_heads_at member_heads_size refl refl in
      let v = saved_heads 3 (omega arith) ∙ shared_get lim a t ok 7 (omega arith) individual_heads_at member_heads_size refl refl in
      let d = saved_heads 4 (omega arith) ∙ shared_get lim a t ok 8 (omega arith) line_slot_heads_at line_slot_heads_size refl refl in
      let j = groups_worked.0 in
      let e = saved_heads 5 (omega arith) ∙ groups_stored.1 in
      let k = individuals_worked.0 in
      let u = saved_heads 6 (omega arith) ∙ individuals_stored.1 in
      let c = region_get lim t ok 11 (omega arith) channels_at (channels_size lim) refl refl in
      let m = lines_worked.0.0 in
      let l = saved_heads 7 (omega arith) ∙ lines_stored.0.1 in
      let o = lines_worked.1 in
      rebuilt f q p g v d j e k u c m l o (ap (λ (x : List ℕ). x ∷ replicate (lim.size - shared_size lim a) 0 ∷ []) saved_texts) ∙ sym (fixed_front _)

  -- LOADED-WORK: what the store of tables whose texts fit is loaded as is a working copy of them
  pub loaded_work : text_sum t ≤ a → loaded lim a s ≡ w
  unfolding placed_layout
  loaded_work room =
      let f = fixed_stored in
      let q = loaded_table room 0 (omega arith) ∙ region_get lim t ok 4 (omega arith) quick_at quick_size refl refl in
      let p = loaded_table room 1 (omega arith) ∙ region_get lim t ok 5 (omega arith) status_at status_size refl refl in
      let g = loaded_table room 2 (omega arith) ∙ region_get lim t ok 6 (omega arith) groups_at member_size refl refl in
      let v = loaded_table room 3 (omega arith) ∙ region_get lim t ok 7 (omega arith) individuals_at member_size refl refl in
      let d = loaded_table room 4 (omega arith) ∙ region_get lim t ok 8 (omega arith) line_slots_at line_slots_size refl refl in
      let j = groups_stored.0 in
      let e = loaded_table room 5 (omega arith) ∙ groups_worked.1 in
      let k = individuals_stored.0 in
      let u = loaded_table room 6 (omega arith) ∙ individuals_worked.1 in
      let c = shared_get lim a t ok 11 (omega arith) shared_channels_at (channels_size lim) refl refl in
      let m = lines_stored.0.0 in
      let l = loaded_table room 7 (omega arith) ∙ lines_worked.0.1 in
      let o = lines_stored.1 in
      let z : List (List ℕ) = replicate (lim.size - used_size lim) 0 ∷ [] in
      rebuilt {z = z} f q p g v d j e k u c m l o refl ∙ sym (fixed_front _)
