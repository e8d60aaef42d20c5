-- A working copy of part of the tables: what was not loaded is 0, as in a fresh set. Assumes nothing.
use Rattle.lists.proofs.Kit.{ℕ, suc, ◌+◌, ◌-◌, ◌*◌, ◌≤◌, ◌<◌, ◌≡◌, refl, sym, ap, ap₂, ◌∙◌, Bool, true, false, cond, or-true, List, [], ◌∷◌, ◌++◌, map, append_assoc, append-nil, none, arith, put_mid, mid_of, length, take, drop, get_or, set, replicate, length-append, length-replicate, length-take-le, length-drop, replicate-append-replicate}
use Rattle.slots.specs.Slots.{flat, places, u16, sum}
use Rattle.slots.proofs.Pads.{pad_nil}
use Rattle.slots.proofs.Parts.{flat_zeros, parts_put, parts_one}
use Rattle.slots.proofs.Tables.{places_nil}
use Rattle.writing.specs.declared.Kind.{Kind}
use Rattle.writing.specs.declared.Kind.TheVariants.{GroupContacts, IndividualContacts, Lines, Key, QuickTexts, Home, Channels, System, StatusTexts, Group, Individual, LineSlot, Last}
use Rattle.tables.specs.declared.limits.Limits.{Limits}
use Rattle.tables.specs.Allowed.{Allowed}
use Rattle.tables.specs.Forms.{Roomy}
use Rattle.tables.specs.Heads.{line_own}
use Rattle.tables.specs.Layout.{count_size, counted, ordered, regions, placed_layout, used_size, hash_bytes, key_bytes, home_bytes, system_bytes, quick_bytes, status_bytes, group_bytes, individual_bytes, line_bytes, quick_width, status_width, member_width, channel_width, line_width, quick_size, status_size, member_size, line_slots_size, contacts_size, channels_size, lines_size, quick_at, channels_at}
use Rattle.tables.specs.Limits.{placed, quick_places, status_places, slot_places, contact_places}
use Rattle.tables.specs.Owns.{only}
use Rattle.tables.specs.SharedLayout.{heads_size, group_contact_heads_at, individual_contact_heads_at, shared_channels_at, line_heads_at, shared_layout}
use Rattle.tables.specs.Tables.{Tables, fresh}
use Rattle.tables.proofs.FixedCodes.{hash_code}
use Rattle.tables.proofs.FreshLaws.{list_zeros}
use Rattle.tables.proofs.LayoutLaws.{regions_wide}
use Rattle.shared_texts.specs.Moves.{loaded_run, loaded}
use Rattle.shared_texts.specs.Shared.{SharedOk}
use Rattle.shared_texts.proofs.WorkLaws.{loaded_work}
use Rattle.working.specs.PartLoading.{table_at, table_size, table_of, kind_put, KindLoaded}
use Rattle.working.specs.Parts.{copied?, part_of, PartLoaded}
use Rattle.working.specs.Runs.{heads_end, run_of}
use Rattle.working.proofs.LoadedLaws.{texts_stand}
use Rattle.working.proofs.PartLoadTables.{table_long}

-- ---- the bytes as parts: what stands before all texts, the tables, and what no table uses

abbrev part_widths : Limits → List ℕ
part_widths lim =
    quick_at ∷ quick_size ∷ status_size ∷ member_size ∷ member_size ∷ line_slots_size ∷ contacts_size ∷ contacts_size ∷ channels_size lim ∷ lines_size lim ∷ (lim.size - used_size lim) ∷ []

-- of tables
abbrev fixed : Tables → List ℕ
fixed t = hash_bytes t.hash ++ (key_bytes t.key ++ (home_bytes t.home ++ system_bytes t.system))

abbrev parts : Limits → Tables → List (List ℕ)
parts lim t = fixed t ∷ drop 4 (regions lim t)

parts_flat : (lim : Limits) (t : Tables) → flat (parts lim t) ≡ placed_layout lim t
unfolding placed_layout
parts_flat lim t = append_assoc (hash_bytes t.hash) (key_bytes t.key ++ (home_bytes t.home ++ system_bytes t.system)) (flat (drop 4 (regions lim t)))

fixed_long : (t : Tables) → length (fixed t) ≡ quick_at
fixed_long t = length-append (hash_bytes t.hash) (key_bytes t.key ++ (home_bytes t.home ++ system_bytes t.system)) ∙ ap (λ (i : ℕ). i + 11) (hash_code.long t.hash)

parts_wide : (lim : Limits) (t : Tables) → Allowed (placed lim) t → map length (parts lim t) ≡ part_widths lim
parts_wide lim t ok = ap₂ (λ (n : ℕ) (l : List ℕ). n ∷ l) (fixed_long t) (ap (drop 4) (regions_wide lim t ok))

-- of a store
abbrev pieces : Limits → ℕ → List ℕ → List (List ℕ)
pieces lim a s =
    mid_of 0 quick_at s
    ∷ table_of lim a s 0
    ∷ table_of lim a s 1
    ∷ table_of lim a s 2
    ∷ table_of lim a s 3
    ∷ table_of lim a s 4
    ∷ table_of lim a s 5
    ∷ table_of lim a s 6
    ∷ mid_of shared_channels_at (channels_size lim) s
    ∷ table_of lim a s 7
    ∷ replicate (lim.size - used_size lim) 0
    ∷ []

-- tables without a count or an order among them
gathered : (f q p g v d j e k u c m l o z : List ℕ)
    → flat (f ∷ (q ++ []) ∷ (p ++ []) ∷ (g ++ []) ∷ (v ++ []) ∷ (d ++ []) ∷ (j ++ (e ++ [])) ∷ (k ++ (u ++ [])) ∷ c ∷ (m ++ (l ++ o)) ∷ z ∷ []) ≡ flat (f ∷ q ∷ p ∷ g ∷ v ∷ d ∷ j ∷ e ∷ k ∷ u ∷ c ∷ m ∷ l ∷ o ∷ z ∷ [])
gathered f q p g v d j e k u c m l o z = simp (append_assoc, append-nil)

module _ (lim : Limits) (a : ℕ) (s : List ℕ) where
  -- the count and the order of the lines
  lines_parts : table_of lim a s 7 ≡ mid_of (line_heads_at lim) count_size s ++ (loaded_run lim a s 7 ++ mid_of (line_heads_at lim + (count_size + lim.lines * suc line_own)) lim.lines s)
  lines_parts =
      let i : line_heads_at lim + count_size - count_size ≡ line_heads_at lim = omega arith in
      let j : heads_end (run_of lim 7) ≡ line_heads_at lim + (count_size + lim.lines * suc line_own) = omega arith in
      ap₂ (λ (p q : ℕ). mid_of p count_size s ++ (loaded_run lim a s 7 ++ mid_of q lim.lines s)) i j

  pieces_flat : flat (pieces lim a s) ≡ loaded lim a s
  pieces_flat =
      (λ i.
      flat (
      mid_of 0 quick_at s ∷ table_of lim a s 0 ∷ table_of lim a s 1 ∷ table_of lim a s 2 ∷ table_of lim a s 3 ∷ table_of lim a s 4 ∷ table_of lim a s 5 ∷ table_of lim a s 6
      ∷ mid_of shared_channels_at (channels_size lim) s ∷ lines_parts i ∷ replicate (lim.size - used_size lim) 0 ∷ []))
      ∙ gathered (mid_of 0 quick_at s) (loaded_run lim a s 0) (loaded_run lim a s 1) (loaded_run lim a s 2) (loaded_run lim a s 3) (loaded_run lim a s 4) (mid_of group_contact_heads_at count_size s) (loaded_run lim a s 5) (mid_of individual_contact_heads_at count_size s) (loaded_run lim a s 6)
      (mid_of shared_channels_at (channels_size lim) s) (mid_of (line_heads_at lim) count_size s) (loaded_run lim a s 7) (mid_of (line_heads_at lim + (count_size + lim.lines * suc line_own)) lim.lines s) (replicate (lim.size - used_size lim) 0)

  pieces_wide : heads_size lim ≤ length s → map length (pieces lim a s) ≡ part_widths lim
  pieces_wide l =
      let wide : (k : ℕ) → k < 8 → length (table_of lim a s k) ≡ table_size lim k = λ k h. table_long lim a s k h l in
      let f = length-take-le quick_at s (omega arith) in
      let q = wide 0 (omega arith) in
      let p = wide 1 (omega arith) in
      let g = wide 2 (omega arith) in
      let v = wide 3 (omega arith) in
      let d = wide 4 (omega arith) in
      let e = wide 5 (omega arith) in
      let u = wide 6 (omega arith) in
      let c : length (mid_of shared_channels_at (channels_size lim) s) ≡ channels_size lim = length-take-le (channels_size lim) (drop shared_channels_at s) (omega (arith, length-drop shared_channels_at s)) in
      let n : table_size lim 7 ≡ lines_size lim = omega arith in
      let m = wide 7 (omega arith) ∙ n in
      let z = length-replicate {A = ℕ} (lim.size - used_size lim) 0 in
      (λ i. f i ∷ q i ∷ p i ∷ g i ∷ v i ∷ d i ∷ e i ∷ u i ∷ c i ∷ m i ∷ z i ∷ [])

-- PIECES: those of a store of tables are those of their working copy
pieces_are : (lim : Limits) (a : ℕ) (t : Tables) → SharedOk lim a t → heads_size lim ≤ length (shared_layout lim a t) → pieces lim a (shared_layout lim a t) ≡ parts lim t
pieces_are lim a t ok l =
    let s : List ℕ = shared_layout lim a t in
    parts_one (pieces lim a s) (parts lim t) (pieces_wide lim a s l ∙ sym (parts_wide lim t ok.allowed)) (pieces_flat lim a s ∙ loaded_work lim a t ok.allowed ok.room ∙ sym (parts_flat lim t))

-- zeros, with hash, key, home and system in front, which stand there in a store too
abbrev fixed_copy : Limits → List ℕ → List ℕ
fixed_copy lim s = put_mid 0 quick_at (replicate lim.size 0) (mid_of 0 quick_at s)

-- ---- tables of a fresh set among them

-- a table or an empty one, as bytes
either : {A : Type 0} (b : Bool) (f : A → List ℕ) (x y : A) (z : List ℕ) → f y ≡ z → f (cond b x y) ≡ cond b (f x) z
either true f x y z e = refl
either false f x y z e = e

-- no line, and its order
lines_zeros : (n : ℕ) → ordered n [] ≡ replicate (count_size + n * line_width + n) 0
lines_zeros n = ap₂ (λ (x y : List ℕ). x ++ y) (list_zeros line_width line_bytes n) (pad_nil 0 n) ∙ replicate-append-replicate (count_size + n * line_width) n 0

-- what stands before all texts is loaded for any kind
fixed_kept : (k : Kind) (t : Tables) → fixed (part_of k t) ≡ fixed t
fixed_kept k t =
    (λ i.
    hash_bytes (cond (or-true (only k Last) i) t.hash fresh.hash)
    ++ (key_bytes (cond (or-true (only k Key) i) t.key fresh.key) ++ (home_bytes (cond (or-true (only k Home) i) t.home fresh.home) ++ system_bytes (cond (or-true (only k System) i) t.system fresh.system))))

-- the others are there or are zeros
abbrev kept : Limits → Kind → Tables → List (List ℕ)
kept lim k t =
    fixed t
    ∷ cond (copied? k QuickTexts) (places quick_width quick_bytes t.quick) (replicate quick_size 0)
    ∷ cond (copied? k StatusTexts) (places status_width status_bytes t.status) (replicate status_size 0)
    ∷ cond (copied? k Group) (places member_width group_bytes t.groups) (replicate member_size 0)
    ∷ cond (copied? k Individual) (places member_width individual_bytes t.individuals) (replicate member_size 0)
    ∷ cond (copied? k LineSlot) (places line_width line_bytes t.line_slots) (replicate line_slots_size 0)
    ∷ cond (copied? k GroupContacts) (counted member_width group_bytes contact_places t.group_contacts) (replicate contacts_size 0)
    ∷ cond (copied? k IndividualContacts) (counted member_width individual_bytes contact_places t.individual_contacts) (replicate contacts_size 0)
    ∷ cond (copied? k Channels) (counted channel_width u16 lim.channels t.channels) (replicate (channels_size lim) 0)
    ∷ cond (copied? k Lines) (ordered lim.lines t.lines) (replicate (lines_size lim) 0)
    ∷ replicate (lim.size - used_size lim) 0
    ∷ []

parts_kept : (lim : Limits) (k : Kind) (t : Tables) → parts lim (part_of k t) ≡ kept lim k t
parts_kept lim k t =
    let f = fixed_kept k t in
    let q = either (copied? k QuickTexts) (places quick_width quick_bytes) t.quick (replicate quick_places none) (replicate quick_size 0) (places_nil quick_width quick_bytes quick_places) in
    let p = either (copied? k StatusTexts) (places status_width status_bytes) t.status (replicate status_places none) (replicate status_size 0) (places_nil status_width status_bytes status_places) in
    let g = either (copied? k Group) (places member_width group_bytes) t.groups (replicate slot_places none) (replicate member_size 0) (places_nil member_width group_bytes slot_places) in
    let v = either (copied? k Individual) (places member_width individual_bytes) t.individuals (replicate slot_places none) (replicate member_size 0) (places_nil member_width individual_bytes slot_places) in
    let d = either (copied? k LineSlot) (places line_width line_bytes) t.line_slots (replicate slot_places none) (replicate line_slots_size 0) (places_nil line_width line_bytes slot_places) in
    let e = either (copied? k GroupContacts) (counted member_width group_bytes contact_places) t.group_contacts [] (replicate contacts_size 0) (list_zeros member_width group_bytes contact_places) in
    let u = either (copied? k IndividualContacts) (counted member_width individual_bytes contact_places) t.individual_contacts [] (replicate contacts_size 0) (list_zeros member_width individual_bytes contact_places) in
    let c = either (copied? k Channels) (counted channel_width u16 lim.channels) t.channels [] (replicate (channels_size lim) 0) (list_zeros channel_width u16 lim.channels) in
    let m = either (copied? k Lines) (ordered lim.lines) t.lines [] (replicate (lines_size lim) 0) (lines_zeros lim.lines) in
    (λ i. f i ∷ q i ∷ p i ∷ g i ∷ v i ∷ d i ∷ e i ∷ u i ∷ c i ∷ m i ∷ replicate (lim.size - used_size lim) 0 ∷ [])

-- ---- one table put among zeros

abbrev zeros : List ℕ → List (List ℕ)
zeros ws = map (λ w. replicate w 0) ws

zeros_wide : (ws : List ℕ) → map length (zeros ws) ≡ ws
zeros_wide [] = refl
zeros_wide (w ∷ ws) = ap₂ (λ (n : ℕ) (l : List ℕ). n ∷ l) (length-replicate w 0) (zeros_wide ws)

module _ (lim : Limits) (a : ℕ) (t : Tables) (roomy : Roomy lim) (ok : SharedOk lim a t) (long : heads_size lim ≤ length (shared_layout lim a t)) where
  abbrev stored : List (List ℕ)
  stored = pieces lim a (shared_layout lim a t)

  -- zeros behind what stands before all texts
  front_put : flat (set (zeros (part_widths lim)) 0 (fixed t)) ≡ fixed_copy lim (shared_layout lim a t)
  front_put =
      let e : sum (part_widths lim) ≡ lim.size = omega (arith, roomy.fits) in
      let z : flat (zeros (part_widths lim)) ≡ replicate lim.size 0 = flat_zeros (part_widths lim) ∙ ap (λ (n : ℕ). replicate n 0) e in
      sym (parts_put (zeros (part_widths lim)) (part_widths lim) (zeros_wide (part_widths lim)) 0 (omega arith) (fixed t))
      ∙ ap₂ (λ (w : List ℕ) (l : List (List ℕ)). put_mid 0 quick_at w (get_or l 0 [])) z (sym (pieces_are lim a t ok long))

  -- part j behind it
  table_put_at : (k : Kind) (j : ℕ) → j < 11 → (at n : ℕ) → at ≡ sum (take j (part_widths lim)) → n ≡ get_or (part_widths lim) j 0
      → kept lim k t ≡ set (set (zeros (part_widths lim)) 0 (fixed t)) j (get_or (parts lim t) j [])
      → put_mid at n (fixed_copy lim (shared_layout lim a t)) (get_or stored j []) ≡ placed_layout lim (part_of k t)
  table_put_at k j h at n p q e =
      let f : List (List ℕ) = set (zeros (part_widths lim)) 0 (fixed t) in
      let wide : map length f ≡ part_widths lim = ap₂ (λ (i : ℕ) (l : List ℕ). i ∷ l) (fixed_long t) (zeros_wide (drop 1 (part_widths lim))) in
      (λ i. put_mid (p i) (q i) (sym front_put i) (get_or (pieces_are lim a t ok long i) j []))
      ∙ parts_put f (part_widths lim) wide j h (get_or (parts lim t) j [])
      ∙ ap flat (sym (parts_kept lim k t ∙ e)) ∙ parts_flat lim (part_of k t)

  -- no table behind it
  front_alone : (k : Kind) → kept lim k t ≡ set (zeros (part_widths lim)) 0 (fixed t) → fixed_copy lim (shared_layout lim a t) ≡ placed_layout lim (part_of k t)
  front_alone k e = sym front_put ∙ ap flat (sym (parts_kept lim k t ∙ e)) ∙ parts_flat lim (part_of k t)

  -- KIND PUT: the table of a kind
  kind_put_is : (k : Kind) → kind_put lim a (shared_layout lim a t) k (fixed_copy lim (shared_layout lim a t)) ≡ placed_layout lim (part_of k t)
  kind_put_is QuickTexts = table_put_at QuickTexts 1 (omega arith) (table_at lim 0) (table_size lim 0) refl refl refl
  kind_put_is StatusTexts = table_put_at StatusTexts 2 (omega arith) (table_at lim 1) (table_size lim 1) refl refl refl
  kind_put_is Group = table_put_at Group 3 (omega arith) (table_at lim 2) (table_size lim 2) refl refl refl
  kind_put_is Individual = table_put_at Individual 4 (omega arith) (table_at lim 3) (table_size lim 3) refl refl refl
  kind_put_is LineSlot = table_put_at LineSlot 5 (omega arith) (table_at lim 4) (table_size lim 4) refl refl refl
  kind_put_is GroupContacts = table_put_at GroupContacts 6 (omega arith) (table_at lim 5) (table_size lim 5) refl refl refl
  kind_put_is IndividualContacts = table_put_at IndividualContacts 7 (omega arith) (table_at lim 6) (table_size lim 6) refl refl refl
  kind_put_is Channels = table_put_at Channels 8 (omega arith) channels_at (channels_size lim) refl refl refl
  kind_put_is Lines = table_put_at Lines 9 (omega arith) (table_at lim 7) (table_size lim 7) (omega arith) (omega arith) refl
  kind_put_is Last = front_alone Last refl
  kind_put_is Key = front_alone Key refl
  kind_put_is Home = front_alone Home refl
  kind_put_is System = front_alone System refl

-- PART LOADED: zeros, what stands before all texts, and the table of a kind
pub part_loaded : (lim : Limits) (a : ℕ) (k : Kind) (s w v u : List ℕ) → v ≡ put_mid 0 quick_at w (mid_of 0 quick_at s) → KindLoaded lim a s k v u → PartLoaded lim a k s w u
unfolding KindLoaded
part_loaded lim a k s w v u g f l o t roomy shared ok b =
    let e : v ≡ fixed_copy lim s = g ∙ ap (λ (x : List ℕ). put_mid 0 quick_at x (mid_of 0 quick_at s)) l in
    let long : heads_size lim ≤ length (shared_layout lim a t) = omega (arith, ap length b, shared.fits) in
    f (texts_stand lim a s t ok b) ∙ ap₂ (λ (x y : List ℕ). kind_put lim a x k y) b (e ∙ ap (fixed_copy lim) b) ∙ kind_put_is lim a t roomy ok long k
