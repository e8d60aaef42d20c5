-- The store whose texts share one area: its length, that it is bytes, that equal bytes are equal tables, and which bytes are one. Assumes nothing.
use Rattle.lists.proofs.Kit.{ℕ, suc, ◌+◌, ◌*◌, ◌-◌, ◌≤◌, ◌<◌, ◌≡◌, refl, sym, ap, ap₂, ◌∙◌, subst, subst₂, true, ◌↔◌, List, [], ◌∷◌, ◌++◌, map, map-map, append-nil, none, some, arith, mid_of, length, take, drop, get_or, replicate, length-map}
use Rattle.lists.specs.Bytes.{Bytes}
use Rattle.lists.proofs.Bytes.{bytes_append}
use Rattle.lists.proofs.Every.{all_map}
use Rattle.slots.specs.Slots.{flat, places, front, u16, zeros?, EntryOf}
use Rattle.slots.proofs.Codes.{Code}
use Rattle.slots.proofs.Pads.{pad_length}
use Rattle.slots.proofs.Parts.{flat_append}
use Rattle.orders.specs.Orders.{order}
use Rattle.orders.specs.OrderParts.{order_bytes}
use Rattle.writing.specs.Ranges.{InChannel}
use Rattle.writing.specs.Settings.{Text}
use Rattle.tables.specs.declared.limits.Limits.{Limits}
use Rattle.tables.specs.declared.members.Members.TheVariants.{OfGroups, OfIndividuals}
use Rattle.tables.specs.Allowed.{Allowed, HashOk, TargetOk, HomeOk, SystemOk, LineOk, PlacesOk, ListOk, KeyedOk}
use Rattle.tables.specs.Layout.{counted, hash_bytes, key_bytes, home_bytes, system_bytes, hash_size, key_size, home_size, system_size, key_at, home_at, system_at, quick_at, channel_width, channels_size, count_size}
use Rattle.tables.specs.Limits.{placed, quick_places, status_places, slot_places, contact_places}
use Rattle.tables.specs.MemberKinds.{contact_key}
use Rattle.tables.specs.Order.{sorting, line_order}
use Rattle.tables.specs.Tables.{Tables, Line, Key, line_key}
use Rattle.tables.proofs.EntryBytes.{channel_are_bytes, hash_are_bytes, key_are_bytes, home_are_bytes, system_are_bytes}
use Rattle.tables.proofs.EntryCodes.{channel_code, channel_shown}
use Rattle.tables.proofs.FixedCodes.{hash_code, key_code, home_code, system_code}
use Rattle.tables.proofs.LayoutLaws.{list_wide, list_bytes, list_table_one}
use Rattle.tables.proofs.OrderLaws.{distinct_made, order_are_bytes}
use Rattle.tables.specs.Heads.{HeadOfLine, text_halves, line_halves, member_halves, head_key, group_head_key, individual_head_key, head_order, QuickHeadOk, StatusHeadOk, GroupHeadOk, IndividualHeadOk, LineHeadOk, quick_head, status_head, line_head, group_head, individual_head, ordered_heads, quick_own, status_own, member_own, line_own}
use Rattle.shared_texts.specs.Regions.{Region, last_bytes, whole, Stand, units_from}
use Rattle.tables.specs.SharedLayout.{quick_heads_size, status_heads_size, member_heads_size, line_slot_heads_size, contact_heads_size, line_heads_size, status_heads_at, group_heads_at, individual_heads_at, line_slot_heads_at, group_contact_heads_at, individual_contact_heads_at, shared_channels_at, line_heads_at, heads_size, shared_size, head_regions, shared_layout, text_start}
use Rattle.shared_texts.specs.Shared.{SharedRoomy, SharedOk, IsShared, stored_units, channels_region, line_list, lines_region, store_regions, SharedChecks}
use Rattle.tables.specs.Texts.{text_tables, present, texts_in, texts_of, units_of, unit_bytes, area, AreaFilled}
use Rattle.shared_texts.proofs.HeadCodes.{quick_kept, status_kept, line_kept, group_kept, individual_kept}
use Rattle.shared_texts.proofs.RegionLaws.{Lawful, AllLawful, AreBytes, AllBytes, plain_lawful, table_lawful, table_bytes, list_lawful, list_are_bytes, followed_lawful, whole_lawful, whole_bytes}
use Rattle.shared_texts.proofs.Rows.{places_map, front_map}
use Rattle.shared_texts.proofs.StandLaws.{mid_first, mid_after}
use Rattle.shared_texts.proofs.StoreLaws.{stored, Fits, stored_length, stored_bytes, stored_one, stored_text, regions_store}
use Rattle.shared_texts.proofs.Sums.{before_units, row_split, texts_behind, units_append}

-- ---- lines in order

-- a line that has a head and no text
abbrev empty : HeadOfLine → Line
empty h = line_halves.join h []

-- heads are ordered as their lines are
heads_order : (ls : List Line) → head_order (map line_halves.head ls) ≡ line_order ls
heads_order ls = ap order (map-map (λ h. sorting (head_key h)) line_halves.head ls)

-- and as lines that have no text
empty_order : (hs : List HeadOfLine) → line_order (map empty hs) ≡ head_order hs
empty_order hs = ap order (map-map (λ l. sorting (line_key l)) empty hs)

-- so their order is bytes
order_small : (n : ℕ) (hs : List HeadOfLine) → n ≤ 255 → KeyedOk LineHeadOk head_key n hs → Bytes (order_bytes n (head_order hs))
order_small n hs few p =
    let ok = all_map LineHeadOk LineOk empty (λ h q. q.entry) hs p.0.1 in
    let d = (distinct_made LineHeadOk empty line_key head_key (λ a b q r. (λ e. e, λ e. e)) hs p.0.1).1 p.1 in
    subst (λ (ps : List ℕ). Bytes (order_bytes n ps)) (empty_order hs) (order_are_bytes n (map empty hs) (omega (arith, length-map hs empty, p.0.0)) ok d)

-- ---- every region has the laws

-- the channels' bytes tell them
channels_code : (n : ℕ) → Code (ListOk InChannel n) (count_size + n * channel_width) (counted channel_width u16 n)
channels_code n = record { long = list_wide channel_code n; one = λ cs ds p q e. list_table_one channel_code channel_shown p q e }

channels_bytes : (n : ℕ) → n < 65536 → AreBytes (channels_region n)
channels_bytes n few cs p = list_bytes InChannel channel_width u16 channel_are_bytes n cs few p

-- the lines and their order
lines_lawful : (n : ℕ) → Lawful (lines_region n)
lines_lawful n = followed_lawful (line_list n) n (λ hs. order_bytes n (head_order hs)) (list_lawful line_kept n line_key head_key (λ l. refl)) (λ hs. pad_length 0 n (map suc (head_order hs)))

lines_bytes : (n : ℕ) → n ≤ 255 → AreBytes (lines_region n)
lines_bytes n few hs p =
    bytes_append (counted (suc line_own) line_head n hs) (order_bytes n (head_order hs)) (list_are_bytes line_kept n line_key head_key (λ l. refl) (omega arith) hs p) (order_small n hs few p)

-- STORE-LAWFUL: all of them
pub store_lawful : (lim : Limits) → AllLawful (store_regions lim)
store_lawful lim =
    let hash = plain_lawful HashOk hash_size hash_bytes hash_code in
    let key = plain_lawful (λ (k : Key). TargetOk k.target) key_size key_bytes key_code in
    let home = plain_lawful HomeOk home_size home_bytes home_code in
    let system = plain_lawful SystemOk system_size system_bytes system_code in
    let quick = table_lawful quick_kept quick_places in
    let status = table_lawful status_kept status_places in
    let groups = table_lawful group_kept slot_places in
    let individuals = table_lawful individual_kept slot_places in
    let line_slots = table_lawful line_kept slot_places in
    let group_contacts = list_lawful group_kept contact_places (contact_key OfGroups) group_head_key (λ g. refl) in
    let individual_contacts = list_lawful individual_kept contact_places (contact_key OfIndividuals) individual_head_key (λ i. refl) in
    let channels = plain_lawful (ListOk InChannel lim.channels) (channels_size lim) (counted channel_width u16 lim.channels) (channels_code lim.channels) in
    (hash, (key, (home, (system, (quick, (status, (groups, (individuals, (line_slots, (group_contacts, (individual_contacts, (channels, (lines_lawful lim.lines, tt)))))))))))))

-- STORE-BYTES: and is bytes, where counts fit two bytes and positions one
pub store_bytes : (lim : Limits) → lim.channels < 65536 → lim.lines ≤ 255 → AllBytes (store_regions lim)
store_bytes lim few_channels few_lines =
    let quick = table_bytes quick_kept quick_places in
    let status = table_bytes status_kept status_places in
    let groups = table_bytes group_kept slot_places in
    let individuals = table_bytes individual_kept slot_places in
    let line_slots = table_bytes line_kept slot_places in
    let group_contacts = list_are_bytes group_kept contact_places (contact_key OfGroups) group_head_key (λ g. refl) (omega arith) in
    let individual_contacts = list_are_bytes individual_kept contact_places (contact_key OfIndividuals) individual_head_key (λ i. refl) (omega arith) in
    let channels = channels_bytes lim.channels few_channels in
    let lines = lines_bytes lim.lines few_lines in
    (hash_are_bytes, (key_are_bytes, (home_are_bytes, (system_are_bytes, (quick, (status, (groups, (individuals, (line_slots, (group_contacts, (individual_contacts, (channels, (lines, tt)))))))))))))

-- ---- tables as regions

-- eight numbers among thirteen
units_regrouped : (a b c d e f g h : ℕ) → 0 + (0 + (0 + (0 + (a + (b + (c + (d + (e + (f + (g + (0 + (h + 0)))))))))))) ≡ a + (b + (c + (d + (e + (f + (g + (h + 0)))))))
units_regrouped a b c d e f g h = omega arith

-- the list of entries' heads, made of heads and made of entries
counted_map : {A H : Type 0} (w : ℕ) (f : H → List ℕ) (g : A → H) (n : ℕ) (xs : List A) → counted w (λ x. f (g x)) n xs ≡ counted w f n (map g xs)
counted_map w f g n xs =
    ap₂ (λ (i : ℕ) (l : List ℕ). u16 i ++ l) (sym (length-map xs g)) (sym (ap (places w f) (front_map g n xs) ∙ places_map w f g (front n xs)))

module _ (lim : Limits) where
  -- all regions as one
  abbrev all : Region
  all = whole (store_regions lim)

  -- and its laws
  all_lawful : Lawful all
  all_lawful = whole_lawful (store_regions lim) (store_lawful lim)

  -- the tables, region by region
  abbrev regions_of : Tables → all.Own
  regions_of t = (t.hash, (t.key, (t.home, (t.system, (t.quick, (t.status, (t.groups, (t.individuals, (t.line_slots, (t.group_contacts, (t.individual_contacts, (t.channels, (t.lines, tt)))))))))))))

  -- regions as tables
  abbrev tables_of : all.Own → Tables
  tables_of x =
      record {
        hash = x.0;
        key = x.1.0;
        home = x.1.1.0;
        system = x.1.1.1.0;
        quick = x.1.1.1.1.0;
        status = x.1.1.1.1.1.0;
        groups = x.1.1.1.1.1.1.0;
        individuals = x.1.1.1.1.1.1.1.0;
        line_slots = x.1.1.1.1.1.1.1.1.0;
        group_contacts = x.1.1.1.1.1.1.1.1.1.0;
        individual_contacts = x.1.1.1.1.1.1.1.1.1.1.0;
        channels = x.1.1.1.1.1.1.1.1.1.1.1.0;
        lines = x.1.1.1.1.1.1.1.1.1.1.1.1.0;
      }

  -- allowed tables are regions as they have to be
  regions_ok : (t : Tables) → Allowed (placed lim) t → all.Ok (regions_of t)
  regions_ok t p =
      let g = p.distinct_groups in
      let i = p.distinct_individuals in
      (p.hash, (p.key, (p.home, (p.system, (p.quick, (p.status, (p.groups, (p.individuals, (p.line_slots, ((p.group_contacts, g), ((p.individual_contacts, i), (p.channels, ((p.lines, p.distinct), tt)))))))))))))

  -- and such regions are allowed tables
  tables_ok : (x : all.Own) → all.Ok x → Allowed (placed lim) (tables_of x)
  tables_ok x p =
      record {
        hash = p.0;
        key = p.1.0;
        home = p.1.1.0;
        system = p.1.1.1.0;
        quick = p.1.1.1.1.0;
        status = p.1.1.1.1.1.0;
        groups = p.1.1.1.1.1.1.0;
        individuals = p.1.1.1.1.1.1.1.0;
        line_slots = p.1.1.1.1.1.1.1.1.0;
        group_contacts = p.1.1.1.1.1.1.1.1.1.0.0;
        distinct_groups = p.1.1.1.1.1.1.1.1.1.0.1;
        individual_contacts = p.1.1.1.1.1.1.1.1.1.1.0.0;
        distinct_individuals = p.1.1.1.1.1.1.1.1.1.1.0.1;
        channels = p.1.1.1.1.1.1.1.1.1.1.1.0;
        lines = p.1.1.1.1.1.1.1.1.1.1.1.1.0.0;
        distinct = p.1.1.1.1.1.1.1.1.1.1.1.1.0.1;
        texts = tt;
      }

  -- the texts are those of the regions
  texts_are : (t : Tables) → texts_of t ≡ all.texts (regions_of t)
  texts_are t = refl

  -- the heads' bytes are those of the regions' heads
  heads_are : (t : Tables) → flat (head_regions lim t) ≡ all.bytes (all.head (regions_of t))
  heads_are t =
      let q = sym (places_map 1 quick_head text_halves.head t.quick) in
      let s = sym (places_map 2 status_head text_halves.head t.status) in
      let g = sym (places_map 5 group_head member_halves.head t.groups) in
      let v = sym (places_map 5 individual_head member_halves.head t.individuals) in
      let d = sym (places_map 21 line_head line_halves.head t.line_slots) in
      let e = counted_map 5 group_head member_halves.head contact_places t.group_contacts in
      let f = counted_map 5 individual_head member_halves.head contact_places t.individual_contacts in
      let l = counted_map 21 line_head line_halves.head lim.lines t.lines in
      let o = sym (heads_order t.lines) in
      (λ i. flat (hash_bytes t.hash ∷ key_bytes t.key ∷ home_bytes t.home ∷ system_bytes t.system ∷ q i ∷ s i ∷ g i ∷ v i ∷ d i ∷ e i ∷ f i
      ∷ counted channel_width u16 lim.channels t.channels ∷ (l i ++ order_bytes lim.lines (o i)) ∷ []))

  -- the units that the regions count are those of the tables that have texts
  units_are : (s : List ℕ) → units_from (store_regions lim) 0 s ≡ stored_units lim s
  units_are s =
      let n : ℕ = lim.lines * suc line_own in
      let f : drop count_size (mid_of group_contact_heads_at contact_heads_size s) ≡ mid_of (group_contact_heads_at + count_size) 320 s = mid_after count_size 320 group_contact_heads_at s in
      let g : drop count_size (mid_of individual_contact_heads_at contact_heads_size s) ≡ mid_of (individual_contact_heads_at + count_size) 320 s = mid_after count_size 320 individual_contact_heads_at s in
      let h : drop count_size (take (count_size + n) (mid_of (line_heads_at lim) (line_heads_size lim) s)) ≡ mid_of (line_heads_at lim + count_size) n s
      = ap (drop count_size) (mid_first (count_size + n) lim.lines (line_heads_at lim) s) ∙ mid_after count_size n (line_heads_at lim) s in
      units_regrouped (last_bytes quick_own 64 (mid_of quick_at 64 s)) (last_bytes status_own 96 (mid_of status_heads_at 192 s)) (last_bytes member_own 16 (mid_of group_heads_at 80 s))
      (last_bytes member_own 16 (mid_of individual_heads_at 80 s)) (last_bytes line_own 16 (mid_of line_slot_heads_at 336 s)) _ _ _
      ∙ (λ i. sum_of s (last_bytes member_own 64 (f i)) (last_bytes member_own 64 (g i)) (last_bytes line_own lim.lines (h i)))
    where
      sum_of : List ℕ → ℕ → ℕ → ℕ → ℕ
      sum_of s x y z =
          last_bytes quick_own 64 (mid_of quick_at 64 s) + (last_bytes status_own 96 (mid_of status_heads_at 192 s) + (last_bytes member_own 16 (mid_of group_heads_at 80 s)
          + (last_bytes member_own 16 (mid_of individual_heads_at 80 s) + (last_bytes line_own 16 (mid_of line_slot_heads_at 336 s) + (x + (y + (z + 0)))))))

  -- HEADS-STAND: which heads have to stand where
  pub heads_stand : (s : List ℕ)
      → (EntryOf HashOk hash_bytes (mid_of 0 hash_size s)
      × (EntryOf (λ k. TargetOk k.target) key_bytes (mid_of key_at key_size s)
      × (EntryOf HomeOk home_bytes (mid_of home_at home_size s)
      × (EntryOf SystemOk system_bytes (mid_of system_at system_size s)
      × (EntryOf (PlacesOk QuickHeadOk quick_places) (places 1 quick_head) (mid_of quick_at quick_heads_size s)
      × (EntryOf (PlacesOk StatusHeadOk status_places) (places 2 status_head) (mid_of status_heads_at status_heads_size s)
      × (EntryOf (PlacesOk GroupHeadOk slot_places) (places 5 group_head) (mid_of group_heads_at member_heads_size s)
      × (EntryOf (PlacesOk IndividualHeadOk slot_places) (places 5 individual_head) (mid_of individual_heads_at member_heads_size s)
      × (EntryOf (PlacesOk LineHeadOk slot_places) (places 21 line_head) (mid_of line_slot_heads_at line_slot_heads_size s)
      × (EntryOf (KeyedOk GroupHeadOk group_head_key contact_places) (counted 5 group_head contact_places) (mid_of group_contact_heads_at contact_heads_size s)
      × (EntryOf (KeyedOk IndividualHeadOk individual_head_key contact_places) (counted 5 individual_head contact_places) (mid_of individual_contact_heads_at contact_heads_size s)
      × (EntryOf (ListOk InChannel lim.channels) (counted 2 u16 lim.channels) (mid_of shared_channels_at (channels_size lim) s)
      × (EntryOf (KeyedOk LineHeadOk head_key lim.lines) (ordered_heads lim.lines) (mid_of (line_heads_at lim) (line_heads_size lim) s)
      × Unit {0}))))))))))))) ↔ Stand (store_regions lim) 0 s
  heads_stand s = (λ x. x, λ x. x)

  -- the heads take their size
  heads_wide : all.wide ≡ heads_size lim
  heads_wide = omega arith

  module _ (a : ℕ) where
    -- the bytes behind the area
    abbrev spare : ℕ
    spare = lim.size - shared_size lim a

    -- the layout is the regions' store
    layout_stored : (t : Tables) → shared_layout lim a t ≡ stored all a spare (regions_of t)
    unfolding shared_layout
    layout_stored t =
        flat_append (head_regions lim t) (area a (texts_of t) ∷ replicate spare 0 ∷ [])
        ∙ ap₂ (λ (x y : List ℕ). x ++ (area a (texts_of t) ++ y)) (heads_are t) (append-nil (replicate spare 0))

    -- SHARED-LENGTH: where heads and texts fit, their bytes fill the store
    pub shared_length : (t : Tables) → SharedRoomy lim a → Allowed (placed lim) t → length (shared_layout lim a t) ≡ lim.size
    shared_length t r p =
        let e = stored_length all all_lawful a spare (regions_of t) (regions_ok t p) in
        ap length (layout_stored t) ∙ e ∙ size_is
      where
        size_is : all.wide + (a + spare) ≡ lim.size
        size_is = omega (arith, heads_wide, r.fits)

    -- SHARED-BYTES: they are bytes
    pub shared_bytes : (t : Tables) → SharedRoomy lim a → Allowed (placed lim) t → Bytes (shared_layout lim a t)
    shared_bytes t r p =
        subst Bytes (sym (layout_stored t)) (stored_bytes all all_lawful a spare (whole_bytes (store_regions lim) (store_bytes lim r.few_channels r.few_lines)) (regions_of t) (regions_ok t p))

    -- SHARED-ONE: allowed tables whose texts fit and that have the same bytes are the same
    pub shared_one : (t u : Tables) → SharedOk lim a t → SharedOk lim a u → shared_layout lim a t ≡ shared_layout lim a u → t ≡ u
    shared_one t u p q e =
        ap tables_of (stored_one all all_lawful a spare (regions_of t) (regions_of u) (regions_ok t p.allowed, p.room) (regions_ok u q.allowed, q.room)
        (sym (layout_stored t) ∙ e ∙ layout_stored u))

    -- the text of row r of table k
    module _ (t : Tables) (ok : SharedOk lim a t) (k r : ℕ) (us : Text) (row : get_or (get_or (text_tables t) k []) r none ≡ some us) where
      -- the texts before it
      abbrev before : List Text
      before = texts_in (take k (text_tables t)) ++ present (take r (get_or (text_tables t) k []))

      -- TEXT-STANDS: stands at its start with its length
      pub text_stands : mid_of (text_start lim t k r) (2 * length us) (shared_layout lim a t) ≡ unit_bytes us
      text_stands =
          let i : text_start lim t k r ≡ all.wide + 2 * units_of before = omega (arith, heads_wide, before_units (text_tables t) k r) in
          ap₂ (λ (j : ℕ) (l : List ℕ). mid_of j (2 * length us) l) i (layout_stored t)
          ∙ stored_text all all_lawful a spare (regions_of t) (regions_ok t ok.allowed, ok.room) before (texts_behind (text_tables t) k r) us (row_split (text_tables t) k r us row)

      -- TEXT-INSIDE: and inside the area
      pub text_inside : text_start lim t k r + 2 * length us ≤ shared_size lim a
      text_inside =
          let u : units_of (texts_of t) ≡ units_of before + (length us + units_of (texts_behind (text_tables t) k r)) = ap units_of (row_split (text_tables t) k r us row) ∙ units_append before (us ∷ texts_behind (text_tables t) k r) in
          omega (arith, u, ok.room, before_units (text_tables t) k r)

    module _ (s : List ℕ) (room : SharedRoomy lim a) (long : length s ≡ lim.size) (b : Bytes s) where
      -- what the checks look at, and the regions' store
      regions_checked : (Stand (store_regions lim) 0 s × AreaFilled (units_from (store_regions lim) 0 s) (mid_of all.wide a s) × (zeros? (drop (all.wide + a) s) ≡ true)) ↔ EntryOf (Fits all a) (stored all a spare) s
      regions_checked = regions_store (store_regions lim) (store_lawful lim) a spare s (omega (arith, heads_wide, room.fits)) b

      -- IS-SHARED-STORE: bytes of a store's size are one exactly if the checks pass
      pub is_shared_store : SharedChecks lim a s ↔ IsShared lim a s
      is_shared_store = (
        λ c.
            let x = regions_checked.0 (c.heads, subst₂ (λ (n w : ℕ). AreaFilled n (mid_of w a s)) (sym (units_are s)) (sym heads_wide) c.texts, subst (λ (w : ℕ). zeros? (drop (w + a) s) ≡ true) (sym heads_wide) c.spare) in
            record { tables = tables_of x.entry; ok = record { allowed = tables_ok x.entry x.holds.0; room = x.holds.1 }; bytes_are = x.bytes ∙ sym (layout_stored (tables_of x.entry)) },
        λ y.
            let t = y.tables in
            let c = regions_checked.1 (record { entry = regions_of t; holds = (regions_ok t y.ok.allowed, y.ok.room); bytes = y.bytes_are ∙ layout_stored t }) in
            record {
              heads = c.0;
              texts = subst₂ (λ (n w : ℕ). AreaFilled n (mid_of w a s)) (units_are s) heads_wide c.1;
              spare = subst (λ (w : ℕ). zeros? (drop (w + a) s) ≡ true) heads_wide c.2;
            },
      )
