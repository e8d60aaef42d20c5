-- A store, region by region: which bytes are one. Assumes nothing.
use Rattle.lists.proofs.Kit.{◌≡◌, refl, sym, ap, ◌∙◌, subst, subst₂, Bool, true, ◌↔◌, iff_rfl, iff_trans, iff_and, Option, List, [], ◌∷◌, ◌++◌, map, ℕ, ◌+◌, ◌*◌, ◌-◌, ◌≤◌, suc, arith, mid_of, mid_len, length, drop, replicate, length-append, length-drop, length-replicate, drop_of_length-le}
use Rattle.slots.specs.Slots.{places, u16, zeros?, EntryOf, PlacesOf}
use Rattle.slots.proofs.Pads.{pad_length}
use Rattle.slots.proofs.Runs.{zeros_all, zeros_are}
use Rattle.slots.proofs.Tables.{places_length}
use Rattle.orders.specs.OrderParts.{order_bytes}
use Rattle.writing.specs.Ranges.{InChannel}
use Rattle.shared_texts.specs.Regions.{Region, plain, whole, Stand}
use Rattle.tables.specs.declared.limits.Limits.{Limits}
use Rattle.tables.specs.declared.members.Members.{Members}
use Rattle.tables.specs.declared.members.Members.TheVariants.{OfGroups, OfIndividuals}
use Rattle.tables.specs.Allowed.{Allowed, PlacesOk, ListOk}
use Rattle.tables.specs.Forms.{Roomy}
use Rattle.tables.specs.Layout.{used_size, placed_layout, counted, count_size, channel_width, line_bytes, line_width, channels_size, quick_at}
use Rattle.tables.specs.Limits.{placed as in_places, quick_places, status_places, slot_places, contact_places}
use Rattle.tables.specs.Order.{line_order}
use Rattle.tables.specs.Tables.{Line, Tables}
use Rattle.tables.proofs.EntryCodes.{group_code, individual_code, channel_code, line_code}
use Rattle.tables.proofs.FixedCodes.{hash_code, key_code, home_code, system_code}
use Rattle.tables.proofs.LayoutLaws.{list_wide}
use Rattle.store_check.specs.declared.checks_tables.Table.{Table}
use Rattle.store_check.specs.declared.checks_tables.Table.TheVariants.{QuickTexts, StatusTexts, Members as Of, Lines}
use Rattle.store_check.specs.declared.forms.Form.{Form}
use Rattle.store_check.specs.declared.forms.Form.TheVariants.{Placed}
use Rattle.store_check.specs.declared.forms.Starts.{Starts}
use Rattle.store_check.specs.Checks.{EntryIn, OkIn, bytes_in, width_in, named_in, PlacesIn, ContactsOk, ContactsOf, ChannelsOf, LinesIs, lines_in, LinesOf, IsPlaced}
use Rattle.store_check.specs.Stores.{places_size, contacts_size_in, lines_size_in, fixed_regions, indexed_regions, contact_regions, regions_in, status_start, groups_start, individuals_start, line_slots_start, group_contacts_start, channels_start, lines_start, regions_end, StartsIn}
use Rattle.store_check.proofs.CheckLaws.{Same, entry_same, parts_are, rest_is}
use Rattle.store_check.proofs.TableChecks.{long_in}

-- ---- a region, as the code reads it

module _ {A : Type 0} (P : A → Type 0) (g : A → List ℕ) (s : List ℕ) (a b c k : ℕ) (e : a ≡ c) (h : b ≡ c + k) where
  -- the bytes from a to b are k from c on
  region_read : EntryOf P g (mid_of a (b - a) s) ↔ EntryOf P g (mid_of c k s)
  region_read =
      let j : b - a ≡ k = omega arith in
      (subst₂ (λ (x y : ℕ). EntryOf P g (mid_of x y s)) e j, subst₂ (λ (x y : ℕ). EntryOf P g (mid_of x y s)) (sym e) (sym j))

  -- what is told of them, where they are k
  pub region_told : (r : Bool) → b ≤ length s → (length (mid_of a (b - a) s) ≡ k → (r ≡ true) ↔ EntryOf P g (mid_of a (b - a) s)) → (r ≡ true) ↔ EntryOf P g (mid_of c k s)
  region_told r l told =
      let j : b - a ≡ k = omega arith in
      iff_trans (told (mid_len a b s l ∙ j)) region_read

-- a table of places as an entry
places_entry : {A : Type 0} (P : A → Type 0) (w : ℕ) (f : A → List ℕ) (n : ℕ) (s : List ℕ) → PlacesOf P w f n s ↔ EntryOf (PlacesOk P n) (places w f) s
places_entry P w f n s = (
  λ t. record { entry = t.entries; holds = (t.placed.many, t.placed.each); bytes = t.placed.bytes },
  λ x. record { entries = x.entry; placed = record { many = x.holds.0; each = x.holds.1; bytes = x.bytes } },
)

-- what a walk tells of the bytes from a to b
abbrev Walked : Form → Table → List ℕ → ℕ → ℕ → Bool → Type 0
Walked f t s a b r = (m : ℕ) → length (mid_of a (b - a) s) ≡ m * width_in f t → (r ≡ true) ↔ PlacesIn f t m (mid_of a (b - a) s)

-- an indexed table from c on
abbrev TableAt : Form → Table → ℕ → List ℕ → ℕ → Type 0
TableAt f t n s c = EntryOf (PlacesOk (OkIn f t) n) (places (width_in f t) (bytes_in f t)) (mid_of c (places_size f t n) s)

table_told : (f : Form) (t : Table) (n : ℕ) (s : List ℕ) (a b c : ℕ) → a ≡ c → b ≡ c + places_size f t n → b ≤ length s → (r : Bool) → Walked f t s a b r → (r ≡ true) ↔ TableAt f t n s c
table_told f t n s a b c e h l r told =
    region_told (PlacesOk (OkIn f t) n) (places (width_in f t) (bytes_in f t)) s a b c (places_size f t n) e h r l
    (λ j. iff_trans (told n j) (places_entry (OkIn f t) (width_in f t) (bytes_in f t) n (mid_of a (b - a) s)))

-- the five
module _ (f : Form) (s : List ℕ) (at : Starts) (is : StartsIn f at) (l : group_contacts_start f ≤ length s) where
  pub quick_told : (r : Bool) → Walked f QuickTexts s quick_at at.status r → (r ≡ true) ↔ TableAt f QuickTexts quick_places s quick_at
  quick_told = table_told f QuickTexts quick_places s quick_at at.status quick_at refl is.status (omega arith)

  pub status_told : (r : Bool) → Walked f StatusTexts s at.status at.groups r → (r ≡ true) ↔ TableAt f StatusTexts status_places s (status_start f)
  status_told = table_told f StatusTexts status_places s at.status at.groups (status_start f) is.status is.groups (omega arith)

  pub groups_told : (r : Bool) → Walked f (Of OfGroups) s at.groups at.individuals r → (r ≡ true) ↔ TableAt f (Of OfGroups) slot_places s (groups_start f)
  groups_told = table_told f (Of OfGroups) slot_places s at.groups at.individuals (groups_start f) is.groups is.individuals (omega arith)

  pub individuals_told : (r : Bool) → Walked f (Of OfIndividuals) s at.individuals at.line_slots r → (r ≡ true) ↔ TableAt f (Of OfIndividuals) slot_places s (individuals_start f)
  individuals_told = table_told f (Of OfIndividuals) slot_places s at.individuals at.line_slots (individuals_start f) is.individuals is.line_slots (omega arith)

  pub line_slots_told : (r : Bool) → Walked f Lines s at.line_slots at.group_contacts r → (r ≡ true) ↔ TableAt f Lines slot_places s (line_slots_start f)
  line_slots_told = table_told f Lines slot_places s at.line_slots at.group_contacts (line_slots_start f) is.line_slots is.group_contacts (omega arith)

-- what is told of a list of contacts
pub contacts_told : (f : Form) (w : Members) (s : List ℕ) (a b c : ℕ) → a ≡ c → b ≡ c + contacts_size_in f w → b ≤ length s → (r : Bool)
    → ((m : ℕ) → length (mid_of a (b - a) s) ≡ count_size + m * width_in f (Of w) → (r ≡ true) ↔ ContactsOf f w m (mid_of a (b - a) s))
    → (r ≡ true) ↔ ContactsOf f w contact_places (mid_of c (contacts_size_in f w) s)
contacts_told f w s a b c e h l r told =
    region_told (ContactsOk f w contact_places) (counted (width_in f (Of w)) (named_in f w) contact_places) s a b c (contacts_size_in f w) e h r l (told contact_places)

-- of the channels
pub channels_told : (f : Form) (lim : Limits) (s : List ℕ) (a b : ℕ) → a ≡ channels_start f → b ≡ lines_start f lim → b ≤ length s → (r : Bool)
    → ((m : ℕ) → length (mid_of a (b - a) s) ≡ count_size + m * channel_width → (r ≡ true) ↔ ChannelsOf m (mid_of a (b - a) s))
    → (r ≡ true) ↔ ChannelsOf lim.channels (mid_of (channels_start f) (channels_size lim) s)
channels_told f lim s a b e h l r told =
    region_told (ListOk InChannel lim.channels) (counted channel_width u16 lim.channels) s a b (channels_start f) (channels_size lim) e h r l (told lim.channels)

-- and of the lines
pub lines_told : (f : Form) (lim : Limits) (s : List ℕ) (a b : ℕ) → a ≡ lines_start f lim → b ≡ regions_end f lim → (r : Bool) → (r ≡ true) ↔ LinesOf f lim.lines (mid_of a (b - a) s)
    → (r ≡ true) ↔ LinesOf f lim.lines (mid_of (lines_start f lim) (lines_size_in f lim.lines) s)
lines_told f lim s a b e h r told = iff_trans told (region_read (LinesIs f lim.lines) (lines_in f lim.lines) s a b (lines_start f lim) (lines_size_in f lim.lines) e h)

-- ---- all regions

-- they stand where those of a run after the other do
pub regions_are : (f : Form) (lim : Limits) (s : List ℕ)
    → (Stand fixed_regions 0 s × (Stand (indexed_regions f) quick_at s × (Stand (contact_regions f) (group_contacts_start f) s × (ChannelsOf lim.channels (mid_of (channels_start f) (channels_size lim) s) × LinesOf f lim.lines (mid_of (lines_start f lim) (lines_size_in f lim.lines) s)))))
    ↔ Stand (regions_in f lim) 0 s
regions_are f lim s = (
  λ (a, (b, (c, (d, e)))). (a.0, (a.1.0, (a.1.1.0, (a.1.1.1.0, (b.0, (b.1.0, (b.1.1.0, (b.1.1.1.0, (b.1.1.1.1.0, (c.0, (c.1.0, (d, (e, tt))))))))))))),
  λ x.
      let y = x.1.1.1.1 in
      let z = y.1.1.1.1.1 in (
        (x.0, (x.1.0, (x.1.1.0, (x.1.1.1.0, tt)))),
        ((y.0, (y.1.0, (y.1.1.0, (y.1.1.1.0, (y.1.1.1.1.0, tt))))), ((z.0, (z.1.0, tt)), (z.1.1.0, z.1.1.1.0))),
      ),
)

-- every region has its width
abbrev AllWide : List Region → Type 0
AllWide [] = Unit {0}
AllWide (p ∷ ps) = ((h : p.Head) → p.HeadOk h → length (p.bytes h) ≡ p.wide) × AllWide ps

-- each region stands in its bytes where all together do
stand_whole : (ps : List Region) → AllWide ps → (at : ℕ) (s : List ℕ) → length s ≡ at + (whole ps).wide → Stand ps at s ↔ EntryOf (whole ps).HeadOk (whole ps).bytes (drop at s)
stand_whole [] w at s l = (λ x. record { entry = tt; holds = tt; bytes = drop_of_length-le s {i = at} (omega arith) }, λ x. tt)
stand_whole (p ∷ ps) w at s l =
    iff_trans (iff_and iff_rfl (stand_whole ps w.1 (at + p.wide) s (omega arith)))
    (parts_are p.HeadOk (whole ps).HeadOk p.bytes (whole ps).bytes at p.wide s w.0)

-- regions stand, and then others
stand_more : (ps qs : List Region) (at : ℕ) (s : List ℕ) → (Stand ps at s × Stand qs (at + (whole ps).wide) s) ↔ Stand (ps ++ qs) at s
stand_more [] qs at s =
    let e : at + 0 ≡ at = omega arith in
    (λ x. subst (λ (i : ℕ). Stand qs i s) e x.1, λ y. (tt, subst (λ (i : ℕ). Stand qs i s) (sym e) y))
stand_more (p ∷ ps) qs at s =
    let r = stand_more ps qs (at + p.wide) s in
    let e : at + p.wide + (whole ps).wide ≡ at + (p.wide + (whole ps).wide) = omega arith in (
      λ x. (x.0.0, r.0 (x.0.1, subst (λ (i : ℕ). Stand qs i s) (sym e) x.1)),
      λ y. let z = r.1 y.1 in ((y.0, z.0), subst (λ (i : ℕ). Stand qs i s) e z.1),
    )

-- ---- the store whose texts have places of their own

module _ (lim : Limits) where
  -- the bytes that no table uses
  abbrev spare : ℕ
  spare = lim.size - used_size lim

  abbrev spare_region : Region
  spare_region = plain (λ (u : Unit {0}). Unit {0}) spare (λ u. replicate spare 0)

  -- the regions, and these
  abbrev placed : List Region
  placed = regions_in Placed lim ++ (spare_region ∷ [])

  -- an indexed table
  table_wide : (t : Table) (n : ℕ) (os : List (Option (EntryIn Placed t))) → PlacesOk (OkIn Placed t) n os → length (places (width_in Placed t) (bytes_in Placed t) os) ≡ places_size Placed t n
  table_wide t n os p = places_length (width_in Placed t) (bytes_in Placed t) (long_in Placed t) os ∙ ap (λ (i : ℕ). i * width_in Placed t) p.0

  -- the lines with their order
  lines_wide : (ls : List Line) → length (counted line_width line_bytes lim.lines ls ++ order_bytes lim.lines (line_order ls)) ≡ lines_size_in Placed lim.lines
  lines_wide ls =
      omega (arith, length-append (counted line_width line_bytes lim.lines ls) (order_bytes lim.lines (line_order ls)), list_wide line_code lim.lines ls, pad_length 0 lim.lines (map suc (line_order ls)))

  placed_wide : AllWide placed
  placed_wide = (
    λ h p. hash_code.long h,
    (
      λ k p. key_code.long k,
      (
        λ h p. home_code.long h,
        (
          λ s p. system_code.long s,
          (
            table_wide QuickTexts _,
            (
              table_wide StatusTexts _,
              (
                table_wide (Of OfGroups) _,
                (
                  table_wide (Of OfIndividuals) _,
                  (
                    table_wide Lines _,
                    (
                      λ xs p. list_wide group_code contact_places xs,
                      (
                        λ xs p. list_wide individual_code contact_places xs,
                        (
                          λ cs p. list_wide channel_code lim.channels cs,
                          (λ ls p. lines_wide ls, (λ u p. length-replicate spare 0, tt)),
                        ),
                      ),
                    ),
                  ),
                ),
              ),
            ),
          ),
        ),
      ),
    ),
  )

  -- regions as tables
  abbrev tables : (whole placed).Head → Tables
  tables x =
      let y = x.1.1.1.1 in
      let z = y.1.1.1.1.1 in
      record {
        hash = x.0;
        key = x.1.0;
        home = x.1.1.0;
        system = x.1.1.1.0;
        quick = y.0;
        status = y.1.0;
        groups = y.1.1.0;
        individuals = y.1.1.1.0;
        line_slots = y.1.1.1.1.0;
        group_contacts = z.0;
        individual_contacts = z.1.0;
        channels = z.1.1.0;
        lines = z.1.1.1.0;
      }

  -- the regions of a store are tables
  tables_of : Same (whole placed).HeadOk (whole placed).bytes (Allowed (in_places lim)) (placed_layout lim)
  unfolding placed_layout
  tables_of =
      record {
        to = tables;
        back = λ t.
            (t.hash, (t.key, (t.home, (t.system, (t.quick, (t.status, (t.groups, (t.individuals, (t.line_slots, (t.group_contacts, (t.individual_contacts, (t.channels, (t.lines, (tt, tt))))))))))))));
        good = λ x p.
            let q = p.1.1.1.1 in
            let r = q.1.1.1.1.1 in
            record {
              hash = p.0;
              key = p.1.0;
              home = p.1.1.0;
              system = p.1.1.1.0;
              quick = q.0;
              status = q.1.0;
              groups = q.1.1.0;
              individuals = q.1.1.1.0;
              line_slots = q.1.1.1.1.0;
              group_contacts = r.0.0;
              distinct_groups = r.0.1;
              individual_contacts = r.1.0.0;
              distinct_individuals = r.1.0.1;
              channels = r.1.1.0;
              lines = r.1.1.1.0.0;
              distinct = r.1.1.1.0.1;
              texts = tt;
            };
        back_good = λ t p.
            let g = p.distinct_groups in
            let i = p.distinct_individuals in
            (p.hash, (p.key, (p.home, (p.system, (p.quick, (p.status, (p.groups, (p.individuals, (p.line_slots, ((p.group_contacts, g), ((p.individual_contacts, i), (p.channels, ((p.lines, p.distinct), (tt, tt))))))))))))));
        bytes = λ x p. refl;
        back_bytes = λ t p. refl;
      }

  module _ (s : List ℕ) (room : Roomy lim) (l : length s ≡ lim.size) where
    -- the bytes behind the regions
    spare_stands : (zeros? (mid_of (regions_end Placed lim) (length s - regions_end Placed lim) s) ≡ true) ↔ Stand (spare_region ∷ []) (0 + (whole (regions_in Placed lim)).wide) s
    spare_stands =
        let a = regions_end Placed lim in
        let b : a ≡ 0 + (whole (regions_in Placed lim)).wide = omega arith in
        let e : length s - a ≡ spare = omega (arith, room.fits) in
        let k : length (mid_of a (length s - a) s) ≡ spare = ap length (rest_is s a (length s - a) (omega arith)) ∙ length-drop a s ∙ e in
        subst₂ (λ (i j : ℕ). (zeros? (mid_of a (length s - a) s) ≡ true) ↔ (EntryOf (λ (u : Unit {0}). Unit {0}) (λ u. replicate spare 0) (mid_of i j s) × Unit {0})) b e (
          λ z. (record { entry = tt; holds = tt; bytes = zeros_are (mid_of a (length s - a) s) z ∙ ap (λ (i : ℕ). replicate i 0) k }, tt),
          λ x. ap zeros? x.0.bytes ∙ zeros_all spare,
        )

    -- STORE-IS: bytes of a store's size are a store where each region stands in its bytes, and zeros behind
    pub store_is : (Stand (regions_in Placed lim) 0 s × (zeros? (mid_of (regions_end Placed lim) (length s - regions_end Placed lim) s) ≡ true)) ↔ IsPlaced lim s
    store_is =
        let w = iff_trans (iff_and iff_rfl spare_stands)
        (iff_trans (stand_more (regions_in Placed lim) (spare_region ∷ []) 0 s)
        (iff_trans (stand_whole placed placed_wide 0 s (omega (arith, room.fits))) (entry_same (whole placed).HeadOk (whole placed).bytes (Allowed (in_places lim)) (placed_layout lim) tables_of s))) in (
          λ x. let t = w.0 x in record { tables = t.entry; allowed = t.holds; bytes_are = t.bytes },
          λ y. w.1 (record { entry = y.tables; holds = y.allowed; bytes = y.bytes_are }),
        )

    -- so the bytes behind them decide
    pub store_told : (a : ℕ) → a ≡ regions_end Placed lim → Stand (regions_in Placed lim) 0 s → (r : Bool) → r ≡ zeros? (mid_of a (length s - a) s) → (r ≡ true) ↔ IsPlaced lim s
    store_told a e x r z =
        let k : r ≡ zeros? (mid_of (regions_end Placed lim) (length s - regions_end Placed lim) s) = z ∙ ap (λ (i : ℕ). zeros? (mid_of i (length s - i) s)) e in
        (λ y. store_is.0 (x, sym k ∙ y), λ y. k ∙ (store_is.1 y).1)
