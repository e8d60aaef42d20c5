-- Where the regions of the store stand: each is read at its place, and put back it changes that table and no other. Assumes nothing.
use Rattle.lists.proofs.Kit.{ℕ, ◌+◌, ◌*◌, ◌-◌, ◌≤◌, ◌<◌, ◌≡◌, refl, sym, ap, ◌∙◌, subst⁻¹, List, [], ◌∷◌, ◌++◌, Option, arith, put_mid, mid_of, get_or, set, take, take_at, take-take, drop, length}
use Rattle.lists.specs.Every.{All}
use Rattle.slots.specs.Slots.{flat, front, places, u16, Placed, Listed, sum}
use Rattle.counted_lists.specs.Counted.{CountedOf}
use Rattle.counted_lists.proofs.EntryLaws.{entries_bytes, entries_made}
use Rattle.orders.specs.OrderParts.{order_bytes}
use Rattle.slots.proofs.Parts.{parts_get, parts_put, get_behind}
use Rattle.writing.specs.declared.HomeNumbers.{HomeNumbers}
use Rattle.writing.specs.declared.SystemCode.{SystemCode}
use Rattle.writing.specs.Ranges.{InChannel}
use Rattle.writing.specs.Settings.{Text, Hash}
use Rattle.tables.specs.declared.limits.Limits.{Limits}
use Rattle.tables.specs.Allowed.{Allowed, QuickOk, StatusOk, GroupOk, IndividualOk, LineOk}
use Rattle.tables.specs.Forms.{Roomy}
use Rattle.tables.specs.Layout.{count_size, counted, ordered, channels_size, lines_size, lines_at, regions, region_widths, used_size, placed_layout, hash_bytes, key_bytes, home_bytes, system_bytes, quick_bytes, status_bytes, group_bytes, individual_bytes, line_bytes, quick_width, status_width, member_width, channel_width, line_width, channels_at, contacts_size, group_contacts_at, groups_at, hash_size, home_at, home_size, individual_contacts_at, individuals_at, key_at, key_size, line_slots_at, line_slots_size, member_size, quick_at, quick_size, status_at, status_size, system_at, system_size}
use Rattle.tables.specs.Limits.{placed, quick_places, status_places, slot_places, contact_places}
use Rattle.tables.specs.declared.members.Members.{Members}
use Rattle.tables.specs.declared.members.Members.TheVariants.{OfGroups, OfIndividuals}
use Rattle.tables.specs.MemberKinds.{MemberIn}
use Rattle.tables.specs.Members.{member_ok, member_bytes, contacts_in, put_contacts, contacts_at}
use Rattle.tables.specs.Order.{line_order}
use Rattle.tables.specs.OrderedLines.{LineList}
use Rattle.tables.specs.Tables.{Line, GroupMember, IndividualMember, Tables}
use Rattle.writing.specs.declared.Kind.TheVariants.{Lines, Key, QuickTexts, Home, Channels, System, StatusTexts, Group, Individual, LineSlot, Last}
use Rattle.tables.specs.Owns.{Own, put_own}
use Rattle.tables.proofs.EntryCodes.{channel_code, line_code, member_code}
use Rattle.tables.proofs.LayoutLaws.{list_wide, regions_wide}
use Rattle.tables.proofs.OrderLaws.{lines_made, lines_are}

-- the widths of all regions, the spare bytes at the end
abbrev pub all_widths : Limits → List ℕ
all_widths lim = region_widths lim ++ ((lim.size - used_size lim) ∷ [])

-- region k of the store has n bytes from a on
module _ (lim : Limits) (t : Tables) (ok : Allowed (placed lim) t) (k : ℕ) (h : k < 14) (a n : ℕ) (p : a ≡ sum (take k (all_widths lim))) (q : n ≡ get_or (all_widths lim) k 0) where
  -- REGION-GET: it is read
  pub region_get : mid_of a n (placed_layout lim t) ≡ get_or (regions lim t) k []
  unfolding placed_layout
  region_get = rw (p, q) (parts_get (regions lim t) (all_widths lim) (regions_wide lim t ok) k h)

  -- REGION-PUT: it comes back as y, and these are the bytes of the tables u where they are those of t with y for region k
  pub region_put : (u : Tables) (y : List ℕ) → set (regions lim t) k y ≡ regions lim u → put_mid a n (placed_layout lim t) y ≡ placed_layout lim u
  unfolding placed_layout
  region_put u y e = rw (p, q) (parts_put (regions lim t) (all_widths lim) (regions_wide lim t ok) k h y ∙ ap flat e)

-- ---- list tables

-- what starts at a is a list table: at most m entries that have P, with w bytes each
record ListAt (lim : Limits) (t : Tables) (a : ℕ) {A : Type 0} (P : A → Type 0) (w : ℕ) (f : A → List ℕ) (m : ℕ) (xs : List A) : Type 0 where
  is : mid_of a (count_size + m * w) (placed_layout lim t) ≡ counted w f m xs
  wide : 0 < w
  long : (x : A) → length (f x) ≡ w
  allowed : (length xs ≤ m) × All P xs

module _ {lim : Limits} {t : Tables} {a : ℕ} {A : Type 0} {P : A → Type 0} {w : ℕ} {f : A → List ℕ} {m : ℕ} {xs : List A} (l : ListAt lim t a P w f m xs) where
  -- it is read as a counted list
  list_counted : m < 65536 → CountedOf P w f m xs (mid_of a (count_size + m * w) (placed_layout lim t))
  list_counted few =
      entries_made P w f m xs (mid_of a (count_size + m * w) (placed_layout lim t)) (places w f (front m xs)) l.wide few l.long
      (record { few = l.allowed.0; each = l.allowed.1; bytes = refl }) l.is

  -- its count
  list_count : mid_of a count_size (placed_layout lim t) ≡ u16 (length xs)
  list_count = sym (take-take count_size (count_size + m * w) (drop a (placed_layout lim t)) (omega arith)) ∙ ap (take count_size) l.is

  -- the slots behind its count
  list_listed : Listed P w f m xs (mid_of (a + count_size) (m * w) (placed_layout lim t))
  list_listed = record { few = l.allowed.0; each = l.allowed.1; bytes = get_behind count_size a (m * w) (placed_layout lim t) ∙ ap (drop count_size) l.is }

-- ---- region by region

module _ (lim : Limits) (t : Tables) (ok : Allowed (placed lim) t) where
  -- the kept hash
  pub hash_get : mid_of 0 hash_size (placed_layout lim t) ≡ hash_bytes t.hash
  hash_get = region_get lim t ok 0 (omega arith) 0 11 refl refl

  -- and put back
  pub hash_put : (x : Hash) → put_mid 0 hash_size (placed_layout lim t) (hash_bytes x) ≡ placed_layout lim (put_own Last t x)
  hash_put x = region_put lim t ok 0 (omega arith) 0 11 refl refl (put_own Last t x) (hash_bytes x) refl

  -- the emergency key
  pub key_get : mid_of key_at key_size (placed_layout lim t) ≡ key_bytes t.key
  key_get = region_get lim t ok 1 (omega arith) 11 4 refl refl

  -- and put back
  pub key_put : (x : Own Key) → put_mid key_at key_size (placed_layout lim t) (key_bytes x) ≡ placed_layout lim (put_own Key t x)
  key_put x = region_put lim t ok 1 (omega arith) 11 4 refl refl (put_own Key t x) (key_bytes x) refl

  -- the home numbers
  pub home_get : mid_of home_at home_size (placed_layout lim t) ≡ home_bytes t.home
  home_get = region_get lim t ok 2 (omega arith) 15 4 refl refl

  -- and put back
  pub home_put : (x : HomeNumbers) → put_mid home_at home_size (placed_layout lim t) (home_bytes x) ≡ placed_layout lim (put_own Home t x)
  home_put x = region_put lim t ok 2 (omega arith) 15 4 refl refl (put_own Home t x) (home_bytes x) refl

  -- the system code
  pub system_get : mid_of system_at system_size (placed_layout lim t) ≡ system_bytes t.system
  system_get = region_get lim t ok 3 (omega arith) 19 3 refl refl

  -- and put back
  pub system_put : (x : SystemCode) → put_mid system_at system_size (placed_layout lim t) (system_bytes x) ≡ placed_layout lim (put_own System t x)
  system_put x = region_put lim t ok 3 (omega arith) 19 3 refl refl (put_own System t x) (system_bytes x) refl

  -- ---- as tables of slots

  -- the quick texts
  pub quick_placed : Placed QuickOk quick_width quick_bytes quick_places t.quick (mid_of quick_at quick_size (placed_layout lim t))
  quick_placed = record { many = ok.quick.0; each = ok.quick.1; bytes = region_get lim t ok 4 (omega arith) quick_at quick_size refl refl }

  -- and put back
  pub quick_back : (x : List (Option Text)) (y : List ℕ) → Placed QuickOk quick_width quick_bytes quick_places x y → put_mid quick_at quick_size (placed_layout lim t) y ≡ placed_layout lim (put_own QuickTexts t x)
  quick_back x y p = region_put lim t ok 4 (omega arith) quick_at quick_size refl refl (put_own QuickTexts t x) y (ap (set (regions lim t) 4) p.bytes)

  -- the status texts
  pub status_placed : Placed StatusOk status_width status_bytes status_places t.status (mid_of status_at status_size (placed_layout lim t))
  status_placed = record { many = ok.status.0; each = ok.status.1; bytes = region_get lim t ok 5 (omega arith) status_at status_size refl refl }

  -- and put back
  pub status_back : (x : List (Option Text)) (y : List ℕ) → Placed StatusOk status_width status_bytes status_places x y → put_mid status_at status_size (placed_layout lim t) y ≡ placed_layout lim (put_own StatusTexts t x)
  status_back x y p = region_put lim t ok 5 (omega arith) status_at status_size refl refl (put_own StatusTexts t x) y (ap (set (regions lim t) 5) p.bytes)

  -- the group slots
  pub groups_placed : Placed GroupOk member_width group_bytes slot_places t.groups (mid_of groups_at member_size (placed_layout lim t))
  groups_placed = record { many = ok.groups.0; each = ok.groups.1; bytes = region_get lim t ok 6 (omega arith) groups_at member_size refl refl }

  -- and put back
  pub groups_back : (x : List (Option GroupMember)) (y : List ℕ) → Placed GroupOk member_width group_bytes slot_places x y → put_mid groups_at member_size (placed_layout lim t) y ≡ placed_layout lim (put_own Group t x)
  groups_back x y p = region_put lim t ok 6 (omega arith) groups_at member_size refl refl (put_own Group t x) y (ap (set (regions lim t) 6) p.bytes)

  -- the individual slots
  pub individuals_placed : Placed IndividualOk member_width individual_bytes slot_places t.individuals (mid_of individuals_at member_size (placed_layout lim t))
  individuals_placed = record { many = ok.individuals.0; each = ok.individuals.1; bytes = region_get lim t ok 7 (omega arith) individuals_at member_size refl refl }

  -- and put back
  pub individuals_back : (x : List (Option IndividualMember)) (y : List ℕ) → Placed IndividualOk member_width individual_bytes slot_places x y → put_mid individuals_at member_size (placed_layout lim t) y ≡ placed_layout lim (put_own Individual t x)
  individuals_back x y p = region_put lim t ok 7 (omega arith) individuals_at member_size refl refl (put_own Individual t x) y (ap (set (regions lim t) 7) p.bytes)

  -- the line slots
  pub line_slots_placed : Placed LineOk line_width line_bytes slot_places t.line_slots (mid_of line_slots_at line_slots_size (placed_layout lim t))
  line_slots_placed = record { many = ok.line_slots.0; each = ok.line_slots.1; bytes = region_get lim t ok 8 (omega arith) line_slots_at line_slots_size refl refl }

  -- and put back
  pub line_slots_back : (x : List (Option Line)) (y : List ℕ) → Placed LineOk line_width line_bytes slot_places x y → put_mid line_slots_at line_slots_size (placed_layout lim t) y ≡ placed_layout lim (put_own LineSlot t x)
  line_slots_back x y p = region_put lim t ok 8 (omega arith) line_slots_at line_slots_size refl refl (put_own LineSlot t x) y (ap (set (regions lim t) 8) p.bytes)

  -- ---- as counted lists

  -- the group and the individual contacts
  contacts_list : (w : Members) → ListAt lim t (contacts_at w) (member_ok w) member_width (member_bytes w) contact_places (contacts_in w t)
  contacts_list OfGroups = record {
    is = region_get lim t ok 9 (omega arith) (contacts_at OfGroups) contacts_size refl refl;
    wide = omega arith;
    long = (member_code OfGroups).long;
    allowed = ok.group_contacts;
  }
  contacts_list OfIndividuals = record {
    is = region_get lim t ok 10 (omega arith) (contacts_at OfIndividuals) contacts_size refl refl;
    wide = omega arith;
    long = (member_code OfIndividuals).long;
    allowed = ok.individual_contacts;
  }

  -- the channels
  channels_list : ListAt lim t channels_at InChannel channel_width u16 lim.channels t.channels
  channels_list = record {
    is = region_get lim t ok 11 (omega arith) channels_at (channels_size lim) refl refl;
    wide = omega arith;
    long = channel_code.long;
    allowed = ok.channels;
  }

  -- the line contacts and their order
  lines_get : mid_of (lines_at lim) (lines_size lim) (placed_layout lim t) ≡ ordered lim.lines t.lines
  lines_get = region_get lim t ok 12 (omega arith) (lines_at lim) (lines_size lim) (omega arith) refl

  -- the line contacts, before their order
  lines_list : ListAt lim t (lines_at lim) LineOk line_width line_bytes lim.lines t.lines
  lines_list = record {
    is = sym (take-take (count_size + lim.lines * line_width) (lines_size lim) (drop (lines_at lim) (placed_layout lim t)) (omega arith))
        ∙ ap (take (count_size + lim.lines * line_width)) lines_get
        ∙ take_at (counted line_width line_bytes lim.lines t.lines) (order_bytes lim.lines (line_order t.lines)) (count_size + lim.lines * line_width) (list_wide line_code lim.lines t.lines);
    wide = omega arith;
    long = line_code.long;
    allowed = ok.lines;
  }

  -- the contacts: their count, and their places
  pub contacts_counted : (w : Members) → CountedOf (member_ok w) member_width (member_bytes w) contact_places (contacts_in w t) (mid_of (contacts_at w) contacts_size (placed_layout lim t))
  contacts_counted w = list_counted (contacts_list w) (omega arith)

  -- and put back
  pub contacts_back : (w : Members) (x : List (MemberIn w)) (y : List ℕ) → CountedOf (member_ok w) member_width (member_bytes w) contact_places x y
      → put_mid (contacts_at w) contacts_size (placed_layout lim t) y ≡ placed_layout lim (put_contacts w t x)
  contacts_back OfGroups x y c =
      region_put lim t ok 9 (omega arith) (contacts_at OfGroups) contacts_size refl refl (put_contacts OfGroups t x) y
      (ap (set (regions lim t) 9) (entries_bytes (member_ok OfGroups) member_width (member_bytes OfGroups) contact_places x y c))
  contacts_back OfIndividuals x y c =
      region_put lim t ok 10 (omega arith) (contacts_at OfIndividuals) contacts_size refl refl (put_contacts OfIndividuals t x) y
      (ap (set (regions lim t) 10) (entries_bytes (member_ok OfIndividuals) member_width (member_bytes OfIndividuals) contact_places x y c))

  -- the channels
  pub channels_counted : Roomy lim → CountedOf InChannel channel_width u16 lim.channels t.channels (mid_of channels_at (channels_size lim) (placed_layout lim t))
  channels_counted r = list_counted channels_list r.few_channels

  -- and put back
  pub channels_back : (x : List ℕ) (y : List ℕ) → CountedOf InChannel channel_width u16 lim.channels x y → put_mid channels_at (channels_size lim) (placed_layout lim t) y ≡ placed_layout lim (put_own Channels t x)
  channels_back x y c =
      region_put lim t ok 11 (omega arith) channels_at (channels_size lim) refl refl (put_own Channels t x) y
      (ap (set (regions lim t) 11) (entries_bytes InChannel channel_width u16 lim.channels x y c))

  -- the line contacts and their order
  pub lines_ordered : Roomy lim → LineList lim.lines t.lines (mid_of (lines_at lim) (lines_size lim) (placed_layout lim t))
  lines_ordered r = subst⁻¹ (LineList lim.lines t.lines) lines_get (lines_made lim.lines t.lines ok.lines.0 r.few_lines ok.lines.1 ok.distinct)

  -- and put back
  pub lines_back : (x : List Line) (y : List ℕ) → LineList lim.lines x y → put_mid (lines_at lim) (lines_size lim) (placed_layout lim t) y ≡ placed_layout lim (put_own Lines t x)
  lines_back x y l = region_put lim t ok 12 (omega arith) (lines_at lim) (lines_size lim) (omega arith) refl (put_own Lines t x) y (ap (set (regions lim t) 12) (lines_are lim.lines x y l))

  -- the line contacts alone
  pub lines_counted : Roomy lim → CountedOf LineOk line_width line_bytes lim.lines t.lines (mid_of (lines_at lim) (count_size + lim.lines * line_width) (placed_layout lim t))
  lines_counted r = list_counted lines_list (omega (arith, r.few_lines))

  -- COUNTS-STAND: the bytes that the lists begin with are their lengths
  pub counts_stand :
      (mid_of channels_at count_size (placed_layout lim t) ≡ u16 (length t.channels)) × (mid_of (lines_at lim) count_size (placed_layout lim t) ≡ u16 (length t.lines))
      × (mid_of group_contacts_at count_size (placed_layout lim t) ≡ u16 (length t.group_contacts))
      × (mid_of individual_contacts_at count_size (placed_layout lim t) ≡ u16 (length t.individual_contacts))
  counts_stand = (list_count channels_list, list_count lines_list, list_count (contacts_list OfGroups), list_count (contacts_list OfIndividuals))

  -- ---- the slots behind a count

  pub contacts_listed : (w : Members) → Listed (member_ok w) member_width (member_bytes w) contact_places (contacts_in w t) (mid_of (contacts_at w + count_size) (contact_places * member_width) (placed_layout lim t))
  contacts_listed w = list_listed (contacts_list w)

  pub channels_listed : Listed InChannel channel_width u16 lim.channels t.channels (mid_of (channels_at + count_size) (lim.channels * channel_width) (placed_layout lim t))
  channels_listed = list_listed channels_list

  pub lines_listed : Listed LineOk line_width line_bytes lim.lines t.lines (mid_of (lines_at lim + count_size) (lim.lines * line_width) (placed_layout lim t))
  lines_listed = list_listed lines_list
