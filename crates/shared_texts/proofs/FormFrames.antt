-- Where the regions of a store stand in the form that its limits name, and what stands in them. Assumes nothing.
use Rattle.lists.proofs.Kit.{ℕ, suc, ◌+◌, ◌*◌, ◌≤◌, ◌<◌, ◌≡◌, refl, sym, ap, ◌∙◌, subst, List, [], ◌++◌, Option, arith, mid_of, length, take, drop}
use Rattle.lists.specs.Every.{All}
use Rattle.slots.specs.Slots.{places, front, u16, sum, Present, Placed, Listed}
use Rattle.slots.proofs.Parts.{get_behind}
use Rattle.orders.specs.OrderParts.{order_bytes}
use Rattle.writing.specs.Ranges.{text_limits, InChannel}
use Rattle.tables.specs.declared.limits.Limits.{Limits}
use Rattle.tables.specs.declared.limits.Texts.{Texts}
use Rattle.tables.specs.declared.limits.Texts.TheVariants.{Placed as InPlaces, Shared}
use Rattle.tables.specs.Allowed.{Allowed, QuickOk, StatusOk, GroupOk, IndividualOk, LineOk}
use Rattle.tables.specs.Forms.{laid, layout, region_start, start_in, slot_width, quick_as, status_as, group_as, individual_as, line_as}
use Rattle.tables.specs.Heads.{quick_own, status_own, member_own, line_own, line_head, line_halves}
use Rattle.tables.specs.Layout.{count_size, counted, channel_width, channels_size, hash_bytes, hash_size, key_bytes, key_at, key_size, home_bytes, home_at, home_size, system_bytes, system_at, system_size, line_bytes, line_width, lines_at, lines_size, placed_layout}
use Rattle.tables.specs.Limits.{placed, quick_places, status_places, slot_places, contact_places}
use Rattle.tables.specs.Order.{line_order}
use Rattle.tables.specs.SharedLayout.{shared_layout, shared_widths, shared_regions}
use Rattle.tables.specs.Tables.{Tables}
use Rattle.tables.specs.declared.members.Members.TheVariants.{OfGroups, OfIndividuals}
use Rattle.tables.proofs.AllowedLaws.{allowed_placed}
use Rattle.tables.proofs.Frames.{region_get, hash_get, key_get, home_get, system_get, quick_placed, status_placed, groups_placed, individuals_placed, line_slots_placed, contacts_listed, lines_listed}
use Rattle.shared_texts.proofs.SharedFrames.{shared_get, list_at, followed_at, line_long}

-- how many units a text has at most, in quick texts and in others
abbrev pub quick_units : ℕ
quick_units = text_limits.quick

abbrev pub short_units : ℕ
short_units = text_limits.short

module _ (lim : Limits) (t : Tables) (ok : Allowed lim t) where
  allowed : Allowed (placed lim) t
  allowed = allowed_placed lim t ok

  -- ---- regions that every store begins with

  -- the kept hash
  pub hash_stands : mid_of 0 hash_size (layout lim t) ≡ hash_bytes t.hash
  hash_stands = go lim.texts
    where
      go : (x : Texts) → mid_of 0 hash_size (laid x lim t) ≡ hash_bytes t.hash
      go InPlaces = hash_get lim t allowed
      go (Shared a) = shared_get lim a t allowed 0 (omega arith) 0 11 refl refl

  -- the emergency key
  pub key_stands : mid_of key_at key_size (layout lim t) ≡ key_bytes t.key
  key_stands = go lim.texts
    where
      go : (x : Texts) → mid_of key_at key_size (laid x lim t) ≡ key_bytes t.key
      go InPlaces = key_get lim t allowed
      go (Shared a) = shared_get lim a t allowed 1 (omega arith) 11 4 refl refl

  -- the home numbers
  pub home_stands : mid_of home_at home_size (layout lim t) ≡ home_bytes t.home
  home_stands = go lim.texts
    where
      go : (x : Texts) → mid_of home_at home_size (laid x lim t) ≡ home_bytes t.home
      go InPlaces = home_get lim t allowed
      go (Shared a) = shared_get lim a t allowed 2 (omega arith) 15 4 refl refl

  -- the system code
  pub system_stands : mid_of system_at system_size (layout lim t) ≡ system_bytes t.system
  system_stands = go lim.texts
    where
      go : (x : Texts) → mid_of system_at system_size (laid x lim t) ≡ system_bytes t.system
      go InPlaces = system_get lim t allowed
      go (Shared a) = shared_get lim a t allowed 3 (omega arith) 19 3 refl refl

  -- ---- indexed tables

  -- the quick texts
  pub quick_slots : let x = lim.texts in Placed QuickOk (slot_width x quick_own quick_units) (quick_as x) quick_places t.quick (mid_of (region_start lim 4) (quick_places * slot_width x quick_own quick_units) (layout lim t))
  quick_slots = go lim.texts
    where
      go : (x : Texts) → Placed QuickOk (slot_width x quick_own quick_units) (quick_as x) quick_places t.quick (mid_of (start_in x lim 4) (quick_places * slot_width x quick_own quick_units) (laid x lim t))
      go InPlaces = quick_placed lim t allowed
      go (Shared a) = record { many = ok.quick.0; each = ok.quick.1; bytes = shared_get lim a t allowed 4 (omega arith) _ _ refl refl }

  -- the status texts
  pub status_slots : let x = lim.texts in Placed StatusOk (slot_width x status_own short_units) (status_as x) status_places t.status (mid_of (region_start lim 5) (status_places * slot_width x status_own short_units) (layout lim t))
  status_slots = go lim.texts
    where
      go : (x : Texts) → Placed StatusOk (slot_width x status_own short_units) (status_as x) status_places t.status (mid_of (start_in x lim 5) (status_places * slot_width x status_own short_units) (laid x lim t))
      go InPlaces = status_placed lim t allowed
      go (Shared a) = record { many = ok.status.0; each = ok.status.1; bytes = shared_get lim a t allowed 5 (omega arith) _ _ refl refl }

  -- the group slots
  pub group_slots : let x = lim.texts in Placed GroupOk (slot_width x member_own short_units) (group_as x) slot_places t.groups (mid_of (region_start lim 6) (slot_places * slot_width x member_own short_units) (layout lim t))
  group_slots = go lim.texts
    where
      go : (x : Texts) → Placed GroupOk (slot_width x member_own short_units) (group_as x) slot_places t.groups (mid_of (start_in x lim 6) (slot_places * slot_width x member_own short_units) (laid x lim t))
      go InPlaces = groups_placed lim t allowed
      go (Shared a) = record { many = ok.groups.0; each = ok.groups.1; bytes = shared_get lim a t allowed 6 (omega arith) _ _ refl refl }

  -- the individual slots
  pub individual_slots : let x = lim.texts in Placed IndividualOk (slot_width x member_own short_units) (individual_as x) slot_places t.individuals (mid_of (region_start lim 7) (slot_places * slot_width x member_own short_units) (layout lim t))
  individual_slots = go lim.texts
    where
      go : (x : Texts) → Placed IndividualOk (slot_width x member_own short_units) (individual_as x) slot_places t.individuals (mid_of (start_in x lim 7) (slot_places * slot_width x member_own short_units) (laid x lim t))
      go InPlaces = individuals_placed lim t allowed
      go (Shared a) = record { many = ok.individuals.0; each = ok.individuals.1; bytes = shared_get lim a t allowed 7 (omega arith) _ _ refl refl }

  -- the line slots
  pub line_slots : let x = lim.texts in Placed LineOk (slot_width x line_own short_units) (line_as x) slot_places t.line_slots (mid_of (region_start lim 8) (slot_places * slot_width x line_own short_units) (layout lim t))
  line_slots = go lim.texts
    where
      go : (x : Texts) → Placed LineOk (slot_width x line_own short_units) (line_as x) slot_places t.line_slots (mid_of (start_in x lim 8) (slot_places * slot_width x line_own short_units) (laid x lim t))
      go InPlaces = line_slots_placed lim t allowed
      go (Shared a) = record { many = ok.line_slots.0; each = ok.line_slots.1; bytes = shared_get lim a t allowed 8 (omega arith) _ _ refl refl }

  -- ---- list tables, behind their counts

  -- the group contacts
  pub group_contact_slots : let x = lim.texts in Listed GroupOk (slot_width x member_own short_units) (group_as x) contact_places t.group_contacts (mid_of (region_start lim 9 + count_size) (contact_places * slot_width x member_own short_units) (layout lim t))
  group_contact_slots = go lim.texts
    where
      go : (x : Texts) → Listed GroupOk (slot_width x member_own short_units) (group_as x) contact_places t.group_contacts (mid_of (start_in x lim 9 + count_size) (contact_places * slot_width x member_own short_units) (laid x lim t))
      go InPlaces = contacts_listed lim t allowed OfGroups
      go (Shared a) = record {
        few = ok.group_contacts.0;
        each = ok.group_contacts.1;
        bytes = (list_at (suc member_own) (group_as (Shared a)) contact_places (start_in (Shared a) lim 9) (shared_layout lim a t) t.group_contacts (shared_get lim a t allowed 9 (omega arith) _ _ refl refl)).1;
      }

  -- the individual contacts
  pub individual_contact_slots : let x = lim.texts in Listed IndividualOk (slot_width x member_own short_units) (individual_as x) contact_places t.individual_contacts (mid_of (region_start lim 10 + count_size) (contact_places * slot_width x member_own short_units) (layout lim t))
  individual_contact_slots = go lim.texts
    where
      go : (x : Texts) → Listed IndividualOk (slot_width x member_own short_units) (individual_as x) contact_places t.individual_contacts (mid_of (start_in x lim 10 + count_size) (contact_places * slot_width x member_own short_units) (laid x lim t))
      go InPlaces = contacts_listed lim t allowed OfIndividuals
      go (Shared a) = record {
        few = ok.individual_contacts.0;
        each = ok.individual_contacts.1;
        bytes = (list_at (suc member_own) (individual_as (Shared a)) contact_places (start_in (Shared a) lim 10) (shared_layout lim a t) t.individual_contacts (shared_get lim a t allowed 10 (omega arith) _ _ refl refl)).1;
      }

  -- the channels: their count and their slots stand together
  pub channels_region : mid_of (region_start lim 11) (channels_size lim) (layout lim t) ≡ counted channel_width u16 lim.channels t.channels
  channels_region = go lim.texts
    where
      go : (x : Texts) → mid_of (start_in x lim 11) (channels_size lim) (laid x lim t) ≡ counted channel_width u16 lim.channels t.channels
      go InPlaces = region_get lim t allowed 11 (omega arith) _ _ refl refl
      go (Shared a) = shared_get lim a t allowed 11 (omega arith) _ _ refl refl

  -- the lines, with their count before them and their order behind
  pub lines_region : let x = lim.texts in mid_of (region_start lim 12) (count_size + lim.lines * slot_width x line_own short_units + lim.lines) (layout lim t)
      ≡ counted (slot_width x line_own short_units) (line_as x) lim.lines t.lines ++ order_bytes lim.lines (line_order t.lines)
  lines_region = go lim.texts
    where
      go : (x : Texts) → mid_of (start_in x lim 12) (count_size + lim.lines * slot_width x line_own short_units + lim.lines) (laid x lim t)
          ≡ counted (slot_width x line_own short_units) (line_as x) lim.lines t.lines ++ order_bytes lim.lines (line_order t.lines)
      go InPlaces = region_get lim t allowed 12 (omega arith) (start_in InPlaces lim 12) (lines_size lim) refl refl
      go (Shared a) = shared_get lim a t allowed 12 (omega arith) _ _ refl refl

  -- their slots alone
  pub line_contact_slots : let x = lim.texts in Listed LineOk (slot_width x line_own short_units) (line_as x) lim.lines t.lines (mid_of (region_start lim 12 + count_size) (lim.lines * slot_width x line_own short_units) (layout lim t))
  line_contact_slots = go lim.texts
    where
      go : (x : Texts) → Listed LineOk (slot_width x line_own short_units) (line_as x) lim.lines t.lines (mid_of (start_in x lim 12 + count_size) (lim.lines * slot_width x line_own short_units) (laid x lim t))
      go InPlaces =
          let e : lines_at lim + count_size ≡ start_in InPlaces lim 12 + count_size = omega arith in
          subst (λ (b : ℕ). Listed LineOk line_width line_bytes lim.lines t.lines (mid_of b (lim.lines * line_width) (placed_layout lim t))) e (lines_listed lim t allowed)
      go (Shared a) = record {
        few = ok.lines.0;
        each = ok.lines.1;
        bytes = (followed_at (suc line_own) (line_as (Shared a)) line_long lim.lines (start_in (Shared a) lim 12) (shared_layout lim a t) t.lines (order_bytes lim.lines (line_order t.lines)) (shared_get lim a t allowed 12 (omega arith) _ _ refl refl)).0.1;
      }
