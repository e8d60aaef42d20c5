-- The channels and the lines of a store, in the form that its limits name, as lists with their counts. Assumes nothing.
use Rattle.lists.proofs.Kit.{ℕ, ◌+◌, ◌*◌, ◌≤◌, ◌<◌, ◌≡◌, refl, ap, ◌∙◌, subst⁻¹, List, [], ◌∷◌, map, arith, mid_of, length, drop, take_at}
use Rattle.lists.specs.Every.{All}
use Rattle.slots.specs.Slots.{front, places, u16, Listed}
use Rattle.slots.proofs.Keys.{Keyed}
use Rattle.slots.proofs.Parts.{get_behind}
use Rattle.counted_lists.specs.Counted.{CountedOf}
use Rattle.counted_lists.proofs.EntryLaws.{entries_made}
use Rattle.orders.specs.OrderParts.{order_bytes}
use Rattle.orders.specs.OrderedLists.{OrderedList}
use Rattle.writing.specs.Ranges.{InChannel}
use Rattle.tables.specs.declared.limits.Limits.{Limits}
use Rattle.tables.specs.declared.limits.Texts.{Texts}
use Rattle.tables.specs.declared.limits.Texts.TheVariants.{Placed as InPlaces, Shared}
use Rattle.tables.specs.declared.members.Members.TheVariants.{OfGroups, OfIndividuals}
use Rattle.tables.specs.Allowed.{Allowed, GroupOk, IndividualOk, LineOk}
use Rattle.tables.specs.Forms.{layout, region_start, slot_width, group_as, individual_as, line_as, Roomy}
use Rattle.tables.specs.Heads.{member_own, line_own}
use Rattle.tables.specs.Layout.{count_size, counted, channel_width, channels_size, line_key_at, line_key_size, address_at, address_size}
use Rattle.tables.specs.Order.{line_order}
use Rattle.tables.specs.Tables.{Tables}
use Rattle.tables.proofs.EntryCodes.{channel_code, key_of, line_keyed, address_of, member_keyed}
use Rattle.tables.proofs.OrderLaws.{keyed_made}
use Rattle.shared_texts.proofs.FormFrames.{short_units, channels_region, lines_region}
use Rattle.shared_texts.proofs.SharedFrames.{line_long, counted_wide, two_runs}

-- ---- what an entry is known by stands behind its flags, in both forms

-- LINE-AS-KEYED: a line's key
pub line_as_keyed : (x : Texts) → Keyed LineOk (slot_width x line_own short_units) (line_as x) line_key_at line_key_size key_of
line_as_keyed InPlaces = line_keyed
line_as_keyed (Shared a) = record {
  wide = omega arith;
  inside = omega arith;
  long = line_long;
  key_long = line_keyed.key_long;
  stands = λ l. take_at (key_of l) (length l.text ∷ []) line_key_size (line_keyed.key_long l);
  shown = line_keyed.shown;
}

-- GROUP-AS-KEYED: a group's address
pub group_as_keyed : (x : Texts) → Keyed GroupOk (slot_width x member_own short_units) (group_as x) address_at address_size (address_of OfGroups)
group_as_keyed InPlaces = member_keyed OfGroups
group_as_keyed (Shared a) = record { wide = omega arith; inside = omega arith; long = λ g. refl; key_long = λ g. refl; stands = λ g. refl; shown = (member_keyed OfGroups).shown }

-- INDIVIDUAL-AS-KEYED: and an individual's
pub individual_as_keyed : (x : Texts) → Keyed IndividualOk (slot_width x member_own short_units) (individual_as x) address_at address_size (address_of OfIndividuals)
individual_as_keyed InPlaces = member_keyed OfIndividuals
individual_as_keyed (Shared a) = record { wide = omega arith; inside = omega arith; long = λ i. refl; key_long = λ i. refl; stands = λ i. refl; shown = (member_keyed OfIndividuals).shown }

-- ---- lists with their counts

-- a list table of w bytes a slot, with its count before it
counted_of : {A : Type 0} (P : A → Type 0) (w : ℕ) (f : A → List ℕ) (n : ℕ) (xs : List A) (s : List ℕ) → 0 < w → n < 65536 → ((a : A) → length (f a) ≡ w) → length xs ≤ n → All P xs → s ≡ counted w f n xs → CountedOf P w f n xs s
counted_of P w f n xs s wide few long room each is = entries_made P w f n xs s (places w f (front n xs)) wide few long (record { few = room; each = each; bytes = refl }) is

module _ (lim : Limits) (t : Tables) (ok : Allowed lim t) where
  -- the channels
  pub channels_listed : Listed InChannel channel_width u16 lim.channels t.channels (mid_of (region_start lim 11 + count_size) (lim.channels * channel_width) (layout lim t))
  channels_listed = record {
    few = ok.channels.0;
    each = ok.channels.1;
    bytes = get_behind count_size (region_start lim 11) (lim.channels * channel_width) (layout lim t) ∙ ap (drop count_size) (channels_region lim t ok);
  }

  pub channels_counted : Roomy lim → CountedOf InChannel channel_width u16 lim.channels t.channels (mid_of (region_start lim 11) (channels_size lim) (layout lim t))
  channels_counted r =
      counted_of InChannel channel_width u16 lim.channels t.channels _ (omega arith) r.few_channels channel_code.long ok.channels.0 ok.channels.1 (channels_region lim t ok)

  -- the lines, and their order behind them
  pub lines_ordered : Roomy lim → let x = lim.texts in OrderedList (slot_width x line_own short_units) line_key_at line_key_size lim.lines (map (line_as x) t.lines)
      (mid_of (region_start lim 12) (count_size + lim.lines * slot_width x line_own short_units + lim.lines) (layout lim t))
  lines_ordered r =
      let x : Texts = lim.texts in
      subst⁻¹ (OrderedList (slot_width x line_own short_units) line_key_at line_key_size lim.lines (map (line_as x) t.lines)) (lines_region lim t ok)
      (keyed_made (line_as_keyed x) lim.lines t.lines ok.lines.0 r.few_lines ok.lines.1 ok.distinct)

  -- the lines alone
  pub lines_counted : Roomy lim → let x = lim.texts in CountedOf LineOk (slot_width x line_own short_units) (line_as x) lim.lines t.lines
      (mid_of (region_start lim 12) (count_size + lim.lines * slot_width x line_own short_units) (layout lim t))
  lines_counted r =
      let x : Texts = lim.texts in
      let w : ℕ = slot_width x line_own short_units in
      let k = line_as_keyed x in
      counted_of LineOk w (line_as x) lim.lines t.lines _ k.wide (omega (arith, r.few_lines)) k.long ok.lines.0 ok.lines.1
      (two_runs (region_start lim 12) (count_size + lim.lines * w) lim.lines (layout lim t) (counted w (line_as x) lim.lines t.lines) (order_bytes lim.lines (line_order t.lines))
      (counted_wide w (line_as x) k.long lim.lines t.lines) (lines_region lim t ok)).0
