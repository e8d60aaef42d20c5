-- The channels of a store: the count stands before them, and each in its slot. Assumes nothing.
use Rattle.lists.proofs.Kit.{ℕ, zero, suc, ◌+◌, ◌*◌, ◌-◌, ◌≤◌, ◌<◌, ◌≡◌, refl, sym, ap, ◌∙◌, subst, List, [], ◌∷◌, map, none, some, not-suc-le-zero, le_of_suc-le-suc, arith, mid_of, length, get_or, length-map, list_getD_eq_default}
use Rattle.lists.specs.Ladder.{Answers}
use Rattle.slots.specs.Slots.{slot, front, u16, Placed}
use Rattle.slots.proofs.Tables.{front_length, all_front, place_read}
use Rattle.counted_lists.specs.Counted.{Told}
use Rattle.counted_lists.proofs.EntryLaws.{entries_count}
use Rattle.writing.specs.Ranges.{InChannel}
use Rattle.tables.specs.declared.limits.Limits.{Limits}
use Rattle.tables.specs.Allowed.{Allowed}
use Rattle.tables.specs.Forms.{layout, region_start}
use Rattle.tables.specs.Layout.{count_size, channel_width, channels_size}
use Rattle.tables.specs.Store.{StoreOf, Holds}
use Rattle.tables.specs.Tables.{Tables}
use Rattle.shared_texts.proofs.FormLists.{channels_counted, channels_listed}
use Rattle.screen.proofs.SeenLaws.{part_part, front_get}
use Rattle.screen.proofs.SlotLaws.{slot_within}
use Rattle.std.specs.Prelude.{Ok, Err}
use Rattle.values.specs.declared.answers.NoValue.TheVariants.{Absent}
use Rattle.values.specs.Values.{channel_at, told, tuning}
use Rattle.values.proofs.AskLaws.{is_given, is_absent}

-- two bytes are the number that they were made of
pub pair_is : (s : List ℕ) (x y : ℕ) → x ≡ get_or s 0 0 → y ≡ get_or s 1 0 → (a : ℕ) → s ≡ u16 a → x * 256 + y ≡ a
pair_is s x y p q a e = omega (arith, p ∙ ap (λ l. get_or l 0 0) e, q ∙ ap (λ l. get_or l 1 0) e)

-- ---- entries by position

-- one stands at each position of the list
pub at_some : {A : Type 0} (ls : List A) (n : ℕ) → n < length ls → (a : A) × (get_or (map some ls) n none ≡ some a)
at_some [] n h = absurd (not-suc-le-zero h)
at_some (a ∷ ls) zero h = (a, refl)
at_some (a ∷ ls) (suc n) h = at_some ls n (le_of_suc-le-suc h)

-- and at no other
pub at_none : {A : Type 0} (ls : List A) (n : ℕ) → length ls ≤ n → get_or (map some ls) n none ≡ none
at_none ls n h = list_getD_eq_default (map some ls) none (omega (arith, length-map ls some))

-- the channel at a position, in its slot
channel_slot : (lim : Limits) (t : Tables) → Allowed lim t → (n : ℕ) → n < length t.channels
    → (c : ℕ) × (channel_at t n ≡ some c) × (mid_of (region_start lim 11 + count_size + n * channel_width) channel_width (layout lim t) ≡ u16 c)
channel_slot lim t ok n h =
    let l = channels_listed lim t ok in
    let base : ℕ = region_start lim 11 + count_size in
    let size : ℕ = lim.channels * channel_width in
    let (c, e) = at_some t.channels n h in
    let room : n < lim.channels = omega (arith, l.few) in
    let p : Placed InChannel channel_width u16 lim.channels (front lim.channels t.channels) (mid_of base size (layout lim t))
    = record { many = front_length lim.channels t.channels; each = all_front InChannel lim.channels t.channels l.each; bytes = l.bytes } in
    let w : n * channel_width + channel_width - n * channel_width ≡ channel_width = omega arith in (
      c,
      e,
      sym (part_part (layout lim t) base size (n * channel_width) channel_width (slot_within n lim.channels channel_width room))
          ∙ ap (λ (i : ℕ). mid_of (n * channel_width) i (mid_of base size (layout lim t))) (sym w)
          ∙ place_read InChannel channel_width u16 (λ a. refl) lim.channels (front lim.channels t.channels) (mid_of base size (layout lim t)) p n room
          ∙ ap (slot channel_width u16) (front_get lim.channels t.channels n room ∙ e),
    )

-- ---- the answer

-- the count of the channels' region, which starts at `from` and ends at `to`, was read
module _ (lim : Limits) (store : List ℕ) (s : StoreOf lim store) (from to : ℕ) (at : from ≡ region_start lim 11) (behind : to ≡ region_start lim 11 + channels_size lim) (r : ℕ) (counted : Told (mid_of from (to - from) store) r) where
  -- it is how many there are
  count_is : (t : Tables) → Holds lim t store → r ≡ length t.channels
  count_is t h =
      let size : to - from ≡ channels_size lim = omega arith in
      entries_count InChannel channel_width u16 lim.channels t.channels _ (channels_counted lim t h.0 s.roomy) r
      (subst (λ (x : List ℕ). Told x r) (λ i. mid_of (at i) (size i) (h.1 i)) counted)

  module _ (n : ℕ) where
    -- behind the last there is none
    pub channel_absent : r ≤ n → Answers (tuning lim n store) (told (Err Absent))
    channel_absent h = is_absent lim (λ t. channel_at t n) store s (λ t o. at_none t.channels n (omega (arith, count_is t o)))

    -- where its slot starts
    abbrev start : ℕ
    start = from + count_size + n * channel_width

    module _ (h : n < r) where
      -- the slot of one that is there ends with the region, or before
      pub channel_within : start + channel_width ≤ to
      channel_within =
          omega (arith, count_is s.store.tables (s.store.allowed, s.store.bytes_are), s.store.allowed.channels.0)

      -- and has the channel
      pub channel_there : (c : ℕ) → ((a : ℕ) → mid_of start (start + channel_width - start) store ≡ u16 a → c ≡ a) → Answers (tuning lim n store) (told (Ok c))
      channel_there c read =
          is_given lim (λ t. channel_at t n) store s c (λ t o.
          let (a, e, b) = channel_slot lim t o.0 n (omega (arith, count_is t o)) in
          let w : start + channel_width - start ≡ channel_width = omega arith in
          let j : start ≡ region_start lim 11 + count_size + n * channel_width = omega arith in
          e ∙ ap some (sym (read a ((λ i. mid_of (j i) (w i) (o.1 i)) ∙ b))))
