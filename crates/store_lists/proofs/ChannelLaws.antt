-- Laws of the table of channels: what a turn of its loop does. Assumes nothing.
use Rattle.lists.proofs.Kit.{◌≡◌, refl, sym, ◌∙◌, subst, Bool, true, false, List, [], ◌∷◌, map, head-eq_of_cons-eq, tail-eq_of_cons-eq, ℕ, ◌+◌, ◌-◌, ◌≤◌, ◌<◌, add-one, arith, eqb, length, drop, get_or, replicate, drop-cons}
use Rattle.lists.specs.Every.{All}
use Rattle.slots.specs.Slots.{u16}
use Rattle.slots.proofs.Numbers.{u16_same}
use Rattle.counted_lists.specs.Counted.{Counted, Tried, Added, KeyDropped}
use Rattle.counted_lists.proofs.EntryLaws.{Keyed, entries_add, entries_drop, entries_none}
use Rattle.counted_lists.proofs.ListLaws.{tried_room, tried_full}
use Rattle.writing.specs.declared.Operation.{Operation}
use Rattle.writing.specs.declared.Operation.TheVariants.{Add, Delete}
use Rattle.writing.specs.Ranges.{InChannel}
use Rattle.settings.specs.declared.settings.Entries.{Entries}
use Rattle.read_fields.specs.Places.{FieldsAt}
use Rattle.read_fields.specs.Entries.{channel_list}
use Rattle.settings.specs.Meant.{EntriesAre}
use Rattle.tables.specs.Apply.{in_turn, start_from, channel_step}
use Rattle.tables.specs.Layout.{channel_width}
use Rattle.store_lists.specs.Lists.{ChannelTable, ChannelApplied, ChannelsApplied}
use Rattle.tables.proofs.EntryWalk.{Going, going_start, going_next, going_full, going_end}
use Rattle.tables.proofs.ReplaceLaws.{table_started}

-- ---- one channel

-- a channel is its own key
tuned : Keyed channel_width u16 0 2 u16
tuned = record { inside = omega arith; long = λ a. refl; key_long = λ a. refl; stands = λ a. refl }

-- a channel is added at the end
pub channel_added : (c : ℕ) (x s t : List ℕ) (r : Bool) → x ≡ u16 c → Added channel_width x s t r → ChannelApplied Add c s t r
channel_added c x s t r e h n cs k p = entries_add InChannel channel_width u16 n cs s k c t r p refl (subst (λ (v : List ℕ). Added channel_width v s t r) e h)

-- a channel is taken out wherever it stands
pub channel_deleted : (c : ℕ) (x s t : List ℕ) → x ≡ u16 c → KeyDropped channel_width 0 x s t → ChannelApplied Delete c s t true
channel_deleted c x s t e h n cs k p =
    tried_room (ChannelTable n) _ refl
    (entries_drop (Counted channel_width n) InChannel u16 channel_width 0 2 u16 tuned (λ a. eqb a c) cs k.each (u16 c) t refl (λ a q. u16_same a c)
    (subst (λ (v : List ℕ). KeyDropped channel_width 0 v s t) e h (omega arith) n (map u16 cs) k.counted))

-- ---- the loop

-- of the channels that stand, those from place i on are left
abbrev FromPlace : List ℕ → List ℕ → ℕ → Type 0
FromPlace ns rest i = rest ≡ drop i ns

-- x is the channel in place i
abbrev pub ChannelIs : List ℕ → Entries → ℕ → ℕ → Type 0
ChannelIs m p i x = (es : List ℕ) (next : ℕ) → FieldsAt (channel_list es) m p.start next → i < length es → x ≡ get_or es i 0

-- Is says which bytes are a table of channels
module _ (Is : ℕ → List ℕ → List ℕ → Type 0) (o : Operation) (m : List ℕ) (p : Entries) (s : List ℕ) where
  -- on a region that was s, whatever its places, the channels from place i on are left, and it is now t
  abbrev pub ChannelsLeft : ℕ → List ℕ → Type 0
  ChannelsLeft i t = (n : ℕ) → Going (EntriesAre (λ c. channel_list) m p) FromPlace InChannel (channel_step n o) (Is n) s i (p.count - i) t

  -- what all channels in turn answer
  abbrev pub ChannelsDone : List ℕ → Bool → Type 0
  ChannelsDone t r = (n : ℕ) (cs ns : List ℕ) → Is n cs s → EntriesAre (λ c. channel_list) m p ns → All InChannel ns → Tried (Is n) (in_turn (channel_step n o) ns cs) t r

  -- at the start all are left
  pub channels_start : ChannelsLeft 0 s
  channels_start n = going_start (EntriesAre (λ c. channel_list) m p) FromPlace InChannel (channel_step n o) (Is n) s 0 (p.count - 0) (λ ns e. (omega (arith, e.counted), refl))

  -- at the end none is left
  pub channels_end : (i : ℕ) (t : List ℕ) → p.count ≤ i → ChannelsLeft i t → ChannelsDone t true
  channels_end i t h g n cs ns l e q =
      let (u, d, k) = going_end (EntriesAre (λ c. channel_list) m p) FromPlace InChannel (channel_step n o) (Is n) s i (p.count - i) t (omega arith) (g n) ns cs e q l in
      tried_room (Is n) u d k

  module _ (i x : ℕ) (t u : List ℕ) (r : Bool) (h : i < p.count) (g : ChannelsLeft i t) (is : ChannelIs m p i x) (turn : (n : ℕ) (cs : List ℕ) → Is n cs t → InChannel x → Tried (Is n) (channel_step n o x cs) u r) where
    -- the channel in place i is the next
    next : (ns : List ℕ) → EntriesAre (λ c. channel_list) m p ns → (b : ℕ) (more : List ℕ) → FromPlace ns (b ∷ more) i → (b ≡ x) × FromPlace ns more (i + 1)
    next ns e b more d =
        let k : i < length ns = omega (arith, e.counted) in
        let z : b ∷ more ≡ get_or ns i 0 ∷ drop (i + 1) ns = rw add-one (d ∙ drop-cons ns i 0 k) in
        (head-eq_of_cons-eq z ∙ sym (is ns p.next e.stands k), tail-eq_of_cons-eq z)

    -- it had room
    pub channels_on : r ≡ true → ChannelsLeft (i + 1) u
    channels_on e n =
        let k : p.count - i - 1 ≡ p.count - (i + 1) = omega arith in
        subst (λ (left : ℕ). Going (EntriesAre (λ c. channel_list) m p) FromPlace InChannel (channel_step n o) (Is n) s (i + 1) left u) k
        (going_next (EntriesAre (λ c. channel_list) m p) FromPlace InChannel (channel_step n o) (Is n) s i (i + 1) (p.count - i) t x (omega arith) next (g n) u
        (λ cs l q. (turn n cs l q).room e))

    -- it had none
    pub channels_stop : r ≡ false → ChannelsDone u false
    channels_stop e n cs ns l d q =
        tried_full (Is n)
        (going_full (EntriesAre (λ c. channel_list) m p) FromPlace InChannel (channel_step n o) (Is n) s i (i + 1) (p.count - i) t x (omega arith) next (g n)
        (λ cs l q. (turn n cs l q).full e) ns cs d q l)

-- ---- replacing

-- what was done to a region that was emptied where it is to be replaced was done to the region
pub channels_applied : (o : Operation) (m : List ℕ) (p : Entries) (s t u : List ℕ) (r : Bool) → t ≡ start_from o (replicate (length s) 0) s → ChannelsDone ChannelTable o m p t u r → ChannelsApplied o m p s u r
channels_applied o m p s t u r e d n cs ns l = d n (start_from o [] cs) ns (table_started (ChannelTable n) [] cs s t o e (entries_none InChannel channel_width u16 n cs s l) l)
