-- Kept channels are written two in three bytes. Assumes nothing.
use Rattle.lists.proofs.Kit.{ℕ, suc, ◌+◌, ◌-◌, ◌*◌, ◌/◌, ◌%◌, ◌≤◌, ◌<◌, ◌≡◌, refl, sym, ap, ◌∙◌, List, [], ◌∷◌, ◌++◌, map, arith, mid_of, length, drop, get_or, drop_of_length-le, drop-cons, get_or-drop, get_or-take}
use Rattle.lists.specs.Every.{All}
use Rattle.lists.proofs.Every.{all_append, all_get, all_map}
use Rattle.slots.specs.Slots.{u16, u24, zeros?, Listed, Found}
use Rattle.writing.specs.declared.Operation.TheVariants.{Replace}
use Rattle.writing.specs.Canonical.{plain, FitsField}
use Rattle.writing.specs.Fields.{val, res}
use Rattle.writing.specs.Ranges.{InChannel}
use Rattle.writing.specs.Settings.{channels, kind, unicode16}
use Rattle.writing.specs.Writing.{fill, op, type_byte, body}
use Rattle.writing.proofs.Bits.{widths_append, widths_map}
use Rattle.writing.proofs.Whole.{Whole, fill_whole}
use Rattle.tables.proofs.EntryCodes.{channel_shown}
use Rattle.export_write.specs.ChannelWriters.{ChannelsIn, Counted, packed, two_bits, last_bits, WritesPacked}
use Rattle.export_write.specs.Writers.{Wrote}
use Rattle.export_write.proofs.ListWriting.{entry_read, entries_used}
use Rattle.export_write.proofs.NumberWriting.{fill_fits}
use Rattle.export_write.proofs.PairLaws.{all_drop, drop_two}
use Rattle.export_write.proofs.PlainLaws.{plain_two, plain_three}
use Rattle.export_write.proofs.SlotWriting.{Slotted}
use Rattle.export_write.proofs.WroteLaws.{Writing, writing_more, writing_end, wrote_both, wrote_as}

-- ---- the bytes of channels

packed_whole : (cs : List ℕ) → Whole (packed cs)
packed_whole cs =
    let (n, e) = fill_whole (length cs) in
    (length cs + n, simp widths_append (omega (arith, widths_map (val 12) 12 (λ v. refl) cs)))

pub packed_fits : (cs : List ℕ) → All InChannel cs → All FitsField (packed cs)
packed_fits cs h =
    all_append FitsField (map (val 12) cs) (fill (length cs)) (all_map InChannel FitsField (val 12) (λ c k. omega (arith, k.1)) cs h) (fill_fits (length cs))

-- ---- channels as they are kept

-- they stand in slots of two bytes
channel_slotted : Slotted InChannel 2 u16
channel_slotted = record { wide = omega arith; long = λ u. refl; shown = channel_shown }

module _ (s cs : List ℕ) (n : ℕ) (t : Listed InChannel 2 u16 n cs s) where
  -- the two bytes of channel k
  kept_number : (i j k : ℕ) → i ≡ 2 * k → j ≡ 2 * k + 1 → k < length cs → get_or s i 0 * 256 + get_or s j 0 ≡ get_or cs k 0
  kept_number i j k e f h =
      let z = (entry_read channel_slotted n cs s 0 t k h).1 in
      let x : get_or s i 0 ≡ get_or cs k 0 / 256 = byte_at i 0 k (omega arith) (omega arith) ∙ ap (λ (l : List ℕ). get_or l 0 0) z in
      let y : get_or s j 0 ≡ get_or cs k 0 % 256 = byte_at j 1 k (omega arith) (omega arith) ∙ ap (λ (l : List ℕ). get_or l 1 0) z in
      omega arith
    where
      byte_at : (i b k : ℕ) → i ≡ k * 2 + b → b < 2 → get_or s i 0 ≡ get_or (mid_of (k * 2) (k * 2 + 2 - k * 2) s) b 0
      byte_at i b k e l =
          ap (λ (q : ℕ). get_or s q 0) e ∙ sym (get_or-drop (k * 2) s b 0) ∙ sym (get_or-take (k * 2 + 2 - k * 2) (drop (k * 2) s) b 0 (omega arith))

-- ---- the walk

-- so many pairs are written
abbrev pub Packed : (region buffer₀ buffer : List ℕ) → (count at to i : ℕ) → Type 0
Packed region buffer₀ buffer count at to i = (cs : List ℕ) → Counted region count cs → Writing (plain (packed cs)) at buffer₀ buffer to (plain (packed (drop (2 * i) cs)))

module _ (region buffer₀ buffer : List ℕ) (count at to i : ℕ) (g : Packed region buffer₀ buffer count at to i) where
  -- three bytes more
  pub packed_more : (after x : List ℕ) (r bits : ℕ) → i < count / 2 → bits ≡ two_bits region i → (bits < 16777216 → x ≡ u24 bits) → Wrote x to buffer after r
      → Packed region buffer₀ after count at r (i + 1)
  packed_more after x r bits l e f w cs ((n, t), m) =
      let k : 2 * i + 1 < length cs = omega arith in
      let a : ℕ = get_or cs (2 * i) 0 in
      let b : ℕ = get_or cs (2 * i + 1) 0 in
      let rest : List ℕ = drop (2 * (i + 1)) cs in
      let a1 : a ≤ 640 = (all_get InChannel cs (2 * i) 0 t.each (omega arith)).1 in
      let b1 : b ≤ 640 = (all_get InChannel cs (2 * i + 1) 0 t.each k).1 in
      let ka : get_or region (4 * i) 0 * 256 + get_or region (4 * i + 1) 0 ≡ a = kept_number region cs n t (4 * i) (4 * i + 1) (2 * i) (omega arith) (omega arith) (omega arith) in
      let kb : get_or region (4 * i + 2) 0 * 256 + get_or region (4 * i + 3) 0 ≡ b = kept_number region cs n t (4 * i + 2) (4 * i + 3) (2 * i + 1) (omega arith) (omega arith) k in
      let v : bits ≡ a * 4096 + b = omega arith in
      writing_more (plain (packed cs)) at to r buffer₀ buffer after (plain (packed (drop (2 * i) cs))) x (plain (packed rest)) (g cs ((n, t), m))
      (ap (λ (z : List ℕ). plain (packed z)) (drop_two 0 cs i k)
      ∙ plain_three bits (val 12 a ∷ val 12 b ∷ []) (packed rest) refl (omega arith) (omega arith) (packed_whole rest) (packed_fits rest (all_drop InChannel (2 * (i + 1)) cs t.each))
      ∙ ap (λ (z : List ℕ). z ++ plain (packed rest)) (sym (f (omega arith)))) w

  -- none is left
  pub packed_even : i ≡ count / 2 → count % 2 ≡ 0 → (cs : List ℕ) → Counted region count cs → Wrote (plain (packed cs)) at buffer₀ buffer to
  packed_even l e cs (t, m) =
      writing_end (plain (packed cs)) at to buffer₀ buffer (plain (packed (drop (2 * i) cs))) (g cs (t, m))
      (ap (λ (x : List ℕ). plain (packed x)) (drop_of_length-le cs {i = 2 * i} (omega arith)))

  -- one is left
  pub packed_odd : (after : List ℕ) (r bits : ℕ) → i ≡ count / 2 → count % 2 ≡ 1 → bits ≡ last_bits region i → Wrote (u16 bits) to buffer after r
      → (cs : List ℕ) → Counted region count cs → Wrote (plain (packed cs)) at buffer₀ after r
  packed_odd after r bits l o e w cs ((n, t), m) =
      let k : 2 * i < length cs = omega arith in
      let a : ℕ = get_or cs (2 * i) 0 in
      let a1 : a ≤ 640 = (all_get InChannel cs (2 * i) 0 t.each k).1 in
      let ka : get_or region (4 * i) 0 * 256 + get_or region (4 * i + 1) 0 ≡ a = kept_number region cs n t (4 * i) (4 * i + 1) (2 * i) (omega arith) (omega arith) k in
      let v : bits ≡ a * 16 + 15 = omega arith in
      let d : drop (2 * i) cs ≡ a ∷ []
      = drop-cons cs (2 * i) 0 k ∙ ap (λ (u : List ℕ). a ∷ u) (drop_of_length-le cs {i = suc (2 * i)} (omega arith)) in
      writing_end (plain (packed cs)) at r buffer₀ after []
      (writing_more (plain (packed cs)) at to r buffer₀ buffer after (plain (packed (drop (2 * i) cs))) (u16 bits) [] (g cs ((n, t), m))
      (ap (λ (u : List ℕ). plain (packed u)) d ∙ plain_two bits (val 12 a ∷ val 4 15 ∷ []) [] refl (omega arith) (omega arith) (0, refl) tt) w) refl

-- ---- the setting

-- the operation and the count are two bytes
channels_plain : (cs : List ℕ) → All InChannel cs → length cs < 1024 → plain (body unicode16 (channels Replace cs)) ≡ (192 + length cs / 256) ∷ (length cs % 256) ∷ plain (packed cs)
channels_plain cs h l =
    let n : ℕ = length cs in
    let v : ℕ = 49152 + n in
    let x : v / 256 ≡ 192 + n / 256 = omega arith in
    let y : v % 256 ≡ n % 256 = omega arith in
    plain_two v (op Replace ∷ res 4 ∷ val 10 n ∷ []) (packed cs) refl (omega arith) (omega arith) (packed_whole cs) (packed_fits cs h) ∙ (λ i. x i ∷ y i ∷ plain (packed cs))

-- it is written as a replace
pub channels_wrote : (region : List ℕ) (at used m end : ℕ) (s t u : List ℕ) → used ≤ 2046 → Found (0 < 2) zeros? 2 region used
    → Wrote ((192 + used / 2 / 256) ∷ (used / 2 % 256) ∷ []) (at + 3) s t m → WritesPacked region (used / 2) m t u end
    → (cs : List ℕ) → ChannelsIn region cs
    → (type_byte (kind (channels Replace cs)) ≡ 0xCE) × All FitsField (body unicode16 (channels Replace cs)) × Wrote (plain (body unicode16 (channels Replace cs))) (at + 3) s u end
channels_wrote region at used m end s t u few f v w cs k =
    let n : length cs ≡ used / 2 = entries_used channel_slotted region cs used k f in
    let h : All InChannel cs = k.1.each in
    let head : List ℕ = (192 + used / 2 / 256) ∷ (used / 2 % 256) ∷ [] in
    let e : head ++ plain (packed cs) ≡ plain (body unicode16 (channels Replace cs))
    = ap (λ (i : ℕ). (192 + i / 256) ∷ (i % 256) ∷ plain (packed cs)) (sym n) ∙ sym (channels_plain cs h (omega arith)) in (
      refl,
      (omega arith, (tt, (omega arith, packed_fits cs h))),
      wrote_as (head ++ plain (packed cs)) (plain (body unicode16 (channels Replace cs))) (at + 3) end s u e
          (wrote_both head (plain (packed cs)) (at + 3) m end s t u v (w.wrote cs (k, n))),
    )
