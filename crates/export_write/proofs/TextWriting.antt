-- A kept text is written as its units and the end unit. Assumes nothing.
use Rattle.lists.proofs.Kit.{ℕ, ◌-◌, ◌*◌, ◌≤◌, ◌<◌, ◌≡◌, refl, sym, ap, ap₂, ◌∙◌, List, [], ◌∷◌, ◌++◌, map, arith, mid_of, length, take, replicate, length-map, take_at, take_all}
use Rattle.lists.specs.Every.{All}
use Rattle.lists.proofs.Every.{all_made}
use Rattle.slots.specs.Slots.{flat, pad, u16, zeros?, Listed, Found}
use Rattle.slots.proofs.Keys.{used_at}
use Rattle.slots.proofs.Numbers.{u16_shown}
use Rattle.slots.proofs.Pads.{pad_is}
use Rattle.slots.proofs.Parts.{slots_length}
use Rattle.slots.proofs.Tables.{front_bytes}
use Rattle.writing.specs.Canonical.{plain, FitsField}
use Rattle.writing.specs.Fields.{item}
use Rattle.writing.specs.Settings.{Text, unicode16}
use Rattle.writing.specs.Writing.{text}
use Rattle.writing.proofs.Whole.{text_whole}
use Rattle.tables.specs.Allowed.{TextOk}
use Rattle.tables.specs.Layout.{text_bytes}
use Rattle.tables.proofs.TextLaws.{Unit16, text_padded}
use Rattle.export_write.specs.Writers.{Wrote, TextIn}
use Rattle.export_write.proofs.PlainLaws.{plain_two}
use Rattle.export_write.proofs.WroteLaws.{wrote_both, wrote_as}

-- a text's values fit
pub text_fits : (us : Text) → All Unit16 us → All FitsField (text unicode16 us)
text_fits [] h = (omega arith, tt)
text_fits (u ∷ us) h = ((h.0.1, h.0.0), text_fits us h.1)

-- its bytes are two for each unit, and the end unit's
pub plain_text : (us : Text) → All Unit16 us → plain (text unicode16 us) ≡ flat (map u16 us) ++ (0 ∷ 0 ∷ [])
plain_text [] h = refl
plain_text (u ∷ us) h =
    plain_two u (item 16 0 u ∷ []) (text unicode16 us) refl (omega arith) h.0.1 (text_whole unicode16 us) (text_fits us h.1)
    ∙ ap (λ (l : List ℕ). u16 u ++ l) (plain_text us h.1)

-- two bytes for each unit
units_long : (us : Text) → length (flat (map u16 us)) ≡ length us * 2
units_long us = slots_length 2 (map u16 us) (all_made (λ x. length x ≡ 2) u16 (λ u. refl) us) ∙ ap (λ (k : ℕ). k * 2) (length-map us u16)

module _ (s : List ℕ) (us : Text) (n : ℕ) (ok : TextOk n us) (e : s ≡ text_bytes n us) where
  padded : s ≡ pad 0 (n * 2) (flat (map u16 us))
  padded = let k : 2 * n ≡ n * 2 = omega arith in e ∙ sym (text_padded n us) ∙ ap (λ (i : ℕ). pad 0 i (flat (map u16 us))) k

  -- a kept text is a list of units
  text_listed : Listed Unit16 2 u16 n us s
  text_listed = record { few = ok.short; each = ok.units; bytes = padded ∙ sym (front_bytes 2 u16 (λ u. refl) n us) }

  -- its units stand before the first that is 0
  pub units_are : (r : ℕ) → Found (0 < 2) zeros? 2 s r → mid_of 0 (r - 0) s ≡ flat (map u16 us)
  units_are r f =
      let a : r ≡ length us * 2 = used_at Unit16 2 u16 (λ u. refl) (λ u h. u16_shown u h.0) (omega arith) n us s text_listed r f in
      let k : r - 0 ≡ length us * 2 = omega arith in
      let l : length (flat (map u16 us)) ≡ length us * 2 = units_long us in
      let m : length (flat (map u16 us)) ≤ n * 2 = omega (arith, ok.short) in
      ap₂ take k (padded ∙ pad_is 0 (n * 2) (flat (map u16 us)) ∙ ap (λ (x : List ℕ). x ++ replicate (n * 2 - length (flat (map u16 us))) 0) (take_all (n * 2) (flat (map u16 us)) m))
      ∙ take_at (flat (map u16 us)) (replicate (n * 2 - length (flat (map u16 us))) 0) (length us * 2) l

-- the units, then the end unit, are the text
pub text_wrote : (s t u v : List ℕ) (at r m z : ℕ) → Found (0 < 2) zeros? 2 s r → Wrote (mid_of 0 (r - 0) s) at t u m → Wrote (0 ∷ 0 ∷ []) m u v z
    → (us : Text) → TextIn s us → Wrote (plain (text unicode16 us)) at t v z
text_wrote s t u v at r m z f a b us (n, (ok, e)) =
    wrote_as (mid_of 0 (r - 0) s ++ (0 ∷ 0 ∷ [])) (plain (text unicode16 us)) at z t v
    (ap (λ (x : List ℕ). x ++ (0 ∷ 0 ∷ [])) (units_are s us n ok e r f) ∙ sym (plain_text us ok.units))
    (wrote_both (mid_of 0 (r - 0) s) (0 ∷ 0 ∷ []) at m z t u v a b)
