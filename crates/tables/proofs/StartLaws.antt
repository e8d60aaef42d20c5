-- Room for the tables, and starting a store. Assumes nothing.
use Rattle.lists.proofs.Kit.{ℕ, ◌-◌, ◌≤◌, ◌<◌, ◌≡◌, sym, ap, ◌∙◌, subst, subst⁻¹, Bool, true, ◌↔◌, List, arith, leb, length, replicate, set}
use Rattle.tables.specs.declared.limits.Limits.{Limits}
use Rattle.tables.specs.declared.limits.Texts.{Texts}
use Rattle.tables.specs.declared.limits.Texts.TheVariants.{Placed, Shared}
use Rattle.tables.specs.Forms.{laid, layout, AreaFits, Roomy}
use Rattle.tables.specs.Layout.{used_size}
use Rattle.tables.specs.SharedLayout.{heads_size, shared_size}
use Rattle.tables.specs.Tables.{fresh}
use Rattle.tables.proofs.AnswerLaws.{turned, leb_is}
use Rattle.tables.proofs.FreshLaws.{fresh_placed_layout}
use Rattle.tables.proofs.FreshShared.{fresh_shared_layout}

-- ---- room

-- where the tables have places and the counts fit two bytes, and the positions one, the area decides
pub room_is : (lim : Limits) → lim.channels < 65536 → lim.lines ≤ 255 → used_size lim ≤ lim.size → (b : Bool) → (b ≡ true) ↔ AreaFits lim.texts lim → (b ≡ true) ↔ Roomy lim
room_is lim c l u b f = (λ e. record { fits = u; few_channels = c; few_lines = l; area = f.0 e }, λ (r : Roomy lim). f.1 r.area)

-- texts in places of their own need no area
pub placed_fits : (lim : Limits) → lim.texts ≡ Placed → AreaFits lim.texts lim
placed_fits lim e = subst⁻¹ (λ (x : Texts). AreaFits x lim) e tt

-- one that they share fits where it is no longer than the bytes behind the heads
pub shared_fits : (lim : Limits) (a h : ℕ) → lim.texts ≡ Shared a → h ≡ heads_size lim → used_size lim ≤ lim.size → (leb a (lim.size - h) ≡ true) ↔ AreaFits lim.texts lim
shared_fits lim a h e k u =
    turned (leb a (lim.size - h)) (leb_is a (lim.size - h)) (λ l. subst⁻¹ (λ (x : Texts). AreaFits x lim) e (omega arith))
    (λ f. let g : shared_size lim a ≤ lim.size = subst (λ (x : Texts). AreaFits x lim) e f in omega arith)

-- ---- starting

-- FRESH-LAYOUT: in either form it is all zeros, but for the key's flags, which say current
pub fresh_layout : (lim : Limits) → Roomy lim → layout lim fresh ≡ set (replicate lim.size 0) 11 16
fresh_layout lim r = go lim.texts r.area
  where
    go : (x : Texts) → AreaFits x lim → laid x lim fresh ≡ set (replicate lim.size 0) 11 16
    go Placed a = fresh_placed_layout lim r
    go (Shared n) a = fresh_shared_layout lim n a

-- zeros of a store's size, with current 1, are a fresh store
pub fresh_made : (lim : Limits) (s t : List ℕ) → Roomy lim → length s ≡ lim.size → t ≡ replicate (length s) 0 → set t 11 16 ≡ layout lim fresh
fresh_made lim s t r l e = ap (λ (u : List ℕ). set u 11 16) (e ∙ ap (λ (i : ℕ). replicate i 0) l) ∙ sym (fresh_layout lim r)
