-- A store whose texts share one area: which bytes are one, as the code asks. Assumes nothing.
use Rattle.lists.proofs.Kit.{ℕ, ◌+◌, ◌-◌, ◌≡◌, sym, ap, ap₂, ◌∙◌, subst₂, Bool, true, ◌↔◌, List, arith, mid_of, length, drop}
use Rattle.lists.specs.Bytes.{Bytes}
use Rattle.slots.specs.Slots.{zeros?}
use Rattle.shared_texts.specs.Regions.{Stand}
use Rattle.tables.specs.SharedLayout.{heads_size, shared_size}
use Rattle.shared_texts.specs.Shared.{SharedRoomy, IsShared, stored_units}
use Rattle.tables.specs.Texts.{AreaFilled}
use Rattle.shared_texts.proofs.SharedLaws.{is_shared_store}
use Rattle.tables.specs.declared.limits.Limits.{Limits}
use Rattle.working.specs.Loading.{UnitsAre}
use Rattle.store_check.specs.declared.forms.Form.TheVariants.{Shared}
use Rattle.store_check.specs.Stores.{regions_in, regions_end}
use Rattle.store_check.proofs.CheckLaws.{rest_is}

-- the units that were counted are all that the heads name
units_are : (lim : Limits) (s : List ℕ) (n : ℕ) → UnitsAre lim s n → n ≡ stored_units lim s
unfolding UnitsAre
units_are lim s n e = e

module _ (lim : Limits) (a : ℕ) (s : List ℕ) (room : SharedRoomy lim a) (long : length s ≡ lim.size) (b : Bytes s) where
  -- HEADS-THERE: such a store has heads
  pub heads_there : IsShared lim a s → Stand (regions_in Shared lim) 0 s
  heads_there y = ((is_shared_store lim a s room long b).1 y).heads

  module _ (t n : ℕ) (te : t ≡ regions_end Shared lim) (ne : UnitsAre lim s n) where
    -- where the area starts
    start_is : t ≡ heads_size lim
    start_is = te ∙ omega arith

    -- the area, as the code reads it
    area_read : AreaFilled n (mid_of t (t + a - t) s) ↔ AreaFilled (stored_units lim s) (mid_of (heads_size lim) a s)
    area_read =
        let k : t + a - t ≡ a = omega arith in
        let u = units_are lim s n ne in
        let m : mid_of t (t + a - t) s ≡ mid_of (heads_size lim) a s = ap₂ (λ (x y : ℕ). mid_of x y s) start_is k in
        (subst₂ AreaFilled u m, subst₂ AreaFilled (sym u) (sym m))

    -- AREA-THERE: it has as many units in its area as they count
    pub area_there : IsShared lim a s → AreaFilled n (mid_of t (t + a - t) s)
    area_there y = area_read.1 ((is_shared_store lim a s room long b).1 y).texts

    -- SHARED-TOLD: where both are so, the bytes behind the area decide
    pub shared_told : Stand (regions_in Shared lim) 0 s → AreaFilled n (mid_of t (t + a - t) s) → (r : Bool) → r ≡ zeros? (mid_of (t + a) (length s - (t + a)) s) → (r ≡ true) ↔ IsShared lim a s
    shared_told h f r e =
        let z : r ≡ zeros? (drop (shared_size lim a) s) = e ∙ ap zeros? (rest_is s (t + a) (length s - (t + a)) (omega arith)) ∙ ap (λ (j : ℕ). zeros? (drop (j + a) s)) start_is in
        let c = is_shared_store lim a s room long b in
        (λ y. c.0 (record { heads = h; texts = area_read.0 f; spare = sym z ∙ y }), λ y. z ∙ (c.1 y).spare)
