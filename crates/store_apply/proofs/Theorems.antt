-- What applying a setting to a store promises: two outcomes allowed for one input are equal. Assumes nothing.
use Prim.Native.Nat.{ℕ}
use mathlib.Core.Path.{◌≡◌, refl, sym, ap, ◌∙◌}
use mathlib.Core.Bool.{Bool, true, false, true≢false}
use mathlib.Core.List.{List}
use mathlib.Core.Option.{Option, some-injective, none-ne-some}
use Rattle.counted_lists.specs.Counted.{Tried}
use Rattle.writing.specs.declared.Coding.{Coding}
use Rattle.writing.specs.Canonical.{Fits}
use Rattle.writing.specs.Ranges.{text_limits, InRange}
use Rattle.writing.specs.Settings.{Setting}
use Rattle.settings.specs.declared.settings.Setting.{Setting as Read}
use Rattle.settings.specs.Meant.{Meant}
use Rattle.tables.specs.declared.limits.Limits.{Limits}
use Rattle.tables.specs.Apply.{change}
use Rattle.tables.specs.Forms.{Roomy}
use Rattle.tables.specs.Layout.{placed_layout}
use Rattle.tables.specs.Store.{Works, Applied}
use Rattle.tables.specs.Tables.{Tables}

-- two tries at one change: one answer, and where there was room one content
tried_determined : (lim : Limits) (o : Option Tables) (t u : List ℕ) (a b : Bool) → Tried (Works lim) o t a → Tried (Works lim) o u b → (a ≡ b) × (a ≡ true → t ≡ u)
tried_determined lim o t u true true p q =
    let (x, e, h) = p.room refl in
    let (y, f, k) = q.room refl in
    (refl, λ _. h.1 ∙ ap (placed_layout lim) (some-injective x y (sym e ∙ f)) ∙ sym k.1)
tried_determined lim o t u true false p q = absurd (none-ne-some (p.room refl).0 (sym (q.full refl) ∙ (p.room refl).1))
tried_determined lim o t u false true p q = absurd (none-ne-some (q.room refl).0 (sym (p.full refl) ∙ (q.room refl).1))
tried_determined lim o t u false false p q = (refl, λ e. absurd (true≢false (sym e)))

-- APPLIED-DETERMINED: on a store, one answer, and where there was room one content
pub applied_determined : (lim : Limits) (msg : List ℕ) (r : Read) (s t u : List ℕ) (a b : Bool) (was : Tables) (set : Setting) (c : Coding) (left : ℕ) → Roomy lim → Works lim was s → Meant msg r set → InRange text_limits left set → Fits c set → Applied lim msg r s t a → Applied lim msg r s u b → (a ≡ b) × (a ≡ true → t ≡ u)
applied_determined lim msg r s t u a b was set c left room is q i f x y =
    tried_determined lim (change lim set was) t u a b (x was set c left room is q i f) (y was set c left room is q i f)
