-- What the yes or no of a test says. Assumes nothing.
use Rattle.lists.proofs.Kit.{◌≡◌, refl, sym, ap, ◌∙◌, Bool, true, false, not, true≢false, false≢true, ◌↔◌, ◌≢◌, ℕ, ◌≤◌, eqb-false, leb-true, le-leb, ne_eqb, not-true, not-false, eqb, leb}

module _ {X : Type 0} where
  -- no is right where it cannot be
  pub refused : (X → ⊥) → (false ≡ true) ↔ X
  refused h = (λ e. absurd (false≢true e), λ x. absurd (h x))

  -- yes is right where it is
  pub granted : X → (true ≡ true) ↔ X
  granted x = (λ e. x, λ y. refl)

  module _ (b : Bool) (is : (b ≡ true) ↔ X) where
    -- what no says
    pub said_no : b ≡ false → X → ⊥
    said_no e x = true≢false (sym (is.1 x) ∙ e)

    -- an answer that was turned around: no
    pub not_said : not b ≡ true → X → ⊥
    not_said e = said_no (not-true b e)

    -- and yes
    pub was_said : not b ≡ false → X
    was_said e = is.0 (not-false b e)

    -- an answer to one question answers another
    pub turned : {Y : Type 0} → (X → Y) → (Y → X) → (b ≡ true) ↔ Y
    turned f g = (λ e. f (is.0 e), λ y. is.1 (g y))

-- at most
pub leb_is : (a b : ℕ) → (leb a b ≡ true) ↔ (a ≤ b)
leb_is a b = (leb-true a b, le-leb a b)

-- not the same
pub ne_is : (a b : ℕ) → (not (eqb a b) ≡ true) ↔ (a ≢ b)
ne_is a b = (λ e. eqb-false a b (not-true (eqb a b) e), λ h. ap not (ne_eqb a b h))
