-- A setting's events for its own table, and none for the others, are events for every table. Assumes nothing.
use Rattle.lists.proofs.Kit.{◌≡◌, refl, sym, ap, ◌∙◌, subst, Bool, true, false, List, [], eq-eqb}
use mathlib.Core.HLevel.{Discrete, hedberg}
use mathlib.Core.Path.{subst_refl}
use Rattle.writing.specs.declared.Kind.{Kind}
use Rattle.writing.specs.Settings.{Setting, kind}
use Rattle.writing.specs.Writing.{type_byte}
use Rattle.tables.specs.Owns.{only}
use Rattle.tables.proofs.Owns.{same_kind}
use Rattle.events.specs.Settings.{Does, Its}
use Rattle.events.specs.Logs.{History, Adds}
use Rattle.events.proofs.Finding.{clash}

-- ---- kinds

-- a kind is itself
pub only_itself : (k : Kind) → only k k ≡ true
only_itself k = eq-eqb (type_byte k) (type_byte k) refl

-- two kinds are equal or not, so that they are equal in one way
kinds_told : Discrete Kind
kinds_told k j = go (only k j) refl
  where
    go : (b : Bool) → only k j ≡ b → Dec (k ≡ j)
    go true h = yes (same_kind k j h)
    go false h = no (λ e. clash (ap (only k) (sym e) ∙ only_itself k) h)

kinds_once : IsSet Kind
kinds_once = hedberg kinds_told

-- ---- events for one table

-- those of kind k, for the table of kind j, by whether the kinds are the same
abbrev for_table : (k j : Kind) → List (Does k) → (b : Bool) → only k j ≡ b → List (Does j)
for_table k j vs true h = subst (λ (i : Kind). List (Does i)) (same_kind k j h) vs
for_table k j vs false h = []

-- events for one table and no other
abbrev pub alone : (k : Kind) → List (Does k) → History
alone k vs j = for_table k j vs (only k j) refl

-- they are there
pub alone_own : (k : Kind) (vs : List (Does k)) → alone k vs k ≡ vs
alone_own k vs = go (only k k) refl
  where
    go : (b : Bool) (h : only k k ≡ b) → for_table k k vs b h ≡ vs
    go true h = ap (λ (p : k ≡ k). subst (λ (i : Kind). List (Does i)) p vs) (kinds_once k k (same_kind k k h) refl) ∙ subst_refl (λ (i : Kind). List (Does i)) {x = k} vs
    go false h = absurd (clash (only_itself k) h)

-- and no others
pub alone_others : (k j : Kind) (vs : List (Does k)) → only k j ≡ false → alone k vs j ≡ []
alone_others k j vs e = go (only k j) refl
  where
    go : (b : Bool) (h : only k j ≡ b) → for_table k j vs b h ≡ []
    go true h = absurd (clash h e)
    go false h = refl

-- ITS-ADDS: so a setting's events are events for every table
pub its_adds : (s : Setting) (vs : List (Does (kind s))) → Its s vs → Adds s (alone (kind s) vs)
its_adds s vs i = record { its = subst (Its s) (sym (alone_own (kind s) vs)) i; others = λ k h. alone_others (kind s) k vs h }
