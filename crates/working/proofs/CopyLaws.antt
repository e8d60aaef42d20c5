-- Working copies of all tables or of part of them. Assumes nothing.
use Rattle.lists.proofs.Kit.{ℕ, ◌+◌, ◌≤◌, ◌≡◌, sym, ap, ◌∙◌, subst, subst⁻¹, List}
use Rattle.writing.specs.declared.Kind.{Kind}
use Rattle.tables.specs.declared.limits.Limits.{Limits}
use Rattle.tables.specs.declared.limits.Texts.{Texts}
use Rattle.tables.specs.declared.limits.Texts.TheVariants.{Placed, Shared}
use Rattle.tables.specs.Allowed.{Allowed}
use Rattle.tables.specs.Layout.{used_size}
use Rattle.tables.specs.Limits.{placed}
use Rattle.tables.specs.SharedLayout.{shared_layout}
use Rattle.tables.specs.Store.{Loaded, Saved}
use Rattle.tables.specs.Tables.{Tables, fresh}
use Rattle.tables.proofs.AllowedLaws.{own_ok, allowed_placed}
use Rattle.tables.proofs.FreshLaws.{fresh_allowed}
use Rattle.shared_texts.specs.Shared.{SharedOk}
use Rattle.working.specs.declared.copies.Copy.{Copy}
use Rattle.working.specs.declared.copies.Copy.TheVariants.{Whole, Part}
use Rattle.working.specs.Copies.{Sparing, CopyLoaded, CopySaved}
use Rattle.working.specs.Parts.{copied?, part_of, PartLoaded, PartSaved}
use Rattle.working.proofs.FormMoves.{in_form, sized, roomed, held}
use Rattle.working.proofs.PartSaveLaws.{mix_allowed}
use Rattle.working.proofs.SumLaws.{works_length}

-- PART-ALLOWED: part of the tables is allowed where they are
pub part_allowed : (lim : Limits) (k : Kind) (t : Tables) → Allowed (placed lim) t → Allowed (placed lim) (part_of k t)
part_allowed lim k t ok = mix_allowed lim (copied? k) fresh t (fresh_allowed (placed lim)) (λ j e. own_ok (placed lim) t ok j)

-- texts that have places of their own share no area
abbrev Apart : Texts → Type 0
Apart Placed = Unit {0}
Apart (Shared a) = ⊥

never_spared : (lim : Limits) → lim.texts ≡ Placed → Sparing lim → ⊥
never_spared lim e (a, f, _) = subst Apart (sym e ∙ f) tt

abbrev area_of : Texts → ℕ
area_of Placed = 0
area_of (Shared a) = a

module _ (lim : Limits) where
  -- ---- loading

  pub copy_whole : (c : Copy) → c ≡ Whole → (store work after : List ℕ) → Loaded lim store work after → CopyLoaded lim c store work after
  copy_whole c e store work after h = subst⁻¹ (λ (d : Copy). CopyLoaded lim d store work after) e h

  pub copy_never : (c : Copy) (k : Kind) → c ≡ Part k → lim.texts ≡ Placed → (store work after : List ℕ) → CopyLoaded lim c store work after
  copy_never c k e p store work after = subst⁻¹ (λ (d : Copy). CopyLoaded lim d store work after) e (λ l x t room h. absurd (never_spared lim p x))

  pub copy_part : (c : Copy) (k : Kind) (a : ℕ) → c ≡ Part k → lim.texts ≡ Shared a → (store work after : List ℕ) → PartLoaded lim a k store work after → CopyLoaded lim c store work after
  copy_part c k a e p store work after h = subst⁻¹ (λ (d : Copy). CopyLoaded lim d store work after) e (λ l x t room (ok, b).
      (part_allowed lim k t (allowed_placed lim t ok), h l (held lim t ok store room b) t room (sized lim t ok a p room) (roomed lim t ok a p) (b ∙ in_form lim t ok (Shared a) p)))

  -- ---- saving

  pub whole_saved : (c : Copy) → c ≡ Whole → (work store after : List ℕ) → Saved lim work store after → CopySaved lim c work store after
  whole_saved c e work store after h = subst⁻¹ (λ (d : Copy). CopySaved lim d work store after) e (λ l t u room was ok w. h l u room ok w)

  pub never_saved : (c : Copy) (k : Kind) → c ≡ Part k → lim.texts ≡ Placed → (work store after : List ℕ) → CopySaved lim c work store after
  never_saved c k e p work store after = subst⁻¹ (λ (d : Copy). CopySaved lim d work store after) e (λ l t u room was ok w. absurd (never_spared lim p w.0))

  pub part_saved : (c : Copy) (k : Kind) (a : ℕ) → c ≡ Part k → lim.texts ≡ Shared a → (work store after : List ℕ) → PartSaved lim a k work store after → CopySaved lim c work store after
  part_saved c k a e p work store after h = subst⁻¹ (λ (d : Copy). CopySaved lim d work store after) e (λ l t u room (was, b) ok ((a', q, spare), w, j).
      let f : a' ≡ a = ap area_of (sym q ∙ p) in (
        ok,
        h l (works_length lim (part_of k u) work room w) (subst (λ (n : ℕ). used_size lim + n ≤ lim.size) f spare) t u room (sized lim t was a p room) (roomed lim t was a p)
            (subst (SharedOk lim a) j (roomed lim u ok a p)) (b ∙ in_form lim t was (Shared a) p) w.1 ∙ sym (in_form lim u ok (Shared a) p ∙ ap (λ (v : Tables). shared_layout lim a v) j),
      ))
