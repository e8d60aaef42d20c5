-- What can be read back is one to one. Assumes nothing.
use Rattle.lists.proofs.Kit.{◌≡◌, sym, ap, ◌∙◌}

pub decoded : {A B : Type 0} (code : A → B) (back : B → A) → ((a : A) → back (code a) ≡ a) → (a b : A) → code a ≡ code b → a ≡ b
decoded code back h a b e = sym (h a) ∙ ap back e ∙ h b
