-- What starting a store promises: two outcomes allowed for one input are equal. Assumes nothing.
use Rattle.lists.proofs.Kit.{ℕ, ◌≡◌, refl, sym, ap, ◌∙◌, List, [], ◌∷◌, get_or}
use Rattle.lists.specs.Ladder.{Answers}
use Rattle.lists.proofs.Ladder.{one_answer}
use Rattle.lists.proofs.OneToOne.{decoded}
use Rattle.tables.specs.declared.limits.Limits.{Limits}
use Rattle.tables.specs.declared.start.Started.{Started}
use Rattle.tables.specs.declared.start.Started.TheVariants.{Fresh, WrongSize}
use Rattle.tables.specs.Store.{started, Begun, begins, starting}

-- the number says which case it is
started_one : (a b : Started) → started a ≡ started b → a ≡ b
started_one = decoded started (λ n. get_or (Fresh ∷ []) n WrongSize) back
  where
    back : (a : Started) → get_or (Fresh ∷ []) (started a) WrongSize ≡ a
    back Fresh = refl
    back WrongSize = refl

-- one number, and one content of the bytes
pub begun_determined : (lim : Limits) (s : List ℕ) (a b : Begun) → Answers (starting lim s) a → Answers (starting lim s) b → a ≡ b
begun_determined lim s = one_answer (starting lim s) (λ x y i j. i.2 ∙ sym j.2)

-- START-DETERMINED: one answer, and one content of the bytes
pub start_determined : (lim : Limits) (s t u : List ℕ) (a b : Started) → Answers (starting lim s) (begins a t) → Answers (starting lim s) (begins b u) → (a ≡ b) × (t ≡ u)
start_determined lim s t u a b p q =
    let e = begun_determined lim s (begins a t) (begins b u) p q in
    (started_one a b (ap (λ (x : Begun). x.number) e), ap (λ (x : Begun). x.store) e)
