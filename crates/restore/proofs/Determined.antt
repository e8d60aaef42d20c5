-- Restoring answers one thing. Assumes nothing.
use Rattle.lists.proofs.Kit.{◌≡◌, refl, sym, ap, ◌∙◌, ℕ, List, [], ◌∷◌, get_or}
use Rattle.lists.specs.Ladder.{Answers}
use Rattle.lists.proofs.Ladder.{one_answer}
use Rattle.lists.proofs.OneToOne.{decoded}
use Rattle.tables.specs.declared.limits.Limits.{Limits}
use Rattle.tables.specs.Tables.{Tables}
use Rattle.shared_texts.proofs.Forms.{layout_one}
use Rattle.restore.specs.declared.restore.Restored.{Restored}
use Rattle.restore.specs.declared.restore.Restored.TheVariants.{Same, ReplyBuffer, NotAStore, Buffer}
use Rattle.restore.specs.Restoring.{number, AfterRestore, restores, restoring}

-- one number, one store and one content of each buffer
pub outcome_determined : (lim : Limits) (from to buffer reply : List ℕ) (a b : AfterRestore) → Answers (restoring lim from to buffer reply) a → Answers (restoring lim from to buffer reply) b → a ≡ b
outcome_determined lim from to buffer reply =
    one_answer (restoring lim from to buffer reply) (λ a b (t, h, e) (u, i, d).
    let same : t ≡ u = layout_one lim t u h.0 i.0 (sym h.1 ∙ i.1) in
    e ∙ ap (restores lim from to buffer reply) same ∙ sym d)

-- the number says which case it is
restored_one : (a b : Restored) → number a ≡ number b → a ≡ b
restored_one = decoded number at back
  where
    at : ℕ → Restored
    at n = get_or (Same ∷ Same ∷ Same ∷ Same ∷ Same ∷ Same ∷ Same ∷ Same ∷ Same ∷ Same ∷ ReplyBuffer ∷ NotAStore ∷ []) n Buffer

    back : (a : Restored) → at (number a) ≡ a
    back Same = refl
    back ReplyBuffer = refl
    back NotAStore = refl
    back Buffer = refl

-- DETERMINED: the contract of restoring allows one answer of the code, one store and one content of each buffer
pub restore_determined : (lim : Limits) (from to buffer reply : List ℕ) (a b : Restored) (s t u v w x : List ℕ)
    → Answers (restoring lim from to buffer reply) (record { answer = number a; to = s; buffer = u; reply = w })
    → Answers (restoring lim from to buffer reply) (record { answer = number b; to = t; buffer = v; reply = x }) → (a ≡ b) × (s ≡ t) × (u ≡ v) × (w ≡ x)
restore_determined lim from to buffer reply a b s t u v w x p q =
    let e = outcome_determined lim from to buffer reply _ _ p q in
    (restored_one a b (ap (λ (z : AfterRestore). z.answer) e), ap (λ (z : AfterRestore). z.to) e, ap (λ (z : AfterRestore). z.buffer) e, ap (λ (z : AfterRestore). z.reply) e)
