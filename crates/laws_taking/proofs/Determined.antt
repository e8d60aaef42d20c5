-- Two outcomes that taking allows for one message, store and reply buffer are equal. Assumes nothing.
use Rattle.lists.proofs.Kit.{ℕ, ◌≡◌, sym, ap, ◌∙◌, subst, subst₂, ◌⊎◌, inl, inr, List, ◌∷◌, ◌++◌}
use Rattle.lists.proofs.Bytes.{bytes_all}
use Rattle.lists.specs.Ladder.{Answers}
use Rattle.lists.proofs.Ladder.{one_answer}
use Rattle.writing.specs.declared.Coding.{Coding}
use Rattle.writing.specs.Ranges.{text_limits, InRange}
use Rattle.writing.specs.Settings.{Setting, Hash, kind}
use Rattle.writing.proofs.Unique.{unique}
use Rattle.writing.proofs.Whole.{headed}
use Rattle.read_carrier.proofs.KindLaws.{request_one, one_coding, not_both}
use Rattle.read_carrier.proofs.MessageOne.{query_hash}
use Rattle.tables.specs.declared.limits.Limits.{Limits}
use Rattle.tables.specs.Apply.{apply}
use Rattle.tables.specs.Tables.{Tables}
use Rattle.shared_texts.proofs.Forms.{layout_one}
use Rattle.requests.specs.Judge.{Outcome}
use Rattle.requests.specs.Requests.{WrittenIn, Known, Judged, forget}
use Rattle.station.specs.declared.answers.Answer.{Answer}
use Rattle.station.specs.Taking.{AfterTaking, leaves, settled, Asked, AsRequest, AsQuery, Handled, taken}
use Rattle.station.proofs.AnswerLaws.{said_one}
use Rattle.laws_taking.proofs.JudgeLaws.{determined}

-- no setting's writing starts another's
pub one_writing : (c : Coding) (s s' : Setting) (w w' r r' : List ℕ) → WrittenIn c s w → WrittenIn c s' w' → w ++ r ≡ w' ++ r' → (s ≡ s') × (w ≡ w')
one_writing c s s' w w' r r' (x, _) (y, _) e = unique c s s' w w' r r' x y e

-- a writing starts with a type byte
pub type_first : (c : Coding) (s : Setting) (w : List ℕ) → WrittenIn c s w → (b : ℕ) × (v : List ℕ) × (w ≡ b ∷ v) × Known b
type_first c s w (x, y) = let (b, v, e, k) = headed c s w (bytes_all w y) x in (b, v, e, (kind s, sym k))

-- a request comes to one thing
pub judged_determined : (c : Coding) (lim : Limits) (n : ℕ) (t : Tables) (bs : List ℕ) (a b : Outcome Setting Tables) → Judged c lim n t bs a → Judged c lim n t bs b → a ≡ b
judged_determined c lim n t bs a b p q =
    determined Setting Tables (WrittenIn c) (InRange text_limits) (apply lim) Known (one_writing c) (type_first c) p q

module _ (lim : Limits) (message store reply : List ℕ) where
  -- a query is answered in one way
  one_asked : (h k : Hash) (a b : AfterTaking) → Asked lim message store reply h k a → Asked lim message store reply h k b → a ≡ b
  one_asked h k a b (inl (_, _, e)) (inl (_, _, d)) = e ∙ sym d
  one_asked h k a b (inl (n, s, e)) (inr (never, d)) = absurd (never n s)
  one_asked h k a b (inr (never, e)) (inl (n, s, d)) = absurd (never n s)
  one_asked h k a b (inr (_, e)) (inr (_, d)) = e ∙ sym d

  -- a message comes to one thing
  one_outcome : (t : Tables) (a b : AfterTaking) → AsRequest lim message store reply t a ⊎ AsQuery lim message store reply t a
      → AsRequest lim message store reply t b ⊎ AsQuery lim message store reply t b → a ≡ b
  one_outcome t a b (inl (c, count, settings, r, o, x, p)) (inl (c', count', settings', r', o', y, q)) =
      let (n, s) = request_one r r' in
      let z : Judged c' lim count' (forget t) settings' o
      = subst (λ (d : Coding). Judged d lim count' (forget t) settings' o) (one_coding r r') (subst₂ (λ (i : ℕ) (l : List ℕ). Judged c lim i (forget t) l o) n s x) in
      p ∙ ap (settled lim message store reply) (judged_determined c' lim count' _ _ o o' z y) ∙ sym q
  one_outcome t a b (inl (c, count, settings, r, o, x, p)) (inr (h, y, q)) = absurd (not_both r y)
  one_outcome t a b (inr (h, x, p)) (inl (c, count, settings, r, o, y, q)) = absurd (not_both r x)
  one_outcome t a b (inr (h, x, p)) (inr (k, y, q)) =
      one_asked k t.hash a b (subst (λ (z : Hash). Asked lim message store reply z t.hash a) (query_hash x y) p) q

  one_handled : (a b : AfterTaking) → Handled lim message store reply a → Handled lim message store reply b → a ≡ b
  one_handled a b p q =
      let t : p.tables ≡ q.tables = layout_one lim p.tables q.tables p.holds.0 q.holds.0 (sym p.holds.1 ∙ q.holds.1) in
      one_outcome q.tables a b
      (subst (λ (z : Tables). AsRequest lim message store reply z a ⊎ AsQuery lim message store reply z a) t p.comes_to) q.comes_to

  -- one number with its values, one store and one reply buffer
  pub outcome_determined : (a b : AfterTaking) → Answers (taken lim message store reply) a → Answers (taken lim message store reply) b → a ≡ b
  outcome_determined a b p q = one_answer (taken lim message store reply) one_handled a b p q

  -- DETERMINED: the contract of taking allows one answer of the code, one store and one reply buffer
  pub taken_determined : (a b : Answer) (s t r q : List ℕ) → Answers (taken lim message store reply) (leaves a s r) → Answers (taken lim message store reply) (leaves b t q)
      → (a ≡ b) × (s ≡ t) × (r ≡ q)
  taken_determined a b s t r q x y =
      let e = outcome_determined (leaves a s r) (leaves b t q) x y in
      (said_one a b (ap (λ (z : AfterTaking). z.answer) e), ap (λ (z : AfterTaking). z.store) e, ap (λ (z : AfterTaking). z.reply) e)
