-- Runs, in demand 3's words: settings written one after the other, in range and with room in turn. Assumes nothing.
use Rattle.lists.proofs.Kit.{ℕ, zero, suc, ◌≡◌, refl, sym, ap, ◌∙◌, subst, List, [], ◌∷◌, ◌++◌, append_assoc, Option, none, some, option_some_injective, arith}
use Rattle.lists.specs.Bytes.{Bytes}
use Rattle.read_fields.proofs.Parts.{bytes_left}
use Rattle.read_carrier.proofs.KindLaws.{bytes_right}
use Rattle.writing.specs.declared.Coding.{Coding}
use Rattle.writing.specs.Settings.{Setting, Hash, group_contacts, individual_contacts, lines, key, quick_texts, home, channels, system, status_texts, group, individual, line_slot, last}
use Rattle.writing.specs.Writing.{WrittenAll}
use Rattle.tables.specs.declared.limits.Limits.{Limits}
use Rattle.tables.specs.Allowed.{Allowed}
use Rattle.tables.proofs.AllowedLaws.{apply_allowed}
use Rattle.writing.proofs.CanonicalLaws.{has_writing}
use Rattle.tables.specs.Apply.{apply}
use Rattle.tables.specs.Tables.{Tables, no_hash}
use Rattle.writing.specs.declared.Kind.TheVariants.{Last}
use Rattle.tables.specs.Owns.{put_own}
use Rattle.tables.proofs.RoomSentences.{apply_change, own_table}
use Rattle.laws_taking.specs.Demands.{InTurn}
use Rattle.requests.specs.Judge.{done, step}
use Rattle.requests.proofs.RunLaws.{not_ff}
use Rattle.requests.specs.Requests.{Runs, LastItem, item_of, or_else, last_item}

module _ (c : Coding) (lim : Limits) where
  -- a run's settings are written at the start, and can be taken in turn
  pub run_written : {n : ℕ} {t u : Tables} {bs rest : List ℕ} {l : List Setting} → Runs c lim n t bs l u rest
      → (w : List ℕ) × (bs ≡ w ++ rest) × WrittenAll c l w × InTurn lim n t l u
  run_written done = ([], refl, refl, refl)
  run_written (step {t'} {w = v} {rest = rest} p x i a q) =
      let (w, e, y, z) = run_written q in
      (v ++ w, p ∙ ap (λ r. v ++ r) e ∙ sym (append_assoc v w rest), (v, w, refl, x.0, y), (i, t', a, z))

  -- and back, in a message of bytes
  pub written_runs : (n : ℕ) (t u : Tables) (bs w rest : List ℕ) (l : List Setting) → Bytes bs → bs ≡ w ++ rest → WrittenAll c l w → InTurn lim n t l u
      → Runs c lim n t bs l u rest
  written_runs n t u bs w rest [] b e y z =
      let same : bs ≡ rest = e ∙ ap (λ r. r ++ rest) y in
      subst (λ (x : Tables). Runs c lim n t bs [] x rest) z (subst (λ (x : List ℕ). Runs c lim n t bs [] t x) same done)
  written_runs zero t u bs w rest (s ∷ l) b e y z = absurd z
  written_runs (suc n) t u bs w rest (s ∷ l) b e (v, r, p, x, y) (i, t', a, z) =
      let q : bs ≡ v ++ (r ++ rest) = e ∙ ap (λ k. k ++ rest) p ∙ append_assoc v r rest in
      let d : Bytes (v ++ (r ++ rest)) = subst Bytes q b in
      step {w = v} {s = s} q (x, bytes_left v (r ++ rest) d) i a (written_runs n t' u (r ++ rest) r rest l (bytes_right v (r ++ rest) d) refl y z)

  -- what a run leaves, the rules allow
  pub run_allowed : {n : ℕ} {t u : Tables} {bs rest : List ℕ} {l : List Setting} → Runs c lim n t bs l u rest → Allowed lim t → Allowed lim u
  run_allowed done ok = ok
  run_allowed (step {n} {t} {t' = v} {w = w} {s = s} p (x, _) i a q) ok =
      run_allowed q (apply_allowed lim t v c n s ok i (has_writing c s w x) a)

-- ---- the hash that is kept

module _ (lim : Limits) where
  -- the hash of an FF, and another where there is none
  abbrev hash_or : Option LastItem → Hash → Hash
  hash_or none h = h
  hash_or (some x) h = x.hash

  -- a setting that is no FF leaves the hash as it was, and FF brings its own
  kept_by : (s : Setting) (t u : Tables) → apply lim s t ≡ some u → u.hash ≡ hash_or (item_of s) t.hash
  kept_by (group_contacts o f es) t u e = ap (λ (x : Tables). x.hash) (own_table lim (group_contacts o f es) t u e)
  kept_by (individual_contacts o f es) t u e = ap (λ (x : Tables). x.hash) (own_table lim (individual_contacts o f es) t u e)
  kept_by (lines o f es) t u e = ap (λ (x : Tables). x.hash) (own_table lim (lines o f es) t u e)
  kept_by (key x f) t u e = ap (λ (x : Tables). x.hash) (own_table lim (key x f) t u e)
  kept_by (quick_texts o es) t u e = ap (λ (x : Tables). x.hash) (own_table lim (quick_texts o es) t u e)
  kept_by (home h) t u e = ap (λ (x : Tables). x.hash) (own_table lim (home h) t u e)
  kept_by (channels o ns) t u e = ap (λ (x : Tables). x.hash) (own_table lim (channels o ns) t u e)
  kept_by (system x) t u e = ap (λ (x : Tables). x.hash) (own_table lim (system x) t u e)
  kept_by (status_texts o es) t u e = ap (λ (x : Tables). x.hash) (own_table lim (status_texts o es) t u e)
  kept_by (group o f x) t u e = ap (λ (x : Tables). x.hash) (own_table lim (group o f x) t u e)
  kept_by (individual o f x) t u e = ap (λ (x : Tables). x.hash) (own_table lim (individual o f x) t u e)
  kept_by (line_slot o f x) t u e = ap (λ (x : Tables). x.hash) (own_table lim (line_slot o f x) t u e)
  kept_by (last f h) t u e = sym (ap (λ (x : Tables). x.hash) (option_some_injective (put_own Last t h) u (apply_change lim (last f h) t u e)))

  hash_or_none : (o : Option LastItem) → hash_or o no_hash ≡ (or_else o (last_item [])).hash
  hash_or_none none = refl
  hash_or_none (some x) = refl

  -- "After each taken request the hash kept is that request's own; with .. no FF, none"
  pub hash_own : (n : ℕ) (t u : Tables) (l : List Setting) → t.hash ≡ no_hash → InTurn lim n t l u → u.hash ≡ (last_item l).hash
  hash_own n t u [] e z = sym (ap (λ (x : Tables). x.hash) z) ∙ e
  hash_own zero t u (s ∷ l) e z = absurd z
  hash_own (suc n) t u (s ∷ []) e (i, t', a, z) =
      sym (ap (λ (x : Tables). x.hash) z) ∙ kept_by s t t' a ∙ ap (hash_or (item_of s)) e ∙ hash_or_none (item_of s)
  hash_own (suc zero) t u (s ∷ r ∷ l) e (i, t', a, z) = absurd z
  hash_own (suc (suc n)) t u (s ∷ r ∷ l) e (i, t', a, z) =
      let w : item_of s ≡ none = not_ff s (suc n) i (omega arith) in
      let k : t'.hash ≡ no_hash = kept_by s t t' a ∙ ap (λ (o : Option LastItem). hash_or o t.hash) w ∙ e in
      hash_own (suc n) t' u (r ∷ l) k z ∙ sym (ap (λ (o : Option LastItem). (or_else o (last_item (r ∷ l))).hash) w)
