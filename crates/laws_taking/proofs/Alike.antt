-- One list of settings, written under two coding types, comes to the same thing. Assumes nothing.
use Rattle.lists.proofs.Kit.{ℕ, ◌+◌, ◌≤◌, ◌≡◌, refl, sym, ap, ◌∙◌, subst, subst⁻¹, List, [], ◌∷◌, ◌++◌, nil≢cons, arith, length, get_or}
use Rattle.lists.specs.Bytes.{Bytes}
use Rattle.lists.proofs.Seqs.{cut}
use Rattle.writing.specs.declared.Coding.{Coding}
use Rattle.writing.specs.Ranges.{text_limits, InRange}
use Rattle.writing.specs.Settings.{Setting}
use Rattle.writing.specs.Writing.{Written, WrittenAll}
use Rattle.read_fields.proofs.Parts.{bytes_left}
use Rattle.read_carrier.proofs.KindLaws.{bytes_right}
use Rattle.tables.specs.declared.limits.Limits.{Limits}
use Rattle.tables.specs.Apply.{apply}
use Rattle.tables.specs.Tables.{Tables}
use Rattle.requests.specs.Judge.{Outcome, done, step, missing, unknown, field, room, taken, over, fault}
use Rattle.requests.specs.Requests.{WrittenIn, Known, Runs, Fault, Judged}
use Rattle.laws_taking.proofs.Determined.{one_writing, type_first}

-- bytes that start with a setting's start with a type byte
begins : (c : Coding) (s : Setting) (bs w r : List ℕ) → bs ≡ w ++ r → WrittenIn c s w → (b : ℕ) × (v : List ℕ) × (bs ≡ b ∷ v) × Known b
begins c s bs w r e y = let (b, v, k, known) = type_first c s w y in (b, v ++ r, e ∙ ap (λ (l : List ℕ). l ++ r) k, known)

-- no settings are written as no bytes
none_written : (c : Coding) (l : List Setting) (bs : List ℕ) → length l ≡ 0 → WrittenAll c l bs → bs ≡ []
none_written c [] bs n w = w
none_written c (s ∷ l) bs n w = absurd (omega (arith, n))

module _ (c d : Coding) (lim : Limits) where
  -- where one setting stands under both, the same is at fault
  fault_alike : (left : ℕ) (t : Tables) (s : Setting) (bs w r bs' w' r' : List ℕ) {number : ℕ} → bs ≡ w ++ r → WrittenIn c s w → bs' ≡ w' ++ r' → WrittenIn d s w'
      → Fault c lim left t bs number → Fault d lim left t bs' number
  fault_alike left t s bs w r bs' w' r' e y e' y' missing = absurd (nil≢cons (begins c s [] w r e y).2)
  fault_alike left t s bs w r bs' w' r' e y e' y' (unknown {b} {bs = rest} never) =
      let (_, _, k, known) = begins c s (b ∷ rest) w r e y in
      absurd (never (subst⁻¹ Known (ap (λ (l : List ℕ). get_or l 0 0) k) known))
  fault_alike left t s bs w r bs' w' r' e y e' y' (field known never) =
      let (_, _, k, known') = begins d s bs' w' r' e' y' in
      subst⁻¹ (λ (l : List ℕ). Fault d lim left t l 4) k
      (field known' (λ x z q h p i. never s w r e y (subst (InRange text_limits left) (one_writing d x s z w' q r' p y' (sym h ∙ sym k ∙ e')).0 i)))
  fault_alike left t s bs w r bs' w' r' e y e' y' (room {w = z} {s = x} q h p i a) =
      let same : x ≡ s = (one_writing c x s z w q r p y (sym h ∙ e)).0 in
      let (_, _, k, _) = begins d s bs' w' r' e' y' in
      subst⁻¹ (λ (l : List ℕ). Fault d lim left t l 2) k
      (room {w = w'} {s = s} r' (sym k ∙ e') y' (subst (InRange text_limits left) same i) (sym (ap (λ (v : Setting). apply lim v t) same) ∙ a))

  -- a list of which these settings ran, and what is left of it, as it stands under both
  record Beside (n : ℕ) (t u : Tables) (l ran : List Setting) (rest bs' : List ℕ) : Type 0 where
    left : List Setting
    rest' : List ℕ
    counted : length ran + length left ≡ length l
    here : WrittenAll c left rest
    there : WrittenAll d left rest'
    bytes : Bytes rest
    bytes' : Bytes rest'
    runs : Runs d lim n t bs' ran u rest'

  -- so many of its settings run under the other, too
  beside : {n : ℕ} {t u : Tables} {bs rest : List ℕ} {ran : List Setting} → Runs c lim n t bs ran u rest
      → (l : List Setting) (bs' : List ℕ) → WrittenAll c l bs → WrittenAll d l bs' → Bytes bs → Bytes bs' → length ran ≤ length l → Beside n t u l ran rest bs'
  beside done l bs' w v b b' h = record { left = l; rest' = bs'; counted = omega arith; here = w; there = v; bytes = b; bytes' = b'; runs = done }
  beside (step p y i a q) [] bs' w v b b' h = absurd (omega arith)
  beside (step {w = z} {r = r} {s = s} p y i a q) (x ∷ l) bs' (w, wr, e, wx, wl) (v, vr, e', vx, vl) b b' h =
      let first : Bytes (w ++ wr) = subst Bytes e b in
      let other : Bytes (v ++ vr) = subst Bytes e' b' in
      let (same, k) = one_writing c s x z w r wr y (wx, bytes_left w wr first) (sym p ∙ e) in
      let on : r ≡ wr = (cut z w (ap length k) (sym p ∙ e)).1 in
      let m = beside q l vr (subst⁻¹ (WrittenAll c l) on wl) vl (subst⁻¹ Bytes on (bytes_right w wr first)) (bytes_right v vr other) (omega arith) in
      record {
        left = m.left;
        rest' = m.rest';
        counted = omega (arith, m.counted);
        here = m.here;
        there = m.there;
        bytes = m.bytes;
        bytes' = m.bytes';
        runs = step {w = v} {s = s} e' (subst⁻¹ (λ (k : Setting). Written d k v) same vx, bytes_left v vr other) i a m.runs;
      }

  -- what is at fault where a list goes on
  next_alike : (left : ℕ) (t : Tables) (l : List Setting) (bs bs' : List ℕ) {number : ℕ} → 1 ≤ length l → WrittenAll c l bs → WrittenAll d l bs' → Bytes bs → Bytes bs'
      → Fault c lim left t bs number → Fault d lim left t bs' number
  next_alike left t [] bs bs' h w v b b' f = absurd (omega (arith, h))
  next_alike left t (s ∷ l) bs bs' h (w, wr, e, wx, wl) (v, vr, e', vx, vl) b b' f =
      fault_alike left t s bs w wr bs' v vr e (wx, bytes_left w wr (subst Bytes e b)) e' (vx, bytes_left v vr (subst Bytes e' b')) f

  -- JUDGED ALIKE: one list comes to the same thing under two coding types
  pub judged_alike : (t : Tables) (l : List Setting) (bs bs' : List ℕ) (o : Outcome Setting Tables) → WrittenAll c l bs → WrittenAll d l bs' → Bytes bs → Bytes bs'
      → Judged c lim (length l) t bs o → Judged d lim (length l) t bs' o
  judged_alike t l bs bs' o w v b b' (taken {l = ran} {u = u} e q) =
      let z = beside q l bs' w v b b' (omega arith) in
      taken {l = ran} e (subst (Runs d lim (length l) t bs' ran u) (none_written d z.left z.rest' (omega (arith, z.counted)) z.there) z.runs)
  judged_alike t l bs bs' o w v b b' (over {b = x} {rest = rest} e q) =
      let z = beside q l bs' w v b b' (omega arith) in
      absurd (nil≢cons (sym (none_written c z.left (x ∷ rest) (omega (arith, z.counted)) z.here)))
  judged_alike t l bs bs' o w v b b' (fault {u = u} {rest = rest} left e q f) =
      let z = beside q l bs' w v b b' (omega arith) in
      fault left e z.runs (next_alike left u z.left rest z.rest' (omega (arith, z.counted)) z.here z.there z.bytes z.bytes' f)
