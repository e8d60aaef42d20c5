-- A request comes to one thing only, where no setting's writing starts another's. Over any settings, tables and writing. Assumes nothing.
use Rattle.lists.proofs.Kit.{◌≡◌, refl, sym, ap, ap₂, ◌∙◌, subst, subst₂, List, [], ◌∷◌, ◌++◌, ◌⊎◌, inl, inr, Option, none, some, ℕ, zero, suc, ◌+◌, ◌-◌, ◌≤◌, ◌<◌, arith, length, length-append}
use Rattle.lists.proofs.Seqs.{append_cancel}
use Rattle.requests.specs.Judge as J
use Rattle.requests.specs.Judge.{Outcome, kept, refused, done, step, missing, unknown, field, room, taken, over, fault}

module _ (Setting Tables : Type 0)
    (Written : Setting → List ℕ → Type 0)
    (InRange : ℕ → Setting → Type 0)
    (apply : Setting → Tables → Option Tables)
    (known : ℕ → Type 0)
  where
    -- the notions of specs/Judge.antt, of these settings and tables
    abbrev Runs : ℕ → Tables → List ℕ → List Setting → Tables → List ℕ → Type 0
    Runs = J.Runs Setting Tables Written InRange apply known

    abbrev Fault : ℕ → Tables → List ℕ → ℕ → Type 0
    Fault = J.Fault Setting Tables Written InRange apply known

    abbrev Judged : ℕ → Tables → List ℕ → Outcome Setting Tables → Type 0
    Judged = J.Judged Setting Tables Written InRange apply known

    module _ (unique : (s s' : Setting) (w w' r r' : List ℕ) → Written s w → Written s' w' → w ++ r ≡ w' ++ r' → (s ≡ s') × (w ≡ w'))
        (headed : (s : Setting) (w : List ℕ) → Written s w → (b : ℕ) × (v : List ℕ) × (w ≡ b ∷ v) × known b) where
      -- one more setting stands after `l`
      record More (left : ℕ) (t : Tables) (bs : List ℕ) : Type 0 where
        s : Setting
        t' : Tables
        w : List ℕ
        r : List ℕ
        at : bs ≡ w ++ r
        written : Written s w
        range : InRange left s
        applied : apply s t ≡ some t'

      abbrev Same : ℕ → Tables → List ℕ → List Setting → Tables → List ℕ → List Setting → Tables → List ℕ → Type 0
      Same n t bs l u r l' u' r' = (length l ≡ length l' → (u ≡ u') × (r ≡ r') × (l ≡ l')) × ((left : ℕ) → length l + suc left ≡ n → length l < length l' → More left u r)

      det : {n : ℕ} {t u u' : Tables} {bs r r' : List ℕ} {l l' : List Setting}
          → Runs n t bs l u r → Runs n t bs l' u' r' → Same n t bs l u r l' u' r'
      det done done = ((λ e. (refl, refl, refl)), λ left e h. absurd (omega arith))
      det done (step {n} {t' = t2} {w = w2} {r = r2} {s = s2} p w i a q) = (
        (λ e. absurd (omega arith)),
        λ left e h. record { s = s2; t' = t2; w = w2; r = r2; at = p; written = w; range = subst (λ (k : ℕ). InRange k s2) (omega arith) i; applied = a },
      )
      det (step p w i a q) done = ((λ e. absurd (omega arith)), λ left e h. absurd (omega arith))
      det (step {n} {t' = t1} {u = u1} {w = w1} {r = r1} {rest = x1} {s = s1} {l = l1} p w i a q) (step {t' = t2} {u = u2} {w = w2} {r = r2} {rest = x2} {s = s2} {l = l2} p' w' i' a' q') =
          let same = unique _ _ _ _ r1 r2 w w' (sym p ∙ p') in
          let rs : r1 ≡ r2 = append_cancel w1 r1 r2 (cc) in
          let ts : t1 ≡ t2 = cc in
          let q'' : Runs n t1 r1 l2 u2 x2 = subst₂ (λ (x : Tables) (y : List ℕ). Runs n x y l2 u2 x2) (sym ts) (sym rs) q' in
          let more = det q q'' in
          ((λ e. let (a, b, c) = more.0 (omega arith) in (a, b, ap₂ (λ (x : Setting) (y : List Setting). x ∷ y) same.0 c)), λ left e h. more.1 left (omega arith) (omega arith))

      -- at a fault no further setting stands
      stuck : {left number : ℕ} {t : Tables} {bs : List ℕ} → Fault left t bs number → More left t bs → ⊥
      stuck missing m =
          let h = headed m.s m.w m.written in
          let z : length (m.w ++ m.r) ≡ 0 = ap length (sym m.at) in
          let y : length m.w ≡ suc (length h.1) = ap length h.2 in
          omega (arith, z, y, length-append m.w m.r)
      stuck (unknown {b} {bs} never) m =
          let h = headed m.s m.w m.written in
          let e : b ∷ bs ≡ (h.0 ∷ h.1) ++ m.r = m.at ∙ ap (λ (x : List ℕ). x ++ m.r) h.2 in
          never (subst known (cc) h.3)
      stuck (field k never) m = never m.s m.w m.r m.at m.written m.range
      stuck (room {s} r p w i a) m =
          let same = unique s m.s _ m.w r m.r w m.written (sym p ∙ m.at) in
          let z : ◌≡◌ {A = Option Tables} none (some m.t') = sym a ∙ ap (λ (x : Setting). apply x _) same.0 ∙ m.applied in
          let y : ◌≡◌ {A = ℕ} 0 1 = cc in
          omega arith

      one_number : {left a b : ℕ} {t : Tables} {bs : List ℕ} → Fault left t bs a → Fault left t bs b → a ≡ b
      one_number missing missing = refl
      one_number (unknown x) (unknown y) = refl
      one_number (unknown x) (field k y) = absurd (x k)
      one_number (unknown {b} {bs} x) (room {s} r p w i a) =
          let h = headed s _ w in
          let e : b ∷ bs ≡ (h.0 ∷ h.1) ++ r = p ∙ ap (λ (z : List ℕ). z ++ r) h.2 in
          absurd (x (subst known (cc) h.3))
      one_number (field k x) (unknown y) = absurd (y k)
      one_number (field k x) (field k' y) = refl
      one_number (field k x) (room {s} r p w i a) = absurd (x s _ r p w i)
      one_number (room {b} {bs} {s = s} r p w i a) (unknown y) =
          let h = headed s _ w in
          let e : b ∷ bs ≡ (h.0 ∷ h.1) ++ r = p ∙ ap (λ (z : List ℕ). z ++ r) h.2 in
          absurd (y (subst known (cc) h.3))
      one_number (room {s} r p w i a) (field k y) = absurd (y s _ r p w i)
      one_number (room r p w i a) (room r' p' w' i' a') = refl

      -- a run to the end and one that stops at a fault cannot both be
      never_both : {n left number : ℕ} {t u u' : Tables} {bs r r' : List ℕ} {l l' : List Setting}
          → length l ≡ n → Runs n t bs l u r → length l' + suc left ≡ n → Runs n t bs l' u' r' → Fault left u' r' number → ⊥
      never_both {left} e q e' q' f = stuck f ((det q' q).1 left e' (omega arith))

      same_fault : {left left' a b : ℕ} {t u : Tables} {r r' : List ℕ} → left ≡ left' → t ≡ u → r ≡ r' → Fault left t r a → Fault left' u r' b → a ≡ b
      same_fault {left'} {b} {t} {r} e1 e2 e3 f g =
          one_number f (subst (λ (k : ℕ). Fault k t r b) (sym e1) (subst₂ (λ (x : Tables) (y : List ℕ). Fault left' x y b) (sym e2) (sym e3) g))

      pub determined : {n : ℕ} {t : Tables} {bs : List ℕ} {a b : Outcome Setting Tables} → Judged n t bs a → Judged n t bs b → a ≡ b
      determined (taken e q) (taken e' q') = let (a, b, c) = (det q q').0 (e ∙ sym e') in ap₂ kept c a
      determined (taken e q) (over e' q') = absurd (omega (arith, ap length ((det q q').0 (e ∙ sym e')).1))
      determined (taken e q) (fault left e' q' f) = absurd (never_both e q e' q' f)
      determined (over e q) (taken e' q') = absurd (omega (arith, ap length ((det q q').0 (e ∙ sym e')).1))
      determined (over e q) (over e' q') = refl
      determined (over e q) (fault left e' q' f) = absurd (never_both e q e' q' f)
      determined (fault left e q f) (taken e' q') = absurd (never_both e' q' e q f)
      determined (fault left e q f) (over e' q') = absurd (never_both e' q' e q f)
      determined (fault {l} left {number = a} e q f) (fault {l = l'} left' {number = b} e' q' f') =
          let level : length l ≡ length l' = level_of e q f e' q' f' in
          let d = (det q q').0 level in
          ap₂ refused (same_fault (omega arith) d.0 d.1 f f') (ap (λ (k : ℕ). k + 1) level)
        where
          level_of : {n left left' a b : ℕ} {t u u' : Tables} {bs r r' : List ℕ} {l l' : List Setting}
              → length l + suc left ≡ n → Runs n t bs l u r → Fault left u r a
              → length l' + suc left' ≡ n → Runs n t bs l' u' r' → Fault left' u' r' b → length l ≡ length l'
          level_of {left} {left'} {l} {l'} e q f e' q' f' =
              let x : length l' < length l → ⊥ = λ h. stuck f' ((det q' q).1 left' e' h) in
              let y : length l < length l' → ⊥ = λ h. stuck f ((det q q').1 left e h) in
              omega arith

      -- k settings, in range and with room in turn, stand at the start
      abbrev pub Stands : ℕ → Tables → List ℕ → ℕ → Type 0
      Stands n t bs k = (l : List Setting) × (u : Tables) × (rest : List ℕ) × (length l ≡ k) × Runs n t bs l u rest

      -- what each outcome says: all stand and nothing is left, all stand and bytes are left over, or the first at fault
      abbrev pub Says : ℕ → Tables → List ℕ → Outcome Setting Tables → Type 0
      Says n t bs (kept l u) = (length l ≡ n) × Runs n t bs l u []
      Says n t bs (refused number failed) =
          ((failed ≡ 0) × (number ≡ 4) × (l : List Setting) × (u : Tables) × (b : ℕ) × (rest : List ℕ) × (length l ≡ n) × Runs n t bs l u (b ∷ rest))
          ⊎ ((1 ≤ failed) × (failed ≤ n) × ((k : ℕ) → k < failed → Stands n t bs k) × (Stands n t bs failed → ⊥)
          × (l : List Setting) × (u : Tables) × (rest : List ℕ) × (length l + 1 ≡ failed) × Runs n t bs l u rest × Fault (n - failed) u rest number)

      -- where so many stand, fewer do
      fewer : {n : ℕ} {t u : Tables} {bs rest : List ℕ} {l : List Setting} → Runs n t bs l u rest → (k : ℕ) → k ≤ length l → Stands n t bs k
      fewer q zero h = ([], _, _, refl, done)
      fewer done (suc k) h = absurd (omega arith)
      fewer (step {n = n} {s = s} p w i a q) (suc k) h =
          let (l, u, rest, e, r) = fewer {n = n} q k (omega arith) in
          (s ∷ l, u, rest, ap suc e, step {s = s} p w i a r)

      -- FIRST FAULT: a refusal names the least k for which no k settings stand at the start, or 0 where all stand and bytes are left over
      pub judged_says : {n : ℕ} {t : Tables} {bs : List ℕ} {o : Outcome Setting Tables} → Judged n t bs o → Says n t bs o
      judged_says (taken e q) = (e, q)
      judged_says (over {l} {u} {b} {rest} e q) = inl (refl, refl, l, u, b, rest, e, q)
      judged_says {n} (fault {l} {u} {rest} left {number} e q f) =
          let never : Stands _ _ _ (length l + 1) → ⊥
          = λ x. let y : length x.0 ≡ length l + 1 = x.3 in stuck f ((det q x.4).1 left e (omega arith)) in
          let z : left ≡ n - (length l + 1) = omega arith in
          inr (omega arith, omega arith, (λ k h. fewer q k (omega arith)), never, l, u, rest, refl, q, subst (λ (k : ℕ). Fault k u rest number) z f)

      -- a fault's number is 2, 3 or 4
      fault_number : {left number : ℕ} {t : Tables} {bs : List ℕ} → Fault left t bs number → (2 ≤ number) × (number ≤ 4)
      fault_number missing = (omega arith, omega arith)
      fault_number (unknown x) = (omega arith, omega arith)
      fault_number (field k x) = (omega arith, omega arith)
      fault_number (room r p w i a) = (omega arith, omega arith)

      abbrev pub RefusedWith : Outcome Setting Tables → Type 0
      RefusedWith (kept l u) = Unit {0}
      RefusedWith (refused number failed) = (2 ≤ number) × (number ≤ 4)

      -- and so is a refusal's
      pub refused_number : {n : ℕ} {t : Tables} {bs : List ℕ} {o : Outcome Setting Tables} → Judged n t bs o → RefusedWith o
      refused_number (taken e q) = tt
      refused_number (over e q) = (omega arith, omega arith)
      refused_number (fault left e q f) = fault_number f
