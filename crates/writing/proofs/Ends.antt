-- Two lists of fields that stand at the start of the same bits, taken apart field by field. Assumes nothing.
use Rattle.lists.proofs.Kit.{ℕ, ◌≡◌, refl, sym, ◌∙◌, List, [], ◌∷◌, ◌++◌, map, append_assoc, arith, length}
use Rattle.lists.proofs.Seqs.{cut}
use Rattle.writing.specs.Fields.{bits, Field, val, item, res, width, MayHave, Shows, each}
use Rattle.writing.proofs.Bits.{length_bits, bits_val}

-- fs and gs stand at the start of the same bits; r and q are what is left
pub record Agree (fs gs : List Field) (r q : List ℕ) : Type 0 where
  pub one : List ℕ
  pub two : List ℕ
  pub left : Shows fs one
  pub right : Shows gs two
  pub same : one ++ r ≡ two ++ q

module _ {fs gs : List Field} {r q : List ℕ} where
  pub first : (f g : Field) → width f ≡ width g → Agree (f ∷ fs) (g ∷ gs) r q → (x : ℕ) × MayHave f x × MayHave g x × Agree fs gs r q
  first f g w a =
      let (x, t, hx, bx, ex, sx) = a.left in
      let (y, u, hy, by, ey, sy) = a.right in
      let e : bits (width f) x ++ (t ++ r) ≡ bits (width g) y ++ (u ++ q)
      = cc (append_assoc (bits (width f) x) t r, append_assoc (bits (width g) y) u q, a.same) in
      let z = cut (bits (width f) x) (bits (width g) y) (length_bits _ _ ∙ w ∙ sym (length_bits _ _)) e in
      let v : x ≡ y = bits_val (width g) x y (rw w at bx) by (rw w at z.0) in
      (x, hx, rw v hy, record { one = t; two = u; left = sx; right = sy; same = z.1 })

  -- a field with a value: the values are equal
  pub val_ends : {w v u : ℕ} → Agree (val w v ∷ fs) (val w u ∷ gs) r q → (v ≡ u) × Agree fs gs r q
  val_ends {w} {v} {u} a = let (x, p, s, z) = first (val w v) (val w u) refl a in (sym p ∙ s, z)

  pub res_ends : {w : ℕ} → Agree (res w ∷ fs) (res w ∷ gs) r q → Agree fs gs r q
  res_ends {w} a = (first (res w) (res w) refl a).3

module _ {fs gs : List Field} {r q : List ℕ} where
  -- items up to an end mark
  pub items_end : (w e : ℕ) (l m : List ℕ) → Agree (map (item w e) l ++ val w e ∷ fs) (map (item w e) m ++ val w e ∷ gs) r q
      → (l ≡ m) × Agree fs gs r q
  items_end w e [] [] a = (refl, (val_ends a).1)
  items_end w e [] (y ∷ m) a = let (x, p, s, z) = first (val w e) (item w e y) refl a in absurd (s.1 (cc s.0))
  items_end w e (x ∷ l) [] a = let (x', p, s, z) = first (item w e x) (val w e) refl a in absurd (p.1 (cc p.0))
  items_end w e (x ∷ l) (y ∷ m) a =
      let (x', p, s, z) = first (item w e x) (item w e y) refl a in
      let (k, z') = items_end w e l m z in
      (cc (p.0, s.0), z')

  -- the same fields on both sides
  pub same_ends : (hs : List Field) → Agree (hs ++ fs) (hs ++ gs) r q → Agree fs gs r q
  same_ends [] a = a
  same_ends (h ∷ hs) a = same_ends hs (first h h refl a).3

  -- as many values of one width
  pub vals_end : (w : ℕ) (l m : List ℕ) → length l ≡ length m → Agree (map (val w) l ++ fs) (map (val w) m ++ gs) r q
      → (l ≡ m) × Agree fs gs r q
  vals_end w [] [] n a = (refl, a)
  vals_end w [] (y ∷ m) n a = absurd (omega arith)
  vals_end w (x ∷ l) [] n a = absurd (omega arith)
  vals_end w (x ∷ l) (y ∷ m) n a =
      let (p, z) = val_ends a in
      let (k, z') = vals_end w l m (omega arith) z in
      (cc, z')

pub regroup : (a b c d fs gs : List Field) {r q : List ℕ} → Agree ((a ++ b) ++ fs) ((c ++ d) ++ gs) r q
    → Agree (a ++ (b ++ fs)) (c ++ (d ++ gs)) r q
regroup a b c d fs gs h = simp append_assoc at h

-- f's fields say where they end
pub record Ends {A : Type 0} (f : A → List Field) : Type 0 where
  pub ends : (a b : A) {fs gs : List Field} {r q : List ℕ} → Agree (f a ++ fs) (f b ++ gs) r q → (a ≡ b) × Agree fs gs r q

-- as many lists of fields that say where they end
pub each_ends : {A : Type 0} (f : A → List Field) → Ends f → (l m : List A) {fs gs : List Field} {r q : List ℕ} → length l ≡ length m
    → Agree (each f l ++ fs) (each f m ++ gs) r q → (l ≡ m) × Agree fs gs r q
each_ends f k [] [] n a = (refl, a)
each_ends f k [] (y ∷ m) n a = absurd (omega arith)
each_ends f k (x ∷ l) [] n a = absurd (omega arith)
each_ends f k (x ∷ l) (y ∷ m) n a =
    let (p, z) = k.ends x y (regroup (f x) (each f l) (f y) (each f m) _ _ a) in
    let (e, z') = each_ends f k l m (omega arith) z in
    (cc, z')

pub all_read : {r q : List ℕ} → Agree [] [] r q → r ≡ q
all_read a = cc (a.left, a.right, a.same)
