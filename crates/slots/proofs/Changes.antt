-- Changes of a list, told by what stands before and after an entry: where it is found, put in its place, or taken out. Assumes nothing.
use Rattle.lists.proofs.Kit.{◌≡◌, refl, ap, ◌∙◌, Bool, true, false, cond, List, [], ◌∷◌, ◌++◌, suc, ◌<◌, arith, length, length-append}
use Rattle.lists.specs.Every.{All}
use Rattle.slots.specs.Slots.{unless, index_of, put_at}
use Rattle.slots.proofs.Tables.{unless_short}

module _ {A : Type 0} (p : A → Bool) where
  -- ---- found

  -- where p says no of every entry, none is found
  pub index_absent : (ls : List A) → All (λ x. p x ≡ false) ls → index_of p ls ≡ length ls
  index_absent [] h = refl
  index_absent (x ∷ ls) h = rw h.0 (ap suc (index_absent ls h.1))

  -- where none is found, p says no of every entry
  pub index_end : (ls : List A) → index_of p ls ≡ length ls → All (λ x. p x ≡ false) ls
  index_end [] e = tt
  index_end (x ∷ ls) e = go (p x) refl (index_end ls) e
    where
      go : (b : Bool) → p x ≡ b → (index_of p ls ≡ length ls → All (λ y. p y ≡ false) ls) → cond b 0 (suc (index_of p ls)) ≡ suc (length ls) → (p x ≡ false) × All (λ y. p y ≡ false) ls
      go true h r q = absurd (omega arith)
      go false h r q = (h, r (omega arith))

  -- the first entry of which p says yes is found behind those before it
  pub index_found : (before : List A) (x : A) (after : List A) → All (λ y. p y ≡ false) before → p x ≡ true → index_of p (before ++ x ∷ after) ≡ length before
  index_found [] x after h e = rw e
  index_found (y ∷ ys) x after h e = rw h.0 (ap suc (index_found ys x after h.1 e))

  -- ---- taken out

  -- where p says no of every entry, all stay
  pub unless_absent : (ls : List A) → All (λ x. p x ≡ false) ls → unless p ls ≡ ls
  unless_absent [] h = refl
  unless_absent (x ∷ ls) h = rw h.0 (ap (λ (l : List A). x ∷ l) (unless_absent ls h.1))

  -- what stays is told from front to back
  pub unless_append : (a b : List A) → unless p (a ++ b) ≡ unless p a ++ unless p b
  unless_append [] b = refl
  unless_append (x ∷ a) b = go (p x) (unless_append a b)
    where
      go : (c : Bool) → unless p (a ++ b) ≡ unless p a ++ unless p b → cond c (unless p (a ++ b)) (x ∷ unless p (a ++ b)) ≡ cond c (unless p a) (x ∷ unless p a) ++ unless p b
      go true e = e
      go false e = ap (λ (l : List A). x ∷ l) e

  -- p says no of all that stay
  pub unless_gone : (ls : List A) → All (λ x. p x ≡ false) (unless p ls)
  unless_gone [] = tt
  unless_gone (x ∷ ls) = go (p x) refl (unless_gone ls)
    where
      go : (b : Bool) → p x ≡ b → All (λ y. p y ≡ false) (unless p ls) → All (λ y. p y ≡ false) (cond b (unless p ls) (x ∷ unless p ls))
      go true e r = r
      go false e r = (e, r)

  -- the one entry of which p says yes is taken out, and the others close up
  pub unless_found : (before : List A) (x : A) (after : List A) → All (λ y. p y ≡ false) before → p x ≡ true → All (λ y. p y ≡ false) after → unless p (before ++ x ∷ after) ≡ before ++ after
  unless_found [] x after h e k = rw e (unless_absent after k)
  unless_found (y ∷ ys) x after h e k = rw h.0 (ap (λ (l : List A). y ∷ l) (unless_found ys x after h.1 e k))

  -- taking an entry out leaves fewer
  pub unless_fewer : (before : List A) (x : A) (after : List A) → p x ≡ true → length (unless p (before ++ x ∷ after)) < length (before ++ x ∷ after)
  unless_fewer before x after e =
      let s : unless p (x ∷ after) ≡ unless p after = rw e in
      let u : length (unless p (before ++ x ∷ after)) ≡ length (unless p before ++ unless p after) = ap length (unless_append before (x ∷ after) ∙ ap (λ (l : List A). unless p before ++ l) s) in
      omega (arith, length-append (unless p before) (unless p after), length-append before (x ∷ after), unless_short p before, unless_short p after)

-- ---- put

-- an entry put behind those before it takes the place of the one that stood there
pub put_found : {A : Type 0} (before : List A) (x : A) (after : List A) (a : A) → put_at (length before) a (before ++ x ∷ after) ≡ before ++ a ∷ after
put_found [] x after a = refl
put_found (y ∷ ys) x after a = ap (λ l. y ∷ l) (put_found ys x after a)
