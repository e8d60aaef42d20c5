-- Laws on lists that the kit lacks. Assumes nothing.
use Rattle.lists.proofs.Kit.{ℕ, zero, suc, ◌<◌, ◌≡◌, refl, sym, ap, ap₂, ◌∙◌, List, [], ◌∷◌, ◌++◌, map, nil≢cons, cons≢nil, head-eq_of_cons-eq, tail-eq_of_cons-eq, not-suc-le-zero, le_of_suc-le-suc, arith, length, drop, get_or, set, drop-append_seam}

-- two lists that begin alike, cut at one length
pub cut : {A : Type 0} (a b : List A) {x y : List A} → length a ≡ length b → a ++ x ≡ b ++ y → (a ≡ b) × (x ≡ y)
cut [] [] l e = (refl, e)
cut [] (q ∷ b) l e = absurd (omega arith)
cut (p ∷ a) [] l e = absurd (omega arith)
cut (p ∷ a) (q ∷ b) l e =
    let r = cut a b (omega arith) (tail-eq_of_cons-eq e) in
    (ap₂ (λ x y. x ∷ y) (head-eq_of_cons-eq e) r.0, r.1)

-- what follows the same start is the same
pub append_cancel : {A : Type 0} (w r q : List A) → w ++ r ≡ w ++ q → r ≡ q
append_cancel w r q e = sym (drop-append_seam w r) ∙ ap (drop (length w)) e ∙ drop-append_seam w q

-- an element put in place k of what a function makes
pub map_set : {A B : Type 0} (g : A → B) (xs : List A) (k : ℕ) (x : A) → map g (set xs k x) ≡ set (map g xs) k (g x)
map_set g [] k x = refl
map_set g (y ∷ ys) zero x = refl
map_set g (y ∷ ys) (suc k) x = ap (λ l. g y ∷ l) (map_set g ys k x)

-- a function that is one-to-one makes equal lists of equal lists only
pub map_one : {A B : Type 0} (f : A → B) → ((a b : A) → f a ≡ f b → a ≡ b) → (xs ys : List A) → map f xs ≡ map f ys → xs ≡ ys
map_one f h [] [] e = refl
map_one f h [] (y ∷ ys) e = absurd (nil≢cons e)
map_one f h (x ∷ xs) [] e = absurd (cons≢nil e)
map_one f h (x ∷ xs) (y ∷ ys) e = ap₂ (λ x y. x ∷ y) (h x y (head-eq_of_cons-eq e)) (map_one f h xs ys (tail-eq_of_cons-eq e))

-- the element in place k of what a function makes
pub get_d_map : {A B : Type 0} (g : A → B) (xs : List A) (k : ℕ) (d : A) (e : B) → k < length xs → get_or (map g xs) k e ≡ g (get_or xs k d)
get_d_map g [] k d e h = absurd (not-suc-le-zero h)
get_d_map g (x ∷ xs) zero d e h = refl
get_d_map g (x ∷ xs) (suc k) d e h = get_d_map g xs k d e (le_of_suc-le-suc h)
