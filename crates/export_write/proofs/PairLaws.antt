-- Lists two elements at a time. Assumes nothing.
use Rattle.lists.proofs.Kit.{ℕ, zero, suc, ◌+◌, ◌*◌, ◌<◌, ◌≡◌, ap, ◌∙◌, List, [], ◌∷◌, arith, length, drop, get_or, drop-cons}
use Rattle.lists.specs.Every.{All}

-- every element behind a place
pub all_drop : {A : Type 0} (P : A → Type 0) (k : ℕ) (xs : List A) → All P xs → All P (drop k xs)
all_drop P zero xs p = p
all_drop P (suc k) [] p = tt
all_drop P (suc k) (x ∷ xs) p = all_drop P k xs p.1

-- what stands behind 2 i elements, where two more are left
pub drop_two : (d : ℕ) (xs : List ℕ) (i : ℕ) → 2 * i + 1 < length xs → drop (2 * i) xs ≡ get_or xs (2 * i) d ∷ get_or xs (2 * i + 1) d ∷ drop (2 * (i + 1)) xs
drop_two d xs i h =
    let j : suc (2 * i) ≡ 2 * i + 1 = omega arith in
    let k : suc (suc (2 * i)) ≡ 2 * (i + 1) = omega arith in
    drop-cons xs (2 * i) d (omega arith) ∙ ap (λ (m : List ℕ). get_or xs (2 * i) d ∷ m) (drop-cons xs (suc (2 * i)) d (omega arith))
    ∙ (λ t. get_or xs (2 * i) d ∷ get_or xs (j t) d ∷ drop (k t) xs)
