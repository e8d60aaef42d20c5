-- Lists of which every element is a byte. Assumes nothing.
use Rattle.lists.proofs.Kit.{◌≡◌, refl, Bool, true, false, List, [], ◌∷◌, ◌++◌, ℕ, zero, suc, ◌+◌, ◌<◌, arith, ltb-true, ltb-false, ltb, get_or, take, drop, replicate, length-take, list_getD_eq_default, get_or-take, get_or-drop}
use Rattle.lists.specs.Bytes.{Bytes}
use Rattle.lists.specs.Every.{All}
use Rattle.lists.proofs.Every.{all_replicate}

-- what stands from a place on is bytes
pub bytes_drop : (n : ℕ) (l : List ℕ) → Bytes l → Bytes (drop n l)
bytes_drop n l b i = rw get_or-drop (b (n + i))

-- and so is what stands before it
pub bytes_take : (n : ℕ) (l : List ℕ) → Bytes l → Bytes (take n l)
bytes_take n l b i = go (ltb i n) refl
  where
    go : (t : Bool) → ltb i n ≡ t → get_or (take n l) i 0 < 256
    go true h = rw (get_or-take n l i 0 (ltb-true i n h)) (b i)
    go false h = rw (list_getD_eq_default (take n l) 0 {n = i} (simp length-take (omega (arith, ltb-false i n h)))) (omega arith)

-- what is below 256 is bytes
pub all_bytes : (l : List ℕ) → All (◌< 256) l → Bytes l
all_bytes [] p i = omega arith
all_bytes (x ∷ l) p zero = p.0
all_bytes (x ∷ l) p (suc i) = all_bytes l p.1 i

-- and bytes are below 256
pub bytes_all : (l : List ℕ) → Bytes l → All (◌< 256) l
bytes_all [] b = tt
bytes_all (x ∷ l) b = (b 0, bytes_all l (λ i. b (suc i)))

-- zeros are bytes
pub bytes_zeros : (n : ℕ) → Bytes (replicate n 0)
bytes_zeros n = all_bytes (replicate n 0) (all_replicate (◌< 256) n 0 (omega arith))

-- a byte before bytes
pub bytes_cons : (x : ℕ) (l : List ℕ) → x < 256 → Bytes l → Bytes (x ∷ l)
bytes_cons x l h b zero = h
bytes_cons x l h b (suc i) = b i

-- bytes after bytes
pub bytes_append : (a b : List ℕ) → Bytes a → Bytes b → Bytes (a ++ b)
bytes_append [] b p q i = q i
bytes_append (x ∷ a) b p q zero = p zero
bytes_append (x ∷ a) b p q (suc i) = bytes_append a b (λ j. p (suc j)) q i
