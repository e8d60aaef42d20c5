-- Flags and addresses as bytes. Assumes nothing.
use Rattle.lists.proofs.Kit.{ℕ, ◌/◌, ◌%◌, ◌<◌, ◌≡◌, ap₂, List, [], ◌∷◌, arith}
use Rattle.slots.specs.Slots.{u24}

-- three bytes that are cut from an address are its bytes
pub address_cut : (flags a : ℕ) → a < 16777216 → flags ∷ a / 65536 % 256 ∷ a / 256 % 256 ∷ a % 256 ∷ [] ≡ flags ∷ u24 a
address_cut flags a h =
    let p : a / 65536 % 256 ≡ a / 65536 = omega arith in
    let q : a / 256 % 256 ≡ a % 65536 / 256 = omega arith in
    let r : a % 256 ≡ a % 65536 % 256 = omega arith in
    ap₂ (λ (x : ℕ) (l : List ℕ). flags ∷ x ∷ l) p (ap₂ (λ (x y : ℕ). x ∷ y ∷ []) q r)
