-- What the check of a store promises: two answers allowed for one input are equal. Assumes nothing.
use Rattle.lists.proofs.Kit.{ℕ, ◌≡◌, refl, sym, Bool, true, false, true≢false, ◌↔◌, List}
use Rattle.tables.specs.declared.limits.Limits.{Limits}
use Rattle.tables.specs.Store.{StoreOf}

-- IS-STORE-DETERMINED: one answer
pub is_store_determined : (lim : Limits) (s : List ℕ) (a b : Bool) → (a ≡ true) ↔ StoreOf lim s → (b ≡ true) ↔ StoreOf lim s → a ≡ b
is_store_determined lim s true true p q = refl
is_store_determined lim s true false p q = absurd (true≢false (sym (q.1 (p.0 refl))))
is_store_determined lim s false true p q = absurd (true≢false (sym (p.1 (q.0 refl))))
is_store_determined lim s false false p q = refl
