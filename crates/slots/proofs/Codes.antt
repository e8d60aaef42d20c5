-- Equal bytes are equal tables: a slot's bytes tell the entry, and a table's bytes its entries. Assumes nothing.
use Rattle.lists.proofs.Kit.{◌≡◌, refl, sym, ap, ap₂, ◌∙◌, ◌≢◌, true≢false, false, Option, none, some, List, [], ◌∷◌, map, ℕ, ◌≤◌, arith, length, length-map}
use Rattle.lists.specs.Every.{All}
use Rattle.lists.proofs.Every.{all_made}
use Rattle.lists.proofs.Seqs.{cut, map_one}
use Rattle.slots.specs.Slots.{flat, slot, front, zeros?, Present, Placed, Listed}
use Rattle.slots.proofs.Pads.{pad_one}
use Rattle.slots.proofs.Runs.{zeros_all}
use Rattle.slots.proofs.Tables.{slot_long, all_front, front_length}

-- entries are w bytes, and those of entries that have P tell the entry
pub record Code {A : Type 0} (P : A → Type 0) (w : ℕ) (f : A → List ℕ) : Type 0 where
  pub long : (a : A) → length (f a) ≡ w
  pub one : (a b : A) → P a → P b → f a ≡ f b → a ≡ b

module _ {A : Type 0} (P : A → Type 0) (w : ℕ) (f : A → List ℕ) (k : Code P w f) where
  -- as many entries that make the same bytes are the same
  pub array_one : (xs ys : List A) → All P xs → All P ys → length xs ≡ length ys → flat (map f xs) ≡ flat (map f ys) → xs ≡ ys
  array_one [] [] p q l e = refl
  array_one [] (y ∷ ys) p q l e = absurd (omega arith)
  array_one (x ∷ xs) [] p q l e = absurd (omega arith)
  array_one (x ∷ xs) (y ∷ ys) p q l e =
      let r = cut (f x) (f y) (k.long x ∙ sym (k.long y)) e in
      ap₂ (λ x y. x ∷ y) (k.one x y p.0 q.0 r.0) (array_one xs ys p.1 q.1 (omega arith) r.1)

  -- where no entry is all zeros, an entry is told from its absence
  pub slot_code : ((a : A) → P a → zeros? (f a) ≡ false) → Code (Present P) w (slot w f)
  slot_code z = record { long = slot_long w f k.long; one = o }
    where
      o : (a b : Option A) → Present P a → Present P b → slot w f a ≡ slot w f b → a ≡ b
      o none none p q e = refl
      o none (some b) p q e = absurd (true≢false (sym (zeros_all w) ∙ ap zeros? e ∙ z b q))
      o (some a) none p q e = absurd (true≢false (sym (zeros_all w) ∙ ap zeros? (sym e) ∙ z a p))
      o (some a) (some b) p q e = ap some (k.one a b p q e)

-- what is there is not absent
some_not_none : {A : Type 0} (a : A) → some a ≢ none
some_not_none a e = let z : ◌≡◌ {A = ℕ} 0 1 = cc in omega arith

-- lists that fill as many places alike are the same
pub front_one : {A : Type 0} (n : ℕ) (xs ys : List A) → length xs ≤ n → length ys ≤ n → front n xs ≡ front n ys → xs ≡ ys
front_one n xs ys h k e =
    map_one some (λ a b q. (cc)) xs ys
    (pad_one none n (map some xs) (map some ys) (all_made (λ o. o ≢ none) some some_not_none xs) (all_made (λ o. o ≢ none) some some_not_none ys)
    (rw length-map h) (rw length-map k) e)

module _ {A : Type 0} (P : A → Type 0) (w : ℕ) (f : A → List ℕ) (k : Code P w f) (z : (a : A) → P a → zeros? (f a) ≡ false) (n : ℕ) (s : List ℕ) where
  -- bytes are one indexed table at most
  pub places_one : (os ps : List (Option A)) → Placed P w f n os s → Placed P w f n ps s → os ≡ ps
  places_one os ps p q = array_one (Present P) w (slot w f) (slot_code P w f k z) os ps p.each q.each (p.many ∙ sym q.many) (sym p.bytes ∙ q.bytes)

  -- and one list table at most
  pub list_one : (xs ys : List A) → Listed P w f n xs s → Listed P w f n ys s → xs ≡ ys
  list_one xs ys p q =
      front_one n xs ys p.few q.few
      (places_one (front n xs) (front n ys)
      (record { many = front_length n xs; each = all_front P n xs p.each; bytes = p.bytes })
      (record { many = front_length n ys; each = all_front P n ys q.each; bytes = q.bytes }))
