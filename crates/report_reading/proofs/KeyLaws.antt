-- Flags, and where the key calls. Assumes nothing.
use Rattle.lists.proofs.Kit.{ℕ, ◌%◌, ◌≡◌, refl, sym, ◌∙◌, subst, subst⁻¹, Bool, true, false, true≢false, false≢true, arith, eqb}
use Rattle.writing.specs.declared.KeyTarget.{KeyTarget}
use Rattle.writing.specs.declared.KeyTarget.TheVariants.{Current, ToGroup, ToIndividual}
use Rattle.writing.specs.Writing.{bit, current}
use Rattle.tables.specs.Allowed.{TargetOk}
use Rattle.tables.specs.Layout.{key_address}
use Rattle.writing.specs.Ranges.{InAddress}
use Rattle.read_fields.specs.TextsAndNumbers.{AddressRefused}
use Rattle.settings.proofs.BodyLaws.{flag_bit}
use Rattle.report_reading.specs.Readers.{TargetIs}
use Rattle.std.specs.Prelude.{Some, None}

-- ---- flags

-- the bit that a flag was cut from says the flag
pub bit_flag : (y : ℕ) (b d : Bool) → b ≡ eqb (y % 2) 1 → y % 2 ≡ bit d → d ≡ b
bit_flag y true true e k = refl
bit_flag y true false e k = absurd (omega (arith, k, flag_bit y true e))
bit_flag y false true e k = absurd (omega (arith, k, flag_bit y false e))
bit_flag y false false e k = refl

-- a flag that is said to be one that was cut is its bit
pub target_bits : (y : ℕ) {b d : Bool} → b ≡ eqb (y % 2) 1 → d ≡ b → y % 2 ≡ bit d
target_bits y {b} e k = subst⁻¹ (λ (x : Bool). y % 2 ≡ bit x) k (flag_bit y b e)

-- ---- where the key calls

-- the current place, with address 0
pub calls_0 : {g c : Bool} {a : ℕ} → c ≡ true → a ≡ 0 → TargetIs g c a (Some (Current g))
calls_0 e z l = record { group = refl; place = sym e; address = sym z; in_range = tt }

-- no target is current with another address
pub no_place : {g c : Bool} {a : ℕ} → c ≡ true → (a ≡ 0 → ⊥) → TargetIs g c a None
no_place {g} {c} {a} e n t k = go t (k.place ∙ e) k.address
  where
    go : (t : KeyTarget) → current t ≡ true → key_address t ≡ a → ⊥
    go (Current g) p q = n (sym q)
    go (ToGroup x) p q = false≢true p
    go (ToIndividual x) p q = false≢true p

-- none calls an address out of range
pub no_address : {g c r : Bool} {a : ℕ} → c ≡ false → AddressRefused a r → r ≡ true → TargetIs g c a None
no_address {g} {c} {r} {a} e s d t k = go t (k.place ∙ e) k.address k.in_range
  where
    never : InAddress a → ⊥
    never = subst (AddressRefused a) d s

    go : (t : KeyTarget) → current t ≡ false → key_address t ≡ a → TargetOk t → ⊥
    go (Current g) p q i = true≢false p
    go (ToGroup x) p q i = never (subst InAddress q i.0)
    go (ToIndividual x) p q i = never (subst InAddress q i.0)

-- an address in range, of the kind that the group bit says
pub calls_group : {g c r : Bool} {a : ℕ} → c ≡ false → g ≡ true → AddressRefused a r → r ≡ false → TargetIs g c a (Some (ToGroup (record { 0 = a })))
calls_group {a} e d s n l = record { group = sym d; place = sym e; address = refl; in_range = (subst (AddressRefused a) n s, l) }

pub calls_individual : {g c r : Bool} {a : ℕ} → c ≡ false → g ≡ false → AddressRefused a r → r ≡ false → TargetIs g c a (Some (ToIndividual (record { 0 = a })))
calls_individual {a} e d s n l = record { group = sym d; place = sym e; address = refl; in_range = (subst (AddressRefused a) n s, l) }
