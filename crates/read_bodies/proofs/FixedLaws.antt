-- The heads of the key, home numbers, system code and last item, and the key's address. Assumes nothing.
use Rattle.lists.proofs.Kit.{ℕ, ◌+◌, ◌%◌, ◌≤◌, ◌<◌, ◌≡◌, refl, subst, List, [], ◌∷◌, map, arith, length, drop, take}
use Rattle.lists.specs.Bytes.{Bytes}
use Rattle.writing.specs.declared.Coding.{Coding}
use Rattle.writing.specs.declared.Kind.TheVariants.{Key, Home, System, Last}
use Rattle.writing.specs.declared.KeyTarget.{KeyTarget}
use Rattle.writing.specs.declared.KeyTarget.TheVariants.{Current, ToGroup, ToIndividual}
use Rattle.writing.specs.Fields.{val, res}
use Rattle.writing.specs.Ranges.{text_limits, InRange, InAddress, InTarget}
use Rattle.writing.specs.Writing.{bit, flag, current, to_group, key_address}
use Rattle.writing.proofs.ByKind.{of_kind}
use Rattle.read_fields.specs.Places.{FieldsAt, be}
use Rattle.read_fields.proofs.Heads.{head_in, head_out, be_small}
use Rattle.read_fields.proofs.Parts.{nothing}
use Rattle.settings.specs.Meant.{BodyAt}
use Rattle.std.specs.Prelude.{None}
use Rattle.settings.proofs.BodyLaws.{Headed}

abbrev pub key_head : (c : Coding) → Headed c Key
key_head c = record {
  head = λ x. flag (current x.0) ∷ flag (to_group x.0) ∷ flag x.1.voice ∷ flag x.1.status ∷ flag x.1.siren ∷ res 3 ∷ [];
  tail = λ x. key_address x.0;
  size = 1;
  split = λ x. refl;
  wide = λ x. refl;
  some_byte = omega arith;
}

abbrev pub home_head : (c : Coding) → Headed c Home
home_head c = record
    { head = λ x. val 9 x.nzi ∷ val 10 x.np ∷ res 5 ∷ []; tail = λ x. []; size = 3; split = λ x. refl; wide = λ x. refl; some_byte = omega arith }

abbrev pub system_head : (c : Coding) → Headed c System
system_head c = record {
  head = λ x. val 12 x.lai ∷ val 4 x.la ∷ val 2 x.roaming ∷ flag x.par ∷ res 5 ∷ [];
  tail = λ x. [];
  size = 3;
  split = λ x. refl;
  wide = λ x. refl;
  some_byte = omega arith;
}

abbrev pub last_head : (c : Coding) → Headed c Last
last_head c = record {
  head = λ x. flag x.0.reboot ∷ flag x.0.reply ∷ val 6 x.1.code ∷ [];
  tail = λ x. map (val 8) x.1.value;
  size = 1;
  split = λ x. refl;
  wide = λ x. refl;
  some_byte = omega arith;
}

-- ---- addresses

-- the 24 bits of an address are three bytes
address_out : (a : ℕ) (m : List ℕ) (q next : ℕ) → Bytes m → InAddress a → FieldsAt (val 24 a ∷ []) m q next
    → (q + 3 ≤ length m) × InAddress (be 0 (take 3 (drop q m)) % 16777216)
address_out a m q next h i x =
    let (r, k, y) = head_out (val 24 a ∷ []) [] m q 3 refl (omega arith) h next x in
    (r, subst InAddress (omega (arith, be_small m q 3 h r, k.0)) i)

pub address_in : (a : ℕ) (m : List ℕ) (q : ℕ) → Bytes m → q + 3 ≤ length m → a ≡ be 0 (take 3 (drop q m)) % 16777216 → FieldsAt (val 24 a ∷ []) m q (q + 3)
address_in a m q h r e = head_in (val 24 a ∷ []) [] m q 3 refl (omega arith) h (q + 3) r (omega arith, tt) (nothing m (q + 3))

-- an address that the key calls stands after its head, in range
pub key_address_out : (t : KeyTarget) (m : List ℕ) (q next : ℕ) → Bytes m → (bit (current t) ≡ 1 → ⊥) → InTarget t → FieldsAt (key_address t) m q next
    → (q + 3 ≤ length m) × InAddress (be 0 (take 3 (drop q m)) % 16777216)
key_address_out (Current g) m q next h n i x = absurd (n refl)
key_address_out (ToGroup a) m q next h n i x = address_out a.0 m q next h i x
key_address_out (ToIndividual a) m q next h n i x = address_out a.0 m q next h i x

-- the last item is out of range before the last place
pub not_last : (c : Coding) (left : ℕ) (m : List ℕ) (p : ℕ) → 0 < left → BodyAt c Last left m p None
not_last c left m p l s next e i y =
    let (x, d) = of_kind Last s e in
    omega (arith, (subst (InRange text_limits left) d i).1)
