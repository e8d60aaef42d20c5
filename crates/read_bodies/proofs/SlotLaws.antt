-- The heads of slots, and which slots are in range. Assumes nothing.
use Rattle.lists.proofs.Kit.{ℕ, ◌≤◌, ◌≡◌, refl, sym, subst, Bool, true, false, ◌≢◌, [], ◌∷◌, ◌++◌, arith}
use Rattle.writing.specs.declared.Coding.{Coding}
use Rattle.writing.specs.declared.Kind.TheVariants.{Group, Individual, LineSlot}
use Rattle.writing.specs.declared.Operation.{Operation}
use Rattle.writing.specs.declared.Operation.TheVariants.{Add, Delete, Replace}
use Rattle.writing.specs.Fields.{val, res}
use Rattle.writing.specs.Ranges.{InAddress, InSlot, NotReplace}
use Rattle.writing.specs.Writing.{flag, op, op_code, number, text}
use Rattle.read_fields.specs.TextsAndNumbers.{AddressRefused}
use Rattle.writing.proofs.Unique.{one_op}
use Rattle.settings.proofs.BodyLaws.{Headed}
use Rattle.read_bodies.specs.Refused.{SlotRefused}

abbrev pub group_head : (c : Coding) → Headed c Group
group_head c = record {
  head = λ x. op x.0 ∷ val 2 x.1.attribute ∷ flag x.1.broadcast ∷ flag x.1.encryption ∷ flag x.1.ovcm ∷ flag x.1.emergency
      ∷ val 2 x.1.priority ∷ res 2 ∷ val 4 x.2.index ∷ val 24 x.2.address.0 ∷ [];
  tail = λ x. text c x.2.text;
  size = 5;
  split = λ x. refl;
  wide = λ x. refl;
  some_byte = omega arith;
}

abbrev pub individual_head : (c : Coding) → Headed c Individual
individual_head c = record {
  head = λ x. op x.0 ∷ flag x.1.encryption ∷ flag x.1.emergency ∷ val 2 x.1.priority ∷ res 6 ∷ val 4 x.2.index
      ∷ val 24 x.2.address.0 ∷ [];
  tail = λ x. text c x.2.text;
  size = 5;
  split = λ x. refl;
  wide = λ x. refl;
  some_byte = omega arith;
}

abbrev pub line_slot_head : (c : Coding) → Headed c LineSlot
line_slot_head c = record {
  head = λ x. op x.0 ∷ flag x.1.encryption ∷ flag x.1.emergency ∷ val 2 x.1.priority ∷ flag x.1.pabx ∷ res 5
      ∷ val 4 x.2.index ∷ [];
  tail = λ x. number x.2.address ++ text c x.2.text;
  size = 2;
  split = λ x. refl;
  wide = λ x. refl;
  some_byte = omega arith;
}

-- what is in range of a slot is said by its cuts
pub slot_in : (o p : Operation) (a b x y : ℕ) → op_code o ≡ op_code p → a ≡ b → x ≡ y → InSlot p ((b ≢ 0) × InAddress y) → InSlot o ((a ≢ 0) × InAddress x)
slot_in o p a b x y e d f i =
    subst (λ (q : Operation). InSlot q ((a ≢ 0) × InAddress x)) (sym (one_op o p e))
    (subst (λ (z : ℕ). InSlot p ((z ≢ 0) × InAddress x)) (sym d) (subst (λ (z : ℕ). InSlot p ((b ≢ 0) × InAddress z)) (sym f) i))

-- what follows of an add's range follows of a slot's
pub slot_turn : (o : Operation) {P Q : Type 0} → (P → Q) → InSlot o P → InSlot o Q
slot_turn Add f i = f i
slot_turn Delete f i = tt
slot_turn Replace f i = i

-- an add is refused as its address is where its attribute is not 0
pub slot_add : (attribute a : ℕ) (r : Bool) → (attribute ≡ 0 → ⊥) → AddressRefused a r → SlotRefused Add attribute a r
slot_add attribute a true n h = λ i. h i.1
slot_add attribute a false n h = (n, h)

-- a slot's operation in range is add or delete
pub slot_op : (o : Operation) (In : Operation → Type 0) → (In Replace → ⊥) → In o → op_code o ≤ 2
slot_op Add In never i = omega arith
slot_op Delete In never i = omega arith
slot_op Replace In never i = absurd (never i)

-- and no other has a code up to 2
pub slot_kept : (o : Operation) → op_code o ≤ 2 → NotReplace o
slot_kept Add l = tt
slot_kept Delete l = tt
slot_kept Replace l = omega arith
