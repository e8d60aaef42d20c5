-- The heads of settings that hold a list, and the range of quick texts. Assumes nothing.
use Rattle.lists.proofs.Kit.{ℕ, ◌+◌, ◌/◌, ◌%◌, ◌≤◌, ◌≡◌, refl, sym, subst, List, [], ◌∷◌, arith, length, drop, take}
use Rattle.lists.specs.Bytes.{Bytes}
use Rattle.lists.specs.Every.{All}
use Rattle.lists.proofs.Every.{all_turn}
use Rattle.writing.specs.declared.Coding.{Coding}
use Rattle.writing.specs.declared.Kind.TheVariants.{GroupContacts, IndividualContacts, Lines, QuickTexts, Channels, StatusTexts}
use Rattle.writing.specs.declared.Operation.{Operation}
use Rattle.writing.specs.declared.Operation.TheVariants.{Add, Delete, Replace}
use Rattle.writing.specs.Fields.{val, res, each}
use Rattle.writing.specs.Ranges.{text_limits, InQuick}
use Rattle.writing.specs.Settings.{Entry}
use Rattle.writing.specs.Writing.{flag, op, op_code, addressed, contact, quick_text, status_text}
use Rattle.read_fields.specs.Places.{be}
use Rattle.read_fields.proofs.Heads.{be_turn}
use Rattle.read_fields.specs.Entries.{channel_list, QuickFrom}
use Rattle.writing.proofs.Unique.{one_op}
use Rattle.settings.proofs.BodyLaws.{Headed}
use Rattle.read_bodies.specs.Units.{LeastIs}

abbrev pub group_contacts_head : (c : Coding) → Headed c GroupContacts
group_contacts_head c = record {
  head = λ x. op x.0 ∷ val 2 x.1.attribute ∷ flag x.1.broadcast ∷ flag x.1.encryption ∷ flag x.1.ovcm ∷ flag x.1.emergency
      ∷ val 2 x.1.priority ∷ res 6 ∷ val 8 (length x.2) ∷ [];
  tail = λ x. each (addressed (λ a. a.0) c) x.2;
  size = 3;
  split = λ x. refl;
  wide = λ x. refl;
  some_byte = omega arith;
}

abbrev pub individual_contacts_head : (c : Coding) → Headed c IndividualContacts
individual_contacts_head c = record {
  head = λ x. op x.0 ∷ flag x.1.encryption ∷ flag x.1.emergency ∷ val 2 x.1.priority ∷ res 2 ∷ val 8 (length x.2) ∷ [];
  tail = λ x. each (addressed (λ a. a.0) c) x.2;
  size = 2;
  split = λ x. refl;
  wide = λ x. refl;
  some_byte = omega arith;
}

abbrev pub lines_head : (c : Coding) → Headed c Lines
lines_head c = record {
  head = λ x. op x.0 ∷ flag x.1.encryption ∷ flag x.1.emergency ∷ val 2 x.1.priority ∷ flag x.1.pabx ∷ res 1 ∷ val 8 (length x.2) ∷ [];
  tail = λ x. each (contact c) x.2;
  size = 2;
  split = λ x. refl;
  wide = λ x. refl;
  some_byte = omega arith;
}

abbrev pub quick_head : (c : Coding) → Headed c QuickTexts
quick_head c = record {
  head = λ x. op x.0 ∷ val 6 (length x.1) ∷ [];
  tail = λ x. each (quick_text c) x.1;
  size = 1;
  split = λ x. refl;
  wide = λ x. refl;
  some_byte = omega arith;
}

abbrev pub channels_head : (c : Coding) → Headed c Channels
channels_head c = record {
  head = λ x. op x.0 ∷ res 4 ∷ val 10 (length x.1) ∷ [];
  tail = λ x. channel_list x.1;
  size = 2;
  split = λ x. refl;
  wide = λ x. refl;
  some_byte = omega arith;
}

abbrev pub status_head : (c : Coding) → Headed c StatusTexts
status_head c = record {
  head = λ x. op x.0 ∷ res 6 ∷ val 8 (length x.1) ∷ [];
  tail = λ x. each (status_text c) x.1;
  size = 2;
  split = λ x. refl;
  wide = λ x. refl;
  some_byte = omega arith;
}

-- the operation of a head of two bytes is in the first
pub top_bits : (m : List ℕ) (p : ℕ) → Bytes m → p + 2 ≤ length m → be 0 (take 2 (drop p m)) / 16384 % 4 ≡ be 0 (take 1 (drop p m)) / 64 % 4
top_bits m p h r = omega (arith, be_turn m p 1 (omega arith), h (p + 1))

-- the range of quick texts in an operation is that from its least number of units
quick_one : (o : Operation) (n : ℕ) (e : Entry) → LeastIs o n → InQuick text_limits o e → QuickFrom text_limits n e
quick_one Add n e l i = (omega (arith, i.0), i.1)
quick_one Delete n e l i = (omega arith, i)
quick_one Replace n e l i = (omega (arith, i.0), i.1)

one_quick : (o : Operation) (n : ℕ) (e : Entry) → LeastIs o n → QuickFrom text_limits n e → InQuick text_limits o e
one_quick Add n e l i = (omega (arith, i.0), i.1)
one_quick Delete n e l i = i.1
one_quick Replace n e l i = (omega (arith, i.0), i.1)

pub quick_in : (o : Operation) (n : ℕ) (es : List Entry) → LeastIs o n → All (QuickFrom text_limits n) es → All (InQuick text_limits o) es
quick_in o n es l i = all_turn (QuickFrom text_limits n) (InQuick text_limits o) (λ e. one_quick o n e l) es i

pub quick_from : (o p : Operation) (n : ℕ) (es : List Entry) → op_code o ≡ op_code p → LeastIs o n → All (InQuick text_limits p) es → All (QuickFrom text_limits n) es
quick_from o p n es e l i =
    all_turn (InQuick text_limits o) (QuickFrom text_limits n) (λ x. quick_one o n x l) es
    (subst (λ (q : Operation). All (InQuick text_limits q) es) (sym (one_op o p e)) i)
