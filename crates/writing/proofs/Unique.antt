-- No two settings share bytes: what is written says where it ends, and what it says. Assumes nothing.
use Rattle.lists.proofs.Kit.{ℕ, zero, suc, ◌/◌, ◌≡◌, refl, sym, ap, ap₂, ◌∙◌, subst, subst₂, subst⁻¹, List, [], ◌∷◌, ◌++◌, map, append_assoc, append-nil, nil≢cons, Bool, true, false, cond, true≢false, arith, length, length-append, eqb}
use Rattle.lists.proofs.Seqs.{cut}
use Rattle.plan.specs.declared.numbers.GroupAddress.{GroupAddress}
use Rattle.plan.specs.declared.numbers.IndividualAddress.{IndividualAddress}
use Rattle.writing.specs.declared.Kind.{Kind}
use Rattle.writing.specs.declared.Kind.TheVariants.{GroupContacts, IndividualContacts, Lines, Key, QuickTexts, Home, Channels, System, StatusTexts, Group, Individual, LineSlot, Last}
use Rattle.writing.specs.declared.Operation.{Operation}
use Rattle.writing.specs.declared.Operation.TheVariants.{Add, Delete, Replace}
use Rattle.writing.specs.declared.KeyTarget.{KeyTarget}
use Rattle.writing.specs.declared.KeyTarget.TheVariants.{Current, ToGroup, ToIndividual}
use Rattle.writing.specs.declared.LineFlags.{LineFlags}
use Rattle.writing.specs.declared.KeyFlags.{KeyFlags}
use Rattle.writing.specs.declared.HomeNumbers.{HomeNumbers}
use Rattle.writing.specs.declared.SystemCode.{SystemCode}
use Rattle.writing.specs.declared.GroupFlags.{GroupFlags}
use Rattle.writing.specs.declared.IndividualFlags.{IndividualFlags}
use Rattle.writing.specs.declared.LastFlags.{LastFlags}
use Rattle.writing.specs.Fields.{bits_of, Field, val, Shows, widths}
use Rattle.writing.specs.declared.Coding.{Coding}
use Rattle.writing.specs.Settings.{Text, Contact, Addressed, Entry, Slot, Hash, Setting, kind}
use Rattle.writing.specs.Writing.{bit, flag, op_code, op, unit_width, text, fill, number, addressed, contact, quick_text, status_text, slot, current, to_group, address, key_address, type_byte, body, data_length, fields, Written, WrittenAll, WrittenAs, request_head}
use Rattle.writing.proofs.ByKind.{Contents, make, of, kind_make}
use Rattle.writing.proofs.Bits.{bits_of_append, length_bits_of, shows_length, widths_map}
use Rattle.writing.proofs.Ends.{Agree, Ends, val_ends, res_ends, items_end, same_ends, vals_end, each_ends, all_read, regroup}
use Rattle.writing.proofs.Whole.{never_empty}

-- ---- small values: each says which it is

op_at : ℕ → Operation
op_at zero = Add
op_at (suc zero) = Add
op_at (suc (suc zero)) = Delete
op_at (suc (suc (suc n))) = Replace

op_at_code : (o : Operation) → op_at (op_code o) ≡ o
unfolding op_at
op_at_code Add = refl
op_at_code Delete = refl
op_at_code Replace = refl

-- an operation is said by its code
pub one_op : (o p : Operation) → op_code o ≡ op_code p → o ≡ p
one_op o p e = cc (op_at_code o, op_at_code p, ap op_at e)

bit_at : ℕ → Bool
bit_at zero = false
bit_at (suc n) = true

bit_at_bit : (b : Bool) → bit_at (bit b) ≡ b
unfolding bit_at
bit_at_bit false = refl
bit_at_bit true = refl

module _ {fs gs : List Field} {r q : List ℕ} where
  op_ends : (o p : Operation) → Agree (op o ∷ fs) (op p ∷ gs) r q → (o ≡ p) × Agree fs gs r q
  op_ends o p a = let (e, z) = val_ends a in (one_op o p e, z)

  flag_ends : (b c : Bool) → Agree (flag b ∷ fs) (flag c ∷ gs) r q → (b ≡ c) × Agree fs gs r q
  flag_ends b c a = let (e, z) = val_ends a in (cc (bit_at_bit b, bit_at_bit c, ap bit_at e), z)

-- ---- texts, numbers and entries say where they end

pub text_ends : (c : Coding) → Ends (text c)
text_ends c = record { ends = λ t u a. items_end (unit_width c) 0 t u (simp append_assoc at a) }

pub number_ends : Ends number
number_ends = record {
  ends = λ n m a.
      let (e, z) = items_end 4 15 n m (simp append_assoc at a) in
      (e, same_ends (fill (suc (length m))) (rw e at z));
}

-- fields that say where they end, then a text
module _ {A : Type 0} (f : A → List Field) (k : Ends f) (c : Coding) where
  then_text : (a b : A) (t u : Text) {fs gs : List Field} {r q : List ℕ} → Agree ((f a ++ text c t) ++ fs) ((f b ++ text c u) ++ gs) r q
      → (a ≡ b) × (t ≡ u) × Agree fs gs r q
  then_text a b t u z =
      let (p, z) = k.ends a b (regroup (f a) (text c t) (f b) (text c u) _ _ z) in
      let (e, z) = (text_ends c).ends t u z in
      (p, e, z)

pub contact_ends : (c : Coding) → Ends (contact c)
contact_ends c = record {
  ends = λ x y a.
      let (p, e, a) = then_text number number_ends c x.number y.number x.text y.text a in
      (λ i. record { number = p i; text = e i }, a);
}

pub quick_ends : (c : Coding) → Ends (quick_text c)
quick_ends c = record {
  ends = λ x y a.
      let (p, a) = val_ends (res_ends a) in
      let (e, a) = (text_ends c).ends x.text y.text a in
      (λ i. record { index = p i; text = e i }, a);
}

pub status_ends : (c : Coding) → Ends (status_text c)
status_ends c = record {
  ends = λ x y a.
      let (p, a) = val_ends a in
      let (e, a) = (text_ends c).ends x.text y.text a in
      (λ i. record { index = p i; text = e i }, a);
}

-- an address is said by its number, where no two addresses of its kind share one
pub address_ends : {A : Type 0} (number_of_lem : A → ℕ) → ((a b : A) → number_of_lem a ≡ number_of_lem b → a ≡ b) → Ends (λ (a : A). address (number_of_lem a))
address_ends number_of_lem one = record { ends = λ x y a. let (p, a) = val_ends a in (one x y p, a) }

group_ends : Ends (λ (a : GroupAddress). address a.0)
group_ends = address_ends (λ a. a.0) (λ x y p. λ i. record { 0 = p i })

individual_ends : Ends (λ (a : IndividualAddress). address a.0)
individual_ends = address_ends (λ a. a.0) (λ x y p. λ i. record { 0 = p i })

-- a contact and a slot, whatever the kind of their address
pub addressed_ends : {A : Type 0} (number_of_lem : A → ℕ) → Ends (λ (a : A). address (number_of_lem a)) → (c : Coding) → Ends (addressed number_of_lem c)
addressed_ends number_of_lem k c = record {
  ends = λ x y a.
      let (p, e, a) = then_text (λ b. address (number_of_lem b)) k c x.address y.address x.text y.text a in
      (λ i. record { address = p i; text = e i }, a);
}

slot_ends : {A : Type 0} (address_of : A → List Field) → Ends address_of → (c : Coding) → Ends (slot address_of c)
slot_ends address_of k c = record {
  ends = λ x y a.
      let (p, a) = val_ends a in
      let (s, e, a) = then_text address_of k c x.address y.address x.text y.text a in
      (λ i. record { index = p i; address = s i; text = e i }, a);
}

-- where the key calls is said by current, group and the address
target_ends : (t u : KeyTarget) {fs gs : List Field} {r q : List ℕ} → current t ≡ current u → to_group t ≡ to_group u
    → Agree (key_address t ++ fs) (key_address u ++ gs) r q → (t ≡ u) × Agree fs gs r q
target_ends (Current g) (Current h) e d a = (ap Current d, a)
target_ends (Current g) (ToGroup y) e d a = absurd (true≢false e)
target_ends (Current g) (ToIndividual y) e d a = absurd (true≢false e)
target_ends (ToGroup x) (Current h) e d a = absurd (true≢false (sym e))
target_ends (ToGroup x) (ToGroup y) e d a = let (p, a) = group_ends.ends x y a in (ap ToGroup p, a)
target_ends (ToGroup x) (ToIndividual y) e d a = absurd (true≢false d)
target_ends (ToIndividual x) (Current h) e d a = absurd (true≢false (sym e))
target_ends (ToIndividual x) (ToGroup y) e d a = absurd (true≢false (sym d))
target_ends (ToIndividual x) (ToIndividual y) e d a = let (p, a) = individual_ends.ends x y a in (ap ToIndividual p, a)

-- ---- operations with the flags of lines, groups and individuals, which start both a list's fields and a slot's

abbrev line_head : Operation → LineFlags → List Field
line_head o f = op o ∷ flag f.encryption ∷ flag f.emergency ∷ val 2 f.priority ∷ flag f.pabx ∷ []

abbrev group_head : Operation → GroupFlags → List Field
group_head o f =
    op o ∷ val 2 f.attribute ∷ flag f.broadcast ∷ flag f.encryption ∷ flag f.ovcm ∷ flag f.emergency ∷ val 2 f.priority ∷ []

abbrev individual_head : Operation → IndividualFlags → List Field
individual_head o f = op o ∷ flag f.encryption ∷ flag f.emergency ∷ val 2 f.priority ∷ []

module _ (o p : Operation) {fs gs : List Field} {r q : List ℕ} where
  line_head_ends : (f g : LineFlags) → Agree (line_head o f ++ fs) (line_head p g ++ gs) r q → (o ≡ p) × (f ≡ g) × Agree fs gs r q
  line_head_ends f g a =
      let (e, a) = op_ends o p a in
      let (p1, a) = flag_ends f.encryption g.encryption a in
      let (p2, a) = flag_ends f.emergency g.emergency a in
      let (p3, a) = val_ends a in
      let (p4, a) = flag_ends f.pabx g.pabx a in
      (e, λ i. record { encryption = p1 i; emergency = p2 i; priority = p3 i; pabx = p4 i }, a)

  group_head_ends : (f g : GroupFlags) → Agree (group_head o f ++ fs) (group_head p g ++ gs) r q → (o ≡ p) × (f ≡ g) × Agree fs gs r q
  group_head_ends f g a =
      let (e, a) = op_ends o p a in
      let (p1, a) = val_ends a in
      let (p2, a) = flag_ends f.broadcast g.broadcast a in
      let (p3, a) = flag_ends f.encryption g.encryption a in
      let (p4, a) = flag_ends f.ovcm g.ovcm a in
      let (p5, a) = flag_ends f.emergency g.emergency a in
      let (p6, a) = val_ends a in
      (e, λ i. record { attribute = p1 i; broadcast = p2 i; encryption = p3 i; ovcm = p4 i; emergency = p5 i; priority = p6 i }, a)

  individual_head_ends : (f g : IndividualFlags) → Agree (individual_head o f ++ fs) (individual_head p g ++ gs) r q
      → (o ≡ p) × (f ≡ g) × Agree fs gs r q
  individual_head_ends f g a =
      let (e, a) = op_ends o p a in
      let (p1, a) = flag_ends f.encryption g.encryption a in
      let (p2, a) = flag_ends f.emergency g.emergency a in
      let (p3, a) = val_ends a in
      (e, λ i. record { encryption = p1 i; emergency = p2 i; priority = p3 i }, a)

-- ---- the thirteen, by kind and contents

-- a type byte says its kind
kind_at : ℕ → Kind
kind_at n =
    cond (eqb n 0xC8) GroupContacts (cond (eqb n 0xC9) IndividualContacts (cond (eqb n 0xCA) Lines (cond (eqb n 0xCB) Key (cond (eqb n 0xCC) QuickTexts
    (cond (eqb n 0xCD) Home (cond (eqb n 0xCE) Channels (cond (eqb n 0xCF) System (cond (eqb n 0xD0) StatusTexts (cond (eqb n 0xD1) Group
    (cond (eqb n 0xD2) Individual (cond (eqb n 0xD3) LineSlot Last)))))))))))

kind_at_byte : (k : Kind) → kind_at (type_byte k) ≡ k
unfolding kind_at
kind_at_byte GroupContacts = refl
kind_at_byte IndividualContacts = refl
kind_at_byte Lines = refl
kind_at_byte Key = refl
kind_at_byte QuickTexts = refl
kind_at_byte Home = refl
kind_at_byte Channels = refl
kind_at_byte System = refl
kind_at_byte StatusTexts = refl
kind_at_byte Group = refl
kind_at_byte Individual = refl
kind_at_byte LineSlot = refl
kind_at_byte Last = refl

-- no two kinds share a type byte
pub one_kind : (k l : Kind) → type_byte k ≡ type_byte l → k ≡ l
one_kind k l e = cc (kind_at_byte k, kind_at_byte l, ap kind_at e)

-- hash values of one length: the fields after DataLength do not say it
abbrev pub Sized : (k : Kind) → Contents k → Contents k → Type 0
Sized GroupContacts x y = Unit {0}
Sized IndividualContacts x y = Unit {0}
Sized Lines x y = Unit {0}
Sized Key x y = Unit {0}
Sized QuickTexts x y = Unit {0}
Sized Home x y = Unit {0}
Sized Channels x y = Unit {0}
Sized System x y = Unit {0}
Sized StatusTexts x y = Unit {0}
Sized Group x y = Unit {0}
Sized Individual x y = Unit {0}
Sized LineSlot x y = Unit {0}
Sized Last x y = length x.1.value ≡ length y.1.value

-- the fields after DataLength say where they end
pub body_ends : (c : Coding) (k : Kind) (x y : Contents k) {fs gs : List Field} {r q : List ℕ} → Sized k x y
    → Agree (body c (make k x) ++ fs) (body c (make k y) ++ gs) r q → (x ≡ y) × Agree fs gs r q
body_ends c GroupContacts x y n a =
    let (o, f, a) = group_head_ends x.0 y.0 x.1 y.1 a in
    let (l, a) = val_ends (res_ends a) in
    let (es, a) = each_ends (addressed (λ a. a.0) c) (addressed_ends (λ a. a.0) group_ends c) x.2 y.2 l a in
    (λ i. (o i, f i, es i), a)
body_ends c IndividualContacts x y n a =
    let (o, f, a) = individual_head_ends x.0 y.0 x.1 y.1 a in
    let (l, a) = val_ends (res_ends a) in
    let (es, a) = each_ends (addressed (λ a. a.0) c) (addressed_ends (λ a. a.0) individual_ends c) x.2 y.2 l a in
    (λ i. (o i, f i, es i), a)
body_ends c Lines x y n a =
    let (o, f, a) = line_head_ends x.0 y.0 x.1 y.1 a in
    let (l, a) = val_ends (res_ends a) in
    let (es, a) = each_ends (contact c) (contact_ends c) x.2 y.2 l a in
    (λ i. (o i, f i, es i), a)
body_ends c Key x y n a =
    let (t, a) = flag_ends (current x.0) (current y.0) a in
    let (g, a) = flag_ends (to_group x.0) (to_group y.0) a in
    let (p2, a) = flag_ends x.1.voice y.1.voice a in
    let (p3, a) = flag_ends x.1.status y.1.status a in
    let (p4, a) = flag_ends x.1.siren y.1.siren a in
    let (t, a) = target_ends x.0 y.0 t g (res_ends a) in
    (λ i. (t i, record { voice = p2 i; status = p3 i; siren = p4 i }), a)
body_ends c QuickTexts x y n a =
    let (o, a) = op_ends x.0 y.0 a in
    let (l, a) = val_ends a in
    let (es, a) = each_ends (quick_text c) (quick_ends c) x.1 y.1 l a in
    (λ i. (o i, es i), a)
body_ends c Home x y n a =
    let (z, a) = val_ends a in
    let (p, a) = val_ends a in
    (λ i. record { nzi = z i; np = p i }, res_ends a)
body_ends c Channels x y n a =
    let (o, a) = op_ends x.0 y.0 a in
    let (l, a) = val_ends (res_ends a) in
    let (es, a) = vals_end 12 x.1 y.1 l (regroup (map (val 12) x.1) (fill (length x.1)) (map (val 12) y.1) (fill (length y.1)) _ _ a) in
    (λ i. (o i, es i), same_ends (fill (length y.1)) (rw l at a))
body_ends c System x y n a =
    let (p1, a) = val_ends a in
    let (p2, a) = val_ends a in
    let (p3, a) = val_ends a in
    let (p4, a) = flag_ends x.par y.par a in
    (λ i. record { lai = p1 i; la = p2 i; roaming = p3 i; par = p4 i }, res_ends a)
body_ends c StatusTexts x y n a =
    let (o, a) = op_ends x.0 y.0 a in
    let (l, a) = val_ends (res_ends a) in
    let (es, a) = each_ends (status_text c) (status_ends c) x.1 y.1 l a in
    (λ i. (o i, es i), a)
body_ends c Group x y n a =
    let (o, f, a) = group_head_ends x.0 y.0 x.1 y.1 a in
    let (s, a) = (slot_ends (λ a. address a.0) group_ends c).ends x.2 y.2 (res_ends a) in
    (λ i. (o i, f i, s i), a)
body_ends c Individual x y n a =
    let (o, f, a) = individual_head_ends x.0 y.0 x.1 y.1 a in
    let (s, a) = (slot_ends (λ a. address a.0) individual_ends c).ends x.2 y.2 (res_ends a) in
    (λ i. (o i, f i, s i), a)
body_ends c LineSlot x y n a =
    let (o, f, a) = line_head_ends x.0 y.0 x.1 y.1 a in
    let (s, a) = (slot_ends number number_ends c).ends x.2 y.2 (res_ends a) in
    (λ i. (o i, f i, s i), a)
body_ends c Last x y n a =
    let (p1, a) = flag_ends x.0.reboot y.0.reboot a in
    let (p2, a) = flag_ends x.0.reply y.0.reply a in
    let (p3, a) = val_ends a in
    let (v, a) = vals_end 8 x.1.value y.1.value n a in
    (λ i. (record { reboot = p1 i; reply = p2 i }, record { code = p3 i; value = v i }), a)

-- equal DataLengths are equal hash values' lengths
sized : (c : Coding) (k : Kind) (x y : Contents k) → data_length c (make k x) ≡ data_length c (make k y) → Sized k x y
sized c GroupContacts x y e = tt
sized c IndividualContacts x y e = tt
sized c Lines x y e = tt
sized c Key x y e = tt
sized c QuickTexts x y e = tt
sized c Home x y e = tt
sized c Channels x y e = tt
sized c System x y e = tt
sized c StatusTexts x y e = tt
sized c Group x y e = tt
sized c Individual x y e = tt
sized c LineSlot x y e = tt
sized c Last x y e = omega (arith, widths_map (val 8) 8 (λ v. refl) x.1.value, widths_map (val 8) 8 (λ v. refl) y.1.value)

fields_end : (c : Coding) (k l : Kind) (x : Contents k) (y : Contents l) {fs gs : List Field} {r q : List ℕ}
    → Agree (fields c (make k x) ++ fs) (fields c (make l y) ++ gs) r q → (make k x ≡ make l y) × Agree fs gs r q
fields_end c k l x y {fs} {gs} {r} {q} a =
    let (p, a) = val_ends a in
    let e : k ≡ l = sym (kind_make k x) ∙ one_kind (kind (make k x)) (kind (make l y)) p ∙ kind_make l y in
    subst (λ (m : Kind). (z : Contents m) → Agree (val 16 (data_length c (make k x)) ∷ body c (make k x) ++ fs)
    (val 16 (data_length c (make m z)) ∷ body c (make m z) ++ gs) r q → (make k x ≡ make m z) × Agree fs gs r q) e
    (λ z b. let (n, b) = val_ends b in let (i, b) = body_ends c k x z (sized c k x z n) b in (ap (make k) i, b)) y a

setting_end : (c : Coding) (s t : Setting) {fs gs : List Field} {r q : List ℕ} → Agree (fields c s ++ fs) (fields c t ++ gs) r q → (s ≡ t) × Agree fs gs r q
setting_end c s t {fs} {gs} {r} {q} a =
    let (x, e) = of s in
    let (y, d) = of t in
    let (p, b) = fields_end c (kind s) (kind t) x y (subst₂ (λ (u v : Setting). Agree (fields c u ++ fs) (fields c v ++ gs) r q) e d a) in
    (e ∙ p ∙ sym d, b)

-- what a setting is written as says where it ends
pub setting_ends : (c : Coding) → Ends (fields c)
setting_ends c = record { ends = λ s t a. setting_end c s t a }

-- ---- the theorems

-- UNIQUE: settings written at the start of the same bytes are the same setting, and the same bytes
pub unique : (c : Coding) (s t : Setting) (bs cs r q : List ℕ) → Written c s bs → Written c t cs → bs ++ r ≡ cs ++ q → (s ≡ t) × (bs ≡ cs)
unique c s t bs cs r q w v e =
    let a : Agree (fields c s ++ []) (fields c t ++ []) (bits_of r) (bits_of q) = record {
      one = bits_of bs;
      two = bits_of cs;
      left = subst⁻¹ (λ (l : List Field). Shows l (bits_of bs)) (append-nil (fields c s)) w;
      right = subst⁻¹ (λ (l : List Field). Shows l (bits_of cs)) (append-nil (fields c t)) v;
      same = sym (bits_of_append bs r) ∙ ap bits_of e ∙ bits_of_append cs q;
    } in
    let (p, a) = (setting_ends c).ends s t a in
    let n : length (bits_of r) ≡ length (bits_of q) = ap length (all_read a) in
    (p, (cut bs cs (omega (arith, length_bits_of r, length_bits_of q, simp length-append at (ap length e))) e).0)

-- a writing is not empty
not_empty : (c : Coding) (s : Setting) (a z : List ℕ) → Written c s a → [] ≡ a ++ z → ⊥
not_empty c s [] z w e = never_empty c s w
not_empty c s (b ∷ a) z w e = nil≢cons e

-- lists of settings written as the same bytes are equal
pub one_list : (c : Coding) (ss ts : List Setting) (bs : List ℕ) → WrittenAll c ss bs → WrittenAll c ts bs → ss ≡ ts
one_list c [] [] bs w v = refl
one_list c [] (t ∷ ts) bs w v = absurd (not_empty c t v.0 v.1 v.3 (sym w ∙ v.2))
one_list c (s ∷ ss) [] bs w v = absurd (not_empty c s w.0 w.1 w.3 (sym v ∙ w.2))
one_list c (s ∷ ss) (t ∷ ts) bs w v =
    let e : w.0 ++ w.1 ≡ v.0 ++ v.1 = sym w.2 ∙ v.2 in
    let (p, k) = unique c s t w.0 v.0 w.1 v.1 w.3 v.3 e in
    let z : w.1 ≡ v.1 = (cut w.0 v.0 (ap length k) e).1 in
    ap₂ (λ x y. x ∷ y) p (one_list c ss ts v.1 (subst (λ (l : List ℕ). WrittenAll c ss l) z w.4) v.4)

-- a request's head has two bytes
two_bytes : (n : ℕ) (head : List ℕ) → Shows (request_head n) (bits_of head) → length head ≡ 2
two_bytes n head s = omega (arith, length_bits_of head, shows_length (request_head n) (bits_of head) s)

-- NO TWO LISTS: lists of settings written as the same data bytes are equal
pub no_two_lists : (c : Coding) (ss ts : List Setting) (data_bytes : List ℕ) → WrittenAs c ss data_bytes → WrittenAs c ts data_bytes → ss ≡ ts
no_two_lists c ss ts data_bytes w v =
    let e : w.head ++ w.settings ≡ v.head ++ v.settings = sym w.parts ∙ v.parts in
    let z : w.settings ≡ v.settings = (cut w.head v.head (omega (arith, two_bytes (length ss) w.head w.counted, two_bytes (length ts) v.head v.counted)) e).1 in
    one_list c ss ts v.settings (subst (λ (l : List ℕ). WrittenAll c ss l) z w.written) v.written
