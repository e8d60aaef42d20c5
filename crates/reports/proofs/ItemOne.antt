-- No two parameters share bytes: what is written says where it ends, and what it says. Assumes nothing.
use Prim.Native.Nat.{ℕ, zero, suc}
use mathlib.Core.Path.{◌≡◌, refl, sym, ap, ap₂, ◌∙◌, subst, subst⁻¹}
use mathlib.Core.List.{List, [], ◌∷◌, ◌++◌, append_assoc, append-nil, nil≢cons}
use mathlib.Core.Bool.{Bool, true, false, true≢false, false≢true}
use mathlib.Core.Option.{Option, none, some}
use native.Mathlib.Omega.{arith}
use lib.ListN.{length, length-append}
use Rattle.lists.specs.Every.{All}
use Rattle.lists.proofs.Seqs.{cut}
use Rattle.plan.specs.declared.numbers.GroupAddress.{GroupAddress}
use Rattle.plan.specs.declared.numbers.IndividualAddress.{IndividualAddress}
use Rattle.writing.specs.declared.KeyTarget.{KeyTarget}
use Rattle.writing.specs.declared.KeyTarget.TheVariants.{Current, ToGroup, ToIndividual}
use Rattle.writing.specs.Fields.{bits, bits_of, Field, val, Shows}
use Rattle.writing.specs.Ranges.{HashSize}
use Rattle.writing.specs.Settings.{Hash, unicode16}
use Rattle.writing.specs.Writing.{bit, flag, text, number, current, to_group}
use Rattle.writing.proofs.Bits.{bits_val, bits_of_append, length_bits_of}
use Rattle.writing.proofs.Ends.{Agree, val_ends, res_ends, same_ends, vals_end, all_read, regroup}
use Rattle.writing.proofs.Unique.{text_ends, number_ends}
use Rattle.read_fields.proofs.HashLaws.{one_size}
use Rattle.tables.specs.Layout.{key_address}
use Rattle.reports.specs.declared.Asked.{Asked}
use Rattle.reports.specs.declared.Asked.TheVariants.{Groups, Individuals, Lines, Key as AKey, QuickTexts, Home, Channels, System, StatusTexts, Hash as AHash}
use Rattle.reports.specs.Items.{Item, unknown, good, failed, kept, item_body, item_fields, ItemWritten, ItemsWritten, InHash, InItem}
use Rattle.reports.specs.Contents.{Contents, make}
use Rattle.reports.proofs.ByType.{View, known, other, view, byte_make, one_type}

-- ---- small values

bit_at : ℕ → Bool
bit_at zero = false
bit_at (suc n) = true

bit_at_bit : (b : Bool) → bit_at (bit b) ≡ b
unfolding bit_at
bit_at_bit false = refl
bit_at_bit true = refl

module _ {fs gs : List Field} {r q : List ℕ} where
  flag_ends : (b c : Bool) → Agree (flag b ∷ fs) (flag c ∷ gs) r q → (b ≡ c) × Agree fs gs r q
  flag_ends b c a = let (e, z) = val_ends a in (cc (bit_at_bit b, bit_at_bit c, ap bit_at e), z)

module _ {fs gs : List Field} {r q : List ℕ} where
  good_ends : Agree (good fs) (good gs) r q → Agree fs gs r q
  good_ends a = (val_ends (flag_ends false false a).1).1

  -- the other way round
  turned : Agree fs gs r q → Agree gs fs q r
  turned a = record { one = a.two; two = a.one; left = a.right; right = a.left; same = sym a.same }

  -- eight bits beside a failure are 83
  failure_is : (n : ℕ) → Agree (val 8 n ∷ fs) (failed ++ gs) r q → n ≡ 0x83
  failure_is n a =
      let (x, t, hx, bx, ex, sx) = a.left in
      let (y, u, hy, by, ey, sy) = a.right in
      let (z, v, hz, bz, ez, sz) = sy in
      let e : bits 8 x ++ (t ++ r) ≡ bits 8 0x83 ++ (v ++ q)
      = sym (append_assoc (bits 8 x) t r) ∙ ap (λ l. l ++ r) (sym ex) ∙ a.same
      ∙ ap (λ l. l ++ q) (ey ∙ ap₂ (λ i l. bits 1 i ++ l) hy (ez ∙ ap (λ i. bits 7 i ++ v) hz)) in
      sym hx ∙ bits_val 8 x 0x83 bx (omega arith) (cut (bits 8 x) (bits 8 0x83) refl e).0

group_address : (a b : GroupAddress) → a.0 ≡ b.0 → a ≡ b
group_address a b e = λ i. record { 0 = e i }

individual_address : (a b : IndividualAddress) → a.0 ≡ b.0 → a ≡ b
individual_address a b e = λ i. record { 0 = e i }

-- where the key calls is said by current, group and the address
target_one : (t u : KeyTarget) → current t ≡ current u → to_group t ≡ to_group u → key_address t ≡ key_address u → t ≡ u
target_one (Current g) (Current h) e d a = ap Current d
target_one (Current g) (ToGroup y) e d a = absurd (true≢false e)
target_one (Current g) (ToIndividual y) e d a = absurd (true≢false e)
target_one (ToGroup x) (Current h) e d a = absurd (true≢false (sym e))
target_one (ToGroup x) (ToGroup y) e d a = ap ToGroup (group_address x y a)
target_one (ToGroup x) (ToIndividual y) e d a = absurd (true≢false d)
target_one (ToIndividual x) (Current h) e d a = absurd (true≢false (sym e))
target_one (ToIndividual x) (ToGroup y) e d a = absurd (true≢false (sym d))
target_one (ToIndividual x) (ToIndividual y) e d a = ap ToIndividual (individual_address x y a)

-- a kept hash says its length by its code
kept_ends : (x y : Option Hash) {fs gs : List Field} {r q : List ℕ} → InHash x → InHash y → Agree (kept x ++ fs) (kept y ++ gs) r q → (x ≡ y) × Agree fs gs r q
kept_ends none none p q a = (refl, (val_ends a).1)
kept_ends none (some y) p q a = let (e, a) = val_ends a in absurd (omega (arith, e))
kept_ends (some x) none p q a = let (e, a) = val_ends a in absurd (omega (arith, e))
kept_ends (some x) (some y) p q a =
    let (e, a) = val_ends a in
    let (c, a) = val_ends a in
    let n : length x.value ≡ length y.value = one_size (subst (λ (k : ℕ). HashSize k (length x.value)) c p.0.size) q.0.size in
    let (v, a) = vals_end 8 x.value y.value n a in
    (λ i. some (record { code = c i; value = v i }), a)

-- ---- by type and contents

-- the fields after the type byte say where they end
pub body_ends : (k : Asked) (x y : Contents k) {fs gs : List Field} {r q : List ℕ} → InItem (make k x) → InItem (make k y)
    → Agree (item_body (make k x) ++ fs) (item_body (make k y) ++ gs) r q → (x ≡ y) × Agree fs gs r q
body_ends Groups x y m n a =
    let (d, a) = val_ends (good_ends a) in
    let (p, a) = val_ends a in
    let (p1, a) = val_ends a in
    let (p2, a) = flag_ends x.1.flags.broadcast y.1.flags.broadcast a in
    let (p3, a) = flag_ends x.1.flags.encryption y.1.flags.encryption a in
    let (p4, a) = flag_ends x.1.flags.ovcm y.1.flags.ovcm a in
    let (p5, a) = flag_ends x.1.flags.emergency y.1.flags.emergency a in
    let (p6, a) = val_ends a in
    let (t, a) = (text_ends unicode16).ends x.1.text y.1.text (res_ends a) in
    let z : x.1.address ≡ y.1.address = group_address x.1.address y.1.address d in
    (λ i. (p i, record { flags = record { attribute = p1 i; broadcast = p2 i; encryption = p3 i; ovcm = p4 i; emergency = p5 i; priority = p6 i }; address = z i; text = t i }), a)
body_ends Individuals x y m n a =
    let (d, a) = val_ends (good_ends a) in
    let (p, a) = val_ends a in
    let (p1, a) = flag_ends x.1.flags.encryption y.1.flags.encryption a in
    let (p2, a) = flag_ends x.1.flags.emergency y.1.flags.emergency a in
    let (p3, a) = val_ends a in
    let (t, a) = (text_ends unicode16).ends x.1.text y.1.text a in
    let z : x.1.address ≡ y.1.address = individual_address x.1.address y.1.address d in
    (λ i. (p i, record { flags = record { encryption = p1 i; emergency = p2 i; priority = p3 i }; address = z i; text = t i }), a)
body_ends Lines x y m n a =
    let (p1, a) = flag_ends x.1.flags.pabx y.1.flags.pabx (good_ends a) in
    let (p2, a) = flag_ends x.1.flags.encryption y.1.flags.encryption a in
    let (p3, a) = flag_ends x.1.flags.emergency y.1.flags.emergency a in
    let (p4, a) = val_ends a in
    let (p, a) = val_ends (res_ends a) in
    let (d, a) = number_ends.ends x.1.number y.1.number
    (regroup (number x.1.number) (text unicode16 x.1.text) (number y.1.number) (text unicode16 y.1.text) _ _ a) in
    let (t, a) = (text_ends unicode16).ends x.1.text y.1.text a in
    (λ i. (p i, record { flags = record { encryption = p2 i; emergency = p3 i; priority = p4 i; pabx = p1 i }; number = d i; text = t i }), a)
body_ends AKey x y m n a =
    let (g, a) = flag_ends (to_group x.target) (to_group y.target) (good_ends a) in
    let (c, a) = flag_ends (current x.target) (current y.target) a in
    let (p1, a) = flag_ends x.flags.voice y.flags.voice a in
    let (p2, a) = flag_ends x.flags.status y.flags.status a in
    let (p3, a) = flag_ends x.flags.siren y.flags.siren a in
    let (d, a) = val_ends (res_ends a) in
    let t : x.target ≡ y.target = target_one x.target y.target c g d in
    (λ i. record { target = t i; flags = record { voice = p1 i; status = p2 i; siren = p3 i } }, a)
body_ends QuickTexts x y m n a =
    let (p, a) = val_ends (good_ends a) in
    let (t, a) = (text_ends unicode16).ends x.1 y.1 (res_ends a) in
    (λ i. (p i, t i), a)
body_ends Home x y m n a =
    let (z, a) = val_ends (good_ends a) in
    let (p, a) = val_ends a in
    (λ i. record { nzi = z i; np = p i }, res_ends a)
body_ends Channels x y m n a =
    let (c, a) = val_ends (good_ends a) in
    let (p, a) = val_ends a in
    (λ i. (c i, p i), a)
body_ends System x y m n a =
    let (p1, a) = val_ends (good_ends a) in
    let (p2, a) = val_ends a in
    let (p3, a) = val_ends a in
    let (p4, a) = flag_ends x.par y.par a in
    (λ i. record { lai = p1 i; la = p2 i; roaming = p3 i; par = p4 i }, res_ends a)
body_ends StatusTexts x y m n a =
    let (c, a) = val_ends (good_ends a) in
    let (p, a) = val_ends a in
    let (t, a) = (text_ends unicode16).ends x.2 y.2 a in
    (λ i. (c i, p i, t i), a)
body_ends AHash x y m n a = kept_ends x y m n a

-- no entry looks like an error
kept_good : (x : Option Hash) (fs : List Field) {gs : List Field} {r q : List ℕ} → Agree (kept x ++ fs) (failed ++ gs) r q → ⊥
kept_good none fs a = omega (arith, failure_is 0 a)
kept_good (some h) fs a = omega (arith, failure_is 1 a)

good_fails : {fs gs : List Field} {r q : List ℕ} → Agree (good fs) (failed ++ gs) r q → ⊥
good_fails a = false≢true (flag_ends false true a).0

pub no_error : (k : Asked) (x : Contents k) (fs : List Field) {gs : List Field} {r q : List ℕ} → Agree (item_body (make k x) ++ fs) (failed ++ gs) r q → ⊥
no_error Groups x fs a = good_fails a
no_error Individuals x fs a = good_fails a
no_error Lines x fs a = good_fails a
no_error AKey x fs a = good_fails a
no_error QuickTexts x fs a = good_fails a
no_error Home x fs a = good_fails a
no_error Channels x fs a = good_fails a
no_error System x fs a = good_fails a
no_error StatusTexts x fs a = good_fails a
no_error AHash x fs a = kept_good x fs a

-- a parameter says where it ends
ends_by : {i j : Item} → View i → View j → {fs gs : List Field} {r q : List ℕ} → InItem i → InItem j
    → Agree (item_fields i ++ fs) (item_fields j ++ gs) r q → (i ≡ j) × Agree fs gs r q
ends_by (known k x) (known l y) {fs} {gs} {r} {q} m n a =
    let (e, a) = val_ends a in
    let d : k ≡ l = one_type k l (sym (byte_make k x) ∙ e ∙ byte_make l y) in
    subst (λ (o : Asked). (z : Contents o) → InItem (make o z) → Agree (item_body (make k x) ++ fs) (item_body (make o z) ++ gs) r q → (make k x ≡ make o z) × Agree fs gs r q) d
    (λ z o b. let (p, b) = body_ends k x z m o b in (ap (make k) p, b)) y n a
ends_by (known k x) (other c) m n a = let (e, a) = val_ends a in absurd (no_error k x _ a)
ends_by (other b) (known l y) m n a = let (e, a) = val_ends a in absurd (no_error l y _ (turned a))
ends_by (other b) (other c) m n a = let (e, a) = val_ends a in (ap unknown e, same_ends failed a)

pub item_ends : (i j : Item) {fs gs : List Field} {r q : List ℕ} → InItem i → InItem j
    → Agree (item_fields i ++ fs) (item_fields j ++ gs) r q → (i ≡ j) × Agree fs gs r q
item_ends i j = ends_by (view i) (view j)

-- ---- the theorems

-- ITEM ONE: parameters in range that are written at the start of the same bytes are the same, and the same bytes
pub item_one : (i j : Item) (bs cs r q : List ℕ) → InItem i → InItem j → ItemWritten i bs → ItemWritten j cs → bs ++ r ≡ cs ++ q → (i ≡ j) × (bs ≡ cs)
item_one i j bs cs r q m n w v e =
    let a : Agree (item_fields i ++ []) (item_fields j ++ []) (bits_of r) (bits_of q) = record {
      one = bits_of bs;
      two = bits_of cs;
      left = subst⁻¹ (λ (l : List Field). Shows l (bits_of bs)) (append-nil (item_fields i)) w;
      right = subst⁻¹ (λ (l : List Field). Shows l (bits_of cs)) (append-nil (item_fields j)) v;
      same = sym (bits_of_append bs r) ∙ ap bits_of e ∙ bits_of_append cs q;
    } in
    let (p, a) = item_ends i j m n a in
    let k : length (bits_of r) ≡ length (bits_of q) = ap length (all_read a) in
    (p, (cut bs cs (omega (arith, length_bits_of r, length_bits_of q, simp length-append at (ap length e))) e).0)

-- a writing is not empty
not_empty : (i : Item) (a z : List ℕ) → ItemWritten i a → [] ≡ a ++ z → ⊥
not_empty i [] z w e = nil≢cons w.4
not_empty i (b ∷ a) z w e = nil≢cons e

-- ITEMS ONE: lists of parameters in range that are written as the same bytes are equal
pub items_one : (l m : List Item) (bs : List ℕ) → All InItem l → All InItem m → ItemsWritten l bs → ItemsWritten m bs → l ≡ m
items_one [] [] bs p q w v = refl
items_one [] (j ∷ m) bs p q w v = absurd (not_empty j v.0 v.1 v.3 (sym w ∙ v.2))
items_one (i ∷ l) [] bs p q w v = absurd (not_empty i w.0 w.1 w.3 (sym v ∙ w.2))
items_one (i ∷ l) (j ∷ m) bs p q w v =
    let e : w.0 ++ w.1 ≡ v.0 ++ v.1 = sym w.2 ∙ v.2 in
    let (d, k) = item_one i j w.0 v.0 w.1 v.1 p.0 q.0 w.3 v.3 e in
    let z : w.1 ≡ v.1 = (cut w.0 v.0 (ap length k) e).1 in
    ap₂ (λ x y. x ∷ y) d (items_one l m v.1 p.1 q.1 (subst (λ (s : List ℕ). ItemsWritten l s) z w.4) v.4)
