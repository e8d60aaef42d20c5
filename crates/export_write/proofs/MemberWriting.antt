-- Group and individual slots are written as adds and deletes. Assumes nothing.
use Rattle.lists.proofs.Kit.{ℕ, ◌+◌, ◌*◌, ◌/◌, ◌%◌, ◌<◌, ◌≡◌, refl, ap, subst⁻¹, Bool, cond, List, [], ◌∷◌, Option, none, some, arith, mid_of, get_or}
use Rattle.lists.specs.Every.{All}
use Rattle.slots.specs.Slots.{slot, zeros?, Present}
use Rattle.plan.specs.declared.numbers.GroupAddress.{GroupAddress}
use Rattle.plan.specs.declared.numbers.IndividualAddress.{IndividualAddress}
use Rattle.writing.specs.declared.GroupFlags.{GroupFlags}
use Rattle.writing.specs.declared.IndividualFlags.{IndividualFlags}
use Rattle.writing.specs.declared.Operation.{Operation}
use Rattle.writing.specs.declared.Operation.TheVariants.{Add, Delete}
use Rattle.writing.specs.Canonical.{side_by_side, bytes, plain, FitsField}
use Rattle.writing.specs.Fields.{Field, val, res}
use Rattle.writing.specs.Settings.{Text, group, individual, kind, unicode16}
use Rattle.writing.specs.Writing.{flag, op, op_code, type_byte, body}
use Rattle.tables.specs.declared.members.Members.{Members}
use Rattle.tables.specs.declared.members.Members.TheVariants.{OfGroups, OfIndividuals}
use Rattle.tables.specs.Allowed.{TextOk}
use Rattle.tables.specs.Layout.{group_flags, group_bytes, individual_flags, individual_bytes, member_width}
use Rattle.tables.specs.MemberKinds.{MemberIn}
use Rattle.tables.specs.Members.{member_ok, member_bytes}
use Rattle.tables.proofs.EntryCodes.{bit_small, member_code, member_shown}
use Rattle.tables.proofs.TextLaws.{Unit16}
use Rattle.export_write.specs.EntrySettings.{no_group_flags, no_individual_flags}
use Rattle.export_write.specs.MemberWriters.{MemberSlotIn, member_type, member_head, member_setting}
use Rattle.export_write.specs.Writers.{Wrote, WritesText}
use Rattle.export_write.proofs.AddressedWriting.{Body, addressed_body, Written, written, addressed_wrote}
use Rattle.export_write.proofs.SlotWriting.{Slotted}

-- groups and individuals stand in slots of 36 bytes
pub member_slotted : (w : Members) → Slotted (member_ok w) member_width (member_bytes w)
member_slotted w = record { wide = omega arith; long = (member_code w).long; shown = member_shown w }

-- ---- one slot

-- one that is not empty has an add
is_add : (w : Members) (x : MemberIn w) → member_ok w x → ◌≡◌ {A = ℕ} (cond (zeros? (member_bytes w x)) 2 1) 1
is_add w x ok = ap (λ (b : Bool). cond b 2 1) (member_shown w x ok)

-- an empty one no text
no_text : TextOk 16 []
no_text = record { short = omega arith; units = tt }

-- the two bytes of the head
abbrev pub head_bytes : ℕ → List ℕ
head_bytes v = (v / 256 % 256) ∷ (v % 256) ∷ []

two_bytes : (u v : ℕ) → u ≡ v → bytes 2 u ≡ head_bytes v
two_bytes u v e =
    let x : u / 256 % 256 ≡ v / 256 % 256 = ap (λ (n : ℕ). n / 256 % 256) e in
    let y : u / 1 % 256 ≡ v % 256 = omega arith in
    (λ i. x i ∷ y i ∷ [])

module _ (i : ℕ) (low : i < 16) where
  -- a group
  group_body : (o : Operation) (f : GroupFlags) (a : GroupAddress) (us : Text) → op_code o < 4 → f.attribute < 4 → f.priority < 4 → a.0 < 16777216 → All Unit16 us
      → Body (group o f (record { index = i; address = a; text = us })) (head_bytes (op_code o * 16384 + group_flags f * 64 + i)) a.0 us
  group_body o f a us l at pr m h =
      let b1 = bit_small f.broadcast in
      let b2 = bit_small f.encryption in
      let b3 = bit_small f.ovcm in
      let b4 = bit_small f.emergency in
      let v : ℕ = op_code o * 16384 + group_flags f * 64 + i in
      let fs : List Field
      = op o ∷ val 2 f.attribute ∷ flag f.broadcast ∷ flag f.encryption ∷ flag f.ovcm ∷ flag f.emergency ∷ val 2 f.priority ∷ res 2 ∷ val 4 i ∷ [] in
      addressed_body (group o f (record { index = i; address = a; text = us })) 2 fs (head_bytes v) a.0 us refl refl (two_bytes (side_by_side fs) v (omega arith))
      (l, (at, (omega arith, (omega arith, (omega arith, (omega arith, (pr, (tt, (low, tt))))))))) m h

  -- an individual
  individual_body : (o : Operation) (f : IndividualFlags) (a : IndividualAddress) (us : Text) → op_code o < 4 → f.priority < 4 → a.0 < 16777216 → All Unit16 us
      → Body (individual o f (record { index = i; address = a; text = us })) (head_bytes (op_code o * 16384 + individual_flags f * 1024 + i)) a.0 us
  individual_body o f a us l pr m h =
      let b1 = bit_small f.encryption in
      let b2 = bit_small f.emergency in
      let v : ℕ = op_code o * 16384 + individual_flags f * 1024 + i in
      let fs : List Field = op o ∷ flag f.encryption ∷ flag f.emergency ∷ val 2 f.priority ∷ res 6 ∷ val 4 i ∷ [] in
      addressed_body (individual o f (record { index = i; address = a; text = us })) 2 fs (head_bytes v) a.0 us refl refl (two_bytes (side_by_side fs) v (omega arith))
      (l, (omega arith, (omega arith, (pr, (tt, (low, tt)))))) m h

  -- a slot, whatever it holds
  pub slot_written : (w : Members) (o : Option (MemberIn w)) → Present (member_ok w) o
      → Written (member_type w) (head_bytes (member_head w i (slot member_width (member_bytes w) o))) (member_setting w i o) (slot member_width (member_bytes w) o)
  slot_written OfGroups none ok =
      written 0xD1 0 0 (head_bytes (32768 + i)) (member_setting OfGroups i none) [] refl
      (group_body Delete no_group_flags (record { 0 = 0 }) [] (omega arith) (omega arith) (omega arith) (omega arith) tt) no_text
  slot_written OfIndividuals none ok =
      written 0xD2 0 0 (head_bytes (32768 + i)) (member_setting OfIndividuals i none) [] refl
      (individual_body Delete no_individual_flags (record { 0 = 0 }) [] (omega arith) (omega arith) (omega arith) tt) no_text
  slot_written OfGroups (some g) ok =
      subst⁻¹ (λ (x : ℕ). Written 0xD1 (head_bytes (x * 16384 + group_flags g.flags * 64 + i)) (member_setting OfGroups i (some g)) (group_bytes g)) (is_add OfGroups g ok)
      (written 0xD1 (group_flags g.flags) g.address.0 (head_bytes (1 * 16384 + group_flags g.flags * 64 + i)) (member_setting OfGroups i (some g)) g.text refl
      (group_body Add g.flags g.address g.text (omega arith) ok.attribute.1 ok.priority ok.address.1 ok.text.units) ok.text)
  slot_written OfIndividuals (some g) ok =
      subst⁻¹ (λ (x : ℕ). Written 0xD2 (head_bytes (x * 16384 + individual_flags g.flags * 1024 + i)) (member_setting OfIndividuals i (some g)) (individual_bytes g)) (is_add OfIndividuals g ok)
      (written 0xD2 (individual_flags g.flags) g.address.0 (head_bytes (1 * 16384 + individual_flags g.flags * 1024 + i)) (member_setting OfIndividuals i (some g)) g.text refl
      (individual_body Add g.flags g.address g.text (omega arith) ok.priority ok.address.1 ok.text.units) ok.text)

  -- it is written as its setting
  pub member_wrote : (w : Members) (p : List ℕ) (at v m end : ℕ) (s t u : List ℕ) → v ≡ member_head w i p
      → Wrote ((v / 256 % 256) ∷ (v % 256) ∷ get_or p 1 0 ∷ get_or p 2 0 ∷ get_or p 3 0 ∷ []) (at + 3) s t m → WritesText (mid_of 4 32 p) m t u end
      → (o : Option (MemberIn w)) → MemberSlotIn w p o
      → (type_byte (kind (member_setting w i o)) ≡ member_type w) × All FitsField (body unicode16 (member_setting w i o))
      × Wrote (plain (body unicode16 (member_setting w i o))) (at + 3) s u end
  member_wrote w p at v m end s t u h a b o (ok, e) =
      let k : Written (member_type w) (head_bytes (member_head w i p)) (member_setting w i o) p
      = subst⁻¹ (λ (x : List ℕ). Written (member_type w) (head_bytes (member_head w i x)) (member_setting w i o) x) e (slot_written w o ok) in
      addressed_wrote (member_type w) (head_bytes v) (member_setting w i o) p at m end s t u
      (subst⁻¹ (λ (x : ℕ). Written (member_type w) (head_bytes x) (member_setting w i o) p) h k) a b
