-- Group and individual contacts are written as adds, behind a replace with Count 0. Assumes nothing.
use Rattle.lists.proofs.Kit.{ℕ, ◌+◌, ◌*◌, ◌/◌, ◌%◌, ◌≤◌, ◌<◌, ◌≡◌, refl, sym, ap, subst⁻¹, List, [], ◌∷◌, ◌++◌, append_assoc, append-nil, mul-le-mul_right, arith, mid_of, get_or}
use Rattle.lists.specs.Every.{All}
use Rattle.writing.specs.declared.Operation.TheVariants.{Add}
use Rattle.writing.specs.Canonical.{side_by_side, plain, FitsField}
use Rattle.writing.specs.Fields.{Field, val, res}
use Rattle.writing.specs.Settings.{kind, unicode16}
use Rattle.writing.specs.Writing.{flag, op, text, type_byte, body}
use Rattle.tables.specs.declared.members.Members.{Members}
use Rattle.tables.specs.declared.members.Members.TheVariants.{OfGroups, OfIndividuals}
use Rattle.tables.specs.Layout.{group_flags, individual_flags}
use Rattle.tables.specs.MemberKinds.{MemberIn}
use Rattle.tables.specs.Members.{member_ok, member_bytes}
use Rattle.tables.proofs.EntryCodes.{bit_small}
use Rattle.export_write.specs.ContactSettings.{contact_add}
use Rattle.export_write.specs.ContactWriters.{contact_type, flag_size, flag_bytes}
use Rattle.export_write.specs.Writers.{Wrote, Kept, WritesText}
use Rattle.export_write.proofs.AddressedWriting.{addressed_body, Written, written, addressed_wrote}
use Rattle.export_write.proofs.WroteLaws.{wrote_both, wrote_as}

-- operation and flags take two bytes or one
pub flag_few : (w : Members) → (1 ≤ flag_size w) × (flag_size w ≤ 2)
flag_few OfGroups = (omega arith, omega arith)
flag_few OfIndividuals = (omega arith, omega arith)

-- an add of one contact, as it is written from the contact's bytes
pub contact_written : (w : Members) (x : MemberIn w) → member_ok w x
    → Written (contact_type w) (flag_bytes w (get_or (member_bytes w x) 0 0) ++ (1 ∷ [])) (contact_add w x) (member_bytes w x)
contact_written OfGroups x ok =
    let f = x.flags in
    let b1 = bit_small f.broadcast in
    let b2 = bit_small f.encryption in
    let b3 = bit_small f.ovcm in
    let b4 = bit_small f.emergency in
    let at : f.attribute < 4 = ok.attribute.1 in
    let pr : f.priority < 4 = ok.priority in
    let fs : List Field
    = op Add ∷ val 2 f.attribute ∷ flag f.broadcast ∷ flag f.encryption ∷ flag f.ovcm ∷ flag f.emergency ∷ val 2 f.priority ∷ res 6 ∷ val 8 1 ∷ [] in
    let v : ℕ = side_by_side fs in
    let g : ℕ = group_flags f in
    let a : v / 65536 % 256 ≡ 64 + g / 4 = omega arith in
    let b : v / 256 % 256 ≡ g % 4 * 64 = omega arith in
    let c : v / 1 % 256 ≡ 1 = omega arith in
    let head : List ℕ = (64 + g / 4) ∷ (g % 4 * 64) ∷ 1 ∷ [] in
    written 0xC8 g x.address.0 head (contact_add OfGroups x) x.text refl
    (addressed_body (contact_add OfGroups x) 3 fs head x.address.0 x.text (ap (λ (y : List Field). fs ++ y) (append-nil (val 24 x.address.0 ∷ text unicode16 x.text))) refl (λ i. a i ∷ b i ∷ c i ∷ [])
    (omega arith, (at, (omega arith, (omega arith, (omega arith, (omega arith, (pr, (tt, (omega arith, tt))))))))) ok.address.1 ok.text.units) ok.text
contact_written OfIndividuals x ok =
    let f = x.flags in
    let b1 = bit_small f.encryption in
    let b2 = bit_small f.emergency in
    let pr : f.priority < 4 = ok.priority in
    let fs : List Field = op Add ∷ flag f.encryption ∷ flag f.emergency ∷ val 2 f.priority ∷ res 2 ∷ val 8 1 ∷ [] in
    let v : ℕ = side_by_side fs in
    let g : ℕ = individual_flags f in
    let a : v / 256 % 256 ≡ 64 + g % 16 * 4 = omega arith in
    let b : v / 1 % 256 ≡ 1 = omega arith in
    let head : List ℕ = (64 + g % 16 * 4) ∷ 1 ∷ [] in
    written 0xC9 g x.address.0 head (contact_add OfIndividuals x) x.text refl
    (addressed_body (contact_add OfIndividuals x) 2 fs head x.address.0 x.text (ap (λ (y : List Field). fs ++ y) (append-nil (val 24 x.address.0 ∷ text unicode16 x.text))) refl (λ i. a i ∷ b i ∷ [])
    (omega arith, (omega arith, (omega arith, (pr, (tt, (omega arith, tt)))))) ok.address.1 ok.text.units) ok.text

-- the flags, then the Count and the address, then the text were written: it is written as its setting
pub contact_wrote : (w : Members) (p : List ℕ) (at m n end : ℕ) (s t u v : List ℕ) → Wrote (flag_bytes w (get_or p 0 0)) (at + 3) s t m
    → Wrote (1 ∷ get_or p 1 0 ∷ get_or p 2 0 ∷ get_or p 3 0 ∷ []) m t u n → WritesText (mid_of 4 32 p) n u v end
    → (x : MemberIn w) → Kept (member_ok w) (member_bytes w) p x
    → (type_byte (kind (contact_add w x)) ≡ contact_type w) × All FitsField (body unicode16 (contact_add w x)) × Wrote (plain (body unicode16 (contact_add w x))) (at + 3) s v end
contact_wrote w p at m n end s t u v a b c x (ok, e) =
    let head : List ℕ = flag_bytes w (get_or p 0 0) in
    let address : List ℕ = get_or p 1 0 ∷ get_or p 2 0 ∷ get_or p 3 0 ∷ [] in
    let k : Written (contact_type w) (head ++ (1 ∷ [])) (contact_add w x) p
    = subst⁻¹ (λ (y : List ℕ). Written (contact_type w) (flag_bytes w (get_or y 0 0) ++ (1 ∷ [])) (contact_add w x) y) e (contact_written w x ok) in
    addressed_wrote (contact_type w) (head ++ (1 ∷ [])) (contact_add w x) p at n end s u v k
    (wrote_as (head ++ (1 ∷ address)) ((head ++ (1 ∷ [])) ++ address) (at + 3) n s u (sym (append_assoc head (1 ∷ []) address))
    (wrote_both head (1 ∷ address) (at + 3) m n s t u a b)) c

-- where there is room for n adds, there is for the next of fewer
pub room_left : (room i n : ℕ) → i < n → i * room + room ≤ n * room
room_left room i n h = omega (arith, mul-le-mul_right room h)
