use Rattle.lists.proofs.Kit.{arith, ◌+◌, ◌/◌, refl, sym, subst, subst⁻¹, length, map}
use Rattle.settings.proofs.BodyLaws.{no_room, no_body, the_body, flag_bit}
use Rattle.read_bodies.proofs.FixedLaws.{last_head, not_last}
use Rattle.writing.specs.Ranges.{HashSize}
use Rattle.writing.specs.Fields.{val}
use Rattle.read_fields.specs.Places.{FieldsAt}
use Rattle.settings.specs.Meant.{BodyAt}
use Rattle.read_fields.proofs.HashLaws.{bytes_out}
use Rattle.settings.specs.declared.settings.Setting.TheVariants.{Last}
use Rattle.writing.specs.declared.Kind.TheVariants.{Last as KLast}
use Rattle.read_bodies.proofs.fixed_bodies.read_last.Goals as goal

pub returns-then-left-gt0 : goal.returns-then-left-gt0
returns-then-left-gt0 c = λ coding. not_last _ _ _ _ (omega arith)

pub returns-then-remaining-lt1 : goal.returns-then-remaining-lt1
returns-then-remaining-lt1 c = λ coding. no_room KLast (last_head coding) _ c.args.m.now c.args.p (λ i. (c.type_inv.m i).fits) (omega arith)

pub returns-in_err-place : goal.returns-in_err-place
returns-in_err-place c =
    let a = c.args in
    λ coding. subst⁻¹ (BodyAt coding KLast a.left a.m.now a.p) c.from_residual.ensures
    (no_body KLast (last_head coding) _ a.m.now a.p (λ i. (c.type_inv.m i).fits) (c.number-n.ensures (omega arith, omega arith)) (λ x next k i t. c.in_err-place.ensures x.1.value next (subst (λ n. HashSize n (length x.1.value)) (omega (arith, k.1.1.0)) i.0) t))

pub returns : goal.returns
returns c =
    λ coding.
    let z = c.in_ok-place.ensures in
    let v = z.0 in
    let place = c.in_ok-place.place in
    let size = subst (λ n. HashSize n (length v)) (sym z.2) z.3 in
    let ends = bytes_out c.args.m.now (c.args.p + 1) (λ i. (c.type_inv.m i).fits) v _ z.4 in
    the_body KLast (last_head coding) _ c.args.m.now c.args.p (λ i. (c.type_inv.m i).fits) (c.number-n.ensures (omega arith, omega arith)) ((record { reboot = c.flag.result; reply = c.flag-2.result }), record { code = place.code; value = v }) (Last (record { reboot = c.flag.result; reply = c.flag-2.result }) place) c.in_ok-place.next (omega arith)
    (flag_bit (c.number-n.result / 128) c.flag.result c.flag.ensures, (flag_bit (c.number-n.result / 64) c.flag-2.result c.flag-2.ensures, (omega (arith, z.2), tt)))
    (size, omega arith) z.4
    (v, refl, subst (λ n. FieldsAt (map (val 8) v) c.args.m.now n (n + length v)) (sym z.1) (subst (FieldsAt (map (val 8) v) c.args.m.now (c.args.p + 1)) ends.1 z.4), size)
