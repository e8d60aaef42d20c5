use Rattle.lists.proofs.Kit.{arith, ◌+◌, ◌/◌, ◌%◌, ◌≡◌, refl, sym, ap, ◌∙◌, subst, List, false}
use Rattle.settings.proofs.BodyLaws.{no_room, no_body, the_body, flag_bit}
use Rattle.read_bodies.proofs.FixedLaws.{key_head, key_address_out, address_in}
use Rattle.read_fields.proofs.Parts.{nothing}
use Rattle.settings.specs.declared.settings.Setting.TheVariants.{Key}
use Rattle.writing.specs.declared.Kind.TheVariants.{Key as KKey}
use Rattle.writing.specs.declared.KeyTarget.TheVariants.{Current}
use Rattle.writing.specs.Fields.{Field}
use Rattle.writing.specs.Writing.{bit}
use Rattle.writing.specs.Ranges.{InAddress}
use Rattle.read_fields.specs.Places.{FieldsAt}
use Rattle.read_bodies.proofs.fixed_bodies.read_key.Goals as goal

pub returns-then-remaining-lt1 : goal.returns-then-remaining-lt1
returns-then-remaining-lt1 c = λ coding left. no_room KKey (key_head coding) left c.args.m.now c.args.p (λ i. (c.type_inv.m i).fits) (omega arith)

pub returns-then-n-eq1 : goal.returns-then-n-eq1
returns-then-n-eq1 c =
    λ coding left. the_body KKey (key_head coding) left c.args.m.now c.args.p (λ i. (c.type_inv.m i).fits) (c.number-n.ensures (omega arith, omega arith)) (Current c.flag-group.result, (record { voice = c.flag.result; status = c.flag-2.result; siren = c.flag-3.result })) (Key (Current c.flag-group.result) (record { voice = c.flag.result; status = c.flag-2.result; siren = c.flag-3.result })) (c.args.p + 1) (omega arith)
    (c.if-n-eq1.true, (flag_bit (c.number-n.result / 64) c.flag-group.result c.flag-group.ensures, (flag_bit (c.number-n.result / 32) c.flag.result c.flag.ensures, (flag_bit (c.number-n.result / 16) c.flag-2.result c.flag-2.ensures, (flag_bit (c.number-n.result / 8) c.flag-3.result c.flag-3.ensures, (tt, tt)))))) tt (nothing _ _) refl

pub returns-then-remaining-lt3 : goal.returns-then-remaining-lt3
returns-then-remaining-lt3 c = λ coding left. no_body KKey (key_head coding) left c.args.m.now c.args.p (λ i. (c.type_inv.m i).fits) (c.number-n.ensures (omega arith, omega arith)) (λ x next k i t. let (r, a) = key_address_out x.0 c.args.m.now (c.args.p + 1) next (λ i. (c.type_inv.m i).fits) (λ e. c.if-n-eq1.false (k.0 ∙ e)) i t in omega arith)

pub returns-then-address_refused : goal.returns-then-address_refused
returns-then-address_refused c =
    λ coding left. let never = c.if-address_refused.ensures in
    no_body KKey (key_head coding) left c.args.m.now c.args.p (λ i. (c.type_inv.m i).fits) (c.number-n.ensures (omega arith, omega arith)) (λ x next k i t. let (r, a) = key_address_out x.0 c.args.m.now (c.args.p + 1) next (λ i. (c.type_inv.m i).fits) (λ e. c.if-n-eq1.false (k.0 ∙ e)) i t in
    never (subst (λ n. InAddress (n % 16777216)) (sym (c.number.ensures (omega arith, omega arith))) a))

pub returns : goal.returns
returns c =
    λ coding left. let good = c.if-address_refused.ensures in
    let (cur, grp, at, ok) = c.target.ensures in
    the_body KKey (key_head coding) left c.args.m.now c.args.p (λ i. (c.type_inv.m i).fits) (c.number-n.ensures (omega arith, omega arith)) (c.target.result, (record { voice = c.flag.result; status = c.flag-2.result; siren = c.flag-3.result })) (Key c.target.result (record { voice = c.flag.result; status = c.flag-2.result; siren = c.flag-3.result })) (c.args.p + 1 + 3) (omega arith) (
      subst (λ x. c.number-n.result / 128 % 2 ≡ bit x) (sym cur) (let z : c.number-n.result / 128 % 2 ≡ bit false = omega (arith, c.if-n-eq1.false) in z),
      (subst (λ x. c.number-n.result / 64 % 2 ≡ bit x) (sym grp) (flag_bit (c.number-n.result / 64) c.flag-group.result c.flag-group.ensures), (flag_bit (c.number-n.result / 32) c.flag.result c.flag.ensures, (flag_bit (c.number-n.result / 16) c.flag-2.result c.flag-2.ensures, (flag_bit (c.number-n.result / 8) c.flag-3.result c.flag-3.ensures, (tt, tt))))),
    ) (ok good)
    (subst (λ (l : List Field). FieldsAt l c.args.m.now (c.args.p + 1) (c.args.p + 1 + 3)) (sym at) (address_in _ _ _ (λ i. (c.type_inv.m i).fits) (omega arith) (ap (λ n. n % 16777216) (c.number.ensures (omega arith, omega arith))))) refl
