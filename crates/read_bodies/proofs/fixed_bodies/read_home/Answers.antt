use Rattle.lists.proofs.Kit.{arith, ◌+◌, ◌/◌, ◌%◌, refl}
use Rattle.settings.proofs.BodyLaws.{no_room, no_body, the_body}
use Rattle.read_bodies.proofs.FixedLaws.{home_head}
use Rattle.read_fields.proofs.Parts.{nothing}
use Rattle.settings.specs.declared.settings.Setting.TheVariants.{Home}
use Rattle.writing.specs.declared.Kind.TheVariants.{Home as KHome}
use Rattle.read_bodies.proofs.fixed_bodies.read_home.Goals as goal

pub returns-then-remaining-lt3 : goal.returns-then-remaining-lt3
returns-then-remaining-lt3 c = λ coding left. no_room KHome (home_head coding) left c.args.m.now c.args.p (λ i. (c.type_inv.m i).fits) (omega arith)

pub returns-then-np-gt806 : goal.returns-then-np-gt806
returns-then-np-gt806 c = λ coding left. no_body KHome (home_head coding) left c.args.m.now c.args.p (λ i. (c.type_inv.m i).fits) (c.number-n.ensures (omega arith, omega arith)) (λ x next k i t. omega (arith, k.1.0, i))

pub overflow_add-result : goal.overflow_add-result
overflow_add-result c = omega arith

pub returns : goal.returns
returns c = λ coding left. the_body KHome (home_head coding) left c.args.m.now c.args.p (λ i. (c.type_inv.m i).fits) (c.number-n.ensures (omega arith, omega arith)) (record { nzi = c.number-n.result / 32768 % 512; np = c.number-n.result / 32 % 1024 }) (Home (record { nzi = c.number-n.result / 32768 % 512; np = c.number-n.result / 32 % 1024 })) (c.args.p + 3) (omega arith) (refl, (refl, (tt, tt))) (omega arith) (nothing _ _) refl
