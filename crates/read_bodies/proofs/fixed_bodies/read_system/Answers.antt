use Rattle.lists.proofs.Kit.{arith, ◌+◌, ◌/◌, ◌%◌, refl}
use Rattle.settings.proofs.BodyLaws.{no_room, no_body, the_body, flag_bit}
use Rattle.read_bodies.proofs.FixedLaws.{system_head}
use Rattle.read_fields.proofs.Parts.{nothing}
use Rattle.settings.specs.declared.settings.Setting.TheVariants.{System}
use Rattle.writing.specs.declared.Kind.TheVariants.{System as KSystem}
use Rattle.read_bodies.proofs.fixed_bodies.read_system.Goals as goal

pub returns-then-remaining-lt3 : goal.returns-then-remaining-lt3
returns-then-remaining-lt3 c = λ coding left. no_room KSystem (system_head coding) left c.args.m.now c.args.p (λ i. (c.type_inv.m i).fits) (omega arith)

pub returns-then-la-gt8 : goal.returns-then-la-gt8
returns-then-la-gt8 c = λ coding left. no_body KSystem (system_head coding) left c.args.m.now c.args.p (λ i. (c.type_inv.m i).fits) (c.number-n.ensures (omega arith, omega arith)) (λ x next k i t. omega (arith, k.1.0, i.0))

pub returns-then-roaming-eq3 : goal.returns-then-roaming-eq3
returns-then-roaming-eq3 c = λ coding left. no_body KSystem (system_head coding) left c.args.m.now c.args.p (λ i. (c.type_inv.m i).fits) (c.number-n.ensures (omega arith, omega arith)) (λ x next k i t. i.1 (omega (arith, k.1.1.0, c.if-roaming-eq3.true)))

pub overflow_add-result : goal.overflow_add-result
overflow_add-result c = omega arith

pub returns : goal.returns
returns c = λ coding left. the_body KSystem (system_head coding) left c.args.m.now c.args.p (λ i. (c.type_inv.m i).fits) (c.number-n.ensures (omega arith, omega arith)) (record { lai = c.number-n.result / 4096 % 4096; la = c.number-n.result / 256 % 16; roaming = c.number-n.result / 64 % 4; par = c.flag-par.result }) (System (record { lai = c.number-n.result / 4096 % 4096; la = c.number-n.result / 256 % 16; roaming = c.number-n.result / 64 % 4; par = c.flag-par.result })) (c.args.p + 3) (omega arith) (refl, (refl, (refl, (flag_bit (c.number-n.result / 32) c.flag-par.result c.flag-par.ensures, (tt, tt))))) (omega arith, λ e. c.if-roaming-eq3.false e) (nothing _ _) refl
