use Rattle.lists.proofs.Kit.{rules, arith, refl}
use Rattle.lists.specs.Bytes.{Bytes}
use Rattle.read_setting.proofs.SettingLaws.{no_type, too_short, too_little, too_much, no_fields, behind, other_length, the_setting}
use Rattle.read_setting.proofs.reader.read_setting.Goals as goal

pub returns-then-remaining-lt3 : goal.returns-then-remaining-lt3
returns-then-remaining-lt3 c =
    let a = c.args in
    let bytes : Bytes a.m.now = λ i. (c.type_inv.m i).fits in
    too_short a.coding _ a.m.now a.at bytes c.in-Some.row c.in-Some.ensures refl (omega arith) (omega arith)

pub returns-then-stated-row : goal.returns-then-stated-row
returns-then-stated-row c =
    let a = c.args in
    let bytes : Bytes a.m.now = λ i. (c.type_inv.m i).fits in
    too_little a.coding _ a.m.now a.at bytes c.in-Some.row c.in-Some.ensures refl (c.number-stated.ensures (omega arith, omega arith)) (omega arith) (omega arith)

pub returns-then-row-stated : goal.returns-then-row-stated
returns-then-row-stated c =
    let a = c.args in
    let bytes : Bytes a.m.now = λ i. (c.type_inv.m i).fits in
    too_much a.coding _ a.m.now a.at bytes c.in-Some.row c.in-Some.ensures refl (c.number-stated.ensures (omega arith, omega arith)) (omega arith) (omega arith)

pub returns-in_default-read_body : goal.returns-in_default-read_body
returns-in_default-read_body c =
    let a = c.args in
    let bytes : Bytes a.m.now = λ i. (c.type_inv.m i).fits in
    no_fields a.coding _ a.m.now a.at bytes c.in-Some.row c.in-Some.ensures refl (c.number-stated.ensures (omega arith, omega arith)) (omega arith) c.in_default-read_body.ensures refl

pub overflow_sub-taken : goal.overflow_sub-taken
overflow_sub-taken c =
    let a = c.args in
    let bytes : Bytes a.m.now = λ i. (c.type_inv.m i).fits in
    omega (arith, behind a.coding _ a.m.now a.at bytes c.in-Some.row c.in-Some.ensures refl (c.number-stated.ensures (omega arith, omega arith)) (omega arith) c.in-Some-read_body.ensures c.in-Some-read_body.setting c.in-Some-read_body.next refl)

pub overflow_sub-taken-2 : goal.overflow_sub-taken-2
overflow_sub-taken-2 c =
    let a = c.args in
    let bytes : Bytes a.m.now = λ i. (c.type_inv.m i).fits in
    omega (arith, behind a.coding _ a.m.now a.at bytes c.in-Some.row c.in-Some.ensures refl (c.number-stated.ensures (omega arith, omega arith)) (omega arith) c.in-Some-read_body.ensures c.in-Some-read_body.setting c.in-Some-read_body.next refl)

pub returns-then-stated-taken : goal.returns-then-stated-taken
returns-then-stated-taken c =
    let a = c.args in
    let bytes : Bytes a.m.now = λ i. (c.type_inv.m i).fits in
    other_length a.coding _ a.m.now a.at bytes c.in-Some.row c.in-Some.ensures refl (c.number-stated.ensures (omega arith, omega arith)) (omega arith) c.in-Some-read_body.ensures c.in-Some-read_body.setting c.in-Some-read_body.next refl (omega arith)

pub returns : goal.returns
returns c =
    let a = c.args in
    let bytes : Bytes a.m.now = λ i. (c.type_inv.m i).fits in
    the_setting a.coding _ a.m.now a.at bytes c.in-Some.row c.in-Some.ensures refl (c.number-stated.ensures (omega arith, omega arith)) (omega arith) c.in-Some-read_body.ensures c.in-Some-read_body.setting c.in-Some-read_body.next refl (omega arith)
