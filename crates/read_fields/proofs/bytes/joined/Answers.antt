use Rattle.lists.proofs.Kit.{rules, arith, ◌≡◌, ◌+◌, ◌*◌, ◌∙◌, ap, get_or, drop, take}
use Rattle.read_fields.specs.Places.{be}
use Rattle.read_fields.proofs.Heads.{be_64, be_room, be_turn}
use Rattle.read_fields.proofs.bytes.joined.Goals as goal

pub overflow_mul-n : goal.overflow_mul-n
overflow_mul-n c =
    omega (arith, be_64 {i = c.loop-i.i + 1} (be_room c.loop-i.n c.loop-i.i 0 c.loop-i.invariant.0 (omega arith)) (omega arith))

pub overflow_add-n-in-loop-i : goal.overflow_add-n-in-loop-i
overflow_add-n-in-loop-i c =
    let a = c.args in
    let l = c.loop-i in
    omega (arith, be_64 {i = l.i + 1} (be_room l.n l.i (get_or a.m.now (a.at + l.i) 0) l.invariant.0 (search rules)) (omega arith))

pub loop-i-preserved : goal.loop-i-preserved
loop-i-preserved c =
    let a = c.args in
    let l = c.loop-i in (
      be_room l.n l.i _ l.invariant.0 (search rules),
      ap (λ x. x * 256 + get_or a.m.now (a.at + l.i) 0) l.invariant.1 ∙ be_turn a.m.now a.at l.i (omega arith),
    )

pub returns : goal.returns
returns c =
    let a = c.args in
    let e : c.loop-i.i ≡ a.k = omega arith in
    c.loop-i.invariant.1 ∙ ap (λ j. be 0 (take j (drop a.at a.m.now))) e
