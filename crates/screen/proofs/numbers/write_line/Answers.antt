use Rattle.lists.proofs.Kit.{ℕ, ◌*◌, ◌≡◌, refl, ap, ◌∙◌, subst, map, rules, arith, length, get_or}
use Rattle.tables.proofs.TextCodes.{digits_length}
use Rattle.screen.specs.Rows.{ascii}
use Rattle.screen.specs.Steps.{Written}
use Rattle.screen.proofs.NumberLaws.{so_far_start, so_far_more, so_far_end, so_far_stop, kept_small}
use Rattle.screen.proofs.numbers.write_line.Goals as goal

pub loop-i-init : goal.loop-i-init
loop-i-init c =
    let a = c.args in
    (refl, λ ds ok e. so_far_start a.kept.now a.scratch.now ds ok e)

pub returns-then-digit-eq0 : goal.returns-then-digit-eq0
returns-then-digit-eq0 c =
    let a = c.args in
    let l = c.loop-i in
    let n = ap length c.requires.1.bytes ∙ digits_length c.requires.1.entry in
    (λ ds ok e. so_far_stop a.kept.now a.scratch.now ds ok e l.scratch l.i (omega (arith, n)) (l.invariant.1 ds ok e) (get_or a.kept.now l.i 0) (omega (arith, n)) refl c.if-digit-eq0.true)

pub put_digit-requires : goal.put_digit-requires
put_digit-requires c =
    let l = c.loop-i in
    let p = c.requires.1 in
    let n = ap length p.bytes ∙ digits_length p.entry in (
      omega (arith, n),
      omega (arith, kept_small c.args.kept.now c.args.scratch.now p.entry p.holds p.bytes l.i (get_or c.args.kept.now l.i 0) (omega (arith, n)) refl),
    )

pub loop-i-preserved : goal.loop-i-preserved
loop-i-preserved c =
    let a = c.args in
    let l = c.loop-i in
    let n = ap length c.requires.1.bytes ∙ digits_length c.requires.1.entry in
    let k = c.put_digit in (
      search rules,
      λ ds ok e.
          so_far_more a.kept.now a.scratch.now ds ok e l.scratch l.i (omega (arith, n)) (l.invariant.1 ds ok e) k.new.scratch (get_or a.kept.now l.i 0) (omega (arith, n)) refl c.if-digit-eq0.false k.ensures,
    )

pub returns : goal.returns
returns c =
    let a = c.args in
    let l = c.loop-i in
    let n = ap length c.requires.1.bytes ∙ digits_length c.requires.1.entry in
    let h : l.i ≡ 18 = omega (arith, n) in
    (λ ds ok e. subst (λ (i : ℕ). Written (map ascii ds) a.scratch.now l.scratch (2 * i)) h (so_far_end a.kept.now a.scratch.now ds ok e l.scratch l.i (omega (arith, n)) (l.invariant.1 ds ok e) (omega (arith, ok.1))))
