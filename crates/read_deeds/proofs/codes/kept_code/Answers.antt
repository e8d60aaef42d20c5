use Rattle.lists.proofs.Kit.{rules, arith, ◌<◌, ◌-◌, ◌*◌, ◌^◌, get_or}
use Rattle.read_deeds.proofs.CodeLaws.{code_small, code_fits, code_grows, code_start, code_more, code_stop, code_done, kept_long}
use Rattle.read_deeds.proofs.codes.kept_code.Goals as goal

pub loop-i-init : goal.loop-i-init
loop-i-init c = (omega arith, omega arith, code_start c.args.kept.now)

pub returns-then-digit-eq0 : goal.returns-then-digit-eq0
returns-then-digit-eq0 c =
    let l = c.loop-i in
    let k = c.args.kept.now in
    (code_fits l.i l.code l.invariant.0 l.invariant.1, λ ds ok e. code_stop k l.code l.i ds (l.invariant.2 ds ok e) (omega arith) (omega arith) c.if-digit-eq0.true)

pub overflow_mul-code : goal.overflow_mul-code
overflow_mul-code c =
    let l = c.loop-i in
    let small : l.code < 2 * 10 ^ 17 = code_small l.i l.code (omega arith) l.invariant.1 in
    search rules

pub overflow_add-code : goal.overflow_add-code
overflow_add-code c =
    let l = c.loop-i in
    let small : l.code < 2 * 10 ^ 17 = code_small l.i l.code (omega arith) l.invariant.1 in
    search rules

pub loop-i-preserved : goal.loop-i-preserved
loop-i-preserved c =
    let l = c.loop-i in
    let k = c.args.kept.now in (
      omega arith,
      code_grows l.i l.code (get_or k l.i 0 - 1) l.invariant.1,
      λ ds ok e. code_more k l.code l.i ds (l.invariant.2 ds ok e) (omega arith) (omega arith) c.if-digit-eq0.false,
    )

pub returns : goal.returns
returns c =
    let l = c.loop-i in
    (code_fits l.i l.code l.invariant.0 l.invariant.1, λ ds ok e. code_done c.args.kept.now l.code l.i ds (l.invariant.2 ds ok e) (omega (arith, kept_long c.args.kept.now ds e)))
