use Rattle.lists.proofs.Kit.{arith, refl, ap, ◌∙◌, ◌+◌, ◌-◌, List, ℕ, length}
use Rattle.plain_log.proofs.FrameLaws.{area_long, log_longer, area_more}
use Rattle.plain_log.proofs.keeping.keep.Goals as goal

pub returns-then-area-ne-AREA : goal.returns-then-area-ne-AREA
returns-then-area-ne-AREA c = (refl, λ log a h u. absurd (c.if-area-ne-AREA.true (ap (λ (s : List ℕ). length s) a ∙ area_long log)))

pub returns-then-used : goal.returns-then-used
returns-then-used c = (refl, λ log a h u. omega (arith, log_longer log c.args.m.now, u))

pub returns-then-used-m : goal.returns-then-used-m
returns-then-used-m c = (refl, λ log a h u. omega (arith, log_longer log c.args.m.now, u))

pub returns : goal.returns
returns c =
    let a = c.args in
    λ log e h u.
    area_more log a.m.now a.area.now c.put_number.new.area c.copy.new.dst c.put_number-2.new.area (4 + a.used) (4 + a.used + 2) (4 + a.used + 2 + length a.m.now - (4 + a.used + 2)) _
    e c.if-area-ne-AREA.false (omega (arith, u)) (omega (arith, u)) refl (omega arith) (omega (arith, u)) c.put_number.ensures c.copy.ensures c.put_number-2.ensures
