use Rattle.lists.proofs.Kit.{arith}
use Rattle.tables.proofs.AnswerLaws.{not_said, was_said}
use Rattle.working.proofs.LoadedLaws.{texts_fit, texts_in_area, loaded_shared}
use Rattle.working.proofs.loading.load_shared.Goals as goal

pub returns-then-not-is_sized : goal.returns-then-not-is_sized
returns-then-not-is_sized c = λ l o t roomy shared ok e. absurd (not_said c.is_sized.result c.is_sized.ensures c.if-not-is_sized.true-raw (l, roomy))

pub returns-then-not-is_shared : goal.returns-then-not-is_shared
returns-then-not-is_shared c = λ l o t roomy shared ok e. absurd (not_said c.is_shared.result c.is_shared.ensures c.if-not-is_shared.true-raw (o, shared))

pub all_units-requires : goal.all_units-requires
all_units-requires c =
    let (o, s) = was_said c.is_shared.result c.is_shared.ensures c.if-not-is_shared.false-raw in
    (s.few_channels, s.few_lines, omega (arith, o, s.fits))

pub returns-then-area-all_units : goal.returns-then-area-all_units
returns-then-area-all_units c = λ l o t roomy shared ok e.
    let a = c.args in
    absurd (omega (arith, texts_fit a.limits a.area a.store.now c.all_units.result t c.all_units.ensures.0 ok e))

pub load_all-requires : goal.load_all-requires
load_all-requires c =
    let (l, r) = was_said c.is_sized.result c.is_sized.ensures c.if-not-is_sized.false-raw in
    let (o, s) = was_said c.is_shared.result c.is_shared.ensures c.if-not-is_shared.false-raw in
    let a = c.args in
    (l, r, o, s, texts_in_area a.limits a.area a.store.now c.all_units.result c.all_units.ensures.0 (omega arith))

pub returns : goal.returns
returns c = let a = c.args in loaded_shared a.limits a.area a.store.now a.work.now c.load_all.new.work c.load_all.ensures
