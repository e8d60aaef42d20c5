use Rattle.lists.proofs.Kit.{arith, ap, ◌∙◌, length, length-replicate}
use Rattle.tables.proofs.AnswerLaws.{not_said, was_said}
use Rattle.working.proofs.PartLoadLaws.{part_loaded}
use Rattle.working.proofs.part_loading.load_part.Goals as goal

pub returns-then-not-is_sized : goal.returns-then-not-is_sized
returns-then-not-is_sized c = λ l o t roomy shared ok e. absurd (not_said c.is_sized.result c.is_sized.ensures c.if-not-is_sized.true-raw (ap length l ∙ length-replicate _ _, roomy))

pub returns-then-not-is_shared : goal.returns-then-not-is_shared
returns-then-not-is_shared c = λ l o t roomy shared ok e. absurd (not_said c.is_shared.result c.is_shared.ensures c.if-not-is_shared.true-raw (o, shared))

pub copy_run-requires : goal.copy_run-requires
copy_run-requires c =
    let (l, r) = was_said c.is_sized.result c.is_sized.ensures c.if-not-is_sized.false-raw in
    let (o, s) = was_said c.is_shared.result c.is_shared.ensures c.if-not-is_shared.false-raw in
    (omega (arith, l, r.fits), omega (arith, o, r.fits))

pub load_kind-requires : goal.load_kind-requires
load_kind-requires c =
    let (l, r) = was_said c.is_sized.result c.is_sized.ensures c.if-not-is_sized.false-raw in
    let (o, s) = was_said c.is_shared.result c.is_shared.ensures c.if-not-is_shared.false-raw in
    (omega arith, r, o, s)

pub returns : goal.returns
returns c =
    let a = c.args in
    part_loaded a.limits a.area a.kind a.store.now a.work.now c.copy_run.new.dst c.load_kind.new.work c.copy_run.ensures c.load_kind.ensures
