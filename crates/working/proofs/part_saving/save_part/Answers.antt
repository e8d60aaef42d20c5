use Rattle.lists.proofs.Kit.{refl, subst, subst⁻¹, arith}
use Rattle.writing.specs.declared.Kind.{Kind}
use Rattle.tables.proofs.AnswerLaws.{not_said, was_said}
use Rattle.working.specs.Parts.{PartSaved}
use Rattle.working.specs.Runs.{NumberIs}
use Rattle.working.proofs.PartSaves.{not_channels, part_fixed, part_channels, part_table}
use borrow.Enum.Refused.{opened as is_one_of}
use Rattle.working.proofs.part_saving.save_part.Goals as goal

pub returns-then-not-is_shared : goal.returns-then-not-is_shared
returns-then-not-is_shared c = λ l o i t u roomy shared ok after e d. absurd (not_said c.is_shared.result c.is_shared.ensures c.if-not-is_shared.true-raw (l, shared))

pub returns-then-not-is_sized : goal.returns-then-not-is_sized
returns-then-not-is_sized c = λ l o i t u roomy shared ok after e d. absurd (not_said c.is_sized.result c.is_sized.ensures c.if-not-is_sized.true-raw (o, roomy))

pub copy_run-requires : goal.copy_run-requires
copy_run-requires c =
    let (l, s) = was_said c.is_shared.result c.is_shared.ensures c.if-not-is_shared.false-raw in
    let (o, r) = was_said c.is_sized.result c.is_sized.ensures c.if-not-is_sized.false-raw in
    (omega (arith, l, s.fits), omega (arith, o, r.fits))

pub save_table-requires : goal.save_table-requires
save_table-requires c =
    let (l, s) = was_said c.is_shared.result c.is_shared.ensures c.if-not-is_shared.false-raw in
    let (o, r) = was_said c.is_sized.result c.is_sized.ensures c.if-not-is_sized.false-raw in
    ((subst (NumberIs c.args.kind) c.in-Some.is c.number_of.ensures).1, omega (arith, l), s, o, r)

pub returns-in-Some : goal.returns-in-Some
returns-in-Some c =
    let a = c.args in
    let n = subst (NumberIs a.kind) c.in-Some.is c.number_of.ensures in
    part_table a.limits a.area a.work.now a.store.now c.copy_run.new.dst c.save_table.new.store c.copy_run.ensures a.kind c.in-Some.k n.0 n.1 c.save_table.ensures

pub save_channels-requires : goal.save_channels-requires
save_channels-requires c =
    let (l, s) = was_said c.is_shared.result c.is_shared.ensures c.if-not-is_shared.false-raw in
    let (o, r) = was_said c.is_sized.result c.is_sized.ensures c.if-not-is_sized.false-raw in
    (omega (arith, l, s.fits), o, r)

pub returns-in-Channels : goal.returns-in-Channels
returns-in-Channels c =
    let a = c.args in
    let v = c.save_channels.new.store in
    subst⁻¹ (λ (k : Kind). PartSaved a.limits a.area k a.work.now a.store.now v) c.in-Channels.is
    (part_channels a.limits a.area a.work.now a.store.now c.copy_run.new.dst v c.copy_run.ensures c.save_channels.ensures)

pub returns-in_default-kind : goal.returns-in_default-kind
returns-in_default-kind c =
    let a = c.args in
    part_fixed a.limits a.area a.work.now a.store.now c.copy_run.new.dst _ c.copy_run.ensures a.kind (subst (NumberIs a.kind) c.in_default.is c.number_of.ensures) (not_channels a.kind (is_one_of c.in_default-kind.in_default-kind-own.keys2)) refl
