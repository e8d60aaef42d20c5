use Rattle.lists.proofs.Kit.{not-true, not-false}
use Rattle.requests.proofs.TryLaws.{tried_full, tried}
use Rattle.requests.proofs.trying.try_setting.Goals as goal

pub returns-then-not-apply : goal.returns-then-not-apply
returns-then-not-apply c =
    let a = c.args in
    let k = c.apply in
    tried_full a.limits a.m.now a.setting a.sum a.work.now _ k.result k.ensures (not-true k.result c.if-not-apply.true-raw)

pub returns : goal.returns
returns c =
    let a = c.args in
    let k = c.apply in
    let was = c.own_bytes-before in
    let own = c.own_bytes-after in
    let kind = c.kind_of-kind in
    tried a.limits a.m.now a.setting a.sum a.work.now _ k.result k.ensures kind.result was.result own.result kind.ensures was.ensures own.ensures c.sum_after.result (not-false k.result c.if-not-apply.false-raw) c.sum_after.ensures
