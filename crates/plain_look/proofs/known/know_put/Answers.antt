use Rattle.lists.proofs.Kit.{arith}
use Rattle.plain_look.proofs.LookLaws.{put_latest, latest_stays}
use borrow.Enum.Refused.{opened as is_one_of}
use Rattle.plain_look.proofs.known.know_put.Goals as goal
use Rattle.plain_look.proofs.known.know_put.Goals.{then-known-lt-DEEDS, else-known-lt-DEEDS}

pub returns-in_default-kind : goal.returns-in_default-kind
returns-in_default-kind c =
    let a = c.args in
    let j = c.if-known-lt-DEEDS in
    put_latest a.kind a.number a.put a.known j.often (λ h. elim j.branch [ then-known-lt-DEEDS w ↦ omega arith | else-known-lt-DEEDS w ↦ omega arith ]) _ c.in-Some.is
    (latest_stays a.kind (is_one_of c.in_default-kind.in_default-kind-own.keys2))
