use Rattle.lists.proofs.Kit.{subst, put_mid}
use Rattle.tables.specs.Layout.{hash_size}
use Rattle.tables.specs.Store.{Works}
use Rattle.tables.specs.Tables.{Tables}
use Rattle.station.proofs.CopyLaws.{copy_of, copy_forgets, copy_loaded, request_judged}
use Rattle.station.proofs.TakeLaws.{forgotten}
use Rattle.station.proofs.judge.judge_request.Goals as goal

pub returns : goal.returns
returns c =
    let a = c.args in
    let (s, _, l, i) = c.requires in
    let w = c.load_copy in
    let y = c.clear_hash in
    let n = c.stored_bytes-held in
    let o = c.copy_bytes-own in
    let k = c.take_copy_from in
    request_judged a.request.coding a.limits a.copy a.m.now a.request.count a.request.at n.result o.result a.store.now _ k.new.work k.result s.roomy i
    (λ t h. subst (λ (x : Tables). Works a.limits x (put_mid 0 hash_size w.new.work y.new.region)) (copy_forgets a.copy t) (forgotten a.limits (copy_of a.copy t) w.new.work y.new.region s.roomy
    (copy_loaded a.request.coding a.limits a.copy a.request.count a.m.now a.request.at a.store.now a.work.now w.new.work i l s.roomy w.ensures t h) y.ensures))
    n.ensures o.ensures k.ensures
