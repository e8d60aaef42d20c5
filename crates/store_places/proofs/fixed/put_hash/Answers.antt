use Rattle.lists.proofs.Kit.{rules, arith}
use Rattle.store_places.proofs.FixedLaws.{hash_none, hash_outside, hash_put}
use Rattle.store_places.proofs.fixed.put_hash.Goals as goal

pub returns-then-size-eq0 : goal.returns-then-size-eq0
returns-then-size-eq0 c =
    let a = c.args in
    let z = c.hash_size-size in
    let y = c.clear_hash in
    hash_none a.m.now (λ i. (c.shared_slice_known-1.given i).fits) a.place z.result z.ensures a.region.now y.new.region (omega arith) y.ensures

pub returns-then-m-a : goal.returns-then-m-a
returns-then-m-a c =
    let a = c.args in
    let z = c.hash_size-size in
    hash_outside a.m.now (λ i. (c.shared_slice_known-1.given i).fits) a.place z.result z.ensures a.region.now a.region.now (omega arith)

pub returns-then-m-a-2 : goal.returns-then-m-a-2
returns-then-m-a-2 c =
    let a = c.args in
    let z = c.hash_size-size in
    hash_outside a.m.now (λ i. (c.shared_slice_known-1.given i).fits) a.place z.result z.ensures a.region.now a.region.now (omega arith)

pub returns-then-region-lt1 : goal.returns-then-region-lt1
returns-then-region-lt1 c = λ v k x n. absurd (omega (arith, n))

pub returns : goal.returns
returns c =
    let a = c.args in
    let z = c.hash_size-size in
    let y = c.copy_padded in
    hash_put a.m.now (λ i. (c.shared_slice_known-1.given i).fits) a.place z.result z.ensures a.region.now y.new.dst y.ensures
