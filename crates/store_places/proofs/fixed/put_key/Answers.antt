use Rattle.lists.proofs.Kit.{rules}
use Rattle.store_places.proofs.FixedLaws.{key_put}
use Rattle.store_places.proofs.fixed.put_key.Goals as goal

pub returns : goal.returns
returns c =
    let a = c.args in
    let r = c.target_bits in
    let v = c.bit_of in
    let w = c.bit_of-2 in
    let x = c.bit_of-3 in
    let d = c.target_address in
    let h = c.head_of-bytes in
    let y = c.copy in
    key_put a.target a.flags a.region.now y.new.dst h.result r.result v.result w.result x.result d.result r.ensures v.ensures.0 w.ensures.0 x.ensures.0 d.ensures h.ensures y.ensures
