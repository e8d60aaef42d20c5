use Rattle.values.proofs.FixedLaws.{key_read}
use Rattle.values.proofs.fixed.key_of.Goals as goal

pub returns : goal.returns
returns c =
    key_read c.args.s.now c.odd.result c.odd-2.result c.odd-3.result c.odd-4.result c.odd-5.result c.address_of-address.result c.target_of-target.result
    c.odd.ensures c.odd-2.ensures c.odd-3.ensures c.odd-4.ensures c.odd-5.ensures c.address_of-address.ensures c.target_of-target.ensures
