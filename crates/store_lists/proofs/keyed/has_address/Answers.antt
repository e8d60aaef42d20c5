use Rattle.lists.proofs.Kit.{rules, arith, ◌-◌}
use Rattle.store_lists.proofs.AddressLaws.{OthersTo, others_on, others_end, looked_yes}
use Rattle.store_lists.proofs.keyed.has_address.Goals as goal

pub returns-then-list-lt2 : goal.returns-then-list-lt2
returns-then-list-lt2 c = let a = c.args in looked_yes a.x a.y a.z a.list.now

pub returns-then-list-held : goal.returns-then-list-held
returns-then-list-held c = let a = c.args in looked_yes a.x a.y a.z a.list.now

pub loop-i-init : goal.loop-i-init
loop-i-init c j l = absurd (omega arith)

pub returns-then-same_address : goal.returns-then-same_address
returns-then-same_address c = let a = c.args in looked_yes a.x a.y a.z a.list.now

pub loop-i-preserved : goal.loop-i-preserved
loop-i-preserved c =
    let a = c.args in
    let l = c.loop-i in
    others_on a.x a.y a.z a.list.now l.i l.invariant (c.same_address.ensures c.if-same_address.false)

pub returns : goal.returns
returns c =
    let a = c.args in
    let l = c.loop-i in
    let h = c.count-held in
    others_end a.x a.y a.z a.list.now l.i h.result h.ensures (omega arith) l.invariant
