-- `seen_one`: the entry's mask is too short, it does not cover the address, or it is the best.
use Rattle.call_lookup.proofs.Scan.{short, missed, better}
use Rattle.call_lookup.proofs.seen_one.Goals as goal

pub returns-then-mask-best : goal.returns-then-mask-best
returns-then-mask-best c =
    let a = c.args in
    short a.address a.originator a.entry a.best c.mask_of-mask.ensures c.if-mask-best.true

pub returns-then-not-agree : goal.returns-then-not-agree
returns-then-not-agree c =
    let a = c.args in
    missed a.address a.originator a.entry a.best c.mask_of-mask.ensures c.network_of-network.ensures c.agree.ensures (c.if-not-agree.true)

pub returns : goal.returns
returns c =
    let a = c.args in
    better a.address a.originator a.entry a.best c.mask_of-mask.ensures c.network_of-network.ensures c.agree.ensures c.if-mask-best.false (c.if-not-agree.false)
