-- `call_receive_arrival::conclude` meets its contract: 25, or 26 with the copy. Assumes nothing.
use mathlib.Core.Path.{refl}
use Rattle.call_receive_arrival.proofs.Endings.{kept-replies, ttl_positive, passed-replies}
use Rattle.call_receive_arrival.proofs.conclude.Goals as goal

-- ---- the ends
pub returns-then-not-m-direct : goal.returns-then-not-m-direct
returns-then-not-m-direct c =
    record { replies = kept-replies c.requires.0 c.args.bidirectional c.args.best c.args.route (c.if-not-m-direct.true) _ c.received_as.ensures; cells = refl }

pub pass_on-requires : goal.pass_on-requires
pass_on-requires c =
    let f = c.requires.0 in
    (f.size, f.room, ttl_positive f c.args.bidirectional c.args.best c.args.route (c.if-not-m-direct.false))

pub returns : goal.returns
returns c =
    record {
      replies =
          passed-replies c.requires.0 c.args.bidirectional c.args.best c.args.route (c.if-not-m-direct.false) _ _ _ c.flags_here.ensures c.flags_elsewhere.ensures c.pass_on.ensures
          _ c.received_as-2.ensures;
      cells = refl;
    }
