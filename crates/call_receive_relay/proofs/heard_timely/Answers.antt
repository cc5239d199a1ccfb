-- `call_receive_relay::heard_timely` meets its contract: 11 or 15, or concluded by what the record answers. Assumes nothing.
use mathlib.Core.Path.{ap, ◌∙◌, subst}
use mathlib.Core.List.{List}
use Prim.Native.Nat.{ℕ, ◌<◌}
use native.Mathlib.Omega.{arith}
use lib.ListN.{length}
use Rattle.std.specs.Prelude.{Ok}
use Rattle.wire.specs.Packet.{hna}
use Rattle.rules.specs.Messages.{message_of}
use Rattle.table_layout.specs.Layout.{time_at}
use Rattle.table_originators.specs.Originators.{HeardAt}
use Rattle.call_receive_arrival.specs.Receiving.{call_of, Fits}
use Rattle.call_receive_arrival.proofs.Endings.{refused-left}
use Rattle.call_receive_relay.proofs.Messages.{again-full, again-same, again-counted, again_kept}
use Rattle.call_receive_relay.proofs.heard_timely.Goals as goal
use Rattle.call_receive_relay.proofs.heard_timely.Goals.{After-hear_at}

pub hear_at-requires : goal.hear_at-requires
hear_at-requires c = (c.requires.1.holds, c.requires.0.taken.link, c.requires.2, c.requires.3)

-- what the record answers
heard : (c : goal.After-hear_at) → let a = c.args in HeardAt a.cells.now c.hear_at.new.cells a.m.originator a.i (message_of a.m.ogm (hna a.packet.now)) a.bidirectional c.hear_at.result
heard c =
    let a = c.args in
    subst (λ (e : List ℕ). HeardAt a.cells.now c.hear_at.new.cells a.m.originator a.i (message_of a.m.ogm e) a.bidirectional c.hear_at.result) c.hna_of.ensures (c.hear_at.ensures _ c.requires.1)

-- what an end asks: the packet fits, and the cells have a time
ending : (c : goal.After-hear_at) → let a = c.args in Fits a.packet.now a.out.now a.m × (time_at < length c.hear_at.new.cells)
ending c = let t = c.requires.0.taken in (t.fits, omega (arith, t.knows.sized.size, c.hear_at.auto.cells))

-- ---- the ends
pub returns-in-Err : goal.returns-in-Err
returns-in-Err c =
    let e = c.in-Err.is in
    refused-left c.requires.0.taken.knows (call_of c.args.packet.now c.args.out.now c.args.m) (again-full c.requires.0 c.requires.1 (heard (goal.at.returns-in-Err c).After-hear_at) e) (again-same c.requires.0 c.requires.1 (heard (goal.at.returns-in-Err c).After-hear_at) e)
    c.into.ensures c.refused.ensures

pub returns-in-Ok-Counted : goal.returns-in-Ok-Counted
returns-in-Ok-Counted c =
    again-counted c.requires.0 c.requires.1 (heard (goal.at.returns-in-Ok-Counted c).After-hear_at) (c.in-Ok-Counted.is ∙ ap Ok c.in-Ok-Counted.field-0-is) c.conclude.ensures

pub returns-in-Ok-Uncounted : goal.returns-in-Ok-Uncounted
returns-in-Ok-Uncounted c =
    again_kept c.requires.0 c.requires.1 (heard (goal.at.returns-in-Ok-Uncounted c).After-hear_at) (c.in-Ok-Uncounted.is ∙ ap Ok c.in-Ok-Uncounted.field-0-is) c.conclude-in-Ok-Uncounted.ensures

pub conclude-requires : goal.conclude-requires
conclude-requires c = ending (goal.at.conclude-requires c).After-hear_at

pub conclude-requires-in-Ok-Uncounted : goal.conclude-requires-in-Ok-Uncounted
conclude-requires-in-Ok-Uncounted c = ending (goal.at.conclude-requires-in-Ok-Uncounted c).After-hear_at
