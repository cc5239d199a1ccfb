-- `call_receive::receive` meets its contract: refused by 1, or received behind the check. Assumes nothing.
use mathlib.Core.Path.{ap, ◌∙◌}
use Rattle.table_check.proofs.Checked.{ill, known}
use Rattle.call_receive_arrival.specs.Receiving.{args_of, refused_by}
use Rattle.call_receive.proofs.Call.{ill_formed}
use Rattle.call_receive.proofs.receive.Goals as goal

pub returns-then-not-well_formed : goal.returns-then-not-well_formed
returns-then-not-well_formed c =
    let a = c.args in
    ill_formed a.cells.now (args_of a.packet.now a.sender a.interface a.time a.out.now) (ill _ c.well_formed-2.ensures c.if-not-well_formed.true-raw) _
    (c.refused.ensures ∙ ap refused_by c.into.ensures)

pub receive_checked-requires : goal.receive_checked-requires
receive_checked-requires c = known _ c.well_formed-2.ensures c.if-not-well_formed.false-raw

pub returns : goal.returns
returns c = c.receive_checked.ensures.0
