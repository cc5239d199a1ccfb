-- `call_receive_echo::take_echo` meets its contract: 9, or 22 with the row that the echo's link takes. Assumes nothing.
use mathlib.Core.Path.{◌∙◌, subst}
use lib.ListN.{get_or, length-set}
use Rattle.wire.specs.Packet.{header}
use Rattle.table_layout.specs.Layout.{rows_at, neighbour_part}
use Rattle.table_neighbours.specs.Neighbours.{Recorded}
use Rattle.call_receive_arrival.specs.Receiving.{call_of}
use Rattle.call_receive_arrival.proofs.Endings.{originator_is, leaves_by, refused-left, verdict-leaves}
use Rattle.table_neighbours.proofs.Lent.{rows-held}
use Rattle.call_receive_echo.proofs.Echoes.{full-cells, full_way, echo_way, echo-ends}
use mathlib.Core.List.{List}
use Prim.Native.Nat.{ℕ}
use borrow.Author.Rules.{rules}
use Rattle.call_receive_echo.proofs.take_echo.Goals as goal
use Rattle.call_receive_echo.proofs.take_echo.Goals.{In-Some}

pub record_echo-requires : goal.record_echo-requires
record_echo-requires c = rows-held c.args.cells.now c.requires.0.taken.knows

-- ---- no row and no room
pub returns-in_default : goal.returns-in_default
returns-in_default c p o t =
    let n = c.in_default.ensures in
    refused-left t.knows (call_of p o c.args.m) (full_way t n) (full-cells t n) c.into.ensures c.refused.ensures

-- ---- the row takes the number
recorded : (c : goal.In-Some) → let a = c.args in
    Recorded (get_or a.cells.now rows_at 0) (neighbour_part a.cells.now) c.record_echo.new.rows a.m.ogm.link a.m.ogm.sequence c.in-Some.held
recorded c = c.in-Some.ensures

pub verdict-requires : goal.verdict-requires
verdict-requires c =
    let h = c.requires in
    echo-ends h.0.taken h.1 (recorded (goal.at.verdict-requires c).In-Some) h.0.ruled

pub returns : goal.returns
returns c p o t =
    let h = c.requires in
    let w = c.verdict.ensures (echo-ends h.0.taken h.1 (recorded (goal.at.returns c).In-Some) h.0.ruled) in
    leaves_by (echo_way t h.1 (recorded (goal.at.returns c).In-Some)) (verdict-leaves _ (call_of p o c.args.m) (header p) 22 c.args.m.originator _ (originator_is t.fits) w.0 w.1)
