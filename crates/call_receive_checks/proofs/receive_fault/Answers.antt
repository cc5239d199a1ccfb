-- `call_receive_checks::receive_fault` meets its contract: 2, 3, 4, or what the packet check says. Assumes nothing.
use mathlib.Core.Path.{sym, ap, ◌∙◌}
use native.Mathlib.Omega.{arith}
use Rattle.call_receive_checks.proofs.Arguments.{fault_2, fault_3, fault_4, fault_packet}
use Rattle.call_receive_checks.proofs.receive_fault.Goals as goal

-- ---- the ends
pub returns-then-cells-interface : goal.returns-then-cells-interface
returns-then-cells-interface c a o e =
    let s = c.args in
    sym (fault_2 s.cells.now s.packet.now a s.interface s.time o c.if-cells-interface.true)

pub returns-then-time-cells : goal.returns-then-time-cells
returns-then-time-cells c a o e =
    let s = c.args in
    sym (fault_3 s.cells.now s.packet.now a s.interface s.time o (omega arith) c.if-time-cells.true)

pub returns-then-room-packet : goal.returns-then-room-packet
returns-then-room-packet c a o e =
    let s = c.args in
    sym (fault_4 s.cells.now s.packet.now a s.interface s.time o (omega arith) (omega arith) (omega arith))

pub returns : goal.returns
returns c a o e =
    let s = c.args in
    c.packet_fault.ensures ∙ sym (fault_packet s.cells.now s.packet.now a s.interface s.time o (omega arith) (omega arith) (omega arith))
