-- `call_own_packet::send_packet` meets its contract: its steps, one after the other. Assumes nothing.
use Prim.Native.Nat.{◌+◌, ◌-◌}
use native.Mathlib.Omega.{arith}
use Rattle.rules.specs.Settings.{interface_cells}
use Rattle.table_layout.specs.Layout.{own_place}
use Rattle.call_own_packet_checks.proofs.Message.{next_is}
use Rattle.call_own_packet.proofs.Steps.{rows-kept, sent-all}
use Rattle.call_own_packet.proofs.send_packet.Goals as goal

-- ---- the steps
pub drop_rows-requires : goal.drop_rows-requires
drop_rows-requires c =
    rows-kept c.args.cells.now c.requires.0 _ _ c.mark_sent.ensures

pub returns : goal.returns
returns c =
    let number = c.next_number-number in
    let a = c.args in
    sent-all a.cells.now c.requires.0 a.i a.time a.ttl a.gateway a.port a.hna.now a.out.now number.result
    (next_is a.cells.now c.requires.0 a.i c.requires.1 (own_place a.i + interface_cells - own_place a.i) number.result (omega arith) number.ensures) c.own_header-h.result
    c.write_packet-length.result _ _ _ c.own_header-h.ensures c.write_packet-length.ensures.0 c.write_packet-length.ensures.1 c.mark_sent.ensures c.drop_rows.ensures _ c.written_as.ensures
