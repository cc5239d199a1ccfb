-- `call_own_packet::own_packet` meets its contract: refused by 1, refused by the rules, or sent. Assumes nothing.
use mathlib.Core.Path.{◌≡◌, refl, sym, ap, ◌∙◌}
use mathlib.Core.Bool.{true}
use mathlib.Core.Option.{none}
use Rattle.table_layout.specs.Cells.{well_formed}
use Rattle.table_layout.specs.Facts.{Knows}
use Rattle.table_check.proofs.Checked as checked
use Rattle.call_own_packet_checks.specs.OwnPacket.{args, fault_in}
use Rattle.call_own_packet.proofs.Call.{ill_formed, faulty, sends, used, room}
use Rattle.call_own_packet.proofs.own_packet.Goals as goal
use Rattle.call_own_packet.proofs.own_packet.Goals.{In_default, Else-not-well_formed}

-- ---- refused by 1
pub returns-then-not-well_formed : goal.returns-then-not-well_formed
returns-then-not-well_formed c =
    rw c.refused.ensures (ill_formed (c.args.cells.now) (args c.args.interface c.args.time c.args.ttl c.args.gateway c.args.port c.args.hna.now c.args.out.now) (checked.ill _ c.well_formed-2.ensures c.if-not-well_formed.true-raw))

-- ---- the table is well-formed, from here on
well : (c : goal.Else-not-well_formed) → well_formed (c.args.cells.now) ≡ true
well c = checked.well _ c.well_formed-2.ensures c.if-not-well_formed.false-raw

known : (c : goal.Else-not-well_formed) → Knows (c.args.cells.now)
known c = checked.known _ c.well_formed-2.ensures c.if-not-well_formed.false-raw

pub own_fault-requires : goal.own_fault-requires
own_fault-requires c = known (goal.at.own_fault-requires c).Else-not-well_formed

pub returns-in-Err : goal.returns-in-Err
returns-in-Err c =
    let a = c.args in
    rw c.refused-in-Err.ensures
    (faulty a.cells.now (args a.interface a.time a.ttl a.gateway a.port a.hna.now a.out.now) (well (goal.at.returns-in-Err c).Else-not-well_formed) _ (sym (c.in-Err.ensures a.gateway a.port a.out.now refl)))

-- nothing is refused
fine : (c : goal.In_default) → fault_in (c.args.cells.now) (args c.args.interface c.args.time c.args.ttl c.args.gateway c.args.port c.args.hna.now c.args.out.now) ≡ none
fine c = sym (c.in_default.ensures c.args.gateway c.args.port c.args.out.now refl)

pub send_packet-requires : goal.send_packet-requires
send_packet-requires c =
    let a = c.args in (
      known (goal.at.send_packet-requires c).Else-not-well_formed,
      used a.cells.now a.interface a.time a.ttl a.gateway a.port a.hna.now a.out.now (fine (goal.at.send_packet-requires c).In_default),
      room a.cells.now a.interface a.time a.ttl a.gateway a.port a.hna.now a.out.now (fine (goal.at.send_packet-requires c).In_default),
    )

pub returns : goal.returns
returns c =
    sends (c.args.cells.now) (args c.args.interface c.args.time c.args.ttl c.args.gateway c.args.port c.args.hna.now c.args.out.now) (well (goal.at.returns c).Else-not-well_formed) (fine (goal.at.returns c).In_default) _ _ c.send_packet.ensures
