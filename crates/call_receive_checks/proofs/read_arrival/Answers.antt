-- `call_receive_checks::read_arrival` meets its contract: the message, and that the call's arguments are in the ranges of their types. Assumes nothing.
use mathlib.Core.Path.{ap}
use native.Mathlib.Omega.{arith}
use Rattle.wire.specs.declared.Header.{Header}
use Rattle.rules.specs.Calls.{link_of}
use Rattle.call_receive_checks.proofs.Arguments.{typed_of}
use Rattle.call_receive_checks.proofs.read_arrival.Goals as goal

pub returns : goal.returns
unfolding link_of
returns c =
    let a = c.args in (
      ap (λ (h : Header). record {
        sender = a.sender;
        interface = a.interface;
        flags = h.flags;
        originator = h.originator;
        ogm = record { link = link_of a.sender a.interface; sequence = h.sequence; ttl = h.ttl; time = a.time };
      }) c.read-h.ensures,
      λ o. typed_of a.packet.now a.sender a.time (omega (arith, c.ranges.sender)) (λ k. omega (arith, c.shared_slice_known-1.given k)) (omega (arith, c.ranges.time)),
    )
