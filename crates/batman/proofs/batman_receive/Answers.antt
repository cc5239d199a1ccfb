-- The arguments are in the ranges of their types.
use Rattle.std.proofs.Common.{arith}
use Rattle.call_receive_checks.proofs.Arguments.{typed_of}
use Rattle.batman.proofs.batman_receive.Goals as goal

pub returns : goal.returns
returns c =
    let a = c.args in
    record {
      performed = c.receive.ensures;
      typed = typed_of a.packet.now a.sender a.time (omega (arith, c.ranges.sender)) (λ k. omega (arith, c.type_inv.packet k)) (omega (arith, c.ranges.time));
    }
