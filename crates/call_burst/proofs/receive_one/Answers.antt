-- `call_burst::receive_one` meets its contract: a single call behind the check, given the rest of the output. Assumes nothing.
use Prim.Native.Nat.{◌+◌, ◌-◌}
use native.Mathlib.Omega.{arith}
use Rattle.call_burst.proofs.One.{one}
use Rattle.call_burst.proofs.receive_one.Goals as goal

pub returns : goal.returns
returns c =
    let a = c.args in
    one a.cells.now a.octets.now a.at a.length a.sender a.interface a.time a.out.now a.from c.requires (a.at + a.length - a.at) (omega arith)
    c.receive_checked.new.cells c.receive_checked.new.out c.receive_checked.result c.receive_checked.auto.out c.receive_checked.ensures.0 c.receive_checked.ensures.1
