use mathlib.Core.Path.{◌≡◌}
use lib.ListN.{length}
use Rattle.call_burst.specs.Bursts.{Enough}
use Rattle.call_burst.proofs.Each.{Going}
use Rattle.call_burst.proofs.receive_each.Given as goal

abbrev pub invariant-loop-i : goal.invariant-loop-i
invariant-loop-i l =
    Enough l.initial.cells l.octets l.lengths l.senders l.interfaces × Going l.initial.cells l.octets l.lengths l.senders l.interfaces l.time l.initial.out l.cells l.out l.rows l.at l.from l.i × (length l.cells ≡ length l.initial.cells)
