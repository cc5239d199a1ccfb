-- `call_receive_arrival::end_stale` meets its contract: 27, and the time is set. Assumes nothing.
use mathlib.Core.Path.{refl}
use Rattle.call_receive_arrival.proofs.end_stale.Goals as goal

pub returns : goal.returns
returns c = record { replies = c.received_as.ensures; cells = refl }
