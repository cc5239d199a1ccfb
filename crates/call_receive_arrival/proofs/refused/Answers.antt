-- `call_receive_arrival::refused` meets its contract: the fault's number and place, and no route. Assumes nothing.
use mathlib.Core.Path.{ap, ◌∙◌}
use Rattle.rules.specs.Calls.{received_as}
use Rattle.call_receive_arrival.proofs.refused.Goals as goal

pub returns : goal.returns
returns c =
    let f = c.args.fault in
    c.received_as.ensures ∙ ap (received_as f.number f.place 0) c.no_route.ensures
