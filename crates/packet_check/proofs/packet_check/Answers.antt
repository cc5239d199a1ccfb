-- `packet_check::packet_check` meets its contract: number and place are small, so the sum fits. Assumes nothing.
use mathlib.Core.Path.{sym, ap, ◌∙◌}
use mathlib.Core.Option.{some}
use native.Mathlib.Omega.{arith}
use Rattle.wire.specs.Layout.{packet_most}
use Rattle.wire.proofs.Faults.{Small, packet-small}
use Rattle.packet_check.proofs.Packets.{as_number, no_number}
use Rattle.packet_check.proofs.packet_check.Goals as goal
use Rattle.packet_check.proofs.packet_check.Goals.{After-from-fault}

-- the refusal's number and place
small : (c : goal.After-from-fault) → Small packet_most c.from-fault.result
small c = packet-small _ _ _ (sym c.in-Err.ensures ∙ ap some (sym c.from-fault.ensures))

pub overflow_mul-result : goal.overflow_mul-result
overflow_mul-result c = record { fits = omega (arith, (small (goal.at.overflow_mul-result c).After-from-fault).place) }

pub overflow_add-result : goal.overflow_add-result
overflow_add-result c = let s = small (goal.at.overflow_add-result c).After-from-fault in record { fits = omega (arith, s.number, s.place) }

pub returns-in-Ok : goal.returns-in-Ok
returns-in-Ok c = no_number _ _ (sym c.in-Ok.ensures)

pub returns-in-Err : goal.returns-in-Err
returns-in-Err c = as_number _ _ (sym c.in-Err.ensures ∙ ap some (sym c.from-fault.ensures))
