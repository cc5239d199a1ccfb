-- `packet_check::packet_fault` meets its contract. Assumes nothing.
use mathlib.Core.Path.{◌∙◌}
use Rattle.packet_check.proofs.Packets.{of_lent}
use Rattle.packet_check.proofs.packet_fault.Goals as goal

pub returns-then-is_clean : goal.returns-then-is_clean
returns-then-is_clean c = c.is_clean.ensures c.if-is_clean.true ∙ of_lent _ _ (c.in_ok-head_fault.ensures).1

pub returns : goal.returns
returns c = c.hna_fault.ensures ∙ of_lent _ _ (c.in_ok-head_fault.ensures).1
