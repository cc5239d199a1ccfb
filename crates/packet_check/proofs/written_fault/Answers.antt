-- `packet_check::written_fault` meets its contract. Assumes nothing.
use mathlib.Core.Path.{◌∙◌}
use borrow.Author.Rules.{rules}
use Rattle.wire.proofs.Order.{too_many, few}
use Rattle.packet_check.proofs.written_fault.Goals as goal

pub returns-then-hna : goal.returns-then-hna
returns-then-hna c = too_many _ c.if-hna.true

pub returns-then-is_clean : goal.returns-then-is_clean
returns-then-is_clean c = c.is_clean.ensures c.if-is_clean.true ∙ few _ (search rules)

pub returns : goal.returns
returns c = c.hna_fault.ensures ∙ few _ (search rules)
