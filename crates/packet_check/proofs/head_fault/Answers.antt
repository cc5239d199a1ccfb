-- `packet_check::head_fault` meets its contract. Assumes nothing.
use mathlib.Core.Path.{◌∙◌}
use borrow.Author.Rules.{rules}
use Rattle.wire.proofs.Order.{short, long, other_version, same_version}
use Rattle.packet_check.proofs.head_fault.Goals as goal

pub returns-then-n-lt-HEADER_SIZE : goal.returns-then-n-lt-HEADER_SIZE
returns-then-n-lt-HEADER_SIZE c = short _ _ c.if-n-lt-HEADER_SIZE.true

pub returns-then-n-gt-PACKET_MOST : goal.returns-then-n-gt-PACKET_MOST
returns-then-n-gt-PACKET_MOST c = long _ _ (search rules) c.if-n-gt-PACKET_MOST.true

pub returns-then-from-version : goal.returns-then-from-version
returns-then-from-version c = other_version _ _ (search rules) (search rules) (λ e. c.if-from-version.true (c.from.ensures ∙ e))

pub returns : goal.returns
returns c = (search rules, same_version _ _ (search rules) (search rules) (search rules))
