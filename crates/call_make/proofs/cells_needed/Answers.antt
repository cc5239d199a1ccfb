-- Head and records of an allowed capacity, and 0 for another.
use Rattle.call_make.proofs.Making.{needed_some, needed_none}
use Rattle.call_make.proofs.cells_needed.Goals as goal

pub returns-then-capacity : goal.returns-then-capacity
returns-then-capacity c = needed_some c.args.capacity c.if-capacity.true

pub returns : goal.returns
returns c = needed_none c.args.capacity c.if-capacity.false
