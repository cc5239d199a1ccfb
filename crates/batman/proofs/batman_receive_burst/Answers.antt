-- A refused call leaves the lent rows as they are.
use Rattle.call_burst.proofs.Calls.{refused_promised}
use Rattle.batman.proofs.batman_receive_burst.Goals as goal

pub returns-in-Err : goal.returns-in-Err
returns-in-Err c = rw c.number.ensures (refused_promised _ _ _ _ _ _ _ _ _ _ _ c.in-Err.ensures)
