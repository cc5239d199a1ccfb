-- A refused call leaves the lent rows as they are.
use Rattle.call_list.proofs.Answers.{refused_promised}
use Rattle.batman.proofs.batman_list.Goals as goal

pub returns-in-Err : goal.returns-in-Err
returns-in-Err c = rw c.number.ensures (refused_promised _ _ _ _ c.in-Err.ensures)
