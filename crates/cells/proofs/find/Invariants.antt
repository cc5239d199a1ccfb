use Rattle.cells.specs.Area.{column}
use Rattle.cells.proofs.Search.{Going}
use Rattle.cells.proofs.find.Given as goal

abbrev pub invariant-loop-left : goal.invariant-loop-left
invariant-loop-left l = Going (column l.w l.n l.cells) l.key l.n l.low l.left l.rounds

abbrev pub decreases-loop-left : goal.decreases-loop-left
decreases-loop-left l = l.left
