-- The row is written, and what follows it is lent to be cleared.
use native.Mathlib.Omega.{arith}
use Rattle.cells_moves.proofs.Moves.{filled}
use Rattle.cells_moves.proofs.fill.Goals as goal

pub returns : goal.returns
returns c =
    let a = c.args in
    filled a.cells.now a.row.now c.write.new.cells c.clear.new.cells (omega arith) c.write.ensures c.write.auto.cells c.clear.ensures
