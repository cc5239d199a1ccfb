-- Moved up, then written over, is put in.
use native.Mathlib.Omega.{arith}
use Rattle.cells_moves.proofs.Moves.{put-done}
use Rattle.cells_moves.proofs.put_in.Goals as goal

pub returns : goal.returns
returns c =
    let a = c.args in
    let up = c.move_up in
    let over = c.write in
    put-done a.cells.now a.row.now up.new.cells over.new.cells a.at (omega arith) up.ensures over.ensures
