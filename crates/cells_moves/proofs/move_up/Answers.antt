use Rattle.std.proofs.Common.{◌∙◌, arith}
use Rattle.cells_moves.proofs.Moves.{copied_up}
use Rattle.cells_moves.proofs.move_up.Goals as goal

pub returns : goal.returns
returns c = let a = c.args in c.copy_within.ensures.after ∙ copied_up a.cells.now a.at a.w (omega arith)
