-- The slice is filled with zeros.
use Rattle.std.proofs.Common.{◌∙◌, length, rules}
use Rattle.cells_moves.proofs.Moves.{all_zeros}
use Rattle.cells_moves.proofs.clear.Goals as goal

pub returns : goal.returns
returns c = c.fill.ensures.after (search rules) ∙ all_zeros (length c.args.cells.now)
