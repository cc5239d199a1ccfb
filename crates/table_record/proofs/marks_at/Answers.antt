-- `marks_at` reads the cell of the link's word.
use mathlib.Core.Path.{sym}
use Rattle.window.specs.Marks.{word_of}
use Rattle.table_record.proofs.Links.{word_cell}
use Rattle.table_record.proofs.marks_at.Goals as goal

pub returns : goal.returns
unfolding word_of
returns c = sym (word_cell c.args.part.now c.args.i)
