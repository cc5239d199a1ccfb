-- `key_at` reads the first cell of the link.
use mathlib.Core.Path.{sym}
use Rattle.table_record.proofs.Links.{key_cell}
use Rattle.table_record.proofs.key_at.Goals as goal

pub returns : goal.returns
returns c = sym (key_cell c.args.part.now c.args.i)
