-- `put_link` writes the two cells of the link.
use native.Mathlib.Omega.{arith}
use lib.ListN.{length-set}
use Rattle.window.specs.Marks.{word_of}
use Rattle.table_record.proofs.Links.{link-put}
use Rattle.table_record.proofs.put_link.Goals as goal

pub bounds-out-at-2 : goal.bounds-out-at-2
bounds-out-at-2 c = simp length-set (omega arith)

pub returns : goal.returns
unfolding word_of
returns c = link-put c.args.out.now c.args.i c.args.key c.args.marks.word c.requires
