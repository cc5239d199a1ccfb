-- `call_own_packet::drop_rows` meets its contract. Assumes nothing.
use mathlib.Core.Path.{refl}
use borrow.Author.Rules.{rules}
use lib.ListN.{length-set}
use Rattle.call_own_packet.proofs.Steps.{rows_dropped, rows_few}
use Rattle.call_own_packet.proofs.drop_rows.Goals as goal

pub bounds-cells-7 : goal.bounds-cells-7
bounds-cells-7 c = simp length-set (search rules)

pub returns : goal.returns
returns c s e =
    rows_dropped s c.args.cells.now _ _ _ c.args.i c.args.number c.args.time e refl c.drop_old-kept.ensures.0 c.drop_old-kept.ensures.1
    (rows_few s c.args.cells.now c.requires e)
