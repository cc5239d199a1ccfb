-- How many entries there are is set, and the cells from the first entry's on are lent to be filled with them.
use mathlib.Core.Path.{ap}
use native.Mathlib.Omega.{arith}
use lib.ListN.{length, length-set}
use Rattle.count_entries.proofs.Rows.{lent-size, kept-cells, length-kept}
use Rattle.count_entries.proofs.keep_entries.Goals as goal
use Rattle.count_entries.proofs.keep_entries.Goals.{After-slice_known-2-1}

pub slice_bounds-fill_entries-start : goal.slice_bounds-fill_entries-start
slice_bounds-fill_entries-start c = simp length-set (omega (arith, c.requires.0))

pub fill_entries-requires : goal.fill_entries-requires
fill_entries-requires c =
    omega (arith, lent-size c.args.row.now c.entry_count.result c.requires.0, c.requires.1)

pub returns : goal.returns
returns c =
    kept-cells c.args.row.now c.entry_count.result c.requires.0 c.args.hna.now c.fill_entries.new.part c.entry_count.ensures c.fill_entries.ensures

-- so it has as many cells as before
pub shape_of-row : goal.shape_of-row
shape_of-row c =
    omega (arith, ap length (returns (goal.at.shape_of-row c).After-slice_known-2-1), length-kept c.args.row.now c.args.hna.now c.requires.0, c.requires.0)
