-- Five cells are set, and those of the links are lent to be filled with them, so the row is the address, these, and the entries as they were.
use mathlib.Core.Path.{ap}
use Prim.Native.Nat.{◌*◌}
use native.Mathlib.Omega.{arith}
use lib.ListN.{length, length-set, length-append}
use Rattle.cells.specs.Area.{fit}
use Rattle.cells.proofs.Areas.{length-fit}
use Rattle.table_record.specs.Record.{entries_part}
use Rattle.table_record.proofs.Rows.{entries-size}
use Rattle.rules.specs.Settings.{link_most, link_cells}
use Rattle.count_in_record.proofs.Rows.{lent-size, store_cells}
use Rattle.count_in_record.proofs.store.Goals as goal
use Rattle.count_in_record.proofs.store.Goals.{After-slice_known-2-1}

pub bounds-row-5 : goal.bounds-row-5
bounds-row-5 c = simp length-set (omega arith)

pub slice_bounds-fill-end : goal.slice_bounds-fill-end
slice_bounds-fill-end c = simp length-set (omega arith)

pub fill-requires : goal.fill-requires
fill-requires c =
    let a = c.args in
    omega (arith, lent-size a.row.now a.current a.m.time a.m.ttl a.left.links a.left.best c.requires.0, c.requires.1)

pub returns : goal.returns
returns c =
    let a = c.args in
    store_cells a.row.now a.current a.m.time a.m.ttl a.left.links a.left.best c.requires.0 c.fill.new.cells a.links.now c.fill.ensures

-- so it has as many cells as before
pub shape_of-row : goal.shape_of-row
shape_of-row c =
    let row = c.args.row.now in
    let ls = fit (link_most * link_cells) c.args.links.now in
    omega (arith, ap length (returns (goal.at.shape_of-row c).After-slice_known-2-1), length-append ls (entries_part row), length-fit (link_most * link_cells) c.args.links.now, entries-size row c.requires.0, c.requires.0)
