-- Over the rows that are left the pass comes out as over all.
use Rattle.std.proofs.Common.{◌≡◌, get_or}
use Rattle.std.specs.Slice.Iter.{chunks_exact_rest, chunks_exact_size}
use Rattle.cells.specs.Area.{rows_of, scan}
use Rattle.cells.proofs.Chunks.{PassesOn}
use Rattle.rules.specs.Settings.{neighbour_cells}
use Rattle.table_layout.specs.Layout.{rows_at, neighbour_part}
use Rattle.table_check.proofs.Turns.{neighbour_row}
use Rattle.table_check.proofs.neighbours_ok.Given as goal

abbrev pub invariant-loop-row : goal.invariant-loop-row
invariant-loop-row l = record {
  size : chunks_exact_size l.row-iterator ≡ neighbour_cells;
  tests : PassesOn (neighbour_row l.cells) neighbour_cells l.low (chunks_exact_rest l.row-iterator)
      (scan (neighbour_row l.cells) 0 (rows_of neighbour_cells (get_or l.cells rows_at 0) (neighbour_part l.cells)));
}
