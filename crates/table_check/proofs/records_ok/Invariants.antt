-- Over the records that are left the pass comes out as over all.
use Rattle.std.proofs.Common.{◌≡◌, ℕ}
use Rattle.std.specs.Slice.Iter.{chunks_exact_rest, chunks_exact_size}
use Rattle.cells.specs.Area.{rows_of, scan}
use Rattle.cells.proofs.Chunks.{PassesOn}
use Rattle.rules.specs.Settings.{Config, record_cells}
use Rattle.table_record.specs.Record.{record_ok}
use Rattle.table_record_check.specs.Limits.{Describes}
use Rattle.table_check.proofs.records_ok.Given as goal

abbrev pub invariant-loop-row : goal.invariant-loop-row
invariant-loop-row l = record {
  size : chunks_exact_size l.row-iterator ≡ record_cells;
  tests : (κ : Config) (time : ℕ) → Describes κ time l.limits
      → PassesOn (record_ok κ time) record_cells l.low (chunks_exact_rest l.row-iterator) (scan (record_ok κ time) 0 (rows_of record_cells l.n l.part));
}
