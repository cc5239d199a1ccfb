-- The tests of the neighbour rows and of the records, in the order in which the check makes them. They are those of RULES 5.3, see `well_formed`.
use Rattle.std.specs.Prelude.{List, map, Bool, ◌&&◌, ℕ, ◌*◌, drop, get_or}
use Rattle.lists.specs.Lists.{and, all}
use Rattle.lists.specs.Keyed.{rising}
use Rattle.cells.specs.Area.{rows_of, all_zero}
use Rattle.rules.specs.Settings.{Config, record_cells}
use Rattle.rules.specs.WellFormed.{row_tests}
use Rattle.table_record.specs.Record.{decode_record, record_ok}
use Rattle.table_layout.specs.Layout.{time_at, records_at, record_part}
use Rattle.table_layout.specs.Cells.{config_in, sends_in, rows_in, unused_rows}

unfoldable pub neighbours_ok : List ℕ → Bool
neighbours_ok c = rising (rows_in c) && all (λ e. and (row_tests (config_in c) (sends_in c) e)) (rows_in c) && all_zero (unused_rows c)

-- of the part from the first record on
abbrev pub record_rows_ok : Config → (now n : ℕ) → List ℕ → Bool
record_rows_ok κ now n part = rising (map decode_record (rows_of record_cells n part)) && all (record_ok κ now) (rows_of record_cells n part) && all_zero (drop (n * record_cells) part)

unfoldable pub records_ok : List ℕ → Bool
records_ok c = record_rows_ok (config_in c) (get_or c time_at 0) (get_or c records_at 0) (record_part c)
