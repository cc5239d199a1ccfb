-- A table of the rules in cells, and cells that are a table's.
use Rattle.std.specs.Prelude.{List, [], ◌∷◌, ◌++◌, map, Bool, ℕ, ◌*◌, eqb, length, drop, get_or}
use Rattle.lists.specs.Lists.{and, all}
use Rattle.cells.specs.Area.{area, rows_of, all_zero}
use Rattle.cells.specs.Pairs.{pair_area, pairs_of}
use Rattle.rules.specs.declared.Settings.{Settings}
use Rattle.rules.specs.Settings.{Config, interface_most, neighbour_most, interface_cells, neighbour_cells, record_cells, cells_needed}
use Rattle.rules.specs.Rules.{Sends}
use Rattle.rules.specs.Table.{TableRows, TableRecord, TableState}
use Rattle.rules.specs.WellFormed as R
use Rattle.table_record.specs.Record.{encode_record, decode_record, unused_zero}
use Rattle.table_layout.specs.Layout.{version_at, window_at, timeout_at, purge_at, capacity_at, tie_at, used_at, time_at, rows_at, records_at, interface_part, neighbour_part, record_part}
use Rattle.table_layout.specs.Interfaces.{InterfaceRow, rows_with, sends_of, encode_interface, decode_interface, sent_tests}

-- ---- from a table to cells

abbrev pub settings_row : Settings → List ℕ
settings_row σ = σ.version ∷ σ.window ∷ σ.timeout ∷ σ.purge ∷ σ.capacity ∷ σ.tie ∷ []

abbrev pub head_of : TableState → List ℕ
head_of s = settings_row s.config.settings ++ (length s.config.interfaces ∷ s.time ∷ length s.rows ∷ length s.records ∷ [])

abbrev pub interface_area : TableState → List ℕ
interface_area s = area encode_interface interface_cells interface_most (rows_with s.sends 0 s.config.interfaces)

abbrev pub record_area : (capacity : ℕ) → List (ℕ × TableRecord) → List ℕ
record_area capacity es = area encode_record record_cells capacity es

unfoldable pub encode : TableState → List ℕ
encode s = head_of s ++ (interface_area s ++ (pair_area neighbour_most s.rows ++ record_area s.config.settings.capacity s.records))

-- ---- and back

abbrev pub settings_in : List ℕ → Settings
settings_in c = record {
  version = get_or c version_at 0;
  window = get_or c window_at 0;
  timeout = get_or c timeout_at 0;
  purge = get_or c purge_at 0;
  capacity = get_or c capacity_at 0;
  tie = get_or c tie_at 0;
}

abbrev pub interfaces_in : List ℕ → List InterfaceRow
interfaces_in c = map decode_interface (rows_of interface_cells (get_or c used_at 0) (interface_part c))

abbrev pub config_in : List ℕ → Config
config_in c = record { settings = settings_in c; interfaces = map (λ r. r.0) (interfaces_in c) }

abbrev pub sends_in : List ℕ → Sends
sends_in c = sends_of 0 (interfaces_in c)

abbrev pub rows_in : List ℕ → TableRows
rows_in c = pairs_of (get_or c rows_at 0) (neighbour_part c)

abbrev pub records_in : List ℕ → List (ℕ × TableRecord)
records_in c = map decode_record (rows_of record_cells (get_or c records_at 0) (record_part c))

unfoldable pub decode : List ℕ → TableState
decode c = record { config = config_in c; time = get_or c time_at 0; sends = sends_in c; rows = rows_in c; records = records_in c }

-- ---- RULES 5.3, "Well-formed"

-- each part beyond the rows that it holds
abbrev pub unused_interfaces : List ℕ → List ℕ
unused_interfaces c = drop (get_or c used_at 0 * interface_cells) (interface_part c)

abbrev pub unused_rows : List ℕ → List ℕ
unused_rows c = drop (get_or c rows_at 0 * neighbour_cells) (neighbour_part c)

abbrev pub unused_records : List ℕ → List ℕ
unused_records c = drop (get_or c records_at 0 * record_cells) (record_part c)

-- the cells are as many as the capacity needs; the table that they hold is well-formed by the rules; unused cells are zero
abbrev pub cell_tests : List ℕ → List Bool
cell_tests c =
    eqb (length c) (cells_needed (get_or c capacity_at 0))
    ∷ R.well_formed (decode c)
    ∷ all (λ row. and (sent_tests row)) (rows_of interface_cells (get_or c used_at 0) (interface_part c))
    ∷ all_zero (unused_interfaces c)
    ∷ all_zero (unused_rows c)
    ∷ all unused_zero (rows_of record_cells (get_or c records_at 0) (record_part c))
    ∷ all_zero (unused_records c)
    ∷ []

unfoldable pub well_formed : List ℕ → Bool
well_formed c = and (cell_tests c)
