-- Making a table.
use Rattle.std.specs.Prelude.{List, [], ◌∷◌, ◌++◌, cond, ℕ, take}
use Rattle.cells.specs.Area.{area}
use Rattle.rules.specs.declared.Settings.{Settings}
use Rattle.rules.specs.declared.Interface.{Interface}
use Rattle.rules.specs.Settings.{MakeArgs, capacity_most, interface_most, interface_cells, within, cells_needed}
use Rattle.table_layout.specs.Interfaces.{rows_with, encode_interface}
use Rattle.table_layout.specs.Cells.{settings_row}

-- what make is given
abbrev pub make_args : Settings → List Interface → (used : ℕ) → MakeArgs
make_args σ rows used = record { settings = σ; rows = rows; used = used }

-- how many cells a capacity needs; 0 for one that is not allowed (RULES 2.4)
unfoldable pub needed_for : (capacity : ℕ) → ℕ
needed_for capacity = cond (within 1 capacity_most capacity) (cells_needed capacity) 0

-- the cells of a fresh table's head: time, neighbour rows held and originators held are 0
abbrev pub fresh_head : Settings → (used : ℕ) → List ℕ
fresh_head σ used = settings_row σ ++ (used ∷ 0 ∷ 0 ∷ 0 ∷ [])

-- the cells of its interface rows: none has sent
abbrev pub fresh_rows : List Interface → (used : ℕ) → List ℕ
fresh_rows rows used = area encode_interface interface_cells interface_most (rows_with [] 0 (take used rows))

abbrev pub no_interface : Interface
no_interface = record { own = 0; broadcast = 0; first = 0 }
