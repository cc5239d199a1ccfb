-- The tests of the head and of the interface rows, in the order in which the check makes them. They are those of RULES 5.3, see `well_formed`.
use Rattle.std.specs.Prelude.{List, [], ◌∷◌, Bool, ◌&&◌, ◌||◌, ℕ, leb, eqb, length, get_or}
use Rattle.lists.specs.Lists.{and, all}
use Rattle.cells.specs.Area.{rows_of, all_zero}
use Rattle.rules.specs.Settings.{settings_ok, interface_most, neighbour_most, interface_cells, is_address, is_number, within, differ, own_addresses, cells_needed}
use Rattle.table_layout.specs.Layout.{capacity_at, used_at, rows_at, records_at, own_at, broadcast_at, first_at, sent_at, last_at, interface_part}
use Rattle.table_layout.specs.Cells.{settings_in, config_in, unused_interfaces}

-- settings and the numbers of rows held, then how many cells there are
unfoldable pub head_ok : List ℕ → Bool
head_ok c =
    settings_ok (settings_in c)
    && (within 1 interface_most (get_or c used_at 0)
    && (leb (get_or c rows_at 0) neighbour_most && (leb (get_or c records_at 0) (get_or c capacity_at 0) && eqb (length c) (cells_needed (get_or c capacity_at 0)))))

abbrev pub interface_row_tests : List ℕ → List Bool
interface_row_tests row =
    is_address (get_or row own_at 0)
    ∷ is_address (get_or row broadcast_at 0)
    ∷ is_number (get_or row first_at 0)
    ∷ leb (get_or row sent_at 0) 1
    ∷ is_number (get_or row last_at 0)
    ∷ (eqb (get_or row sent_at 0) 1 || eqb (get_or row last_at 0) 0)
    ∷ []

abbrev pub interface_row_ok : List ℕ → Bool
interface_row_ok row = and (interface_row_tests row)

unfoldable pub interfaces_ok : List ℕ → Bool
interfaces_ok c = all interface_row_ok (rows_of interface_cells (get_or c used_at 0) (interface_part c)) && all_zero (unused_interfaces c) && differ (own_addresses (config_in c))
