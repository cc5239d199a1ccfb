-- What a well-formed table tells: the facts that inner functions ask for.
use Rattle.std.specs.Prelude.{◌≡◌, List, true, ℕ, ◌+◌, ◌*◌, ◌≤◌, ◌<◌, length, take, drop, get_or}
use Rattle.rules.specs.Settings.{window_most, timeout_most, purge_most, capacity_most, tie_most, interface_most, neighbour_most, table_head, record_cells}
use Rattle.rules.specs.WellFormed as R
use Rattle.window.specs.Window.{numbers}
use Rattle.table_layout.specs.Layout.{window_at, timeout_at, purge_at, capacity_at, tie_at, used_at, rows_at, records_at, records_from, last_at, own_place}
use Rattle.table_layout.specs.Cells.{encode, decode}

-- the cells are as many as the capacity needs, and no more rows are held than the limits allow
pub record Sized (c : List ℕ) : Type 0 where
  pub size : length c ≡ table_head + get_or c capacity_at 0 * record_cells
  pub capacity : get_or c capacity_at 0 ≤ capacity_most
  pub window-least : 1 ≤ get_or c window_at 0
  pub window-most : get_or c window_at 0 ≤ window_most
  pub timeout : get_or c timeout_at 0 ≤ timeout_most
  pub purge : get_or c purge_at 0 ≤ purge_most
  pub tie : get_or c tie_at 0 ≤ tie_most
  pub used-least : 1 ≤ get_or c used_at 0
  pub used-most : get_or c used_at 0 ≤ interface_most
  pub rows : get_or c rows_at 0 ≤ neighbour_most
  pub records : get_or c records_at 0 ≤ get_or c capacity_at 0

-- the last sent number of each interface row is in its range, also where the row is unused
pub record Numbered (c : List ℕ) : Type 0 where
  pub last : (i : ℕ) → i < interface_most → get_or c (own_place i + last_at) 0 < numbers

-- what the calls know of a well-formed table's cells
pub record Knows (c : List ℕ) : Type 0 where
  pub sized : Sized c
  pub valid : R.well_formed (decode c) ≡ true
  pub cells : encode (decode c) ≡ c

-- the cells of record i
abbrev pub record_at : List ℕ → (i : ℕ) → List ℕ
record_at c i = take record_cells (drop (records_from + i * record_cells) c)
