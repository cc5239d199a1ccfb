-- Where a table's values stand in its cells. docs/LAYOUT.md says the same. (RULES 2.4)
use Rattle.std.specs.Prelude.{List, ℕ, ◌+◌, ◌*◌, take, drop}
use Rattle.rules.specs.Settings.{setting_cells, head_cells, interface_cells, interface_area_cells, neighbour_area_cells, table_head}

-- ---- the head: the settings, then interfaces in use, time, neighbour rows held, originators held

abbrev pub version_at : ℕ
version_at = 0

abbrev pub window_at : ℕ
window_at = 1

abbrev pub timeout_at : ℕ
timeout_at = 2

abbrev pub purge_at : ℕ
purge_at = 3

abbrev pub capacity_at : ℕ
capacity_at = 4

abbrev pub tie_at : ℕ
tie_at = 5

abbrev pub used_at : ℕ
used_at = setting_cells

abbrev pub time_at : ℕ
time_at = setting_cells + 1

abbrev pub rows_at : ℕ
rows_at = setting_cells + 2

abbrev pub records_at : ℕ
records_at = setting_cells + 3

-- ---- the places in an interface row

abbrev pub own_at : ℕ
own_at = 0

abbrev pub broadcast_at : ℕ
broadcast_at = 1

abbrev pub first_at : ℕ
first_at = 2

-- 1 once the interface has sent, else 0
abbrev pub sent_at : ℕ
sent_at = 3

-- the last sent number, 0 before the first
abbrev pub last_at : ℕ
last_at = 4

-- ---- after the head: four interface rows, 32 neighbour rows, and a record for each originator of the capacity

abbrev pub interfaces_from : ℕ
interfaces_from = head_cells

abbrev pub neighbours_from : ℕ
neighbours_from = interfaces_from + interface_area_cells

abbrev pub records_from : ℕ
records_from = table_head

abbrev pub interface_part : List ℕ → List ℕ
interface_part c = take interface_area_cells (drop interfaces_from c)

abbrev pub neighbour_part : List ℕ → List ℕ
neighbour_part c = take neighbour_area_cells (drop neighbours_from c)

abbrev pub record_part : List ℕ → List ℕ
record_part c = drop records_from c

-- where the own address of interface i stands
abbrev pub own_place : (i : ℕ) → ℕ
own_place i = interfaces_from + i * interface_cells
