-- The parts of a table's cells. Assumes nothing.
use mathlib.Core.Path.{◌≡◌, sym, ap, ◌∙◌}
use mathlib.Core.List.{List, ◌++◌}
use Prim.Native.Nat.{ℕ, ◌+◌, ◌*◌, ◌-◌, ◌≤◌, ◌<◌}
use native.Mathlib.Omega.{arith}
use lib.ListN.{length, take, drop, get_or, length-append, length-drop, take-append-drop}
use lib.Seq.{take-add, drop-drop, length-take-le, take_at, drop_at, get_or-take, get_or-drop}
use Rattle.cells.specs.Area.{cells_from}
use Rattle.cells.specs.Pairs.{pair_row, pair_cells, pair_area}
use Rattle.cells.proofs.Areas.{length-area}
use Rattle.cells.proofs.Pairs.{pair-wide}
use Rattle.cells.proofs.Lent.{cells_from_lem}
use Rattle.rules.specs.Settings.{interface_most, neighbour_most, interface_cells, record_cells, head_cells, interface_area_cells, neighbour_area_cells, table_head}
use Rattle.rules.specs.Table.{TableState}
use Rattle.table_record.specs.Record.{encode_record}
use Rattle.table_record.proofs.Rows.{length_record}
use Rattle.table_layout.specs.Layout.{interfaces_from, neighbours_from, records_from, interface_part, neighbour_part, record_part}
use Rattle.table_layout.specs.Interfaces.{rows_with, encode_interface}
use Rattle.table_layout.specs.Cells.{head_of, interface_area, record_area, encode}
use Rattle.table_layout.proofs.Interfaces.{interface-wide}

-- ---- of cells that have room for them

module _ (c : List ℕ) (big : table_head ≤ length c) where
  pub length-interfaces : length (interface_part c) ≡ interface_area_cells
  length-interfaces = length-take-le interface_area_cells (drop interfaces_from c) (rw (length-drop interfaces_from c) (omega arith))

  pub length_neighbours : length (neighbour_part c) ≡ neighbour_area_cells
  length_neighbours = length-take-le neighbour_area_cells (drop neighbours_from c) (rw (length-drop neighbours_from c) (omega arith))

  -- the head's cells one by one, and the three parts
  pub split : c ≡ cells_from 0 head_cells c ++ (interface_part c ++ (neighbour_part c ++ record_part c))
  split =
      let a : drop neighbours_from c ≡ neighbour_part c ++ record_part c =
      sym (take-append-drop neighbour_area_cells (drop neighbours_from c)) ∙ ap (λ (l : List ℕ). neighbour_part c ++ l) (drop-drop neighbour_area_cells neighbours_from c) in
      let b : drop interfaces_from c ≡ interface_part c ++ (neighbour_part c ++ record_part c) =
      sym (take-append-drop interface_area_cells (drop interfaces_from c)) ∙ ap (λ (l : List ℕ). interface_part c ++ l) (drop-drop interface_area_cells interfaces_from c ∙ a) in
      cells_from_lem 0 head_cells c (omega arith) ∙ ap (λ (l : List ℕ). cells_from 0 head_cells c ++ l) b

-- a cell of a part
pub interface_cell : (c : List ℕ) (j : ℕ) → j < interface_area_cells → get_or (interface_part c) j 0 ≡ get_or c (interfaces_from + j) 0
interface_cell c j h = get_or-take interface_area_cells (drop interfaces_from c) j 0 h ∙ get_or-drop interfaces_from c j 0

-- ---- of an encoded table

module _ (s : TableState) where
  abbrev rows : List ℕ
  rows = pair_area neighbour_most s.rows

  abbrev records : List ℕ
  records = record_area s.config.settings.capacity s.records

  pub wide-interfaces : length (interface_area s) ≡ interface_area_cells
  wide-interfaces = length-area encode_interface interface_cells interface-wide interface_most (rows_with s.sends 0 s.config.interfaces)

  pub wide_rows : length rows ≡ neighbour_area_cells
  wide_rows = length-area pair_row pair_cells pair-wide neighbour_most s.rows

  -- what stands before the neighbour rows, and from them on; what stands before the records, and from them on
  pub before-rows : take neighbours_from (encode s) ≡ head_of s ++ interface_area s
  unfolding encode
  before-rows = ap (λ (l : List ℕ). head_of s ++ l) (take_at (interface_area s) (rows ++ records) interface_area_cells wide-interfaces)

  pub from_rows : drop neighbours_from (encode s) ≡ rows ++ records
  unfolding encode
  from_rows = drop_at (interface_area s) (rows ++ records) interface_area_cells wide-interfaces

  pub before-records : take records_from (encode s) ≡ head_of s ++ interface_area s ++ rows
  before-records =
      take-add neighbours_from neighbour_area_cells (encode s) ∙ (λ i. before-rows i ++ take neighbour_area_cells (from_rows i))
      ∙ ap (λ (l : List ℕ). head_of s ++ interface_area s ++ l) (take_at rows records neighbour_area_cells wide_rows)

  pub records-lent : record_part (encode s) ≡ records
  records-lent = sym (drop-drop neighbour_area_cells neighbours_from (encode s)) ∙ ap (drop neighbour_area_cells) from_rows ∙ drop_at rows records neighbour_area_cells wide_rows

  pub interfaces-lent : interface_part (encode s) ≡ interface_area s
  unfolding encode
  interfaces-lent = take_at (interface_area s) (rows ++ records) interface_area_cells wide-interfaces

  pub rows-lent : neighbour_part (encode s) ≡ rows
  rows-lent = ap (take neighbour_area_cells) from_rows ∙ take_at rows records neighbour_area_cells wide_rows

  pub length-encode : length (encode s) ≡ table_head + s.config.settings.capacity * record_cells
  unfolding encode
  length-encode =
      let cap = s.config.settings.capacity in
      let r : length records ≡ cap * record_cells = length-area encode_record record_cells length_record cap s.records in
      omega (arith, wide-interfaces, wide_rows, length-append (head_of s) (interface_area s ++ (rows ++ records)), length-append (interface_area s) (rows ++ records), length-append rows records)

  pub encoded-size : records_from ≤ length (encode s)
  encoded-size = omega (arith, length-encode)
