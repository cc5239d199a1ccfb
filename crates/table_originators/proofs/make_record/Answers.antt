-- The records from the place on are moved up, and the row that the first message makes is written there; its route is answered.
use mathlib.Core.Path.{◌≡◌, refl, ap, ◌∙◌}
use mathlib.Core.List.{List}
use Prim.Native.Nat.{ℕ, ◌+◌, ◌*◌, ◌-◌, ◌≤◌}
use native.Mathlib.Omega.{arith}
use lib.ListN.{length, take, drop, set, get_or, length-set}
use Rattle.cells.proofs.Lent.{part_length}
use Rattle.rules.specs.Settings.{record_cells}
use Rattle.rules.specs.Messages.{message_of}
use Rattle.rules.specs.Table.{first_record}
use Rattle.table_layout.specs.Layout.{records_at, records_from}
use Rattle.table_layout.specs.Cells.{decode}
use Rattle.count_in_record.specs.Counting.{FirstIn}
use Rattle.count_in_record.proofs.Left.{first-best}
use Rattle.table_originators.specs.Originators.{record_place}
use Rattle.table_originators.proofs.Changed.{place-fits, opened, opened_fits, opened_row, opened_same, record_in}
use Rattle.table_originators.proofs.make_record.Goals as goal
use Rattle.table_originators.proofs.make_record.Goals.{After-first_record-route, After-move_up, Start}

-- the row fits among the cells of the records, with room for one more
fits : (s : goal.Start) → let c = s.args.cells.now in s.args.i * record_cells + record_cells ≤ length (take (records_from + (get_or c records_at 0 + 1) * record_cells - records_from) (drop records_from c))
fits s = place-fits s.args.cells.now s.args.originator s.args.i s.requires.0 s.requires.1

-- and in all cells, once those from its place on are moved up
row_fits : (c : goal.After-move_up) → record_place c.args.i + record_cells ≤ length (opened c.args.cells.now c.args.originator c.args.i c.requires.0 c.requires.1 c.move_up.new.cells)
row_fits c = opened_fits c.args.cells.now c.args.originator c.args.i c.requires.0 c.requires.1 c.move_up.new.cells c.move_up.ensures

-- the row that is made, and its route
made-is : (c : goal.After-first_record-route) → FirstIn ((decode c.args.cells.now).config) (message_of c.args.m c.args.hna.now) c.args.originator c.first_record-route.new.row c.first_record-route.result
made-is c = c.first_record-route.ensures ((decode c.args.cells.now).config) c.policy_of-p.ensures.0

-- it is as wide as a record
row-size : (c : goal.After-first_record-route) → length c.first_record-route.new.row ≡ record_cells
row-size c =
    c.first_record-route.auto.row ∙ part_length (opened c.args.cells.now c.args.originator c.args.i c.requires.0 c.requires.1 c.move_up.new.cells) (record_place c.args.i) record_cells (opened_fits c.args.cells.now c.args.originator c.args.i c.requires.0 c.requires.1 c.move_up.new.cells c.move_up.ensures)

pub first_record-route-requires : goal.first_record-route-requires
first_record-route-requires c = (
  part_length (opened c.args.cells.now c.args.originator c.args.i c.requires.0 c.requires.1 c.move_up.new.cells) (record_place c.args.i) record_cells (row_fits (goal.at.first_record-route-requires c).After-move_up),
  c.policy_of-p.ensures.1,
  c.requires.2,
  c.requires.3,
)

pub shape_of-cells : goal.shape_of-cells
shape_of-cells c =
    simp length-set (opened_same c.args.cells.now c.args.originator c.args.i c.requires.0 c.requires.1 c.move_up.new.cells c.move_up.ensures c.first_record-route.new.row (row-size (goal.at.shape_of-cells c).After-first_record-route))

pub returns : goal.returns
returns c =
    let a = c.args in
    let κ = ((decode c.args.cells.now).config) in
    let y = c.first_record-route.new.row in
    record {
      cells =
          ap (λ (l : List ℕ). set l records_at (get_or a.cells.now records_at 0 + 1)) (opened_row a.cells.now a.originator a.i c.requires.0 c.requires.1 c.move_up.new.cells c.move_up.ensures y (row-size (goal.at.returns c).After-first_record-route))
          ∙ record_in a.cells.now a.originator a.i c.requires.0 c.requires.1 (first_record κ (message_of c.args.m c.args.hna.now)) y _ (made-is (goal.at.returns c).After-first_record-route).cells refl;
      best = first-best κ (message_of c.args.m c.args.hna.now) (omega arith);
      route = (made-is (goal.at.returns c).After-first_record-route).route;
    }

pub overflow_mul-i : goal.overflow_mul-i
overflow_mul-i c = omega (arith, fits (goal.at.overflow_mul-i c).Start)

pub move_up-requires : goal.move_up-requires
move_up-requires c = omega (arith, fits (goal.at.move_up-requires c).Start)

pub overflow_mul-at : goal.overflow_mul-at
overflow_mul-at c = omega (arith, row_fits (goal.at.overflow_mul-at c).After-move_up)

pub overflow_add-at : goal.overflow_add-at
overflow_add-at c = omega (arith, row_fits (goal.at.overflow_add-at c).After-move_up)

pub overflow_add-after : goal.overflow_add-after
overflow_add-after c = omega (arith, row_fits (goal.at.overflow_add-after c).After-move_up)

pub offset_bounds-cells-at : goal.offset_bounds-cells-at
offset_bounds-cells-at c = omega (arith, row_fits (goal.at.offset_bounds-cells-at c).After-move_up)

pub slice_bounds-first_record-end : goal.slice_bounds-first_record-end
slice_bounds-first_record-end c = row_fits (goal.at.slice_bounds-first_record-end c).After-move_up
