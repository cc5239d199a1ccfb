-- `keep_where`: after i turns the first rows are those of the first i that pass, and the rows to come are as they were.
use Rattle.std.proofs.Common.{◌*◌, sym, ap, ◌∙◌, length, true, false}
use Rattle.cells.proofs.Lent.{part_is}
use Rattle.cells_moves.proofs.Keeping.{in_cells, this_row, left_out, left_out_by, moved, moved_by, kept-cells, kept_held}
use Rattle.cells_moves.proofs.keep_where.Goals as goal
use Rattle.cells_moves.proofs.keep_where.Goals.{then-passes, else-passes}

pub loop-i-preserved : goal.loop-i-preserved
loop-i-preserved g c =
    let inside = c.requires.within in
    let reading = c.loop-i.invariant.0 in
    let more = c.loop-i-test.true in
    let part = part_is c.loop-i.cells (c.loop-i.i * c.args.w) c.args.w (in_cells _ _ _ inside _ _ _ reading more) in
    let this = part ∙ this_row _ _ _ inside _ _ _ reading more in
    elim c.if-passes.branch [
      | then-passes w ↦ (let size = ap length w.cells-is ∙ w.move_down.auto.cells in
          let cells = w.cells-is ∙ w.move_down.ensures in
          rw w.kept-is (
            moved _ _ _ inside _ _ _ reading more _ size cells,
            λ p h. moved_by _ _ _ inside _ _ _ reading more _ size cells p (ap p (sym part) ∙ sym (h _ true (c.loop-i.i, more, this) w.if-passes.ensures)) (c.loop-i.invariant.1 p h),
          ))
      | else-passes w ↦ rw (w.cells-is, w.kept-is) (
        left_out _ _ _ inside _ _ _ reading more,
        λ p h. left_out_by _ _ _ inside _ _ _ reading more p (ap p (sym part) ∙ sym (h _ false (c.loop-i.i, more, this) w.if-passes.ensures)) (c.loop-i.invariant.1 p h),
      )
    ]

pub returns : goal.returns
returns g c p h =
    let k = c.loop-i.invariant.1 p h in (
      kept-cells _ _ _ c.requires.within _ _ _ c.loop-i.invariant.0 c.loop-i-test.false _ c.clear.ensures p k,
      kept_held _ _ _ c.requires.within _ _ _ c.loop-i.invariant.0 c.loop-i-test.false _ c.clear.ensures p k,
    )
