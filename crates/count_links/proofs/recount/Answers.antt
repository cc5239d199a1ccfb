-- This link's marks are shifted and marked, and the links then arranged about its spot are those that the rules leave.
use native.Mathlib.Omega.{arith}
use Rattle.table_record.proofs.Links.{length-links}
use Rattle.count_links.proofs.Places.{recount-done}
use Rattle.count_links.proofs.recount.Goals as goal

pub arrange-requires : goal.arrange-requires
arrange-requires c =
    let l = length-links c.args.n c.args.part.now in
    let h = c.requires.blank.1 in
    record { link_cells_in_bounds = (c.requires.link_cells_in_bounds.0, c.requires.link_cells_in_bounds.1, h.order, omega arith, c.requires.link_cells_in_bounds.2); blank = c.requires.blank.0 }

pub returns : goal.returns
returns c =
    let a = c.args in
    recount-done a.part.now a.step a.n a.spot c.mark-marks.result c.requires.blank.1 c.shift.ensures c.mark-marks.ensures c.arrange.ensures
