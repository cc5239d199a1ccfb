-- `call_best::best` meets its contract: refused by 1, or answered by the originator's record. Assumes nothing.
use Rattle.table_check.proofs.Checked.{ill, well, known}
use Rattle.call_best.proofs.Asking.{ill_formed, answers}
use Rattle.call_best.proofs.best.Goals as goal

pub returns-then-not-well_formed : goal.returns-then-not-well_formed
returns-then-not-well_formed c =
    rw (c.asked_as.ensures, c.number.ensures, c.no_route.ensures) (ill_formed c.args.cells.now c.args.originator (ill _ c.well_formed-2.ensures c.if-not-well_formed.true-raw))

pub route_to-requires : goal.route_to-requires
route_to-requires c = known _ c.well_formed-2.ensures c.if-not-well_formed.false-raw

pub returns : goal.returns
returns c =
    rw (c.asked_as-2.ensures, c.route_to.ensures) (answers c.args.cells.now c.args.originator (well _ c.well_formed-2.ensures c.if-not-well_formed.false-raw))
