-- The row lent is the cells of record i.
use Rattle.cells.proofs.Lent.{part_is}
use Rattle.rules.specs.Settings.{record_cells}
use Rattle.table_originators.specs.Originators.{record_place}
use Rattle.table_originators.proofs.record_at.Goals as goal

pub returns : goal.returns
returns c = part_is c.args.cells.now (record_place c.args.i) record_cells c.requires.fits
