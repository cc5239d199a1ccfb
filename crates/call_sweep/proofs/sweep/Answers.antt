-- `call_sweep::sweep` meets its contract: refused by 1, refused by 3, or swept. Assumes nothing.
use native.Mathlib.Omega.{arith}
use Rattle.table_check.proofs.Checked.{ill, well, known}
use Rattle.call_sweep.proofs.Call.{ill_formed, early, sweeps}
use Rattle.call_sweep.proofs.sweep.Goals as goal

pub returns-then-not-well_formed : goal.returns-then-not-well_formed
returns-then-not-well_formed c =
    rw (c.swept_as.ensures, c.number.ensures) (ill_formed c.args.cells.now c.args.time (ill _ c.well_formed-2.ensures c.if-not-well_formed.true-raw))

pub bounds-cells-7 : goal.bounds-cells-7
bounds-cells-7 c = omega (arith, (known _ c.well_formed-2.ensures c.if-not-well_formed.false-raw).sized.size)

pub returns-then-time-cells : goal.returns-then-time-cells
returns-then-time-cells c =
    rw (c.swept_as-then-time-cells.ensures, c.number-then-time-cells.ensures) (early c.args.cells.now c.args.time (well _ c.well_formed-2.ensures c.if-not-well_formed.false-raw) c.if-time-cells.true)

pub sweep_records-requires : goal.sweep_records-requires
sweep_records-requires c = (known _ c.well_formed-2.ensures c.if-not-well_formed.false-raw, c.if-time-cells.false)

pub returns : goal.returns
returns c =
    sweeps c.args.cells.now c.args.time (well _ c.well_formed-2.ensures c.if-not-well_formed.false-raw) c.if-time-cells.false _ _ c.sweep_records.ensures
