-- `call_sweep::sweep_records` meets its contract: the pass over the records, and what it leaves. Assumes nothing.
use Rattle.call_sweep.proofs.Steps.{meets, swept_all}
use Rattle.call_sweep.proofs.sweep_records.Goals as goal

pub keep_recent-kept-requires : goal.keep_recent-kept-requires
keep_recent-kept-requires c =
    meets c.args.cells.now c.requires.0 c.args.time c.requires.1

pub returns : goal.returns
returns c =
    swept_all c.args.cells.now c.requires.0 c.args.time c.requires.1 _ _ c.keep_recent-kept.ensures _ c.swept_as.ensures
