-- `call_lookup::lookup` meets its contract: refused by 1, or answered by the best of all entries. Assumes nothing.
use Rattle.table_check.proofs.Checked.{ill, well, known}
use Rattle.call_lookup.proofs.Answers.{ill_formed, answers}
use Rattle.call_lookup.proofs.lookup.Goals as goal

pub returns-then-not-well_formed : goal.returns-then-not-well_formed
returns-then-not-well_formed c =
    rw (c.none_located.ensures, c.number.ensures) (ill_formed c.args.cells.now c.args.address (ill _ c.well_formed-2.ensures c.if-not-well_formed.true-raw))

pub seen_all-requires : goal.seen_all-requires
seen_all-requires c = known _ c.well_formed-2.ensures c.if-not-well_formed.false-raw

pub returns : goal.returns
returns c =
    rw (c.located_at.ensures, c.seen_all.ensures) (answers c.args.cells.now c.args.address (well _ c.well_formed-2.ensures c.if-not-well_formed.false-raw))
