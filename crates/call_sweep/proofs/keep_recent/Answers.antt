-- `keep_recent`: the rows that pass the test are those of the recent records.
use Rattle.std.proofs.Common.{rules}
use Rattle.call_sweep.proofs.Records.{within, row_read, row_recent, records_kept}
use Rattle.call_sweep.proofs.keep_recent.Goals as goal

pub keep_where-requires : goal.keep_where-requires
keep_where-requires c = record {
  within = within c.args.n c.args.time c.args.purge c.args.part.now c.requires;
  callable = λ row is. (let r = row_read c.args.n c.args.time c.args.purge c.args.part.now c.requires row.now is in search rules);
}

pub returns : goal.returns
returns c =
    let a = c.args in
    records_kept a.n a.time a.purge a.part.now c.requires _ _
    (c.keep_where.ensures (row_recent a.n a.time a.purge a.part.now c.requires) (λ row r is k. search rules))
