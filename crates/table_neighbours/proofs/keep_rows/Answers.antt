-- `keep_rows`: the rows that pass the test are those that stay.
use Rattle.std.proofs.Common.{rules, arith}
use Rattle.table_neighbours.proofs.Rows.{size, row_read, row_stays, rows_kept}
use Rattle.table_neighbours.proofs.keep_rows.Goals as goal

pub keep_where-requires : goal.keep_where-requires
keep_where-requires c = record {
  within = omega (arith, size c.args.n c.args.rows.now c.requires, c.requires.most);
  callable = λ row is. (let r = row_read c.args.n c.args.rows.now c.requires row.now is in search rules);
}

pub returns : goal.returns
returns c =
    let a = c.args in
    rows_kept a.n a.rows.now c.requires a.interface a.last a.timeout _ _
    (c.keep_where.ensures (row_stays a.n a.rows.now c.requires a.interface a.last a.timeout) (λ row r is k. search rules))
