-- The records are lent as rows, and what the search finds among them is where the originator stands or would go; there are fewer than 2^9 of them.
use Rattle.table_originators.proofs.Records.{lent_sorted, sought}
use Rattle.table_originators.proofs.find_record.Goals as goal

pub find-requires : goal.find-requires
find-requires c = lent_sorted c.args.cells.now c.requires

pub returns : goal.returns
returns c = sought c.args.cells.now c.requires c.args.originator c.find.result c.find.ensures
