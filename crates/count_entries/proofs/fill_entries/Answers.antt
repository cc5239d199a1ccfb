-- The entries are written, and what follows them is lent to be cleared.
use native.Mathlib.Omega.{arith}
use Rattle.count_entries.proofs.Rows.{filled_entries}
use Rattle.count_entries.proofs.fill_entries.Goals as goal

pub returns : goal.returns
returns c =
    let a = c.args in
    filled_entries a.part.now a.hna.now c.write_entries.new.part c.clear.new.cells c.entry_count-n.result c.entry_count-n.ensures (omega arith) c.write_entries.ensures c.write_entries.auto.part c.clear.ensures
