-- The number that is computed is 0 exactly where the entry passes its tests.
use Rattle.table_record_check.proofs.Checks.{entry-tests}
use Rattle.table_record_check.proofs.entry_fault.Goals as goal

pub returns-clause-tests : goal.returns-clause-tests
returns-clause-tests c = entry-tests c.args.entry
