-- `call_own_packet_checks::next_number` meets its contract. Assumes nothing.
use borrow.Author.Rules.{rules}
use Rattle.call_own_packet_checks.proofs.Message.{one_more, the_first}
use Rattle.call_own_packet_checks.proofs.next_number.Goals as goal

pub returns-then-row-eq1 : goal.returns-then-row-eq1
returns-then-row-eq1 c x last f e = one_more c.args.row.now x f last e (search rules)

pub returns-else-row-eq1 : goal.returns-else-row-eq1
returns-else-row-eq1 c x last f e = the_first c.args.row.now x f last e c.if-row-eq1.false
