-- `network_of` is the entry without its last octet.
use borrow.Author.Rules.{rules}
use Rattle.wire.specs.Entries.{network_of}
use Rattle.call_lookup.proofs.network_of.Goals as goal

pub overflow_cast-result : goal.overflow_cast-result
unfolding network_of
overflow_cast-result c = search rules

pub returns : goal.returns
unfolding network_of
returns c = search rules
