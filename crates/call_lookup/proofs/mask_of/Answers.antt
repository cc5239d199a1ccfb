-- `mask_of` is the entry's last octet.
use borrow.Author.Rules.{rules}
use Rattle.wire.specs.Entries.{mask_of}
use Rattle.call_lookup.proofs.mask_of.Goals as goal

pub returns : goal.returns
unfolding mask_of
returns c = search rules
