-- `call_receive_relay::is_bidirectional` meets its contract: the part of the neighbour rows is lent. Assumes nothing.
use mathlib.Core.Path.{ap, ◌∙◌}
use Rattle.lists.specs.Keyed.{has_key}
use Rattle.table_neighbours.proofs.Lent.{rows-held, rows_are}
use Rattle.call_receive_relay.proofs.is_bidirectional.Goals as goal

pub has_row-requires : goal.has_row-requires
has_row-requires c = rows-held c.args.cells.now c.requires

pub returns : goal.returns
returns c = let a = c.args in c.has_row.ensures ∙ ap (has_key a.link) (rows_are a.cells.now)
