-- The record's row is lent once, and what is left of it is what is left of the table.
use mathlib.Core.Path.{sym, subst}
use Rattle.cells.proofs.Lent.{part_is}
use Rattle.rules.specs.Settings.{record_cells}
use Rattle.rules.specs.Messages.{message_of}
use Rattle.table_record.specs.Record.{Held}
use Rattle.table_layout.specs.Cells.{decode}
use Rattle.table_originators.specs.Originators.{record_place}
use Rattle.table_originators.proofs.Changed.{timely_in, heard_in}
use Rattle.table_originators.proofs.hear_at.Goals as goal

pub hear-requires : goal.hear-requires
hear-requires c = (
  subst Held (sym (part_is c.args.cells.now (record_place c.args.i) record_cells c.requires.0.fits)) c.requires.0.row,
  c.policy_of-p.ensures.1,
  c.requires.1,
  record { lies = timely_in c.args.cells.now c.args.i c.requires.0.fits c.policy_of-p.ensures.0 c.args.m.sequence c.requires.2; timely = c.requires.3 },
)

pub returns : goal.returns
returns c o t =
    let a = c.args in
    heard_in a.cells.now o a.i t (message_of a.m a.hna.now) a.bidirectional _ _ (c.hear.ensures (decode a.cells.now).config c.policy_of-p.ensures.0)
