-- Best is read from the row, and the route is that of its record.
use mathlib.Core.Path.{refl}
use Rattle.table_record.specs.Record.{decode_record}
use Rattle.hear_message.proofs.answer_of.Goals as goal

pub returns : goal.returns
unfolding decode_record
returns c κ f = record { fresh = refl; best = refl; route = c.route_of-route.ensures κ f.window }
