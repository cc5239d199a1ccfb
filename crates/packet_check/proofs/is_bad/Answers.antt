-- `packet_check::is_bad` meets its contract. Assumes nothing.
use mathlib.Core.Path.{ap}
use lib.Dec.{ltb}
use Rattle.wire.specs.Layout.{mask_most}
use Rattle.packet_check.proofs.is_bad.Goals as goal

pub returns : goal.returns
returns c = ap (ltb mask_most) c.mask_at.ensures
