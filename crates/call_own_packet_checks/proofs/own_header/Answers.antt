-- `call_own_packet_checks::own_header` meets its contract. Assumes nothing.
use Rattle.call_own_packet_checks.proofs.Message.{version_is, own_is}
use Rattle.call_own_packet_checks.proofs.own_header.Goals as goal

pub returns : goal.returns
returns c =
    rw (version_is c.args.cells.now c.requires.0 c.args.i c.requires.1, own_is c.args.cells.now c.requires.0 c.args.i c.requires.1)
