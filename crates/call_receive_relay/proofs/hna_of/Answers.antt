-- The part after the header, to the packet's end.
use Rattle.wire.specs.Layout.{header_size}
use Rattle.wire.proofs.Lent.{rest}
use Rattle.call_receive_relay.proofs.hna_of.Goals as goal

pub returns : goal.returns
returns c = rest header_size c.args.packet.now
