-- `packet_check::is_faulty` meets its contract: the mask is a bad one, or else the shift is right. Assumes nothing.
use Rattle.packet_check.proofs.HostBits.{either_asked}
use Rattle.packet_check.proofs.is_faulty.Goals as goal

pub returns : goal.returns
returns c =
    let a = c.args in
    either_asked a.hna.now a.k c.is_bad.ensures c.network_at.ensures c.mask_at.ensures c.has_bits_below.ensures
