-- `packet_check::has_host_bits` meets its contract: the mask is no bad one, and then the shift is right. Assumes nothing.
use Rattle.packet_check.proofs.HostBits.{both-asked}
use Rattle.packet_check.proofs.has_host_bits.Goals as goal

pub returns : goal.returns
returns c =
    let a = c.args in
    both-asked a.hna.now a.k c.is_bad.ensures c.network_at.ensures c.mask_at.ensures c.has_bits_below.ensures
