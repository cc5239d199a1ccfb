-- The octets of each number, as remainders of all of it and as the halves of its halves.
use Rattle.std.proofs.Common.{◌≡◌, ◌/◌, ◌%◌, arith}
use Rattle.wire.specs.Packet.{header_octets}
use Rattle.packet_codec.proofs.message.octets.Goals as goal

pub returns : goal.returns
unfolding header_octets
returns c =
    let h = c.args.h in
    let a : h.sequence / 256 % 256 ≡ h.sequence / 256 = omega arith in
    let b : h.port / 256 % 256 ≡ h.port / 256 = omega arith in
    let o0 : h.originator / 16777216 % 256 ≡ h.originator / 65536 / 256 = omega arith in
    let o2 : h.originator / 256 % 256 ≡ h.originator % 65536 / 256 = omega arith in
    let o3 : h.originator % 256 ≡ h.originator % 65536 % 256 = omega arith in
    rw (c.to_be_bytes-sequence.ensures, c.to_be_bytes-port.ensures, c.to_be_bytes-originator.ensures, a, b, o0, o2, ← o3)
