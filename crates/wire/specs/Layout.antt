-- RULES 3, "Octets on the air": sizes and places. A packet is the list of its octets.
use Rattle.std.specs.Prelude.{ℕ}

-- an originator message (OGM), with which a packet begins
abbrev pub header_size : ℕ
header_size = 12

-- an HNA entry: network address (4), mask length (1)
abbrev pub entry_size : ℕ
entry_size = 5

-- the most octets of a packet, and the longest mask
abbrev pub packet_most : ℕ
packet_most = 1472

abbrev pub mask_most : ℕ
mask_most = 32

-- ---- places in the message, and of the mask in its entry

abbrev pub version_at : ℕ
version_at = 0

abbrev pub flags_at : ℕ
flags_at = 1

abbrev pub ttl_at : ℕ
ttl_at = 2

abbrev pub gateway_at : ℕ
gateway_at = 3

abbrev pub sequence_at : ℕ
sequence_at = 4

abbrev pub port_at : ℕ
port_at = 6

abbrev pub originator_at : ℕ
originator_at = 8

abbrev pub mask_at : ℕ
mask_at = 4
