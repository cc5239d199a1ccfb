-- What RULES 3.5, 6.7 and 7.2 say of written octets in other words than the definitions; `proofs/Laws.antt` proves each.
use Rattle.std.specs.Prelude.{ℕ, ◌+◌, ◌-◌, ◌*◌, ◌/◌, ◌^◌, ◌<◌, ◌≤◌, ◌≡◌, Bool, false, not, List, length}
use Rattle.wire.specs.declared.Header.{Header}
use Rattle.wire.specs.Layout.{header_size, entry_size, packet_most, mask_most, flags_at, ttl_at}
use Rattle.wire.specs.Packet.{octet, header, hna, packet_of, is_u, is_d, unnamed}
use Rattle.wire.specs.Check.{entries, network, mask, host_bits, packet_fault, written_fault}
use Rattle.wire.specs.PassOn.{flags_here, flags_elsewhere, passed_on}

-- a written packet, read by the layout, gives back the fields given
pub record ReadsBack (h : Header) (e : List ℕ) : Type 0 where
  pub fields : header (packet_of h e) ≡ h
  pub octets : hna (packet_of h e) ≡ e
  pub size : length (packet_of h e) ≡ header_size + length e
  -- the packet check finds of it what is asked before it is written
  pub check : packet_fault h.version (packet_of h e) ≡ written_fault e

-- which is nothing if the entries are few enough and whole, no mask is above 32 and no host bit is set (`allowed` proves this direction)
pub record Allowed (e : List ℕ) : Type 0 where
  pub few : header_size + length e ≤ packet_most
  pub whole : length e ≡ entry_size * entries e
  pub masks : (k : ℕ) → k < entries e → mask e k ≤ mask_most
  pub clean : (k : ℕ) → k < entries e → host_bits (network e k) (mask e k) ≡ 0

-- an address is what its leading bits say, as many as the mask says, and below them its host bits
pub record HostBits (n m : ℕ) : Type 0 where
  pub joined : n ≡ n / 2 ^ (mask_most - m) * 2 ^ (mask_most - m) + host_bits n m
  pub low : host_bits n m < 2 ^ (mask_most - m)
  -- so mask 32 leaves none, and of mask 0 all bits are host bits
  pub mask32 : host_bits n mask_most ≡ 0
  pub mask0 : n < 2 ^ mask_most → host_bits n 0 ≡ n

-- a passed-on copy differs from the packet p in octets 1 and 2 alone
pub record Copy (flags : ℕ) (p : List ℕ) : Type 0 where
  pub size : length (passed_on flags p) ≡ length p
  pub flag : flags_at < length p → octet (passed_on flags p) flags_at ≡ flags
  pub ttl : octet (passed_on flags p) ttl_at ≡ octet p ttl_at - 1
  pub rest : (k : ℕ) → (k ≡ flags_at → ⊥) → (k ≡ ttl_at → ⊥) → octet (passed_on flags p) k ≡ octet p k
  -- so the packet check says of it what it says of the packet
  pub check : (version : ℕ) → packet_fault version (passed_on flags p) ≡ packet_fault version p

-- the flags octet of a copy is an octet with just these bits
pub record Flags (direct bidirectional : Bool) (flags : ℕ) : Type 0 where
  pub here_u : is_u (flags_here direct bidirectional flags) ≡ not bidirectional
  pub here_d : is_d (flags_here direct bidirectional flags) ≡ direct
  pub here_rest : unnamed (flags_here direct bidirectional flags) ≡ unnamed flags
  pub here_octet : flags_here direct bidirectional flags < 256
  pub elsewhere-u : is_u (flags_elsewhere flags) ≡ false
  pub elsewhere-d : is_d (flags_elsewhere flags) ≡ false
  pub elsewhere-rest : unnamed (flags_elsewhere flags) ≡ unnamed flags
