-- RULES 3, "Octets on the air": a packet's fields and its octets, high octet first.
use Rattle.std.specs.Prelude.{ℕ, ◌+◌, ◌*◌, ◌/◌, ◌%◌, Bool, List, [], ◌∷◌, ◌++◌, eqb, get_or, drop}
use Rattle.wire.specs.declared.Header.{Header}
use Rattle.wire.specs.Layout.{header_size, version_at, flags_at, ttl_at, gateway_at, sequence_at, port_at, originator_at}

-- ---- reading

-- the octet at a place, and the number of the two or the four octets there
abbrev pub octet : List ℕ → ℕ → ℕ
octet p k = get_or p k 0

abbrev pub read2 : List ℕ → ℕ → ℕ
read2 p k = octet p k * 256 + octet p (k + 1)

abbrev pub read4 : List ℕ → ℕ → ℕ
read4 p k = read2 p k * 65536 + read2 p (k + 2)

-- the message that a packet begins with
unfoldable pub header : List ℕ → Header
header p =
    record {
      version = octet p version_at;
      flags = octet p flags_at;
      ttl = octet p ttl_at;
      gateway = octet p gateway_at;
      sequence = read2 p sequence_at;
      port = read2 p port_at;
      originator = read4 p originator_at;
    }

-- its HNA octets
abbrev pub hna : List ℕ → List ℕ
hna p = drop header_size p

-- ---- writing

abbrev pub write2 : ℕ → List ℕ
write2 n = n / 256 ∷ n % 256 ∷ []

abbrev pub write4 : ℕ → List ℕ
write4 n = write2 (n / 65536) ++ write2 (n % 65536)

unfoldable pub header_octets : Header → List ℕ
header_octets h =
    (h.version ∷ h.flags ∷ h.ttl ∷ h.gateway ∷ [])
    ++ (write2 h.sequence ++ (write2 h.port ++ write4 h.originator))

-- the packet with this message and these HNA octets
unfoldable pub packet_of : Header → List ℕ → List ℕ
packet_of h e = header_octets h ++ e

-- ---- the flags octet: 128 is U (unidirectional), 64 is D (direct link); the six others are unnamed (RULES 3.3)

unfoldable pub is_u : ℕ → Bool
is_u flags = eqb (flags / 128 % 2) 1

unfoldable pub is_d : ℕ → Bool
is_d flags = eqb (flags / 64 % 2) 1

unfoldable pub unnamed : ℕ → ℕ
unnamed flags = flags % 64
