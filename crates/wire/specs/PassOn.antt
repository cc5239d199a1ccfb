-- RULES 6.7, "The copy": the octets of a passed-on packet.
use Rattle.std.specs.Prelude.{ℕ, ◌+◌, ◌-◌, Bool, cond, List, set}
use Rattle.wire.specs.Layout.{flags_at, ttl_at}
use Rattle.wire.specs.Packet.{octet, unnamed}

-- on the receiving interface D is set exactly if sender equals originator (direct), and U exactly if the link isn't bidirectional
unfoldable pub flags_here : (direct bidirectional : Bool) → ℕ → ℕ
flags_here direct bidirectional flags = cond bidirectional 0 128 + cond direct 64 0 + unnamed flags

-- on other interfaces both are 0
unfoldable pub flags_elsewhere : ℕ → ℕ
flags_elsewhere flags = unnamed flags

-- a passed-on packet keeps every octet except two: these flags, and TTL falls by one
unfoldable pub passed_on : (flags : ℕ) → List ℕ → List ℕ
passed_on flags p = set (set p flags_at flags) ttl_at (octet p ttl_at - 1)
