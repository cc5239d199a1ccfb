-- RULES 3.5, HNA entries: each is one number, as a record keeps it.
use Rattle.std.specs.Prelude.{ℕ, zero, suc, ◌+◌, ◌*◌, ◌/◌, ◌%◌, Bool, List, [], ◌∷◌, eqb}
use Rattle.wire.specs.Check.{entries, network, mask, host_bits}

-- its network address before its mask, as its five octets have them
unfoldable pub entry_of : (network mask : ℕ) → ℕ
entry_of n m = n * 256 + m

unfoldable pub network_of : (entry : ℕ) → ℕ
network_of e = e / 256

unfoldable pub mask_of : (entry : ℕ) → ℕ
mask_of e = e % 256

-- it has no host bits
unfoldable pub is_clean : (entry : ℕ) → Bool
is_clean e = eqb (host_bits (network_of e) (mask_of e)) 0

-- the entry at place k of the HNA octets e, from 0
unfoldable pub entry_at : (e : List ℕ) → (k : ℕ) → ℕ
entry_at e k = entry_of (network e k) (mask e k)

-- n of them from place k on
abbrev pub entries_from : (n k : ℕ) → (e : List ℕ) → List ℕ
entries_from zero k e = []
entries_from (suc n) k e = entry_at e k ∷ entries_from n (k + 1) e

-- all of them, in packet order, repeats included
unfoldable pub entries_of : (e : List ℕ) → List ℕ
entries_of e = entries_from (entries e) 0 e
