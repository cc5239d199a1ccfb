-- RULES 8.2 and 3.6: refusals 5, 6, 7, 8 and 16, which rest on the octets of a packet and a version, and the packet check.
use Rattle.std.specs.Prelude.{ℕ, zero, suc, ◌+◌, ◌-◌, ◌*◌, ◌/◌, ◌%◌, ◌^◌, Bool, cond, ◌||◌, not, List, [], ◌∷◌, ltb, eqb, length}
use Rattle.std.proofs.Math.Option.{Option, none, some}
use Rattle.lists.specs.Lists.{maybe}
use Rattle.wire.specs.declared.Fault.{Fault}
use Rattle.wire.specs.Layout.{header_size, entry_size, packet_most, mask_most, version_at, mask_at}
use Rattle.wire.specs.Packet.{octet, read4, hna}

-- ---- refusals in order. A refusal has its number, and the place that 8 and 16 carry, else 0

abbrev pub numbered : ℕ → Fault
numbered n = record { number = n; place = 0 }

abbrev pub placed : (number place : ℕ) → Fault
placed n k = record { number = n; place = k }

-- a number is given where its fact holds
abbrev pub given : Bool → ℕ → Option Fault
given t n = cond t (some (numbered n)) none

-- the first of a list in order
abbrev pub first_of : List (Option Fault) → Option Fault
first_of [] = none
first_of (f ∷ fs) = maybe f (first_of fs) some

-- ---- the facts

-- 5: below 12 or above 1,472 octets; n is how many the packet has
abbrev pub size_fault : ℕ → Option Fault
size_fault n = given (ltb n header_size || ltb packet_most n) 5

-- 6: the version differs
abbrev pub version_fault : ℕ → List ℕ → Option Fault
version_fault v p = given (not (eqb (octet p version_at) v)) 6

-- 7: the HNA octets e are not a multiple of 5
abbrev pub entries_fault : List ℕ → Option Fault
entries_fault e = given (not (eqb (length e % entry_size) 0)) 7

-- how many HNA entries the octets e have, and the network address and the mask of the one at place k, from 0
abbrev pub entries : List ℕ → ℕ
entries e = length e / entry_size

abbrev pub network : List ℕ → ℕ → ℕ
network e k = read4 e (entry_size * k)

abbrev pub mask : List ℕ → ℕ → ℕ
mask e k = octet e (entry_size * k + mask_at)

-- the first place below n at which a test is true
unfoldable pub first_where : ℕ → (ℕ → Bool) → Option ℕ
first_where zero f = none
first_where (suc n) f = maybe (first_where n f) (cond (f n) (some n) none) some

-- the place of the first entry that breaks a rule; `breaks e k` says whether the one at place k does
unfoldable pub first_breaking : (breaks : List ℕ → ℕ → Bool) → List ℕ → Option ℕ
first_breaking breaks e = first_where (entries e) (breaks e)

-- the refusal of such an entry carries that place
abbrev pub entry_fault : (number : ℕ) → (breaks : List ℕ → ℕ → Bool) → List ℕ → Option Fault
entry_fault n breaks e = maybe (first_breaking breaks e) none (λ k. some (placed n k))

-- 8: a mask above 32
abbrev pub bad_mask : List ℕ → ℕ → Bool
bad_mask e k = ltb mask_most (mask e k)

abbrev pub mask_fault : List ℕ → Option Fault
mask_fault e = entry_fault 8 bad_mask e

-- the host bits of a network address: those below the mask, so its last 32 - mask bits (RULES 3.5)
abbrev pub host_bits : (network mask : ℕ) → ℕ
host_bits n m = n % 2 ^ (mask_most - m)

-- 16: a host bit is not zero
abbrev pub host_bits_set : List ℕ → ℕ → Bool
host_bits_set e k = not (eqb (host_bits (network e k) (mask e k)) 0)

abbrev pub host_bits_fault : List ℕ → Option Fault
host_bits_fault e = entry_fault 16 host_bits_set e

-- ---- what is asked of a packet

-- 7, 8, 16: of HNA octets, received or to be written. 8 goes first, wherever in the packet the entries stand
abbrev pub hna_faults : List ℕ → List (Option Fault)
hna_faults e = entries_fault e ∷ mask_fault e ∷ host_bits_fault e ∷ []

unfoldable pub hna_fault : List ℕ → Option Fault
hna_fault e = first_of (hna_faults e)

-- 5, 6, 7, 8, 16: of a received packet
abbrev pub packet_faults : (version : ℕ) → List ℕ → List (Option Fault)
packet_faults v p = size_fault (length p) ∷ version_fault v p ∷ hna_fault (hna p) ∷ []

unfoldable pub packet_fault : (version : ℕ) → List ℕ → Option Fault
packet_fault v p = first_of (packet_faults v p)

-- 5, 7, 8, 16: of the packet that would have the HNA octets e
unfoldable pub written_fault : List ℕ → Option Fault
written_fault e = first_of (size_fault (header_size + length e) ∷ hna_fault e ∷ [])

-- the packet check's answer on plain numbers: 0 for a packet without fault, else the number and 256 times the place (RULES 3.6)
unfoldable pub packet_check : (version : ℕ) → List ℕ → ℕ
packet_check v p = maybe (packet_fault v p) 0 (λ f. f.number + 256 * f.place)
