-- The refusals of a packet in their order: which is found where those before it are not. Assumes nothing.
use mathlib.Core.Path.{◌≡◌, refl}
use mathlib.Core.List.{List}
use mathlib.Core.Option.{Option, none, some}
use Prim.Native.Nat.{ℕ, ◌+◌, ◌-◌, ◌%◌, ◌≤◌, ◌<◌}
use native.Mathlib.Omega.{arith}
use borrow.Author.Tests.{le-ltb, lt-ltb, eq-eqb, ne_eqb}
use lib.ListN.{length}
use Rattle.lists.specs.Lists.{maybe}
use Rattle.wire.specs.declared.Fault.{Fault}
use Rattle.wire.specs.Layout.{header_size, entry_size, packet_most, version_at}
use Rattle.wire.specs.Packet.{octet, hna}
use Rattle.wire.specs.Check.{numbered, placed, first_breaking, bad_mask, host_bits_set, hna_fault, packet_fault, written_fault}

-- the last of a list stands for itself
last : (x : Option Fault) → x ≡ maybe {X = Option Fault} x none some
last none = refl
last (some f) = refl

-- ---- of HNA octets

pub ragged : (e : List ℕ) → (length e % entry_size ≡ 0 → ⊥) → some (numbered 7) ≡ hna_fault e
unfolding hna_fault
ragged e n = rw (ne_eqb (length e % entry_size) 0 n)

-- of whole entries: those that break a rule are looked for by each rule in turn
module _ (e : List ℕ) (z : length e % entry_size ≡ 0) where
  pub mask-found : (k : ℕ) → first_breaking bad_mask e ≡ some k → some (placed 8 k) ≡ hna_fault e
  unfolding hna_fault
  mask-found k p = rw (eq-eqb (length e % entry_size) 0 z, p)

  module _ (masks : first_breaking bad_mask e ≡ none) where
    pub host_bits_found : (k : ℕ) → first_breaking host_bits_set e ≡ some k → some (placed 16 k) ≡ hna_fault e
    unfolding hna_fault
    host_bits_found k p = rw (eq-eqb (length e % entry_size) 0 z, masks, p)

    pub none_found : first_breaking host_bits_set e ≡ none → none ≡ hna_fault e
    unfolding hna_fault
    none_found p = rw (eq-eqb (length e % entry_size) 0 z, masks, p)

-- ---- of a received packet

module _ (v : ℕ) (p : List ℕ) where
  pub short : length p < header_size → some (numbered 5) ≡ packet_fault v p
  unfolding packet_fault
  short h = rw (lt-ltb (length p) header_size h)

  module _ (low : header_size ≤ length p) where
    pub long : packet_most < length p → some (numbered 5) ≡ packet_fault v p
    unfolding packet_fault
    long h = rw (le-ltb (length p) header_size low, lt-ltb packet_most (length p) h)

    module _ (high : length p ≤ packet_most) where
      pub other_version : (octet p version_at ≡ v → ⊥) → some (numbered 6) ≡ packet_fault v p
      unfolding packet_fault
      other_version n = rw (le-ltb (length p) header_size low, le-ltb packet_most (length p) high, ne_eqb (octet p version_at) v n)

      pub same_version : octet p version_at ≡ v → hna_fault (hna p) ≡ packet_fault v p
      unfolding packet_fault
      same_version e = rw (le-ltb (length p) header_size low, le-ltb packet_most (length p) high, eq-eqb (octet p version_at) v e) (last (hna_fault (hna p)))

-- ---- of the packet that would have the HNA octets e

module _ (e : List ℕ) where
  pub too_many : packet_most - header_size < length e → some (numbered 5) ≡ written_fault e
  unfolding written_fault
  too_many h = rw (le-ltb (header_size + length e) header_size (omega arith), lt-ltb packet_most (header_size + length e) (omega arith))

  pub few : length e ≤ packet_most - header_size → hna_fault e ≡ written_fault e
  unfolding written_fault
  few h = rw (le-ltb (header_size + length e) header_size (omega arith), le-ltb packet_most (header_size + length e) (omega arith)) (last (hna_fault e))
