-- What the types of a call's arguments give, and the refusals 2 to 8, which rest on them and on the table's head. Assumes nothing.
use mathlib.Core.Path.{◌≡◌, refl}
use mathlib.Core.Bool.{true, ◌&&◌}
use mathlib.Core.Option.{Option, some}
use mathlib.Core.List.{List}
use Prim.Native.Nat.{ℕ, ◌≤◌, ◌<◌}
use native.Mathlib.Omega.{arith}
use borrow.Author.Tests.{lt-ltb, le-ltb}
use lib.Dec.{ltb}
use lib.ListN.{length, get_or}
use Rattle.lists.specs.Lists.{all}
use Rattle.lists.proofs.Tests.{both}
use Rattle.lists.proofs.Lists.{all-below}
use Rattle.wire.specs.declared.Fault.{Fault}
use Rattle.wire.specs.Check.{numbered, packet_fault}
use Rattle.rules.specs.Settings.{octets, addresses, is_address, is_octet, is_time}
use Rattle.rules.specs.Rules.{receive_fault}
use Rattle.rules.proofs.Faults.{first-single}
use Rattle.table_layout.specs.Layout.{version_at, used_at, time_at}
use Rattle.table_layout.specs.Cells.{decode}
use Rattle.table_changes.proofs.Values.{used-read}
use Rattle.call_receive_arrival.specs.Receiving.{args_of}

pub typed_of : (p : List ℕ) (a t : ℕ) → a < addresses → ((k : ℕ) → get_or p k 0 < octets) → t < 18446744073709551616 → (is_address a && (all is_octet p && (is_time t && true))) ≡ true
typed_of p a t ha hp ht = both (lt-ltb a addresses ha) (both (all-below octets p hp) (both (lt-ltb t 18446744073709551616 ht) refl))

-- ---- the first refusal of cells c and a packet p from a by interface i at time t, with the output o

module _ (c p : List ℕ) (a i t : ℕ) (o : List ℕ) where
  abbrev pub fault : Option Fault
  fault = receive_fault (decode c).config (decode c).time (args_of p a i t o)

  pub fault_2 : get_or c used_at 0 ≤ i → fault ≡ some (numbered 2)
  unfolding receive_fault
  fault_2 h = rw (le-ltb i (length (decode c).config.interfaces) (omega (arith, used-read c)))

  module _ (used : i < get_or c used_at 0) where
    in_use : ltb i (length (decode c).config.interfaces) ≡ true
    in_use = lt-ltb i (length (decode c).config.interfaces) (omega (arith, used-read c))

    pub fault_3 : t < get_or c time_at 0 → fault ≡ some (numbered 3)
    unfolding receive_fault decode
    fault_3 h = rw (in_use, lt-ltb t (get_or c time_at 0) h)

    module _ (later : get_or c time_at 0 ≤ t) where
      pub fault_4 : length o < length p → fault ≡ some (numbered 4)
      unfolding receive_fault decode
      fault_4 h = rw (in_use, le-ltb t (get_or c time_at 0) later, lt-ltb (length o) (length p) h)

      pub fault_packet : length p ≤ length o → fault ≡ packet_fault (get_or c version_at 0) p
      unfolding receive_fault decode
      fault_packet h = rw (in_use, le-ltb t (get_or c time_at 0) later, le-ltb (length o) (length p) h) (first-single (packet_fault (get_or c version_at 0) p))
