-- The ways through the refusals of an own packet. Assumes nothing.
use mathlib.Core.Path.{◌≡◌, sym, ap}
use mathlib.Core.List.{List}
use mathlib.Core.Option.{Option, none, some}
use Prim.Native.Nat.{ℕ, ◌+◌, ◌≤◌, ◌<◌}
use native.Mathlib.Omega.{arith}
use borrow.Author.Tests.{le-ltb, lt-ltb}
use lib.ListN.{length, get_or}
use Rattle.lists.specs.Lists.{maybe}
use Rattle.wire.specs.declared.Fault.{Fault}
use Rattle.wire.specs.Layout.{header_size}
use Rattle.wire.specs.Check.{numbered, written_fault}
use Rattle.wire.proofs.Laws.{reads_back}
use Rattle.rules.specs.Settings.{ttl_least}
use Rattle.rules.specs.Calls.{OwnArgs}
use Rattle.rules.specs.Rules.{own_header, own_packet, own_fault}
use Rattle.table_layout.specs.Layout.{time_at, used_at}
use Rattle.table_layout.specs.Cells.{decode}
use Rattle.table_changes.proofs.Values.{time-read, used-read}
use Rattle.call_own_packet_checks.specs.OwnPacket.{args, fault_in}
use Rattle.call_own_packet_checks.proofs.Message.{in_use}

-- a refusal that is found comes before those that follow
first_found : (x y : Option Fault) (f : Fault) → some f ≡ x → some f ≡ maybe x y some
first_found x y f h = ap (λ (z : Option Fault). maybe z y some) h

module _ (c : List ℕ) (i t ttl g p : ℕ) (e o : List ℕ) where
  abbrev a : OwnArgs
  a = args i t ttl g p e o

  pub own-size : length (own_packet (decode c).config (decode c).sends a) ≡ header_size + length e
  own-size = (reads_back (own_header (decode c).config (decode c).sends a) e).size

  pub not_in_use : get_or c used_at 0 ≤ i → some (numbered 2) ≡ fault_in c a
  unfolding own_fault
  not_in_use h = rw (le-ltb i (length (decode c).config.interfaces) (omega (arith, used-read c)))

  module _ (used : i < get_or c used_at 0) where
    abbrev u : i < length (decode c).config.interfaces
    u = in_use c i used

    pub before : t < get_or c time_at 0 → some (numbered 3) ≡ fault_in c a
    unfolding own_fault
    before h = rw (lt-ltb i (length (decode c).config.interfaces) u, lt-ltb t (decode c).time (omega (arith, time-read c)))

    module _ (late : get_or c time_at 0 ≤ t) where
      n : (decode c).time ≤ t
      n = omega (arith, time-read c)

      pub short : length o < header_size + length e → some (numbered 4) ≡ fault_in c a
      unfolding own_fault
      short h = rw (lt-ltb i (length (decode c).config.interfaces) u, le-ltb t (decode c).time n, own-size, lt-ltb (length o) (header_size + length e) h)

      module _ (room : header_size + length e ≤ length o) where
        pub fault : (f : Fault) → some f ≡ written_fault e → some f ≡ fault_in c a
        unfolding own_fault
        fault f h =
            rw (lt-ltb i (length (decode c).config.interfaces) u, le-ltb t (decode c).time n, own-size, le-ltb (length o) (header_size + length e) room)
            (first_found (written_fault e) _ f h)

        module _ (fine : none ≡ written_fault e) where
          z : written_fault e ≡ none
          z = sym fine

          pub low : ttl < ttl_least → some (numbered 13) ≡ fault_in c a
          unfolding own_fault
          low h =
              rw (lt-ltb i (length (decode c).config.interfaces) u, le-ltb t (decode c).time n, own-size, le-ltb (length o) (header_size + length e) room, z, lt-ltb ttl ttl_least h)

          pub none-refused : ttl_least ≤ ttl → none ≡ fault_in c a
          unfolding own_fault
          none-refused h =
              rw (lt-ltb i (length (decode c).config.interfaces) u, le-ltb t (decode c).time n, own-size, le-ltb (length o) (header_size + length e) room, z, le-ltb ttl ttl_least h)
