-- The ways through an own packet's call. Assumes nothing.
use mathlib.Core.Path.{◌≡◌, refl}
use mathlib.Core.Bool.{true, false, not}
use mathlib.Core.List.{List}
use mathlib.Core.Option.{none, some}
use Prim.Native.Nat.{ℕ, ◌+◌, ◌≤◌, ◌<◌}
use native.Mathlib.Omega.{arith}
use borrow.Author.Tests.{ltb-true, ltb-false, not-false}
use lib.Dec.{ltb}
use lib.ListN.{length, get_or}
use Rattle.wire.specs.declared.Fault.{Fault}
use Rattle.wire.specs.Layout.{header_size}
use Rattle.rules.specs.Calls.{OwnArgs, Reply, own, written, written_as, answered_writing, refusal}
use Rattle.rules.specs.Rules.{unless, step, own_fault, own_faults, own_packet}
use Rattle.rules.proofs.Faults.{none-at, not-given}
use Rattle.table_layout.specs.Layout.{used_at}
use Rattle.table_layout.specs.Cells.{decode, well_formed}
use Rattle.table_layout.specs.Calls.{Performed}
use Rattle.table_changes.specs.Left.{Left}
use Rattle.table_changes.proofs.Values.{used-read}
use Rattle.table_changes.proofs.Performing.{not-asked, does, refuses}
use Rattle.call_own_packet_checks.specs.OwnPacket.{args, fault_in}
use Rattle.call_own_packet.specs.Sending.{sent_from}
use Rattle.call_own_packet_checks.proofs.Refusals.{own-size}

module _ (c : List ℕ) (a : OwnArgs) where
  -- refusal 1
  pub ill_formed : well_formed c ≡ false → Performed c (own a) (answered_writing (written (written_as 1 0 0 0)) a.output) c
  unfolding refusal
  ill_formed e = not-asked c (own a) e

  module _ (well : well_formed c ≡ true) where
    -- a later refusal
    pub faulty : (f : Fault) → fault_in c a ≡ some f → Performed c (own a) (answered_writing (written (written_as f.number f.place 0 0)) a.output) c
    unfolding step unless refusal
    faulty f e = refuses c (own a) well well f (rw e)

    pub sends : fault_in c a ≡ none → (reply : Reply) (d : List ℕ) → Left (sent_from c a) reply d → Performed c (own a) reply d
    unfolding step unless
    sends e reply d l = does c (own a) well (sent_from c a) (rw e) reply d l.replies l.leaves

-- what no refusal tells
module _ (c : List ℕ) (i t ttl g p : ℕ) (e o : List ℕ) (n : fault_in c (args i t ttl g p e o) ≡ none) where
  fact : (k : ℕ) → get_or (own_faults (decode c).config (decode c).time (args i t ttl g p e o) (own_packet (decode c).config (decode c).sends (args i t ttl g p e o))) k none ≡ none
  unfolding own_fault
  fact = none-at (own_faults (decode c).config (decode c).time (args i t ttl g p e o) (own_packet (decode c).config (decode c).sends (args i t ttl g p e o))) n

  pub used : i < get_or c used_at 0
  used = omega (arith, used-read c, ltb-true i (length (decode c).config.interfaces) (not-false (ltb i (length (decode c).config.interfaces)) (not-given _ 2 (fact 0))))

  pub room : header_size + length e ≤ length o
  room = omega (arith, own-size c i t ttl g p e o, ltb-false (length o) (length (own_packet (decode c).config (decode c).sends (args i t ttl g p e o))) (not-given _ 4 (fact 2)))
