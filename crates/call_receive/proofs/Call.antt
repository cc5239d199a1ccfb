-- The ways through the call: refused by 1, refused by the rules, or judged; and what no refusal tells. Assumes nothing.
use mathlib.Core.Path.{◌≡◌, refl, sym, ap, ◌∙◌, subst}
use mathlib.Core.Bool.{Bool, true, false, not, ◌||◌}
use mathlib.Core.List.{List}
use mathlib.Core.Option.{none, some}
use Prim.Native.Nat.{ℕ, ◌≤◌, ◌<◌}
use native.Mathlib.Omega.{arith}
use borrow.Author.Tests.{ltb-true, ltb-false, not-false}
use lib.Dec.{ltb}
use lib.ListN.{length, get_or}
use Rattle.lists.proofs.Tests.{and_at}
use Rattle.wire.specs.declared.Fault.{Fault}
use Rattle.wire.specs.Layout.{header_size, packet_most}
use Rattle.wire.specs.Check as check
use Rattle.wire.specs.Check.{packet_fault, packet_faults}
use Rattle.rules.specs.declared.Received.{Received}
use Rattle.rules.specs.Settings.{is_address}
use Rattle.rules.specs.Calls.{ReceiveArgs, Reply, receive, received, answered_writing, refusal}
use Rattle.rules.specs.Rules.{step, receive_fault, receive_faults}
use Rattle.rules.specs.Table.{table}
use Rattle.rules.specs.WellFormed as R
use Rattle.rules.proofs.WellFormed.{well_formed-step}
use Rattle.rules.proofs.Links.{neighbour_of_lem}
use Rattle.rules.proofs.Faults.{none-at, not-given}
use Rattle.table_layout.specs.Layout.{used_at, own_at, broadcast_at}
use Rattle.table_layout.specs.Interfaces.{encode_interface}
use Rattle.table_layout.specs.Cells.{decode, well_formed}
use Rattle.table_layout.specs.Calls.{Performed}
use Rattle.table_layout.specs.Facts.{Knows}
use Rattle.table_check.proofs.Knowing.{knows, well_formed_lem}
use Rattle.table_changes.proofs.Values.{used-read}
use Rattle.table_changes.proofs.Performing.{not-asked, does, refuses}
use Rattle.table_changes.proofs.Staying.{stays}
use Rattle.call_receive_arrival.specs.Receiving.{args_of, arrival_of, Leaves, refused_by, IsFieldAt, Taken}
use Rattle.call_receive_arrival.proofs.Ways.{way_refused}

pub own_field : IsFieldAt (λ i. i.own) own_at
unfolding encode_interface
own_field x = refl

pub broadcast_field : IsFieldAt (λ i. i.broadcast) broadcast_at
unfolding encode_interface
broadcast_field x = refl

module _ (c : List ℕ) (a : ReceiveArgs) where
  pub ill_formed : well_formed c ≡ false → (r : Received) → r ≡ refused_by (check.numbered 1) → Performed c (receive a) (answered_writing (received r) a.output) c
  unfolding refusal
  ill_formed e r er = rw er (not-asked c (receive a) e)

  module _ (k : Knows c) where
    pub faulty : (f : Fault) → receive_fault (decode c).config (decode c).time a ≡ some f → (r : Received) → r ≡ refused_by f → Performed c (receive a) (answered_writing (received r) a.output) c
    unfolding refusal
    faulty f e r er = let well = well_formed_lem c k in rw er (refuses c (receive a) well well f (way_refused (decode c) a (length c) e))

    pub judged : (r : Received) (q d : List ℕ) → Leaves d q r (step table (length c) (decode c) (receive a)) → Performed c (receive a) (answered_writing (received r) q) d
    judged r q d l = does c (receive a) (well_formed_lem c k) (step table (length c) (decode c) (receive a)) refl _ d l.replies l.leaves

    -- what the call leaves is a well-formed table's
    pub left_known : R.typed (receive a) ≡ true → (x : Reply) (d : List ℕ) → Performed c (receive a) x d → Knows d
    left_known t x d w = subst Knows (sym w.leaves) (knows _ (stays c (receive a) t (well_formed_lem c k)))

-- what no refusal tells
module _ (c : List ℕ) (a : ReceiveArgs) (n : receive_fault (decode c).config (decode c).time a ≡ none) where
  fact : (k : ℕ) → get_or (receive_faults (decode c).config (decode c).time a) k none ≡ none
  unfolding receive_fault
  fact = none-at (receive_faults (decode c).config (decode c).time a) n

  pub in_use : a.interface < get_or c used_at 0
  in_use = omega (arith, used-read c, ltb-true a.interface (length (decode c).config.interfaces) (not-false (ltb a.interface (length (decode c).config.interfaces)) (not-given _ 2 (fact 0))))

  pub has_room : length a.packet ≤ length a.output
  has_room = ltb-false (length a.output) (length a.packet) (not-given _ 4 (fact 2))

  pub has_header : header_size ≤ length a.packet
  unfolding packet_fault
  has_header =
      let v = (decode c).config.settings.version in
      ltb-false (length a.packet) header_size (or_left (ltb (length a.packet) header_size) (ltb packet_most (length a.packet)) (not-given _ 5 (none-at (packet_faults v a.packet) (fact 3) 0)))
    where
      or_left : (x y : Bool) → (x || y) ≡ false → x ≡ false
      or_left true y e = e
      or_left false y e = refl

-- the message that such a packet begins with is taken
pub takes : (c p : List ℕ) (sender interface time : ℕ) (o : List ℕ) → Knows c → receive_fault (decode c).config (decode c).time (args_of p sender interface time o) ≡ none
    → R.typed (receive (args_of p sender interface time o)) ≡ true → Taken c p o (arrival_of p sender interface time)
takes c p sender interface time o k n typed =
    let a = args_of p sender interface time o in
    let used = in_use c a n in
    record {
      knows = k;
      kept = well_formed-step (length c) (decode c) k.valid (receive a) typed;
      link = ap is_address (neighbour_of_lem sender interface (omega (arith, k.sized.used-most))) ∙ and_at (R.receive_types a) typed 0;
      fits = record { reads = refl; size = has_header c a n; room = has_room c a n };
      interface = used;
    }
