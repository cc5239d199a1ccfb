-- The cells of the row of a message's interface, as the rules read them. Assumes nothing.
use mathlib.Core.Path.{◌≡◌, refl, ap, ◌∙◌}
use mathlib.Core.Bool.{Bool, true, false, ◌&&◌}
use mathlib.Core.Option.{Option, none, some}
use mathlib.Core.List.{List}
use Prim.Native.Nat.{ℕ, ◌+◌, ◌<◌}
use native.Mathlib.Omega.{arith}
use lib.Dec.{eqb}
use lib.ListN.{get_or}
use Rattle.lists.specs.Lists.{maybe}
use Rattle.lists.specs.Keyed.{lookup}
use Rattle.window.specs.Window.{distance}
use Rattle.wire.specs.Packet.{header, is_d}
use Rattle.rules.specs.Settings.{interface_at}
use Rattle.rules.specs.Rules.{last_sent, is_echo}
use Rattle.table_layout.specs.Layout.{used_at, own_at, sent_at, last_at, own_place}
use Rattle.table_layout.specs.Interfaces.{encode_interface}
use Rattle.table_layout.specs.Cells.{decode}
use Rattle.table_layout.specs.Facts.{Knows}
use Rattle.table_changes.proofs.Values.{cell_read}
use Rattle.call_receive_arrival.specs.declared.Arrival.{Arrival}
use Rattle.call_receive_arrival.specs.Receiving.{call_of, Fits}
use Rattle.call_receive_arrival.proofs.Endings.{flags_is, sequence_is, originator_is}

and_true : (t : Bool) → t ≡ (t && true)
and_true true = refl
and_true false = refl

-- that it has sent and the last number, as its cells have them
sent-last : (q x : ℕ) (o : Option ℕ) → (eqb (maybe o 0 (λ n. 1)) 1 && eqb q (maybe o 0 (λ n. n))) ≡ (maybe o false (λ n. true) && (eqb q (maybe o x (λ n. n)) && true))
sent-last q x none = refl
sent-last q x (some n) = and_true (eqb q n)

module _ (c : List ℕ) (k : Knows c) where
  -- D, the address, that it has sent, and the number
  pub echo_is : {p o : List ℕ} {m : Arrival} → Fits p o m → m.interface < get_or c used_at 0 → (d : Bool) → d ≡ is_d m.flags
      → (d && (eqb m.originator (get_or c (own_place m.interface + own_at) 0) && (eqb (get_or c (own_place m.interface + sent_at) 0) 1 && eqb m.ogm.sequence (get_or c (own_place m.interface + last_at) 0)))) ≡ is_echo (decode c).config (decode c).sends (call_of p o m) (header p)
  unfolding encode_interface last_sent
  echo_is {p} {o} {m} f h d ed =
      let i = m.interface in
      (λ j. (ed ∙ ap is_d (flags_is f)) j && (eqb (originator_is f j) (cell_read c k i own_at h (omega arith) j) && (eqb (cell_read c k i sent_at h (omega arith) j) 1 && eqb (sequence_is f j) (cell_read c k i last_at h (omega arith) j))))
      ∙ ap (λ (t : Bool). is_d (header p).flags && (eqb (header p).originator (interface_at (decode c).config i).own && t))
      (sent-last (header p).sequence (distance (interface_at (decode c).config i).first 1) (lookup i (decode c).sends))
