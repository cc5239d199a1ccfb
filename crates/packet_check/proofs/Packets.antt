-- The refusals of a packet from those of its head and of its HNA octets. Assumes nothing.
use mathlib.Core.Path.{◌≡◌, sym, ap, ◌∙◌}
use mathlib.Core.List.{List}
use mathlib.Core.Option.{Option, none, some}
use Prim.Native.Nat.{ℕ, ◌+◌, ◌-◌, ◌*◌}
use lib.ListN.{length, take, drop}
use Rattle.lists.specs.Lists.{maybe}
use Rattle.wire.specs.declared.Fault.{Fault}
use Rattle.wire.specs.Layout.{header_size}
use Rattle.wire.specs.Packet.{hna}
use Rattle.wire.specs.Check.{hna_fault, packet_fault, packet_check}
use Rattle.wire.proofs.Lent.{rest}

module _ (v : ℕ) (p : List ℕ) where
  -- the octets behind the header are lent, and what is refused of them is refused of the packet
  pub of_lent : hna_fault (hna p) ≡ packet_fault v p → hna_fault (take (length p - header_size) (drop header_size p)) ≡ packet_fault v p
  of_lent h = ap hna_fault (rest header_size p) ∙ h

  -- a refusal as one number
  pub as_number : {f : Fault} → packet_fault v p ≡ some f → f.number + 256 * f.place ≡ packet_check v p
  unfolding packet_check
  as_number e = ap (λ (x : Option Fault). maybe x 0 (λ f. f.number + 256 * f.place)) (sym e)

  pub no_number : packet_fault v p ≡ none → 0 ≡ packet_check v p
  unfolding packet_check
  no_number e = ap (λ (x : Option Fault). maybe x 0 (λ f. f.number + 256 * f.place)) (sym e)
