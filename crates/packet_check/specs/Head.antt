-- What is refused of a packet before its entries are looked at. (RULES 8.2)
use Rattle.std.specs.Prelude.{ℕ, ◌≤◌, ◌≡◌, List, Result, Ok, Err, length}
use Rattle.std.proofs.Math.Option.{some}
use Rattle.wire.specs.declared.refusals.Refusal.{Refusal}
use Rattle.wire.specs.Layout.{header_size}
use Rattle.wire.specs.Packet.{hna}
use Rattle.wire.specs.Check.{hna_fault, packet_fault}
use Rattle.wire.specs.Refusals.{fault_by}

-- r is the packet's refusal, or none: then the packet has a header, and its refusal is that of its HNA octets
abbrev pub HeadFault : List ℕ → ℕ → {A : Type 0} → Result A Refusal → Type 0
HeadFault p version (Err r) = some (fault_by r) ≡ packet_fault version p
HeadFault p version (Ok a) = (header_size ≤ length p) × (hna_fault (hna p) ≡ packet_fault version p)
