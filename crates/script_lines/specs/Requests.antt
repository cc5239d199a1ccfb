-- What a line lends to a call keeps to the limits.
use Rattle.std.specs.Prelude.{ℕ, ◌≤◌, ◌<◌, ⊤, Bool, true, List, [], ◌∷◌, eqb, length}
use Rattle.script_lines.specs.Limits.{cells_most, packet_most, output_most, buffer_most, list_rows_most, burst_rows_most}
use Rattle.script_lines.specs.declared.requests.Receive.{Receive}
use Rattle.script_lines.specs.declared.requests.Own.{Own}
use Rattle.script_lines.specs.declared.bursts.Burst.{Burst}
use Rattle.script_lines.specs.declared.requests.Request.{Request}
use Rattle.script_lines.specs.declared.requests.Request.TheVariants as R

pub record ReceiveFits (r : Receive) : Type 0 where
  pub packet : length r.packet.now ≤ packet_most
  pub output : r.output ≤ output_most

pub record OwnFits (o : Own) : Type 0 where
  pub hna : length o.hna.now ≤ packet_most
  pub output : o.output ≤ output_most

pub record BurstFits (b : Burst) : Type 0 where
  pub octets : length b.octets.now ≤ buffer_most
  pub output : b.output ≤ output_most
  pub rows : b.rows ≤ burst_rows_most

-- each call keeps to its limits
abbrev pub RequestFits : Request → Type 0
RequestFits (R.Receive r) = ReceiveFits r
RequestFits (R.Burst b) = BurstFits b
RequestFits (R.Own o) = OwnFits o
RequestFits (R.List o rows) = rows ≤ list_rows_most
RequestFits (R.Check v p) = length p.now ≤ packet_most
RequestFits (R.Cells lent) = lent ≤ cells_most
RequestFits (R.Poke index value) = index < cells_most
RequestFits _ = ⊤

-- the octets that a request carries
abbrev pub octets_of : Request → List ℕ
octets_of (R.Receive r) = r.packet.now
octets_of (R.Burst b) = b.octets.now
octets_of (R.Own o) = o.hna.now
octets_of (R.Check v p) = p.now
octets_of _ = []

-- a line whose first word is this asks for nothing: there is none, or it begins with `#`
abbrev pub asks_nothing : (word : List ℕ) → Bool
asks_nothing [] = true
asks_nothing (x ∷ xs) = eqb x 35
