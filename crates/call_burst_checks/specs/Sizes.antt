-- What the check of a burst is told of it: how many there are of each thing that is lent, and the lengths.
use Rattle.std.specs.Prelude.{◌≡◌, List, ℕ, length}
use Rattle.rules.specs.Calls.{BurstArgs}

pub record Sizes (a : BurstArgs) (octets : ℕ) (lengths : List ℕ) (senders interfaces rows : ℕ) : Type 0 where
  pub of_octets_lem : length a.octets ≡ octets
  pub of_lengths : a.lengths ≡ lengths
  pub of_senders : length a.senders ≡ senders
  pub of_interfaces : length a.interfaces ≡ interfaces
  pub of_rows : length a.answers ≡ rows
