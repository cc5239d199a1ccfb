use mathlib.Core.Path.{◌≡◌}
use mathlib.Core.Bool.{true, false, ◌||◌}
use Prim.Native.Nat.{ℕ, ◌<◌}
use Rattle.wire.specs.Check.{bad_mask, host_bits_set}
use Rattle.packet_check.proofs.is_clean.Given as goal

-- no entry before place k has a fault
abbrev pub invariant-loop-k : goal.invariant-loop-k
invariant-loop-k l = (l.clean ≡ true) × ((j : ℕ) → j < l.k → bad_mask l.hna j || host_bits_set l.hna j ≡ false)
