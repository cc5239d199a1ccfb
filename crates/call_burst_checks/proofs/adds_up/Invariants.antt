-- What is left of the buffer and the lengths to come make up what the buffer and all lengths do.
use Rattle.std.proofs.Common.{◌≡◌, ◌+◌, drop}
use Rattle.lists.specs.Lists.{sum}
use Rattle.call_burst_checks.proofs.adds_up.Given as goal

abbrev pub invariant-loop-length : goal.invariant-loop-length
invariant-loop-length l = sum l.lengths + l.rest ≡ l.octets + sum (drop l.length-index l.lengths)
