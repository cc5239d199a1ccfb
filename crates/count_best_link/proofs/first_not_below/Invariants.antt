use mathlib.Core.Path.{◌≡◌}
use Prim.Native.Nat.{ℕ, ◌≤◌}
use Rattle.rules.specs.Settings.{Config}
use Rattle.count_best_link.specs.BestLink.{LeastNotBelow}
use Rattle.count_best_link.proofs.Leading.{leads, from}
use Rattle.count_best_link.proofs.first_not_below.Given as goal

abbrev pub invariant-loop-i : goal.invariant-loop-i
invariant-loop-i l =
    (l.i ≤ l.n) × (l.found ≡ l.key) × ((κ : Config) (own : ℕ) → LeastNotBelow κ own l.least → leads κ l.key own (from l.part l.step l.n l.i) ≡ leads κ l.key own (from l.part l.step l.n 0))
