use mathlib.Core.Path.{◌≡◌}
use mathlib.Core.List.{◌++◌}
use Prim.Native.Nat.{◌+◌, ◌-◌, ◌≤◌}
use lib.ListN.{length}
use Rattle.lists.specs.Lists.{keep}
use Rattle.count_best_link.specs.BestLink.{Links}
use Rattle.count_best_link.proofs.Leading.{from}
use Rattle.count_links.specs.Links.{stays, Built}
use Rattle.count_links.proofs.keep_links.Given as goal

abbrev pub invariant-loop-i : goal.invariant-loop-i
invariant-loop-i l =
    (l.i ≤ l.n) × (l.k + (l.n - l.i) ≤ l.m + l.n) × (length l.out ≡ length l.initial.out)
    × ((rest goal : Links) → Built l.initial.out l.m (keep (stays l.best) (from l.part l.step l.n 0) ++ rest) goal → Built l.out l.k (keep (stays l.best) (from l.part l.step l.n l.i) ++ rest) goal)
