use mathlib.Core.Path.{◌≡◌}
use mathlib.Core.Bool.{Bool}
use mathlib.Core.List.{List}
use mathlib.Core.Option.{none}
use Prim.Native.Nat.{ℕ, ◌<◌}
use Rattle.std.proofs.Common.{None}
use Rattle.wire.specs.Check.{entries, first_where}
use Rattle.packet_check.proofs.first_breaking.Given as goal

-- no entry before place k breaks the rule, and none is found
abbrev pub invariant-loop-k : goal.invariant-loop-k
invariant-loop-k g l =
    (l.first ≡ None)
    × ((rule : List ℕ → ℕ → Bool)
    → ((k : ℕ) (b : Bool) → k < entries l.hna → goal.F-post g l.breaks k b → b ≡ rule l.hna k)
    → first_where l.k (rule l.hna) ≡ none)
