use mathlib.Core.Path.{◌≡◌}
use Prim.Native.Nat.{◌≤◌}
use lib.ListN.{take}
use Rattle.lists.specs.Lists.{written_to}
use Rattle.call_list.proofs.Rows.{rows_in, blank}
use Rattle.call_list.proofs.rows_of.Given as goal

abbrev pub invariant-loop-i : goal.invariant-loop-i
invariant-loop-i l = (l.i ≤ l.n) × (l.rows ≡ written_to (take l.i (rows_in l.window l.row)) blank)
