use mathlib.Core.Path.{◌≡◌}
use Prim.Native.Nat.{◌≤◌}
use lib.ListN.{drop}
use Rattle.rules.specs.Rules.{entries_held}
use Rattle.rules.specs.Table.{table}
use Rattle.table_layout.specs.Cells.{decode}
use Rattle.call_lookup.specs.Scan.{none_seen, seen_all}
use Rattle.call_lookup.proofs.seen_all.Given as goal

abbrev pub invariant-loop-i : goal.invariant-loop-i
invariant-loop-i l = (l.i ≤ l.n) × (seen_all l.address (drop l.i (entries_held table (decode l.cells))) l.best ≡ seen_all l.address (entries_held table (decode l.cells)) none_seen)
