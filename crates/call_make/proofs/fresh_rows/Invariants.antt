use Rattle.std.proofs.Common.{◌≡◌}
use Rattle.call_make.specs.Make.{fresh_rows}
use Rattle.call_make.proofs.fresh_rows.Given as goal

abbrev pub invariant-loop-i : goal.invariant-loop-i
invariant-loop-i l = l.cells ≡ fresh_rows l.rows l.i
