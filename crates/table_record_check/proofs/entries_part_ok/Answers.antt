-- `entries_part_ok` makes the test of the entries in their part, then that the rest of the part is zero.
use mathlib.Core.Path.{ap, ◌∙◌}
use mathlib.Core.Bool.{◌&&◌}
use mathlib.Core.List.{List}
use Prim.Native.Nat.{ℕ, ◌≤◌}
use native.Mathlib.Omega.{arith}
use lib.ListN.{length, drop, get_or}
use Rattle.cells.specs.Area.{fit, all_zero}
use Rattle.cells.proofs.Lent.{tail_is}
use Rattle.rules.specs.WellFormed.{entries_ok}
use Rattle.table_record.specs.Record.{entries_at}
use Rattle.table_record.proofs.Rows.{entries-size}
use Rattle.table_record_check.proofs.entries_part_ok.Goals as goal
use Rattle.table_record_check.proofs.entries_part_ok.Goals.{After-entries_part-part}

-- the entries held are in their part
within : (c : goal.After-entries_part-part) → get_or c.args.row.now entries_at 0 ≤ length c.entries_part-part.result.now
within c = omega (arith, c.requires.1, ap length c.entries_part-part.ensures, entries-size c.args.row.now c.requires.0)

pub entries_ok-requires : goal.entries_ok-requires
entries_ok-requires c = within (goal.at.entries_ok-requires c).After-entries_part-part

pub slice_bounds-all_zero-start : goal.slice_bounds-all_zero-start
slice_bounds-all_zero-start c = within (goal.at.slice_bounds-all_zero-start c).After-entries_part-part

pub returns : goal.returns
returns c =
    let part = c.entries_part-part.ensures in
    let n = get_or c.args.row.now entries_at 0 in
    let es = c.entries_ok.ensures ∙ ap (λ (x : List ℕ). entries_ok (fit n x)) part in
    let z = c.all_zero.ensures ∙ ap all_zero (tail_is c.entries_part-part.result.now n ∙ ap (drop n) part) in
    λ i. es i && z i

pub slice_bounds-all_zero-count : goal.slice_bounds-all_zero-count
slice_bounds-all_zero-count c = within (goal.at.slice_bounds-all_zero-count c).After-entries_part-part
