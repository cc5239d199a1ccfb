-- `links_part_ok` makes the tests of the links in their part, then that the rest of the part is zero. Its places are named once, each by the one before.
use mathlib.Core.Path.{ap, ◌∙◌}
use mathlib.Core.List.{List}
use mathlib.Core.Bool.{◌&&◌}
use Prim.Native.Nat.{ℕ, ◌*◌, ◌≤◌}
use native.Mathlib.Omega.{arith}
use lib.ListN.{length, drop, get_or}
use Rattle.cells.specs.Area.{all_zero}
use Rattle.cells.proofs.Lent.{tail_is}
use Rattle.rules.specs.Settings.{link_cells}
use Rattle.table_record.specs.Links.{links_from}
use Rattle.table_record.specs.Record.{links_at, best_at}
use Rattle.table_record.proofs.Rows.{part_size}
use Rattle.table_record_check.specs.Limits.{links_ok}
use Rattle.table_record_check.proofs.links_part_ok.Goals as goal
use Rattle.table_record_check.proofs.links_part_ok.Goals.{After-links_part-part}

-- the links held are in their part
within : (c : goal.After-links_part-part) → get_or c.args.row.now links_at 0 * link_cells ≤ length c.links_part-part.result.now
within c =
    omega (arith, c.requires.1, ap length c.links_part-part.ensures, part_size c.args.row.now c.requires.0)

pub overflow_mul-end : goal.overflow_mul-end
overflow_mul-end c = omega (arith, within (goal.at.overflow_mul-end c).After-links_part-part)

pub links_ok-requires : goal.links_ok-requires
links_ok-requires c = omega (arith, within (goal.at.links_ok-requires c).After-links_part-part)

pub slice_bounds-all_zero-start : goal.slice_bounds-all_zero-start
slice_bounds-all_zero-start c = omega (arith, within (goal.at.slice_bounds-all_zero-start c).After-links_part-part)

pub returns : goal.returns
returns c κ time d =
    let part = c.links_part-part.ensures in
    let row = c.args.row.now in
    let n = get_or row links_at 0 in
    let ls = c.links_ok.ensures κ time d ∙ ap (λ (x : List ℕ). links_ok κ (get_or row best_at 0) (links_from n x)) part in
    let z = c.all_zero.ensures ∙ ap all_zero (tail_is c.links_part-part.result.now (n * link_cells) ∙ ap (drop (n * link_cells)) part) in
    λ i. ls i && z i
