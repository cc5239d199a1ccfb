-- What the search found is the spot: at a link, with its marks, or between two, with none.
use Prim.Native.Nat.{◌+◌, ◌*◌, ◌≤◌}
use native.Mathlib.Omega.{arith}
use lib.ListN.{length}
use Rattle.rules.specs.Settings.{link_cells}
use Rattle.count_links.proofs.Places.{found_within, located-at, located-place}
use Rattle.count_links.proofs.locate.Goals as goal
use Rattle.count_links.proofs.locate.Goals.{In-Ok}

within : (c : goal.In-Ok) → (c.in-Ok.i + 1) * link_cells ≤ length c.args.part.now
within c =
    found_within c.args.n c.args.part.now c.requires c.args.key c.find.ensures.found c.in-Ok.is

pub overflow_add-result : goal.overflow_add-result
overflow_add-result c = omega (arith, within (goal.at.overflow_add-result c).In-Ok)

pub marks_at-requires : goal.marks_at-requires
marks_at-requires c = within (goal.at.marks_at-requires c).In-Ok

pub returns-in-Ok : goal.returns-in-Ok
returns-in-Ok c =
    located-at c.args.n c.args.part.now c.requires c.args.key c.find.ensures.found c.in-Ok.is c.marks_at.ensures

pub returns-in-Err : goal.returns-in-Err
returns-in-Err c =
    located-place c.args.n c.args.part.now c.requires c.args.key c.find.ensures.found c.no_marks.ensures c.in-Err.is
