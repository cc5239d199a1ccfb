-- The loop's invariant is `Going`: the rounds taken so far, put before those of a search that goes on from here, are those of the whole search.
use Prim.Native.Nat.{◌*◌, ◌<◌}
use native.Mathlib.Omega.{arith}
use lib.ListN.{length}
use Rattle.cells.specs.Area.{column}
use Rattle.cells.specs.Find.{middle}
use Rattle.cells.proofs.Search.{going_start, going_up, going_down, ends_at, ends_between, row_within}
use Rattle.cells.proofs.find.Goals as goal
use Rattle.cells.proofs.find.Goals.{In-loop-left}

in-middle : (c : goal.In-loop-left) → middle c.loop-left.low c.loop-left.left * c.args.w < length c.args.cells.now
in-middle c = row_within c.requires (middle c.loop-left.low c.loop-left.left) (omega arith)

pub loop-left-init : goal.loop-left-init
loop-left-init c = let a = c.args in going_start (column a.w a.n a.cells.now) a.key a.n

pub returns-then-other-key : goal.returns-then-other-key
returns-then-other-key c =
    ends_at c.requires c.loop-left.invariant c.loop-left-test.true c.if-other-key.true

pub loop-left-preserved-then-other-key-2 : goal.loop-left-preserved-then-other-key-2
loop-left-preserved-then-other-key-2 c = going_up c.requires c.loop-left.invariant c.loop-left-test.true c.if-other-key-2.true

pub loop-left-preserved : goal.loop-left-preserved
loop-left-preserved c = going_down c.requires c.loop-left.invariant c.loop-left-test.true (omega (arith, c.if-other-key.false, c.if-other-key-2.false))

pub overflow_mul-other : goal.overflow_mul-other
overflow_mul-other c = omega (arith, in-middle (goal.at.overflow_mul-other c).In-loop-left)

pub offset_bounds-cells-middle : goal.offset_bounds-cells-middle
offset_bounds-cells-middle c = omega (arith, in-middle (goal.at.offset_bounds-cells-middle c).In-loop-left)

pub bounds-cells-middle : goal.bounds-cells-middle
bounds-cells-middle c = in-middle (goal.at.bounds-cells-middle c).In-loop-left

pub overflow_add-low : goal.overflow_add-low
overflow_add-low c = omega arith

pub overflow_add-left : goal.overflow_add-left
overflow_add-left c = omega arith

pub overflow_sub-left : goal.overflow_sub-left
overflow_sub-left c = omega arith

pub loop-left-smaller-then-other-key-2 : goal.loop-left-smaller-then-other-key-2
loop-left-smaller-then-other-key-2 c = omega arith

pub loop-left-smaller : goal.loop-left-smaller
loop-left-smaller c = omega arith

pub returns : goal.returns
returns c = ends_between c.requires c.loop-left.invariant c.loop-left-test.false
