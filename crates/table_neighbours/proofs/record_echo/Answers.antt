-- A row that is found takes the number in its place, a new one is put in, and with no room left nothing changes.
use mathlib.Core.Path.{subst}
use Prim.Native.Nat.{ℕ, ◌<◌}
use native.Mathlib.Omega.{arith}
use Rattle.std.specs.Prelude.{Result}
use Rattle.cells.specs.Area.{column}
use Rattle.cells.specs.Pairs.{pair_cells}
use Rattle.cells.specs.Find.{FoundIn, IsAt, IsPlace}
use Rattle.rules.specs.Settings.{neighbour_most}
use Rattle.table_neighbours.proofs.Rows.{meets, size, at_room, place-room, recorded_over, recorded_new, no_room}
use Rattle.table_neighbours.proofs.record_echo.Goals as goal
use Rattle.table_neighbours.proofs.record_echo.Goals.{After-put_in-arg-1, In-Ok, In-Err}

pub find-requires : goal.find-requires
find-requires c = meets _ _ c.requires

-- ---- where the link's row is, or would be
at : (c : goal.In-Ok) → IsAt (column pair_cells c.args.n c.args.rows.now) c.args.link c.in-Ok.i
at c =
    subst (λ (f : Result ℕ ℕ). FoundIn (column pair_cells c.args.n c.args.rows.now) c.args.link f) c.in-Ok.is c.find.ensures.found

place : (c : goal.In-Err) → IsPlace (column pair_cells c.args.n c.args.rows.now) c.args.link c.in-Err.i
place c =
    subst (λ (f : Result ℕ ℕ). FoundIn (column pair_cells c.args.n c.args.rows.now) c.args.link f) c.in-Err.is c.find.ensures.found

-- there is room for one more
room : (c : goal.After-put_in-arg-1) → c.args.n < neighbour_most
room c = let m = c.requires.most in omega (arith, c.if-n-eq-ROOM.false)

pub write-requires : goal.write-requires
write-requires c =
    omega (arith, size c.args.n c.args.rows.now c.requires, at_room c.args.n c.args.rows.now c.requires c.args.link c.in-Ok.i (at (goal.at.write-requires c).In-Ok))

pub returns-then-n-eq-ROOM : goal.returns-then-n-eq-ROOM
returns-then-n-eq-ROOM c =
    no_room c.args.n c.args.rows.now c.requires c.args.link c.in-Err.i 0 c.args.rows.now (place (goal.at.returns-then-n-eq-ROOM c).In-Err) c.if-n-eq-ROOM.true

pub put_in-requires : goal.put_in-requires
put_in-requires c =
    omega (arith, size c.args.n c.args.rows.now c.requires, place-room c.args.n c.args.rows.now c.requires c.args.link c.in-Err.i (place (goal.at.put_in-requires c).In-Err) (room (goal.at.put_in-requires c).After-put_in-arg-1))

pub returns-in-Ok : goal.returns-in-Ok
returns-in-Ok c =
    recorded_over c.args.n c.args.rows.now c.requires c.args.link c.in-Ok.i c.args.number _ (at (goal.at.returns-in-Ok c).In-Ok) c.write.ensures

pub returns-else-n-eq-ROOM : goal.returns-else-n-eq-ROOM
returns-else-n-eq-ROOM c =
    recorded_new c.args.n c.args.rows.now c.requires c.args.link c.in-Err.i c.args.number _ (place (goal.at.returns-else-n-eq-ROOM c).In-Err) (room (goal.at.returns-else-n-eq-ROOM c).After-put_in-arg-1) c.put_in.ensures

pub overflow_mul-i : goal.overflow_mul-i
overflow_mul-i c =
    omega (arith, size c.args.n c.args.rows.now c.requires, at_room c.args.n c.args.rows.now c.requires c.args.link c.in-Ok.i (at (goal.at.overflow_mul-i c).In-Ok))

pub overflow_mul-i-in-Err : goal.overflow_mul-i-in-Err
overflow_mul-i-in-Err c =
    omega (arith, size c.args.n c.args.rows.now c.requires, place-room c.args.n c.args.rows.now c.requires c.args.link c.in-Err.i (place (goal.at.overflow_mul-i-in-Err c).In-Err) (omega (arith, c.requires.most, c.if-n-eq-ROOM.false)))
