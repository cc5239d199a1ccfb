-- The loop goes on past a row that may be held, and ends at one that may not, or behind the last.
use Rattle.std.proofs.Common.{refl, ◌≡◌, Bool, true, false, ◌&&◌, length, get_or, drop, ap, sym, ◌∙◌, arith, length-drop}
use mathlib.Core.Bool.{and-false}
use lib.Dec.{leb}
use lib.Seq.{length-take-le}
use Rattle.lists.proofs.Tests.{and_right}
use Rattle.std.specs.Slice.Iter.{chunks_exact_rest, chunks_exact_size}
use Rattle.cells.specs.Area.{all_zero, rows_of, scan}
use Rattle.cells.proofs.Chunks.{pass_starts, pass_ends, pass-next, pass_stops}
use Rattle.rules.specs.Settings.{neighbour_cells, neighbour_area_cells}
use Rattle.table_layout.specs.Layout.{rows_at, neighbours_from, neighbour_part}
use Rattle.table_check.proofs.Turns.{neighbour_row, neighbour_small, neighbours_done}
use Rattle.table_check.proofs.neighbours_ok.Goals as goal
use Rattle.table_check.proofs.neighbours_ok.Goals.{After-neighbour_ok}

-- what a turn tests
test : (c : goal.After-neighbour_ok) → leb c.loop-row.low (get_or c.in-Some.row.now 0 0) && neighbour_row c.args.cells.now c.in-Some.row.now ≡ leb c.loop-row.low (get_or c.in-Some.row.now 0 0) && c.neighbour_ok.result
test c = ap (λ (b : Bool). leb c.loop-row.low (get_or c.in-Some.row.now 0 0) && b) (sym c.neighbour_ok.ensures)

pub loop-row-init : goal.loop-row-init
loop-row-init c =
    let cells = c.args.cells.now in
    let it = c.into_iter-row-iterator.ensures.into_iter_gives in
    let chunks = c.chunks_exact-row-items.ensures in
    let few = c.requires.0.rows in
    let size : length (neighbour_part cells) ≡ neighbour_area_cells = length-take-le neighbour_area_cells (drop neighbours_from cells) (rw (length-drop neighbours_from cells) (omega (arith, c.requires.0.size))) in
    record {
      size = ap chunks_exact_size it ∙ chunks.size;
      tests = pass_starts (neighbour_row cells) neighbour_cells (get_or cells rows_at 0) (neighbour_part cells) _ (omega arith) (ap chunks_exact_rest it ∙ chunks.rest ∙ c.split_at.ensures.front);
    }

pub returns-then-not-all_zero : goal.returns-then-not-all_zero
returns-then-not-all_zero c =
    let cells = c.args.cells.now in
    let rows = scan (neighbour_row cells) 0 (rows_of neighbour_cells (get_or cells rows_at 0) (neighbour_part cells)) in
    sym (and-false rows) ∙ neighbours_done cells rows false refl (sym c.if-not-all_zero.true ∙ c.all_zero.ensures ∙ ap all_zero c.split_at.ensures.back)

pub returns-then-not-low-pair : goal.returns-then-not-low-pair
returns-then-not-low-pair c =
    let cells = c.args.cells.now in
    let l = c.loop-row in
    let s = c.in-Some.ensures.steps in
    neighbours_done cells false (all_zero c.split_at.result.1.now)
    (pass_stops (neighbour_row cells) neighbour_cells (omega arith) l.low _ _ _ s.1.0 (s.1.1 ∙ l.invariant.size) _ (test (goal.at.returns-then-not-low-pair c).After-neighbour_ok ∙ c.if-not-low-pair.true) l.invariant.tests)
    (ap all_zero c.split_at.ensures.back)

pub overflow_add-low : goal.overflow_add-low
overflow_add-low c =
    let x = c.in-Some.row.now in
    let h = and_right (leb c.loop-row.low (get_or x 0 0)) c.neighbour_ok.result (c.if-not-low-pair.false) in
    omega (arith, neighbour_small c.args.cells.now (get_or x 0 0) (get_or x 1 0) (sym c.neighbour_ok.ensures ∙ h))

pub loop-row-preserved : goal.loop-row-preserved
loop-row-preserved c =
    let l = c.loop-row in
    let s = c.in-Some.ensures.steps in
    record {
      size = s.0 ∙ l.invariant.size;
      tests = pass-next (neighbour_row c.args.cells.now) neighbour_cells (omega arith) l.low _ _ _ s.1.0 (s.1.1 ∙ l.invariant.size) _ (test (goal.at.loop-row-preserved c).After-neighbour_ok ∙ c.if-not-low-pair.false) l.invariant.tests;
    }

pub returns : goal.returns
returns c =
    let cells = c.args.cells.now in
    let l = c.loop-row in
    let s = c.in-None.ensures.steps in
    neighbours_done cells true true
    (pass_ends (neighbour_row cells) neighbour_cells l.low _ _ (omega (arith, s.1.0, l.invariant.size)) l.invariant.tests)
    (sym c.if-not-all_zero.false ∙ c.all_zero.ensures ∙ ap all_zero c.split_at.ensures.back)
