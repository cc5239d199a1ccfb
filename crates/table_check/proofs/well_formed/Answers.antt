-- Cells pass exactly where `well_formed` says so: each part that fails answers, and the records decide at the end.
use mathlib.Core.Path.{◌≡◌, sym, ap, ◌∙◌}
use mathlib.Core.Bool.{true}
use Prim.Native.Nat.{◌≤◌}
use native.Mathlib.Omega.{arith}
use lib.ListN.{length, drop, get_or}
use Rattle.cells.proofs.Bools.{fails}
use Rattle.cells.proofs.Lent.{tail_is, tail_length}
use Rattle.table_layout.specs.Layout.{records_from, records_at, time_at}
use Rattle.table_layout.specs.Cells.{config_in, well_formed}
use Rattle.table_settings.specs.Check.{head_ok, interfaces_ok}
use Rattle.table_settings.proofs.Checks.{head_from, interfaces_from_lem, head_sized}
use Rattle.table_settings.proofs.Turns.{numbered}
use Rattle.table_check.specs.Check.{neighbours_ok, record_rows_ok, records_ok}
use Rattle.table_layout.specs.Facts.{Sized, Numbered}
use Rattle.table_check.proofs.Checks.{neighbours_from_lem, last_test}
use Rattle.table_check.proofs.well_formed.Goals as goal
use Rattle.table_check.proofs.well_formed.Goals.{Else-not-head_ok, Else-not-interfaces_ok, Else-not-neighbours_ok}

-- ---- what is known after each part
heads : (c : goal.Else-not-head_ok) → head_ok c.args.cells.now ≡ true
heads c = sym c.head_ok.ensures ∙ c.if-not-head_ok.false

sized : (c : goal.Else-not-head_ok) → Sized c.args.cells.now
sized c = head_sized c.args.cells.now (heads c)

interfaces : (c : goal.Else-not-interfaces_ok) → interfaces_ok c.args.cells.now ≡ true
interfaces c = sym c.interfaces_ok.ensures ∙ c.if-not-interfaces_ok.false

range : (c : goal.Else-not-interfaces_ok) → Numbered c.args.cells.now
range c = numbered c.args.cells.now (head_sized c.args.cells.now (sym c.head_ok.ensures ∙ c.if-not-head_ok.false)).used-most (interfaces c)

neighbours : (c : goal.Else-not-neighbours_ok) → neighbours_ok c.args.cells.now ≡ true
neighbours c = sym c.neighbours_ok.ensures ∙ c.if-not-neighbours_ok.false

size : (c : goal.Else-not-neighbours_ok) → Sized c.args.cells.now
size c = head_sized c.args.cells.now (sym c.head_ok.ensures ∙ c.if-not-head_ok.false)

big : (c : goal.Else-not-neighbours_ok) → records_from ≤ length c.args.cells.now
big c = let e = (size c).size in omega arith

pub returns-then-not-head_ok : goal.returns-then-not-head_ok
returns-then-not-head_ok c =
    let xs = c.args.cells.now in
    sym (fails (well_formed xs) (head_ok xs) (head_from xs) (sym c.head_ok.ensures ∙ c.if-not-head_ok.true))

pub interfaces_ok-requires : goal.interfaces_ok-requires
interfaces_ok-requires c = sized (goal.at.interfaces_ok-requires c).Else-not-head_ok

pub returns-then-not-interfaces_ok : goal.returns-then-not-interfaces_ok
returns-then-not-interfaces_ok c =
    let xs = c.args.cells.now in
    sym (fails (well_formed xs) (interfaces_ok xs) (interfaces_from_lem xs) (sym c.interfaces_ok.ensures ∙ c.if-not-interfaces_ok.true))

pub neighbours_ok-requires : goal.neighbours_ok-requires
neighbours_ok-requires c = (sized (goal.at.neighbours_ok-requires c).Else-not-head_ok, range (goal.at.neighbours_ok-requires c).Else-not-interfaces_ok)

pub returns-then-not-neighbours_ok : goal.returns-then-not-neighbours_ok
returns-then-not-neighbours_ok c =
    let xs = c.args.cells.now in
    sym (fails (well_formed xs) (neighbours_ok xs) (neighbours_from_lem xs) (sym c.neighbours_ok.ensures ∙ c.if-not-neighbours_ok.true))

pub limits_of-limits-requires : goal.limits_of-limits-requires
limits_of-limits-requires c = size (goal.at.limits_of-limits-requires c).Else-not-neighbours_ok

pub slice_bounds-records_ok-start : goal.slice_bounds-records_ok-start
slice_bounds-records_ok-start c = omega (arith, big (goal.at.slice_bounds-records_ok-start c).Else-not-neighbours_ok)

pub bounds-cells-9 : goal.bounds-cells-9
bounds-cells-9 c = omega (arith, big (goal.at.bounds-cells-9 c).Else-not-neighbours_ok)

pub records_ok-requires : goal.records_ok-requires
records_ok-requires c =
    let k = size (goal.at.records_ok-requires c).Else-not-neighbours_ok in
    let r = k.records in
    omega (arith, k.size, tail_length c.args.cells.now records_from)

pub returns : goal.returns
unfolding records_ok
returns c =
    let xs = c.args.cells.now in
    let e : c.records_ok.result ≡ record_rows_ok (config_in xs) (get_or xs time_at 0) (get_or xs records_at 0) (drop records_from xs) =
    c.records_ok.ensures (config_in xs) (get_or xs time_at 0) c.limits_of-limits.ensures ∙ ap (record_rows_ok (config_in xs) (get_or xs time_at 0) (get_or xs records_at 0)) (tail_is xs records_from) in
    last_test xs c.records_ok.result (omega arith) (heads (goal.at.returns c).Else-not-head_ok) (interfaces (goal.at.returns c).Else-not-interfaces_ok) (neighbours (goal.at.returns c).Else-not-neighbours_ok) e

pub slice_bounds-records_ok-count : goal.slice_bounds-records_ok-count
slice_bounds-records_ok-count c = omega (arith, big (goal.at.slice_bounds-records_ok-count c).Else-not-neighbours_ok)
