-- The address of an interface in use, or the first one again.
use mathlib.Core.Path.{sym, ap}
use mathlib.Core.Bool.{Bool, cond}
use lib.ListN.{get_or}
use borrow.Author.Tests.{lt-ltb, le-ltb}
use Rattle.table_layout.specs.Layout.{used_at, own_place}
use Rattle.table_check.proofs.own_at.Goals as goal

pub returns-then-i-cells : goal.returns-then-i-cells
returns-then-i-cells c =
    let a = c.args in
    let xs = a.cells.now in
    ap (λ (b : Bool). cond b (get_or xs (own_place a.i) 0) (get_or xs (own_place 0) 0)) (sym (lt-ltb a.i (get_or xs used_at 0) c.if-i-cells.true))

pub returns-else-i-cells : goal.returns-else-i-cells
returns-else-i-cells c =
    let a = c.args in
    let xs = a.cells.now in
    ap (λ (b : Bool). cond b (get_or xs (own_place a.i) 0) (get_or xs (own_place 0) 0)) (sym (le-ltb a.i (get_or xs used_at 0) c.if-i-cells.false))
