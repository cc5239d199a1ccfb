-- A row passes exactly where `row_tests` does: a number out of range never, and for others the interface's cells decide.
use mathlib.Core.Path.{sym}
use native.Mathlib.Omega.{arith}
use borrow.Author.Tests.{le-ltb}
use Rattle.lists.specs.Lists.{and}
use Rattle.cells.proofs.Bools.{fails}
use Rattle.window.specs.Window.{numbers}
use Rattle.rules.specs.Settings.{is_number}
use Rattle.rules.specs.WellFormed.{row_tests}
use Rattle.rules.proofs.Parts.{row_parts}
use Rattle.table_layout.specs.Cells.{config_in, sends_in}
use Rattle.table_check.proofs.Turns.{neighbour_tests}
use Rattle.table_check.proofs.neighbour_ok.Goals as goal

pub returns-then-number-ge-NUMBERS : goal.returns-then-number-ge-NUMBERS
returns-then-number-ge-NUMBERS c =
    let a = c.args in
    let κ = config_in a.cells.now in
    let ns = sends_in a.cells.now in
    sym (fails (and (row_tests κ ns (a.pair, a.number))) (is_number a.number) (λ h. (row_parts κ ns (a.pair, a.number) h).number) (le-ltb a.number numbers c.if-number-ge-NUMBERS.true))

pub returns : goal.returns
returns c =
    let a = c.args in
    neighbour_tests a.cells.now a.pair a.number c.distance.result (omega arith) c.distance.ensures
